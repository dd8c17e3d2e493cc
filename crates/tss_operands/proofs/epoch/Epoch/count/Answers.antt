-- There are no more objects than the limit, which fits.
use Rattle.std.proofs.Common.{arith}
use Rattle.tss_operands.proofs.epoch.Epoch.count.Goals as goal

pub overflow_cast-result : goal.overflow_cast-result
overflow_cast-result c = omega (arith, c.self.invariant.word, c.self.invariant.few, c.len.ensures)
