use Rattle.std.proofs.Common.{length}
use Rattle.tss_asm.proofs.LabelLemmas.{AreWithin-empty}
use Rattle.tss_asm.proofs.program.Program.open.Goals as goal

pub invariant_of-result : goal.invariant_of-result
invariant_of-result c = AreWithin-empty c.new-3.result (length c.new.result.items) c.new-3.ensures
