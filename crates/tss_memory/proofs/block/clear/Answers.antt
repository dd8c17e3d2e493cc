-- A fill with zeros.
use Rattle.std.proofs.Common.{rules}
use Rattle.tss_model.specs.Memory.{zeros}
use Rattle.tss_memory.proofs.block.clear.Goals as goal

pub returns : goal.returns
unfolding zeros
returns c = search rules
