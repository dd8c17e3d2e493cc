-- A list of zeros.
use Rattle.std.proofs.Common.{rules}
use Rattle.tss_model.specs.Memory.{zeros}
use Rattle.tss_steps.proofs.scratch.zero_bytes.Goals as goal

pub returns-clause-zeros : goal.returns-clause-zeros
unfolding zeros
returns-clause-zeros c = search rules
