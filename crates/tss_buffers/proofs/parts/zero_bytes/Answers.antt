-- A list of zeros.
use Rattle.std.proofs.Common.{rules}
use Rattle.tss_model.specs.Memory.{zeros}
use Rattle.tss_buffers.proofs.parts.zero_bytes.Goals as goal

pub returns : goal.returns
unfolding zeros
returns c = search rules
