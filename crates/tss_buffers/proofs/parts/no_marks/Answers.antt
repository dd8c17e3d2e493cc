-- A list of marks that aren't set.
use Rattle.std.proofs.Common.{rules}
use Rattle.tss_buffers.proofs.parts.no_marks.Goals as goal

pub returns : goal.returns
returns c = search rules
