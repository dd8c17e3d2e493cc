-- So far there is an operand for each object of the first ones listed.
use Rattle.std.proofs.Common.{◌≡◌}
use Rattle.tss_operands.proofs.MergingLemmas.{merged_front}
use Rattle.tss_operands.proofs.merging.merged.Given as goal

abbrev pub invariant-loop-operand : goal.invariant-loop-operand
invariant-loop-operand l = l.merged ≡ merged_front l.listed l.operand-index
