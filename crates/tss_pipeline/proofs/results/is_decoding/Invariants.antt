-- No operand so far is on the object.
use Rattle.std.proofs.Common.{◌≡◌, ◌<◌, ℕ, false, Some}
use Rattle.tss_base.specs.declared.operand.Operand.{Operand}
use Rattle.tss_protocol.specs.MainEvent.{is_operand_on}
use Rattle.tss_pipeline.specs.Emptiness.{decode_at}
use Rattle.tss_pipeline.proofs.results.is_decoding.Given as goal

abbrev pub invariant-loop-i : goal.invariant-loop-i
invariant-loop-i l =
    (k : ℕ) (p : Operand) → k < l.i → decode_at l.mail.decodes k ≡ Some p → is_operand_on l.object p ≡ false
