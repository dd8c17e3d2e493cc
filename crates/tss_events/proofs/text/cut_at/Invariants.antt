-- No byte so far is the mark.
use Rattle.std.proofs.Common.{◌≡◌, ◌<◌, ℕ, false, get_or}
use Rattle.std.specs.Prelude.{◌==◌}
use Rattle.tss_events.proofs.text.cut_at.Given as goal

abbrev pub invariant-loop-at : goal.invariant-loop-at
invariant-loop-at l = (k : ℕ) → k < l.at → (get_or l.line k 0 == l.mark) ≡ false
