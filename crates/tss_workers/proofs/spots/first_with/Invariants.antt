-- The range lies in none of the first spots.
use Rattle.std.proofs.Common.{◌≡◌, ◌<◌, ℕ, false, Some}
use Rattle.std.specs.Prelude.{slice_get}
use Rattle.tss_base.specs.Range.{contains}
use Rattle.tss_workers.specs.declared.spots.Spot.{Spot}
use Rattle.tss_workers.proofs.spots.first_with.Given as goal

abbrev pub invariant-loop-i : goal.invariant-loop-i
invariant-loop-i l = (k : ℕ) (s : Spot) → k < l.i → slice_get l.spots k ≡ Some s → contains s.object l.r ≡ false
