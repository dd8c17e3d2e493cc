-- The versions so far stand at other places.
use Rattle.std.proofs.Common.{◌≡◌, ◌≢◌, ◌<◌, ℕ, Some}
use Rattle.std.specs.FinMap.{get}
use Rattle.tss_base.specs.declared.operand.OpName.{OpName}
use Rattle.tss_maps.specs.Ordered.{key_at}
use Rattle.tss_versions.specs.declared.kept.Kept.{Kept}
use Rattle.tss_versions.proofs.tests.checks.is_free.Given as goal

abbrev pub invariant-loop-i : goal.invariant-loop-i
invariant-loop-i l =
    (j : ℕ) (v : OpName) → j < l.i → key_at l.bank.versions j ≡ Some v
    → (x : Kept) → get l.bank.versions v ≡ Some x → x.place.place ≢ l.place
