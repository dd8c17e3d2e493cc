-- The first spots are seated, and their buffers set.
use Rattle.std.proofs.Common.{◌≡◌, ◌<◌, ℕ, Some}
use Rattle.std.specs.Prelude.{slice_get, IsSome}
use Rattle.std.specs.FinMap.{get}
use Rattle.tss_base.specs.declared.operand.OpName.{OpName}
use Rattle.tss_protocol.specs.Mail.{Buffer}
use Rattle.tss_workers.specs.Seats.{FitsIn}
use Rattle.tss_workers.specs.Spots.{storage_at}
use Rattle.tss_workers.specs.declared.spots.Spot.{Spot}
use Rattle.tss_workers.proofs.tests.checking.are_seated.Given as goal

abbrev pub invariant-loop-i : goal.invariant-loop-i
invariant-loop-i l = record {
  fits : (k : ℕ) (s : Spot) (n : OpName) → k < l.i → slice_get l.spots k ≡ Some s → storage_at s.seat ≡ Buffer n
      → FitsIn l.buffers n s.object.len;
  set : (k : ℕ) (s : Spot) (n : OpName) → k < l.i → slice_get l.spots k ≡ Some s → storage_at s.seat ≡ Buffer n
      → IsSome (get l.buffers.contents n);
}
