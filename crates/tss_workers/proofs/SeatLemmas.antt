-- The buffer of a spot is there, is set, and holds what lies in the spot.
use Rattle.std.proofs.Common.{◌≡◌, ℕ, ◌+◌, ◌-◌, ◌≤◌, true, List, Some, ap, arith}
use Rattle.std.specs.Prelude.{slice_get, IsSome}
use Rattle.std.specs.FinMap.{get}
use Rattle.tss_base.specs.declared.range.Range.{Range}
use Rattle.tss_base.specs.Range.{contains}
use Rattle.tss_model.specs.Memory.{MemoryRange}
use Rattle.tss_memory.proofs.RangeLemmas.{contains_parts}
use Rattle.tss_buffers.specs.Contents.{BuffersState, HasBuffer, seat}
use Rattle.tss_workers.specs.Seats.{FitsIn}
use Rattle.tss_workers.specs.Spots.{AreWorkable, placed_spot, storage_at}
use Rattle.tss_workers.specs.declared.spots.Seat.TheVariants as seats
use Rattle.tss_workers.specs.declared.spots.Spot.{Spot}
use Rattle.tss_workers.proofs.SpotLemmas.{placed_there}

module _ (ranges : List MemoryRange) (b : BuffersState) (spots : List Spot) (works : AreWorkable ranges b spots)
    (i : ℕ) (s : Spot) (there : slice_get spots i ≡ Some s) (bank place : ℕ) (its : s.seat ≡ seats.Buffer bank place) where
  pub buffer_fits : FitsIn b (seat bank place) s.object.len
  buffer_fits = works.seated i (placed_spot s) (seat bank place) (placed_there spots i s there) (ap storage_at its)

  pub buffer_there : HasBuffer b bank place
  buffer_there = (buffer_fits.bank, buffer_fits.place)

  pub buffer_set : IsSome (get b.contents (seat bank place))
  buffer_set = works.set i (placed_spot s) (seat bank place) (placed_there spots i s there) (ap storage_at its)

  pub range_fits : (r : Range) → contains s.object r ≡ true → (r.base - s.object.base) + r.len ≤ b.object_bytes
  range_fits r inside =
      let parts = contains_parts s.object r inside in
      let long = buffer_fits.long in
      omega arith

pub starts_after : (s : Spot) (r : Range) → contains s.object r ≡ true → s.object.base ≤ r.base
starts_after s r inside = (contains_parts s.object r inside).0
