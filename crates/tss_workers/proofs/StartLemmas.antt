-- A spot that its task doesn't read can be zeroed.
use Rattle.std.proofs.Common.{◌≡◌, ℕ, true, false, List, Some, refl, sym, ap, subst, ◌∙◌, arith}
use Rattle.std.specs.Prelude.{option_map, slice_get}
use Rattle.std.proofs.lemmas.Bool.{both_ways}
use Rattle.std.proofs.lemmas.Option.{slice_get-map}
use Rattle.tss_base.specs.declared.operand.Mode.{Mode}
use Rattle.tss_base.specs.declared.operand.Mode.TheVariants.{Input, Output, Inout}
use Rattle.tss_model.specs.Memory.{MemoryRange, range_of}
use Rattle.tss_model.specs.Access.{reads, writes}
use Rattle.tss_steps.specs.Placing.{IsGround, is_placed}
use Rattle.tss_steps.proofs.PlaceLemmas.{all_at, placed_in}
use Rattle.tss_buffers.specs.Contents.{BuffersState, seat}
use Rattle.tss_workers.specs.Seats.{AreSeated}
use Rattle.tss_workers.specs.Spots.{operand_at, operands_at, placed_spot, placed_of, storage_at, CanZero, CanZeroAt}
use Rattle.tss_workers.specs.Working.{HaveSameSizes}
use Rattle.tss_workers.specs.declared.spots.Seat.{Seat}
use Rattle.tss_workers.specs.declared.spots.Seat.TheVariants as seats
use Rattle.tss_workers.specs.declared.spots.Spot.{Spot}
use Rattle.tss_workers.proofs.SpotLemmas.{placed_there}

-- what isn't read is written
unread : (mode : Mode) → reads mode ≡ false → writes mode ≡ true
unread Input e = absurd (both_ways true e refl)
unread Output e = refl
unread Inout e = absurd (both_ways true e refl)

module _ (ranges : List MemoryRange) (b : BuffersState) (spots : List Spot) (ground : IsGround ranges (operands_at spots))
    (seated : AreSeated b (placed_of spots)) (i : ℕ) (s : Spot) (there : slice_get spots i ≡ Some s) where
  -- an object that is written lies in memory that can be written
  written_home : reads s.mode ≡ false → range_of ranges s.object ≡ Some true
  written_home e =
      let at = slice_get-map operand_at spots i ∙ ap (option_map operand_at) there in
      let placed = all_at (is_placed ranges) (operands_at spots) i (operand_at s) ground.placed at in
      let p = placed_in s.mode (range_of ranges s.object) placed in
      p.1 ∙ ap Some (p.2 (unread s.mode e))

  zero_at : (x : Seat) → s.seat ≡ x → reads s.mode ≡ false → (after : List MemoryRange) (c : BuffersState) → after ≡ ranges
      → HaveSameSizes b c → CanZeroAt after c s.object x
  zero_at seats.Home e unread after c same sizes =
      λ some. subst (λ (xs : List MemoryRange). range_of xs s.object ≡ Some true) (sym same) (written_home unread)
  zero_at (seats.Buffer bank place) e unread after c same sizes =
      let fits = seated i (placed_spot s) (seat bank place) (placed_there spots i s there) (ap storage_at e) in
      (omega (arith, fits.bank, sizes.banks), omega (arith, fits.place, sizes.each))

  pub can_zero : (after : List MemoryRange) (c : BuffersState) → after ≡ ranges → HaveSameSizes b c → CanZero after c s
  can_zero after c same sizes unread = zero_at s.seat refl unread after c same sizes
