-- What a decode that is done says of the names that hold places and buffers.
use Rattle.std.proofs.Common.{◌≡◌, Bool, true, false, List, Some, refl, sym, ap, ◌∙◌, subst}
use Rattle.std.specs.FinMap.{get}
use Rattle.tss_base.specs.declared.operand.OpName.{OpName}
use Rattle.tss_base.specs.declared.operand.Operand.{Operand}
use Rattle.tss_maps.proofs.Keys.{name_order}
use Rattle.tss_maps.proofs.Changes.{at_inserted}
use Rattle.tss_protocol.specs.Renaming.{takes_place, takes_buffer, places_after_decode, buffers_after_decode}
use Rattle.tss_events.specs.declared.message.Message.{Message}
use Rattle.tss_renaming.specs.Holding.{AreApart}
use Rattle.tss_renaming.specs.Bank.{RenamingState}
use Rattle.tss_renaming.specs.Decoding.{IsDecoded}
use Rattle.tss_renaming.proofs.ApartLemmas.{apart_inserted}

module _ (old new : RenamingState) (o : OpName) (operand : Operand) (sent : List Message)
    (done : IsDecoded old new o operand sent) where
  -- the operand's name holds the place that is taken
  pub place_held : takes_place (get old.entries operand.object.base) operand.mode ≡ true
      → get new.places o ≡ Some done.place
  place_held takes =
      (λ i. get (done.exact i).places o) ∙ ap (λ b. get (places_after_decode old.places o done.place b) o) takes
      ∙ at_inserted name_order old.places o done.place

  -- and the buffer
  pub buffer_held : takes_buffer (get old.entries operand.object.base) operand.mode ≡ true
      → get new.buffers o ≡ Some done.buffer
  buffer_held takes =
      (λ i. get (done.exact i).buffers o) ∙ ap (λ b. get (buffers_after_decode old.buffers o done.buffer b) o) takes
      ∙ at_inserted name_order old.buffers o done.buffer

  -- no two names share a place, where none did
  pub places_apart : AreApart old.places → AreApart new.places
  places_apart apart =
      subst AreApart (λ i. (sym done.exact i).places)
      (by_test (takes_place (get old.entries operand.object.base) operand.mode) refl)
    where
      by_test : (b : Bool) → takes_place (get old.entries operand.object.base) operand.mode ≡ b
          → AreApart (places_after_decode old.places o done.place b)
      by_test true takes = apart_inserted old.places o apart old.sizes.versions done.place (done.fresh takes)
      by_test false takes = apart

  -- nor a buffer
  pub buffers_apart : AreApart old.buffers → AreApart new.buffers
  buffers_apart apart =
      subst AreApart (λ i. (sym done.exact i).buffers)
      (by_test (takes_buffer (get old.entries operand.object.base) operand.mode) refl)
    where
      by_test : (b : Bool) → takes_buffer (get old.entries operand.object.base) operand.mode ≡ b
          → AreApart (buffers_after_decode old.buffers o done.buffer b)
      by_test true takes = apart_inserted old.buffers o apart old.sizes.buffers done.buffer (done.fresh_buffer takes)
      by_test false takes = apart
