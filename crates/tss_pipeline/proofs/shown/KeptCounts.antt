-- What an event leaves alone is counted as before.
use Rattle.std.proofs.Common.{◌≡◌, false, sym, ap, ◌∙◌}
use Rattle.tss_base.specs.declared.counts.Counts.{Counts}
use Rattle.tss_base.specs.declared.event.Event.{Event}
use Rattle.tss_locality.specs.Leaves.{changes}
use Rattle.tss_locality.proofs.LeftFields.{left_flight, left_entries, left_places, left_buffers}
use Rattle.tss_protocol.specs.State.{State}
use Rattle.tss_protocol.specs.Stations.{tasks_in}
use Rattle.tss_protocol.specs.Renaming.{entries_in, places_in, buffers_in}
use Rattle.tss_protocol.specs.Counts.{greatest, counts_of}
use Rattle.tss_pipeline.specs.declared.units.Units.{Units}
use Rattle.tss_pipeline.specs.State.{state_of}
use Rattle.tss_pipeline.specs.Keeping.{WereCounts}

module _ (e : Event) (u : Units) (before : Counts) (were : WereCounts e u before) where
  abbrev S : State
  S = state_of were.old

  pub kept_slots : (changes e).flight ≡ false → before.slots ≡ (counts_of u.machine (state_of u)).slots
  kept_slots left =
      let flight = ap (λ (S : State). S.flight) were.does.state ∙ left_flight were.old.machine S e left in
      ap (λ (c : Counts). c.slots) were.counts
      ∙ (λ i. greatest (λ s. tasks_in (sym were.does.machine i).sizes s (sym flight i)) (sym were.does.machine i).sizes.stations)

  pub kept_entries : (changes e).entries ≡ false → before.entries ≡ (counts_of u.machine (state_of u)).entries
  kept_entries left =
      let entries = ap (λ (S : State). S.entries) were.does.state ∙ left_entries were.old.machine S e left in
      ap (λ (c : Counts). c.entries) were.counts
      ∙ (λ i. greatest (λ b. entries_in (sym were.does.machine i).sizes b (sym entries i)) (sym were.does.machine i).sizes.banks)

  pub kept_places : (changes e).places ≡ false → before.versions ≡ (counts_of u.machine (state_of u)).versions
  kept_places left =
      let places = ap (λ (S : State). S.places) were.does.state ∙ left_places were.old.machine S e left in
      ap (λ (c : Counts). c.versions) were.counts
      ∙ (λ i. greatest (λ b. places_in b (sym places i)) (sym were.does.machine i).sizes.banks)

  pub kept_buffers : (changes e).buffers ≡ false → before.buffers ≡ (counts_of u.machine (state_of u)).buffers
  kept_buffers left =
      let buffers = ap (λ (S : State). S.buffers) were.does.state ∙ left_buffers were.old.machine S e left in
      ap (λ (c : Counts). c.buffers) were.counts
      ∙ (λ i. greatest (λ b. buffers_in b (sym buffers i)) (sym were.does.machine i).sizes.banks)
