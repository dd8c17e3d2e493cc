-- The bytes in the storages of versions after main's event, which stores nothing in an object that it has named.
use Rattle.std.proofs.Common.{◌≡◌, List, Some, sym, ap, ◌∙◌}
use Rattle.std.specs.Prelude.{take}
use Rattle.std.specs.FinMap.{get}
use Rattle.tss_base.specs.declared.operand.OpName.{OpName}
use Rattle.tss_base.specs.declared.operand.Operand.{Operand}
use Rattle.tss_base.specs.declared.operand.Task.{Task}
use Rattle.tss_base.specs.declared.machine.Machine.{Machine}
use Rattle.tss_base.specs.declared.event.Event.TheVariants as event
use Rattle.tss_base.specs.Image.{ImageState}
use Rattle.tss_model.specs.InOrder.{Started}
use Rattle.tss_protocol.specs.Mail.{StorageName, Home, Buffer}
use Rattle.tss_protocol.specs.State.{State, Version}
use Rattle.tss_protocol.specs.Buffers.{buffer_bytes}
use Rattle.tss_protocol.specs.Needs.{round_after_event}
use Rattle.tss_protocol.specs.UnitMachine.{IsEnabled, after_event}
use Rattle.tss_phases.proofs.MainEvent.{phase_of-main}
use Rattle.tss_locality.specs.Rounds.{object_in}
use Rattle.tss_locality.proofs.LeftFields.{Leaves-after_event}
use Rattle.tss_control.proofs.rounds.EntriesNames.{object_of_operand}
use Rattle.tss_values.proofs.Values.{content, IsKnown, HasStored}
use Rattle.tss_values.proofs.returns.Returns.{same_at_home}
use Rattle.tss_values.proofs.returns.Main.{main_at_home, known_before_main}
use Rattle.tss_values.proofs.stored.Frames.{IsStored, stored_each, stored_at, stored_kept}
use Rattle.tss_values.proofs.stored.Taken.{keeps_phase}
use Rattle.tss_values.proofs.LiveObjects.{version_named}
use Rattle.tss_control.proofs.rounds.Facts.{Facts}

-- what a version's storage has stays so in a round that knows no more of its opener
stored_known : (m : Machine) (i : ImageState) (ts us : List Task) (S : State) (v : OpName) (y : Version)
    → ((p : Operand) (s : Started) → IsKnown m i us v p s → IsKnown m i ts v p s)
    → IsStored m i ts S v y → IsStored m i us S v y
stored_known m i ts us S v y before h = record {
  produced = λ st p s made at known good. h.produced st p s made at (before p s known) good;
  awaited = λ st p s at known mode waits idle. h.awaited st p s at (before p s known) mode waits idle;
  releasing = λ st p s at known writer lets ends. h.releasing st p s at (before p s known) writer lets ends;
}

module _ (m : Machine) (i : ImageState) (S : State) (facts : Facts m S) where
  open facts use {ts, control}

  abbrev T : State
  T = after_event m S event.Main

  -- the object of a version is that of its opener
  object_opened : (v : OpName) (y : Version) → get S.versions v ≡ Some y → object_in ts v ≡ Some y.object
  object_opened v y there =
      let p = control.chains.opener v y there in
      object_of_operand ts v p.0 p.1 ∙ ap Some p.2

  -- it stays as it was
  main_content : (v : OpName) (y : Version) → get S.versions v ≡ Some y → (st : StorageName)
      → content T y.object st ≡ content S y.object st
  main_content v y there Home =
      same_at_home S T y.object
      (main_at_home m S y.object (version_named m S facts v y there))
  main_content v y there (Buffer n) =
      ap (λ bytes. take y.object.len (buffer_bytes bytes n)) (λ j. (Leaves-after_event m S event.Main j).contents)

  -- main
  pub HasStored-main : HasStored m i ts S → IsEnabled m S event.Main
      → HasStored m i (round_after_event m S ts event.Main) T
  HasStored-main h on =
      let same = Leaves-after_event m S event.Main in
      let us = round_after_event m S ts event.Main in
      stored_each m i us T (λ v y e.
      let there = sym (λ j. get (same j).versions v) ∙ e in
      stored_known m i ts us T v y
      (λ p s. known_before_main m i S facts v y.object (object_opened v y there) p s)
      (stored_kept m i ts S T v y y
      (keeps_phase ts S T v y (phase_of-main m S v on) (λ st at. main_content v y there st) (λ j. (same j).workers))
      (stored_at m i ts S h v y there)))
