-- The bytes in the storages of versions after a copy, which brings home an object without a version.
use Rattle.std.proofs.Common.{◌≡◌, ℕ, ◌≤◌, length, Some, refl, sym, ap, ◌∙◌}
use Rattle.std.specs.Prelude.{is_some, take}
use Rattle.std.specs.FinMap.{get}
use Rattle.tss_base.specs.declared.operand.OpName.{OpName}
use Rattle.tss_base.specs.declared.machine.Machine.{Machine}
use Rattle.tss_base.specs.declared.event.Event.TheVariants as event
use Rattle.tss_base.specs.Image.{ImageState}
use Rattle.tss_protocol.specs.Mail.{StorageName, Home, Buffer}
use Rattle.tss_protocol.specs.State.{State, Version, CopyState}
use Rattle.tss_protocol.specs.Buffers.{buffer_bytes}
use Rattle.tss_protocol.specs.UnitMachine.{IsEnabled, is_enabled, after_event}
use Rattle.tss_phases.proofs.QuietEvents.{phase_of-copy}
use Rattle.tss_phases.proofs.Tests.{something}
use Rattle.tss_locality.proofs.LeftFields.{Leaves-after_event}
use Rattle.tss_values.proofs.storages.Homes.{not_copied_home}
use Rattle.tss_values.proofs.Values.{content, HasStored, HasReturns}
use Rattle.tss_values.proofs.returns.Returns.{same_at_home}
use Rattle.tss_values.proofs.returns.Copy.{beside}
use Rattle.tss_values.proofs.stored.Frames.{stored_each, stored_at, stored_kept}
use Rattle.tss_values.proofs.stored.Taken.{keeps_phase}
use Rattle.tss_control.proofs.rounds.Facts.{Facts}
use Rattle.tss_values.proofs.LiveObjects.{version_named}

module _ (m : Machine) (i : ImageState) (S : State) (facts : Facts m S) (h : HasStored m i facts.ts S)
    (r : HasReturns m i facts.ts S) (b : ℕ)
    (room : (c : CopyState) → get S.copies b ≡ Some c → c.object.len ≤ length (buffer_bytes S.contents c.buffer)) where
  open facts use {ts, control as k}

  abbrev T : State
  T = after_event m S (event.Copy b)

  -- an object with a version is named, and isn't copied
  copy_content : (c : CopyState) → get S.copies b ≡ Some c → (v : OpName) (y : Version) → get S.versions v ≡ Some y
      → (st : StorageName) → content T y.object st ≡ content S y.object st
  copy_content c there v y e Home =
      same_at_home S T y.object
      (beside m i S facts r b c there (room c there) y.object (version_named m S facts v y e)
      (λ same. not_copied_home m S facts v y e b c there (sym same)))
  copy_content c there v y e (Buffer n) =
      ap (λ bytes. take y.object.len (buffer_bytes bytes n)) (λ j. (Leaves-after_event m S (event.Copy b) j).contents)

  -- copy
  pub HasStored-copy : IsEnabled m S (event.Copy b) → HasStored m i ts T
  unfolding is_enabled
  HasStored-copy on =
      let c = something is_some (get S.copies b) refl on in
      let same = Leaves-after_event m S (event.Copy b) in
      stored_each m i ts T (λ v y e.
      let there = sym (λ i. get (same i).versions v) ∙ e in
      stored_kept m i ts S T v y y
      (keeps_phase ts S T v y (phase_of-copy m S b v) (λ st at. copy_content c.0 c.1 v y there st)
      (λ i. (same i).workers))
      (stored_at m i ts S h v y there))
