-- The bytes in the storages of versions after a take and after a gone.
use Rattle.std.proofs.Common.{◌≡◌, ◌≢◌, ℕ, ◌-◌, ◌≤◌, List, [], Option, Some, None, refl, sym, ap, ◌∙◌, subst, inl, inr}
use Rattle.std.proofs.Common.{arith}
use Rattle.std.specs.Prelude.{unwrap_or, take}
use Rattle.std.specs.FinMap.{get}
use Rattle.std.proofs.lemmas.Option.{none-some}
use Rattle.tss_base.specs.declared.operand.OpName.{OpName}
use Rattle.tss_base.specs.declared.operand.Task.{Task}
use Rattle.tss_base.specs.declared.machine.Machine.{Machine}
use Rattle.tss_base.specs.declared.event.Event.TheVariants as event
use Rattle.tss_base.specs.Image.{ImageState}
use Rattle.tss_maps.proofs.Keys.{name_order}
use Rattle.tss_maps.proofs.Changes.{beside_removed}
use Rattle.tss_protocol.specs.Mail.{StorageName, Home, Buffer, GoneContents}
use Rattle.tss_protocol.specs.State.{State, Version}
use Rattle.tss_protocol.specs.Buffers.{contents_after_gone}
use Rattle.tss_protocol.specs.UnitMachine.{IsEnabled, is_enabled, can_take, after_event, without, gone_message_taken}
use Rattle.tss_phases.specs.Phase.{phase_of}
use Rattle.tss_phases.proofs.QuietEvents.{phase_of-gone}
use Rattle.tss_phases.proofs.TakeEvent.{phase_of-take-other}
use Rattle.tss_phases.proofs.Tests.{something}
use Rattle.tss_locality.proofs.LeftFields.{Leaves-after_event}
use Rattle.tss_names.specs.Tasks.{taken_by}
use Rattle.tss_values.specs.Buffers.{HasBuffers}
use Rattle.tss_values.proofs.Values.{content, HasStored}
use Rattle.tss_values.proofs.stored.Frames.{stored_each, stored_at, KeepsStored, stored_kept}
use Rattle.tss_values.proofs.stored.Quiet.{LeavesBytes, content_left}
use Rattle.tss_control.proofs.rounds.Facts.{Basis}

-- a version that is left, with its bytes and the phase of its opener
pub keeps_phase : (ts : List Task) (S T : State) (v : OpName) (y : Version) → phase_of T v ≡ phase_of S v
    → ((st : StorageName) → y.storage ≡ Some st → content T y.object st ≡ content S y.object st)
    → T.workers ≡ S.workers → KeepsStored ts S T v y y
keeps_phase ts S T v y same bytes workers = record {
  object = refl;
  storage = refl;
  produced = refl;
  bytes = bytes;
  waits = λ st p at among writer told. elim told [
    | inl e ↦ inl (sym same ∙ e)
    | inr e ↦ inr (sym same ∙ e)
  ];
  idle = λ none w. none (w.0, w.1, ap (λ ws. get ws w.0) workers ∙ w.2, w.3);
  lets = λ e. sym same ∙ e;
}

module _ (m : Machine) (i : ImageState) (S : State) (basis : Basis m S) (h : HasStored m i basis.ts S) where
  open basis use {ts, ground}

  -- ---- take

  too_late : (n spawned : ℕ) → 1 ≤ n → n ≤ spawned - 1 → n ≡ spawned → ⊥
  too_late n spawned one low same = omega (arith, one, low, same)

  taken_apart : (t : Task) → S.inbox ≡ Some t → (v : OpName) (y : Version) → get S.versions v ≡ Some y
      → v.task ≢ t.number
  taken_apart t inbox v y e same =
      let taken = (ground.names.versions v y e).0.0.0 in
      too_late v.task S.main.spawned taken.0
      (subst (λ b. v.task ≤ taken_by b S.main.spawned) inbox taken.1)
      (same ∙ (ground.numbers.inbox t inbox).number)

  -- take
  pub HasStored-take : IsEnabled m S event.Take → HasStored m i ts (after_event m S event.Take)
  unfolding is_enabled
  HasStored-take on =
      let t = something (can_take m S) S.inbox refl on in
      let T = after_event m S event.Take in
      let same = Leaves-after_event m S event.Take in
      let left : LeavesBytes S T =
      record { home = λ i. (same i).home; contents = λ i. (same i).contents; workers = λ i. (same i).workers } in
      stored_each m i ts T (λ v y e.
      let there = sym (λ i. get (same i).versions v) ∙ e in
      stored_kept m i ts S T v y y
      (keeps_phase ts S T v y (phase_of-take-other m S t.0 t.1 v (taken_apart t.0 t.1 v y there))
      (λ st at. content_left S T left y.object st) left.workers)
      (stored_at m i ts S h v y there))

  -- ---- gone

  module _ (buffers : HasBuffers ts S) where
    -- a version's buffer isn't that of a version that is gone
    apart_from_gone : (w : OpName) (c : GoneContents) → get S.mail.gones w ≡ Some c → (b : OpName) → c.buffer ≡ Some b
        → (v : OpName) (y : Version) → get S.versions v ≡ Some y → (n : OpName) → y.storage ≡ Some (Buffer n) → n ≢ b
    apart_from_gone w c gone b has v y there n at same =
        let one =
        buffers.one v w b (inr (inl (y, there, at ∙ ap (λ q. Some (Buffer q)) same)))
        (inr (inr (inl (c, gone, has)))) in
        none-some c (sym (ground.places.versions v y there).2 ∙ ap (λ q. get S.mail.gones q) one ∙ gone)

    contents_by : (o : Option OpName) (n : OpName) → ((b : OpName) → o ≡ Some b → n ≢ b)
        → get (contents_after_gone S.contents o) n ≡ get S.contents n
    contents_by None n apart = refl
    contents_by (Some b) n apart = beside_removed name_order S.contents b n (apart b refl)

    gone_bytes : (w : OpName) (c : Option GoneContents) → get S.mail.gones w ≡ c → (v : OpName) (y : Version)
        → get S.versions v ≡ Some y → (st : StorageName) → y.storage ≡ Some st
        → content (gone_message_taken (without S (event.Gone w)) w c) y.object st ≡ content S y.object st
    gone_bytes w None gone v y there st at = refl
    gone_bytes w (Some c) gone v y there Home at = refl
    gone_bytes w (Some c) gone v y there (Buffer n) at =
        ap (λ o. take y.object.len (unwrap_or o []))
        (contents_by c.buffer n (λ b has. apart_from_gone w c gone b has v y there n at))

    gone_content : (w v : OpName) (y : Version) → get S.versions v ≡ Some y → (st : StorageName)
        → y.storage ≡ Some st → content (after_event m S (event.Gone w)) y.object st ≡ content S y.object st
    unfolding after_event
    gone_content w v y there st at = gone_bytes w (get S.mail.gones w) refl v y there st at

    -- gone
    pub HasStored-gone : (w : OpName) → HasStored m i ts (after_event m S (event.Gone w))
    HasStored-gone w =
        let T = after_event m S (event.Gone w) in
        let same = Leaves-after_event m S (event.Gone w) in
        stored_each m i ts T (λ v y e.
        let there = sym (λ i. get (same i).versions v) ∙ e in
        stored_kept m i ts S T v y y
        (keeps_phase ts S T v y (phase_of-gone m S w v) (gone_content w v y there) (λ i. (same i).workers))
        (stored_at m i ts S h v y there))
