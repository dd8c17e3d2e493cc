-- Holders of buffers after an open and a decode.
use Rattle.std.proofs.Common.{◌≡◌, ◌≢◌, inl, inr, true, List, [], Option, Some, None, refl, sym, ap, ◌∙◌, true≢false}
use Rattle.std.specs.Prelude.{◌++◌, is_some}
use Rattle.std.specs.FinMap.{get}
use Rattle.tss_base.specs.declared.operand.OpName.{OpName}
use Rattle.tss_base.specs.declared.operand.Mode.{Mode}
use Rattle.tss_base.specs.declared.operand.Mode.TheVariants.{Input, Output, Inout}
use Rattle.tss_base.specs.declared.machine.Machine.{Machine}
use Rattle.tss_base.specs.declared.event.Event.TheVariants as event
use Rattle.tss_base.specs.declared.marks.How.{How}
use Rattle.tss_base.specs.declared.marks.How.TheVariants.{Beside, Over}
use Rattle.tss_base.specs.declared.marks.Follow.{Follow}
use Rattle.tss_maps.proofs.Keys.{name_order}
use Rattle.tss_maps.proofs.Changes.{from_inserted, from_removed}
use Rattle.tss_protocol.specs.Mail.{Buffer, OpenContents, Message, posted_all, taken}
use Rattle.tss_protocol.specs.State.{State, Version}
use Rattle.tss_protocol.specs.Versions.{Versioned, ready_with, put_version, first_version, followed, opened_first}
use Rattle.tss_protocol.specs.Versions.{opened_how, opened_by, settled, is_followable}
use Rattle.tss_protocol.specs.UnitMachine.{IsEnabled, is_enabled, after_event, without, open_message_taken}
use Rattle.tss_protocol.specs.UnitMachine.{can_open_message}
use Rattle.tss_phases.proofs.Tests.{something}
use Rattle.tss_control.specs.Chains.{HasChains}
use Rattle.tss_values.specs.Buffers.{HasBuffer, HasBuffers}
use Rattle.tss_protocol.proofs.SentLemmas.{AllSent, posted_all-later, settled-later}
use Rattle.tss_names.proofs.JointLemmas.{posted_all-append}
use Rattle.tss_names.proofs.PlainLemmas.{still_none}
use Rattle.tss_names.proofs.HeldEvents.{HoldsNothing, posted_all-nothing}
use Rattle.tss_control.proofs.chains.Open.{following, registered_state, registers_behind, others_followed, front_apart}
use Rattle.tss_control.proofs.chains.Opened.{HasChains-registered}
use Rattle.tss_control.proofs.readers.Told.{from_changed}
use Rattle.tss_values.proofs.buffers.Kept.{PassesBuffers, buffers_kept, buffers_settled}
use Rattle.tss_values.proofs.buffers.Quiet.{ready_nothing}
use Rattle.tss_control.proofs.rounds.Facts.{Facts}

first_stored : (o : OpName) (c : OpenContents) (mode : Mode)
    → (first_version o c.operand.object c.storage mode).storage ≡ c.storage
first_stored o c Input = refl
first_stored o c Output = refl
first_stored o c Inout = refl

module _ (m : Machine) (S : State) (facts : Facts m S) (h : HasBuffers facts.ts S) where
  open facts use {ts, ground, control as k}

  module _ (o : OpName) (c : OpenContents) (there : get S.mail.opens o ≡ Some c) where
    abbrev After : Versioned → State
    After d = record S { versions = d.part; mail = posted_all (taken S.mail (event.Open o)) d.sent }

    -- ---- a version that follows nothing

    abbrev first : Version
    first = first_version o c.operand.object c.storage c.operand.mode

    first_passes : PassesBuffers S (After (opened_first S.versions o c))
    first_passes =
        let same = posted_all-nothing (taken S.mail (event.Open o)) (ready_with o o c.storage)
        (ready_nothing o o c.storage) in
        record {
          opens = λ w b t.
              let f = from_removed name_order S.mail.opens o w t.0 (sym (ap (λ os. get os w) same.0) ∙ t.1) in
              inl (t.0, f.1, t.2);
          versions = λ w b t. elim (from_inserted name_order S.versions o first w t.0 t.1) [
            | inl new ↦ inl (
              c,
              ap (get S.mail.opens) new.0 ∙ there,
              sym (first_stored o c c.operand.mode) ∙ ap (λ (y : Version). y.storage) (sym new.1) ∙ t.2,
            )
            | inr old ↦ inr (inl (t.0, old.1, t.2))
          ];
          gones = λ w b t. inr (inr (inl (t.0, sym (ap (λ gs. get gs w) same.1) ∙ t.1, t.2)));
          copies = λ w b t. inr (inr (inr t));
        }

    -- ---- a version that follows another

    module _ (f : Follow) (to : c.follows ≡ Some f) (u : Version) (at : get S.versions f.version ≡ Some u) where
      abbrev U : State
      U = registered_state m S facts o c there f to u at

      apart : f.version ≢ o
      apart = front_apart m S facts o c there f to u at

      u_version : (w b : OpName) (z : Version) → get (followed S.versions o c f) w ≡ Some z
          → z.storage ≡ Some (Buffer b) → HasBuffer S w b
      u_version w b z e s =
          let q = from_changed (put_version S.versions o (following c f)) f.version
          (λ p. record p { successor = Some (record f { version = o }) }) w z e in
          let same : z.storage ≡ q.0.storage = elim q.2 [
            | inl i ↦ ap (λ (y : Version). y.storage) i
            | inr p ↦ ap (λ (y : Version). y.storage) p.1
          ] in
          elim (from_inserted name_order S.versions o (following c f) w q.0 q.1) [
            | inl new ↦ inl (
              c,
              ap (get S.mail.opens) new.0 ∙ there,
              ap (λ (y : Version). y.storage) (sym new.1) ∙ sym same ∙ s,
            )
            | inr old ↦ inr (inl (q.0, old.1, sym same ∙ s))
          ]

      u_passes : PassesBuffers S U
      u_passes = record {
        opens = λ w b t. inl (t.0, (from_removed name_order S.mail.opens o w t.0 t.1).1, t.2);
        versions = λ w b t. u_version w b t.0 t.1 t.2;
        gones = λ w b t. inr (inr (inl t));
        copies = λ w b t. inr (inr (inr t));
      }

      u_chains : HasChains ts U
      u_chains =
          HasChains-registered ts S U k.chains o c (following c f)
          (registers_behind m S facts o c there f to u at)

      behind : (ms : List Message) → AllSent HoldsNothing ms
          → HasBuffers ts (record S {
            versions = (settled U.versions f.version).part;
            mail = posted_all (taken S.mail (event.Open o)) (ms ++ (settled U.versions f.version).sent);
          })
      behind ms nothing =
          let d = settled U.versions f.version in
          let n = taken S.mail (event.Open o) in
          let same = posted_all-nothing n ms nothing in
          let sent = posted_all-append n ms d.sent in
          let place = ground.places.versions f.version u at in
          let kept = buffers_kept ts S U h u_passes (λ w b bank t e. e) in
          buffers_settled ts U _ f.version (posted_all n ms) kept u_chains (record {
            versions = refl;
            opens = (λ i. (sent i).opens)
                ∙ (posted_all-later (posted_all n ms) d.sent (settled-later U.versions f.version)).opens
                ∙ same.0;
            copies = refl;
            buffers = refl;
            gones = λ i. (sent i).gones;
            before = same.1;
            no_open = λ y e. still_none S.mail.opens o f.version place.1;
            no_copy = λ y e. place.3;
          })
          (others_followed S.versions o c f apart (λ q y e. k.retirement.settled q y e))

      by_how : (w : How) → HasBuffers ts (After (opened_how S.versions o c f w))
      by_how Beside = behind (ready_with o o c.storage) (ready_nothing o o c.storage)
      by_how Over = behind [] tt

    by_follow : (f : Option Follow) → c.follows ≡ f → is_followable S.versions f ≡ true
        → HasBuffers ts (After (opened_by S.versions o c f))
    by_follow None to on =
        buffers_kept ts S (After (opened_first S.versions o c)) h first_passes (λ w b bank t e. e)
    by_follow (Some f) to on =
        let u = something is_some (get S.versions f.version) refl on in
        by_how f to u.0 u.1 f.how

  opened_of : (o : OpName) (c : Option OpenContents) → get S.mail.opens o ≡ c → can_open_message S c ≡ true
      → HasBuffers ts (open_message_taken (without S (event.Open o)) o c)
  opened_of o None e on = absurd (true≢false (sym on))
  opened_of o (Some c) e on = by_follow o c e c.follows refl on

  -- open
  pub HasBuffers-open : (o : OpName) → IsEnabled m S (event.Open o) → HasBuffers ts (after_event m S (event.Open o))
  unfolding is_enabled after_event
  HasBuffers-open o on = opened_of o (get S.mail.opens o) refl on
