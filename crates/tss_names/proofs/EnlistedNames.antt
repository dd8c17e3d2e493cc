-- Every name is of a decoded operand, and after open and use of an enlisted one.
use Rattle.std.proofs.Common.{◌≡◌, true, true≢false, ◌≢◌, ◌⊎◌, inl, inr, List, [], Option, Some, None, refl, sym, ap}
use Rattle.std.proofs.Common.{◌∙◌, subst}
use Rattle.std.specs.FinMap.{get, get-empty}
use Rattle.std.proofs.lemmas.Option.{none-some}
use Rattle.tss_base.specs.declared.operand.OpName.{OpName}
use Rattle.tss_base.specs.declared.operand.Mode.{Mode}
use Rattle.tss_base.specs.declared.operand.Mode.TheVariants.{Input, Output, Inout}
use Rattle.tss_base.specs.declared.operand.Operand.{Operand}
use Rattle.tss_base.specs.declared.operand.Task.{Task}
use Rattle.tss_base.specs.declared.machine.Machine.{Machine}
use Rattle.tss_base.specs.declared.event.Event.{Event}
use Rattle.tss_base.specs.declared.event.Event.TheVariants as event
use Rattle.tss_base.specs.Names.{name_cmp}
use Rattle.tss_base.specs.Image.{ImageState}
use Rattle.tss_maps.proofs.Keys.{name_order}
use Rattle.tss_maps.proofs.Changes.{beside_inserted, at_removed, decide_get}
use Rattle.tss_protocol.specs.Mail.{OpenContents, Message, Mail, posted, taken}
use Rattle.tss_protocol.specs.State.{State, Entry, initial_state}
use Rattle.tss_protocol.specs.Renaming.{live_message, decode_message}
use Rattle.tss_protocol.specs.MainEvent.{call_next}
use Rattle.tss_protocol.specs.UnitMachine.{IsEnabled, is_enabled, can_open_message, can_use_message, after_event}
use Rattle.tss_protocol.specs.UnitMachine.{without, decode_message_taken, open_message_taken, use_message_taken}
use Rattle.tss_names.specs.Tasks.{spawned_after_event}
use Rattle.tss_names.specs.Openings.{HasOpenings, OpeningsLaw}
use Rattle.tss_protocol.proofs.SentLemmas.{posted_all-later, after_open-later, after_use-later}
use Rattle.tss_protocol.proofs.FrontLemmas.{front_of}
use Rattle.tss_names.proofs.RunLemmas.{IsKept, law_from}
use Rattle.tss_names.specs.Names.{IsDecoded, IsEnlisted, HasDecodedNames, NamesLaw}
use Rattle.tss_names.proofs.GatewayLemmas.{IsFrontSound-after_event, IsFrontSound-initial_state}
use Rattle.tss_names.proofs.NameEvents.{StateNames-after_event, StateNames-initial_state, each_name}
use Rattle.tss_names.proofs.DecodedNames.{state_weaker, DecodedBy, still_decoded, decoded_now, EnlistedIn}
use Rattle.tss_names.proofs.OpeningFrames.{KeepsOpenings, openings_main, openings_take, openings_ready, openings_link}
use Rattle.tss_names.proofs.OpeningFrames.{openings_bye, openings_start, openings_exec, openings_finish}
use Rattle.tss_names.proofs.OpeningFrames.{openings_release, openings_idle, openings_nack, openings_retire}
use Rattle.tss_names.proofs.OpeningFrames.{openings_copy, openings_gone}
use Rattle.tss_names.proofs.OpeningLemmas.{AreOpeningsSound, opens_after_event}
use Rattle.tss_names.proofs.PlainLemmas.{still_none}

-- neither the open nor the use of an operand is under way
abbrev IsPast : State → OpName → Type 0
IsPast S o = (get S.mail.opens o ≡ None) × (get S.mail.uses o ≡ None)

past_kept : (S T : State) (o : OpName) → KeepsOpenings S T → IsPast S o → IsPast T o
past_kept S T o k h = (ap (λ m. get m o) k.opens ∙ h.0, ap (λ m. get m o) k.uses ∙ h.1)

-- ---- an operand beside another that is decoded

module _ (mail : Mail) (q o : OpName) (other : o ≢ q) (operand : Operand)
    (h : (get mail.opens o ≡ None) × (get mail.uses o ≡ None)) where
  abbrev IsPastWith : Message → Type 0
  IsPastWith x = (get (posted mail x).opens o ≡ None) × (get (posted mail x).uses o ≡ None)

  past_live : (e : Entry) (mode : Mode) → IsPastWith (live_message q operand e mode)
  past_live e Input = (h.0, beside_inserted name_order mail.uses q e.latest o other ∙ h.1)
  past_live e Output = (beside_inserted name_order mail.opens q _ o other ∙ h.0, h.1)
  past_live e Inout = (beside_inserted name_order mail.opens q _ o other ∙ h.0, h.1)

  past_message : (e : Option Entry) → IsPastWith (decode_message q operand e)
  past_message None = (beside_inserted name_order mail.opens q _ o other ∙ h.0, h.1)
  past_message (Some e) = past_live e operand.mode

-- ---- all events

module _ (m : Machine) (ts : List Task) (S : State) (h : AreOpeningsSound m ts S) where
  past_decode : (o q : OpName) → get S.mail.decodes o ≡ None → IsPast S o → (c : Option Operand)
      → get S.mail.decodes q ≡ c → IsPast (decode_message_taken m (without S (event.Decode q)) q c) o
  past_decode o q none past None e = past
  past_decode o q none past (Some operand) e =
      let other : o ≢ q = λ same. none-some operand (sym none ∙ ap (get S.mail.decodes) same ∙ e) in
      past_message (taken S.mail (event.Decode q)) q o other operand past (get S.entries operand.object.base)

  past_open : (o q : OpName) → IsPast S o → (c : Option OpenContents)
      → IsPast (open_message_taken (without S (event.Open q)) q c) o
  past_open o q past None = (still_none S.mail.opens q o past.0, past.1)
  past_open o q past (Some c) =
      let same = posted_all-later (taken S.mail (event.Open q)) _ (after_open-later S.versions q c) in
      (ap (λ m. get m o) same.opens ∙ still_none S.mail.opens q o past.0, ap (λ m. get m o) same.uses ∙ past.1)

  past_use : (o q : OpName) → IsPast S o → (v : Option OpName)
      → IsPast (use_message_taken (without S (event.Use q)) q v) o
  past_use o q past None = (past.0, still_none S.mail.uses q o past.1)
  past_use o q past (Some v) =
      let same = posted_all-later (taken S.mail (event.Use q)) _ (after_use-later S.versions q v) in
      (ap (λ m. get m o) same.opens ∙ past.0, ap (λ m. get m o) same.uses ∙ still_none S.mail.uses q o past.1)

  -- a decoded operand that is past its open and use stays so
  still_past : (o : OpName) → get S.mail.decodes o ≡ None → IsPast S o → (e : Event) → IsPast (after_event m S e) o
  unfolding after_event
  still_past o none past event.Main = past_kept S _ o (openings_main m S (call_next m S)) past
  still_past o none past event.Take = past_kept S _ o (openings_take m S S.inbox) past
  still_past o none past (event.Decode q) = past_decode o q none past (get S.mail.decodes q) refl
  still_past o none past (event.Ack q) = past
  still_past o none past (event.Open q) = past_open o q past (get S.mail.opens q)
  still_past o none past (event.Use q) = past_use o q past (get S.mail.uses q)
  still_past o none past (event.Ready q) = past_kept S _ o (openings_ready m S q (get S.mail.readies q)) past
  still_past o none past (event.Link q) = past_kept S _ o (openings_link m S q (get S.mail.links q)) past
  still_past o none past (event.Start w) = past_kept S _ o (openings_start m S w S.queue) past
  still_past o none past (event.Exec w) = past_kept S _ o (openings_exec m S w (get S.workers w)) past
  still_past o none past (event.Finish w) = past_kept S _ o (openings_finish m S w (get S.workers w)) past
  still_past o none past (event.Release q) = past_kept S _ o (openings_release m S q (get S.mail.releases q)) past
  still_past o none past (event.Bye q) = past_kept S _ o (openings_bye m S q (get S.mail.byes q)) past
  still_past o none past (event.Idle v) = past_kept S _ o (openings_idle m S v (get S.mail.idles v)) past
  still_past o none past (event.Nack v) = past_kept S _ o (openings_nack m S v) past
  still_past o none past (event.Retire v) = past_kept S _ o (openings_retire m S v (get S.versions v)) past
  still_past o none past (event.Copy b) = past_kept S _ o (openings_copy m S b (get S.copies b)) past
  still_past o none past (event.Gone v) = past_kept S _ o (openings_gone m S v (get S.mail.gones v)) past

  -- an enlisted operand stays enlisted
  still_enlisted : (e : Event) → IsEnabled m S e → (o : OpName) → EnlistedIn ts S o
      → EnlistedIn (spawned_after_event m S ts e) (after_event m S e) o
  still_enlisted e on o past =
      let r = still_past o past.0.2 (past.1, past.2) e in
      (still_decoded o m ts S e (h.0.0, past.0) on, r.0, r.1)

  -- ---- an operand that is enlisted now

  opened_past : (o : OpName) (c : Option OpenContents) → get S.mail.opens o ≡ c → can_open_message S c ≡ true
      → DecodedBy ts (front_of S) o × IsPast (open_message_taken (without S (event.Open o)) o c) o
  opened_past o None e on = absurd (true≢false (sym on))
  opened_past o (Some c) e on =
      let same = posted_all-later (taken S.mail (event.Open o)) _ (after_open-later S.versions o c) in (
        (h.0.1.8.1 o c e).0,
        (
          ap (λ m. get m o) same.opens ∙ at_removed name_order S.mail.opens o,
          ap (λ m. get m o) same.uses ∙ (h.1.opens o c e).1,
        ),
      )

  used_past : (o : OpName) (v : Option OpName) → get S.mail.uses o ≡ v → can_use_message S v ≡ true
      → DecodedBy ts (front_of S) o × IsPast (use_message_taken (without S (event.Use o)) o v) o
  used_past o None e on = absurd (true≢false (sym on))
  used_past o (Some v) e on =
      let same = posted_all-later (taken S.mail (event.Use o)) _ (after_use-later S.versions o v) in
      let none : get S.mail.opens o ≡ None =
      elim (decide_get S.mail.opens o) [
        | inl f ↦ f
        | inr c ↦ absurd (none-some v (sym (h.1.opens o c.0 c.1).1 ∙ e))
      ] in (
        (h.0.1.8.2 o v e).0,
        (
          ap (λ m. get m o) same.opens ∙ none,
          ap (λ m. get m o) same.uses ∙ at_removed name_order S.mail.uses o,
        ),
      )

  enlisted_by_open : (o : OpName) → IsEnabled m S (event.Open o)
      → EnlistedIn ts (after_event m S (event.Open o)) o
  unfolding is_enabled after_event
  enlisted_by_open o on =
      let r = opened_past o (get S.mail.opens o) refl on in
      (still_decoded o m ts S (event.Open o) (h.0.0, r.0) on, r.1.0, r.1.1)

  enlisted_by_use : (o : OpName) → IsEnabled m S (event.Use o) → EnlistedIn ts (after_event m S (event.Use o)) o
  unfolding is_enabled after_event
  enlisted_by_use o on =
      let r = used_past o (get S.mail.uses o) refl on in
      (still_decoded o m ts S (event.Use o) (h.0.0, r.0) on, r.1.0, r.1.1)

  enlisted_now : (e : Event) → IsEnabled m S e → (o : OpName) → (e ≡ event.Open o) ⊎ (e ≡ event.Use o)
      → EnlistedIn (spawned_after_event m S ts e) (after_event m S e) o
  enlisted_now e on o (inl is) =
      subst (λ e. IsEnabled m S e → EnlistedIn (spawned_after_event m S ts e) (after_event m S e) o) (sym is)
      (enlisted_by_open o) on
  enlisted_now e on o (inr is) =
      subst (λ e. IsEnabled m S e → EnlistedIn (spawned_after_event m S ts e) (after_event m S e) o) (sym is)
      (enlisted_by_use o) on

-- every event keeps it
pub AreOpeningsSound-after_event : IsKept AreOpeningsSound
AreOpeningsSound-after_event m ts S e h on =
    let P = DecodedBy ts (front_of S) in
    let us = spawned_after_event m S ts e in
    let Q = DecodedBy us (front_of (after_event m S e)) in
    let F = EnlistedIn us (after_event m S e) in (
      (
        IsFrontSound-after_event m ts S e h.0.0 on,
        StateNames-after_event Q F m S
            (state_weaker P Q (EnlistedIn ts S) F (λ o p. still_decoded o m ts S e (h.0.0, p) on)
            (still_enlisted m ts S h e on) S h.0.1)
            e
            (λ o is.
            subst (λ e. IsEnabled m S e → DecodedBy (spawned_after_event m S ts e) (front_of (after_event m S e)) o)
            (sym is) (decoded_now m ts S o h.0.0) on)
            (enlisted_now m ts S h e on),
      ),
      opens_after_event m ts S h e on,
    )

-- the first state has it
pub AreOpeningsSound-initial_state : (m : Machine) (i : ImageState) → AreOpeningsSound m [] (initial_state i)
AreOpeningsSound-initial_state m i = (
  (
    IsFrontSound-initial_state m i,
    StateNames-initial_state (DecodedBy [] (front_of (initial_state i))) (EnlistedIn [] (initial_state i)) i,
  ),
  record {
    opens = λ o c e. absurd (none-some c (sym (get-empty name_cmp o) ∙ e));
    uses = λ o v e. absurd (none-some v (sym (get-empty name_cmp o) ∙ e));
    versions = λ v x e. absurd (none-some x (sym (get-empty name_cmp v) ∙ e));
  },
)

-- the law of names
pub names_of_runs : NamesLaw
names_of_runs =
    law_from AreOpeningsSound HasDecodedNames AreOpeningsSound-initial_state AreOpeningsSound-after_event
    (λ m ts S h. each_name (IsDecoded ts S) (IsEnlisted ts S) S h.0.1)

-- what it says of openings
pub has_openings : (m : Machine) (ts : List Task) (S : State) → AreOpeningsSound m ts S → HasOpenings m ts S
has_openings m ts S h = record {
  opens = λ o c e.
      let r = h.1.opens o c e in
      record { operand = r.0; no_decode = (h.0.1.8.1 o c e).0.2; no_use = r.1; no_version = r.2 };
  uses = λ o v e.
      let r = h.1.uses o v e in
      let none : get S.mail.opens o ≡ None =
      elim (decide_get S.mail.opens o) [
        | inl f ↦ f
        | inr c ↦ absurd (none-some v (sym (h.1.opens o c.0 c.1).1 ∙ e))
      ] in
      record {
        operand = r.0.0;
        spawned = r.0.1;
        mode = r.0.2;
        no_decode = (h.0.1.8.2 o v e).0.2;
        no_open = none;
        no_version = r.1;
      };
  versions = λ v x e.
      let r = h.1.versions v x e in
      record { operand = r.0; spawned = r.1; object = r.2; no_decode = (h.0.1.6 v x e).0.0.2 };
}

-- the law of openings
pub openings_of_runs : OpeningsLaw
openings_of_runs =
    law_from AreOpeningsSound HasOpenings AreOpeningsSound-initial_state AreOpeningsSound-after_event has_openings
