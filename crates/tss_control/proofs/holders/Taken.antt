-- What operands hold after a take and a decode: an operand that is on its way to its version holds nothing yet.
use Rattle.std.proofs.Common.{◌≡◌, ◌≢◌, Bool, true, false, Option, Some, None, refl, sym, ap, ◌∙◌, subst, inl, inr}
use Rattle.std.proofs.Common.{true≢false}
use Rattle.std.specs.Prelude.{slice_get, option_map}
use Rattle.std.specs.FinMap.{get}
use Rattle.std.proofs.lemmas.Option.{none-some, same_Some}
use Rattle.tss_base.specs.declared.operand.OpName.{OpName}
use Rattle.tss_base.specs.declared.operand.Mode.{Mode}
use Rattle.tss_base.specs.declared.operand.Mode.TheVariants.{Input, Output, Inout}
use Rattle.tss_base.specs.declared.operand.Operand.{Operand}
use Rattle.tss_base.specs.declared.operand.Task.{Task}
use Rattle.tss_base.specs.declared.machine.Machine.{Machine}
use Rattle.tss_base.specs.declared.event.Event.TheVariants as event
use Rattle.tss_base.specs.declared.marks.LinkState.{LinkState}
use Rattle.tss_base.specs.declared.marks.LinkState.TheVariants as link
use Rattle.tss_maps.proofs.Keys.{nat_order, name_order, decide_key}
use Rattle.tss_model.specs.Access.{operands_of, writes}
use Rattle.tss_protocol.specs.Mail.{StorageName, Source, ReleaseContents}
use Rattle.tss_protocol.specs.State.{State, OperandState, Version}
use Rattle.tss_protocol.specs.Stations.{operand_at, new_operand, flight_after_take}
use Rattle.tss_protocol.specs.UnitMachine.{is_enabled, IsEnabled, after_event, after_take, can_decode_message}
use Rattle.tss_phases.specs.Phase.{Phase, Ahead, Decoding, Sent, Waiting, Promised}
use Rattle.tss_phases.specs.Phase.{Left, LookUps, look_ups, phase_at, phase_of}
use Rattle.tss_phases.specs.Openers.{version_opener, opener_by, produced_opener, open_opener}
use Rattle.tss_phases.specs.Orderly.{IsOrderly}
use Rattle.tss_phases.proofs.Tests.{something}
use Rattle.tss_phases.proofs.Shown.{ahead_shows}
use Rattle.tss_phases.proofs.PhaseLemmas.{phase_telling, phase_releasing, phase_leaving}
use Rattle.tss_phases.proofs.OrderlyLemmas.{decoding_stands, telling_stands, releasing_stands, leaving_stands}
use Rattle.tss_phases.proofs.OrderlyLemmas.{ahead_by_test}
use Rattle.tss_phases.proofs.OrderlyDecode.{new_record}
use Rattle.tss_phases.proofs.TakeEvent.{look_ups-take-other, inbox_is_ahead, phase_of-take}
use Rattle.tss_phases.proofs.DecodeEvent.{decoding_before, phase_of-decode, look_ups-decode-other}
use Rattle.tss_locality.proofs.LeftFields.{Leaves-after_event}
use Rattle.tss_names.specs.Tasks.{task_at}
use Rattle.tss_control.specs.Members.{operand_among}
use Rattle.tss_control.specs.Holders.{link_fits, HasHolders}
use Rattle.tss_control.proofs.readers.Links.{links-take, links-decode}
use Rattle.tss_control.proofs.holders.Fits.{Holding}
use Rattle.tss_control.proofs.holders.Moves.{holding_fresh, links_none}
use Rattle.tss_control.proofs.holders.Frames.{IsChangedHolder, holders_kept}
use Rattle.tss_control.proofs.holders.RunnerEvents.{HasRunners-after_event}
use Rattle.tss_control.proofs.holders.KeepsOrder.{keeps_order, AreOrderly-controlled}
use Rattle.tss_control.proofs.rounds.Facts.{Facts}

-- ---- operands on their way

-- decoding, or sent to its version
abbrev is_early : Phase → Bool
is_early Decoding = true
is_early Sent = true
is_early p = false

early_waits : (p : Phase) → is_early p ≡ true → p ≢ Waiting
early_waits p e same = true≢false (sym e ∙ ap is_early same)

early_promised : (p : Phase) → is_early p ≡ true → p ≢ Promised
early_promised p e same = true≢false (sym e ∙ ap is_early same)

early_fits : (p : Phase) → is_early p ≡ true → link_fits p link.Nothing ≡ true
early_fits Ahead e = refl
early_fits other e = refl

-- it has no link while it decodes
nothing_fits : (x : LinkState) → link_fits Decoding x ≡ true → x ≡ link.Nothing
nothing_fits link.Nothing e = refl
nothing_fits (link.Held next) e = absurd (true≢false (sym e))
nothing_fits link.Passed e = absurd (true≢false (sym e))

module _ (l : LookUps) (orderly : IsOrderly l) (early : is_early (phase_at l) ≡ true) where
  no_telling : (x : Option Source) → l.telling ≡ x → l.telling ≡ None
  no_telling None e = e
  no_telling (Some s) e =
      let a = (telling_stands l s orderly e).0 in
      absurd (true≢false (sym early ∙ ap is_early (phase_telling l s a.decoding a.opening a.using e)))

  no_releasing : (x : Option ReleaseContents) → l.releasing ≡ x → l.releasing ≡ None
  no_releasing None e = e
  no_releasing (Some s) e =
      let a = (releasing_stands l s orderly e).0 in
      absurd (true≢false (sym early ∙ ap is_early (phase_releasing l s a.decoding a.opening a.using a.telling e)))

  no_leaving : (x : Option Bool) → l.leaving ≡ x → l.leaving ≡ None
  no_leaving None e = e
  no_leaving (Some s) e =
      let a = (leaving_stands l s orderly e).0 in
      absurd (true≢false (sym early
      ∙ ap is_early (phase_leaving l s a.decoding a.opening a.using a.telling a.releasing e)))

  -- an operand on its way holds nothing, where it has no link and was told nothing
  holding_early : (T : Source → Type 0) (O C : Type 0) (w : Bool) (k : Option OpName) (r : OperandState) → k ≡ None
      → l.station ≡ Some r → r.source ≡ None → r.link ≡ link.Nothing → Holding T O C w l k
  holding_early T O C w k r no_link kept fresh nothing =
      let releasing = no_releasing l.releasing refl in
      let leaving = no_leaving l.leaving refl in
      holding_fresh T O C w l k r kept fresh releasing leaving
      (λ s e. absurd (none-some s (sym (no_telling l.telling refl) ∙ e)))
      (λ x e. absurd (early_waits (phase_at l) early e)) (λ x e. absurd (early_waits (phase_at l) early e))
      (links_none T O C w l k r kept fresh releasing leaving nothing (early_fits (phase_at l) early) no_link
      (early_promised (phase_at l) early))

-- ---- openers

no_opener_by : (y : Version) (mode : Mode) (p : Phase) → produced_opener mode p ≡ false
    → open_opener y.storage p ≡ false
    → (b : Bool) → opener_by y mode p b ≡ false
no_opener_by y mode p produced opened true = produced
no_opener_by y mode p produced opened false = opened

-- an operand that isn't sent yet has opened no version
no_opener_ahead : (y : Version) (mode : Mode) → version_opener y mode Ahead ≡ false
no_opener_ahead y mode = no_opener_by y mode Ahead (by mode) (at y.storage) y.produced
  where
    by : (mode : Mode) → produced_opener mode Ahead ≡ false
    by Input = refl
    by Output = refl
    by Inout = refl

    at : (s : Option StorageName) → open_opener s Ahead ≡ false
    at None = refl
    at (Some s) = refl

-- no version has an opener that is being decoded
no_opener_decoding : (y : Version) (mode : Mode) → version_opener y mode Decoding ≡ false
no_opener_decoding y mode = no_opener_by y mode Decoding (by mode) (at y.storage) y.produced
  where
    by : (mode : Mode) → produced_opener mode Decoding ≡ false
    by Input = refl
    by Output = refl
    by Inout = refl

    at : (s : Option StorageName) → open_opener s Decoding ≡ false
    at None = refl
    at (Some s) = refl

module _ (m : Machine) (S : State) (facts : Facts m S) where
  open facts use {all, ts, g, ground, control as h}

  -- ---- decode

  module _ (o : OpName) (operand : Operand) (there : get S.mail.decodes o ≡ Some operand)
      (on : IsEnabled m S (event.Decode o)) where
    abbrev Decoded : State
    Decoded = after_event m S (event.Decode o)

    decoded_flight : Decoded.flight ≡ S.flight
    decoded_flight = λ i. (Leaves-after_event m S (event.Decode o) i).flight

    decoded_own : IsChangedHolder ts g S Decoded o
    decoded_own =
        let r = (decoding_stands (look_ups S o) operand (h.orderly o) there).1.0 in
        let phase = decoding_before m S o operand there in
        let sent = phase_of-decode m S o operand there in
        record {
          holds = λ p at was.
              let links = was.links r.kept r.there in
              holding_early (look_ups Decoded o) (AreOrderly-controlled m S facts (event.Decode o) on o)
              (ap is_early sent) _ _ _ (writes p.mode) (get Decoded.mail.links o) r.kept
              (ap (λ ls. get ls o) (links-decode m S o) ∙ links.early (inl phase))
              (ap (λ f. operand_at f o) decoded_flight ∙ r.there) r.told
              (nothing_fits r.kept.link (ap (λ p. link_fits p r.kept.link) (sym phase) ∙ links.fits));
          opener = λ y p e at opens.
              absurd (true≢false (sym opens ∙ ap (version_opener y p.mode) phase ∙ no_opener_decoding y p.mode));
          records = λ next e.
              let k = h.holders.records o next (sym (ap (λ ls. get ls o) (links-decode m S o)) ∙ e) in
              (k.0, ap (λ f. operand_at f o) decoded_flight ∙ k.1, λ left. sent_left (sym sent ∙ left));
        }
      where
        sent_left : Sent ≡ Left → ⊥
        sent_left e = cc

    holders_decoded : HasHolders ts g Decoded
    holders_decoded =
        holders_kept ts g S Decoded (λ i. (Leaves-after_event m S (event.Decode o) i).versions) h.orderly
        (HasRunners-after_event m all S ground.numbers ground.stages h.orderly h.holders.runners (event.Decode o) on tt)
        (λ q. elim (decide_key name_order q o) [
          | inl same ↦ inr (subst (IsChangedHolder ts g S Decoded) (sym same) decoded_own)
          | inr other ↦ inl (record {
            looked = look_ups-decode-other m S o operand there q other;
            links = ap (λ ls. get ls q) (links-decode m S o);
          })
        ])
        h.holders

  -- decode
  pub HasHolders-decode : (o : OpName) → IsEnabled m S (event.Decode o)
      → HasHolders ts g (after_event m S (event.Decode o))
  unfolding is_enabled
  HasHolders-decode o on =
      let x = something (can_decode_message m S o) (get S.mail.decodes o) refl on in
      holders_decoded o x.0 x.1 on

  -- ---- take

  module _ (t : Task) (inbox : S.inbox ≡ Some t) (on : IsEnabled m S event.Take) where
    abbrev Taken : State
    Taken = after_event m S event.Take

    taken_flight : (q : OpName) → operand_at Taken.flight q ≡ operand_at (flight_after_take S.flight t) q
    unfolding after_event
    taken_flight q = ap (λ x. operand_at (after_take S x).flight q) inbox

    -- of an operand of the task nothing stood before
    was_ahead : (q : OpName) → q.task ≡ t.number → phase_of S q ≡ Ahead
    was_ahead q same = ahead_by_test (look_ups S q) (h.orderly q) (inbox_is_ahead m S t inbox q same)

    no_link_before : (q : OpName) → q.task ≡ t.number → (next : OpName) → get Taken.mail.links q ≡ Some next → ⊥
    no_link_before q same next e =
        let k = h.holders.records q next (sym (ap (λ ls. get ls q) (links-take m S)) ∙ e) in
        let none = (ahead_shows (look_ups S q) (was_ahead q same)).1.0 in
        none-some k.0 (sym none ∙ k.1)

    none_by : {X : Type 0} → (x : Option X) → ((y : X) → x ≡ Some y → ⊥) → x ≡ None
    none_by None never = refl
    none_by (Some y) never = absurd (never y refl)

    -- an operand of the round's task is at its place of the task
    its_operand : (q : OpName) (p : Operand) → operand_among ts q ≡ Some p → q.task ≡ t.number
        → slice_get (operands_of t) q.place ≡ Some p
    its_operand q p at same =
        let is = ground.known.operands q p at in
        let newest = (ground.numbers.inbox t inbox).task in
        let one = same_Some is.task t (sym is.spawned ∙ ap (task_at all) same ∙ newest) in
        ap (λ t. slice_get (operands_of t) q.place) (sym one) ∙ is.place

    taken_own : (q : OpName) → q.task ≡ t.number → IsChangedHolder ts g S Taken q
    taken_own q same = record {
      holds = λ p at was.
          let here = its_operand q p at same in
          let phase = phase_of-take m S t inbox q p same here in
          holding_early (look_ups Taken q) (AreOrderly-controlled m S facts event.Take on q)
          (ap is_early phase) _ _ _ (writes p.mode) (get Taken.mail.links q) (new_operand p)
          (none_by (get Taken.mail.links q) (no_link_before q same))
          (taken_flight q
          ∙ new_record m S h.orderly t inbox (keeps_order m S facts event.Take t inbox) q same
          ∙ ap (option_map new_operand) here)
          refl refl;
      opener = λ y p e at opens.
          absurd (true≢false (sym opens ∙ ap (version_opener y p.mode) (was_ahead q same) ∙ no_opener_ahead y p.mode));
      records = λ next e. absurd (no_link_before q same next e);
    }

    holders_taken : HasHolders ts g Taken
    holders_taken =
        holders_kept ts g S Taken (λ i. (Leaves-after_event m S event.Take i).versions) h.orderly
        (HasRunners-after_event m all S ground.numbers ground.stages h.orderly h.holders.runners event.Take on
        (keeps_order m S facts event.Take))
        (λ q. elim (decide_key nat_order q.task t.number) [
          | inl same ↦ inr (taken_own q same)
          | inr other ↦ inl (record {
            looked = look_ups-take-other m S t inbox q other;
            links = ap (λ ls. get ls q) (links-take m S);
          })
        ])
        h.holders

  -- take
  pub HasHolders-take : IsEnabled m S event.Take → HasHolders ts g (after_event m S event.Take)
  unfolding after_event
  HasHolders-take on = by S.inbox refl
    where
      by : (x : Option Task) → S.inbox ≡ x → HasHolders ts g (after_take S S.inbox)
      by None e = subst (λ x. HasHolders ts g (after_take S x)) (sym e) h.holders
      by (Some t) e = holders_taken t e on
