-- What stands at home stays right after each event that leaves it: all but those of main, decode, start, exec, copy and
-- gone.
use Rattle.std.proofs.Common.{◌≡◌, ℕ, Bool, true, false, Option, Some, None, refl, sym, ap, ◌∙◌, inl, inr, arith}
use Rattle.std.specs.Prelude.{slice_get, ◌||◌, nat_lt}
use Rattle.std.specs.FinMap.{get}
use Rattle.std.proofs.lemmas.Option.{same_Some}
use Rattle.tss_base.specs.declared.operand.OpName.{OpName}
use Rattle.tss_base.specs.declared.operand.Operand.{Operand}
use Rattle.tss_base.specs.declared.operand.Task.{Task}
use Rattle.tss_base.specs.declared.machine.Machine.{Machine}
use Rattle.tss_base.specs.declared.event.Event.{Event}
use Rattle.tss_base.specs.declared.event.Event.TheVariants as event
use Rattle.tss_base.specs.Image.{ImageState}
use Rattle.tss_maps.proofs.Keys.{name_order, nat_order, decide_key}
use Rattle.tss_maps.proofs.Changes.{at_inserted, beside_inserted, from_removed}
use Rattle.tss_protocol.specs.Mail.{OpenContents, ReleaseContents, IdleContents, Mail, taken}
use Rattle.tss_protocol.specs.State.{State, Entry, Version}
use Rattle.tss_protocol.specs.Renaming.{may_retire, retiring_entry, idle_by, after_idle}
use Rattle.tss_protocol.specs.Versions.{after_open, after_use, after_release, after_nack}
use Rattle.tss_protocol.specs.Buffers.{sent_by_retire}
use Rattle.tss_protocol.specs.UnitMachine.{is_enabled, IsEnabled, after_event, without, can_take, open_message_taken}
use Rattle.tss_protocol.specs.UnitMachine.{use_message_taken, release_message_taken, idle_message_taken, retire_version}
use Rattle.tss_phases.specs.Phase.{is_decoded, phase_of, LookUps}
use Rattle.tss_phases.proofs.TakeEvent.{inbox_is_ahead, phase_of-take, phase_of-take-other, look_ups-take}
use Rattle.tss_phases.proofs.TakeEvent.{look_ups-take-other, decodes_own}
use Rattle.tss_phases.proofs.OrderlyLemmas.{ahead_by_test}
use Rattle.tss_phases.proofs.QuietEvents.{phase_of-ack}
use Rattle.tss_phases.proofs.Tests.{something}
use Rattle.tss_phases.specs.Phase.{look_ups}
use Rattle.tss_model.specs.Access.{operands_of}
use Rattle.tss_locality.proofs.LeftFields.{Leaves-after_event}
use Rattle.tss_names.specs.Tasks.{task_at}
use Rattle.tss_control.specs.Members.{operand_among}
use Rattle.tss_protocol.proofs.FrontLemmas.{is_of_front}
use Rattle.tss_protocol.proofs.SentLemmas.{posted_all-later, after_open-later, after_use-later, after_release-later}
use Rattle.tss_protocol.proofs.SentLemmas.{after_nack-later, after_idle-later, sent_by_retire-later}
use Rattle.tss_control.proofs.rounds.EntriesQuiet.{quiet_objects}
use Rattle.tss_values.proofs.Values.{HasHome, IsUnclaimed}
use Rattle.tss_control.proofs.holders.KeepsOrder.{AreOrderly-controlled}
use Rattle.tss_values.proofs.home.Kept.{home_kept, decoded_kept, EntriesStay, stay_absent, stay_loose, stay_unclaimed}
use Rattle.tss_values.proofs.home.Kept.{later_unclaimed}
use Rattle.tss_control.proofs.rounds.Facts.{Facts}
use Rattle.tss_protocol.specs.Names.{operand_name}
use Rattle.tss_protocol.specs.Stations.{operand_at, flight_after_take}

-- opens that are under way were so before
abbrev NoMoreOpens : Mail → Mail → Type 0
NoMoreOpens m n = (o : OpName) (c : OpenContents) → get n.opens o ≡ Some c → get m.opens o ≡ Some c

same_opens : (m n : Mail) → n.opens ≡ m.opens → NoMoreOpens m n
same_opens m n e o c at = ap (λ os. get os o) (sym e) ∙ at

module _ (m : Machine) (S : State) where
  -- ---- opens

  opens-open : (o : OpName) (c : Option OpenContents)
      → NoMoreOpens S.mail (open_message_taken (without S (event.Open o)) o c).mail
  opens-open o None = λ q k at. (from_removed name_order S.mail.opens o q k at).1
  opens-open o (Some c) = λ q k at.
      (from_removed name_order S.mail.opens o q k
      (ap (λ os. get os q)
      (sym (posted_all-later (taken S.mail (event.Open o)) (after_open S.versions o c).sent
      (after_open-later S.versions o c)).opens) ∙ at)).1

  opens-use : (o : OpName) (v : Option OpName)
      → (use_message_taken (without S (event.Use o)) o v).mail.opens ≡ S.mail.opens
  opens-use o None = refl
  opens-use o (Some v) =
      (posted_all-later (taken S.mail (event.Use o)) (after_use S.versions o v).sent
      (after_use-later S.versions o v)).opens

  opens-release : (o : OpName) (r : Option ReleaseContents)
      → (release_message_taken (without S (event.Release o)) o r).mail.opens ≡ S.mail.opens
  opens-release o None = refl
  opens-release o (Some r) =
      (posted_all-later (taken S.mail (event.Release o)) (after_release S.versions o r).sent
      (after_release-later S.versions o r)).opens

  opens-idle : (v : OpName) (i : Option IdleContents)
      → (idle_message_taken (without S (event.Idle v)) v i).mail.opens ≡ S.mail.opens
  opens-idle v None = refl
  opens-idle v (Some i) =
      (posted_all-later (taken S.mail (event.Idle v)) (after_idle S.entries v i.base i.count).sent
      (after_idle-later S.entries v i.base i.count)).opens

  opens-retire : (v : OpName) (x : Option Version)
      → (retire_version m (without S (event.Retire v)) v x).mail.opens ≡ S.mail.opens
  opens-retire v None = refl
  opens-retire v (Some x) =
      (posted_all-later (taken S.mail (event.Retire v)) (sent_by_retire v x.object x.storage)
      (sent_by_retire-later v x.object x.storage)).opens

  -- ---- entries after an idle

  retiring_stay : (b : ℕ) (e : Option Entry) → get S.entries b ≡ e → (q : ℕ) (x : Entry) → get S.entries q ≡ Some x
      → (f : Entry) × (get (retiring_entry S.entries b e) q ≡ Some f) × (f.object ≡ x.object)
  retiring_stay b None is q x at = (x, at, refl)
  retiring_stay b (Some e) is q x at = elim (decide_key nat_order q b) [
    | inl same ↦ (
      record e { retiring = true },
      ap (get (retiring_entry S.entries b (Some e))) same
          ∙ at_inserted nat_order S.entries b (record e { retiring = true }),
      ap (λ (e : Entry). e.object) (same_Some e x (sym is ∙ ap (get S.entries) (sym same) ∙ at)),
    )
    | inr apart ↦
        (x, beside_inserted nat_order S.entries b (record e { retiring = true }) q apart ∙ at, refl)
  ]

  idle_stay : (v : OpName) (b : ℕ) (e : Option Entry) → get S.entries b ≡ e → (may : Bool) (q : ℕ) (x : Entry)
      → get S.entries q ≡ Some x
      → (f : Entry) × (get (idle_by S.entries v b e may).part q ≡ Some f) × (f.object ≡ x.object)
  idle_stay v b e is true q x at = retiring_stay b e is q x at
  idle_stay v b e is false q x at = (x, at, refl)

  entries-idle : (v : OpName) (i : Option IdleContents)
      → EntriesStay S (idle_message_taken (without S (event.Idle v)) v i)
  entries-idle v None q x at = (x, at, refl)
  entries-idle v (Some i) q x at =
      idle_stay v i.base (get S.entries i.base) refl (may_retire v i.count (get S.entries i.base)) q x at

  opens-nack : (v : OpName) → (after_event m S (event.Nack v)).mail.opens ≡ S.mail.opens
  unfolding after_event
  opens-nack v =
      (posted_all-later (taken S.mail (event.Nack v)) (after_nack S.versions v).sent
      (after_nack-later S.versions v)).opens

  more-open : (o : OpName) → NoMoreOpens S.mail (after_event m S (event.Open o)).mail
  unfolding after_event
  more-open o = opens-open o (get S.mail.opens o)

  more-use : (o : OpName) → NoMoreOpens S.mail (after_event m S (event.Use o)).mail
  unfolding after_event
  more-use o = same_opens S.mail (after_event m S (event.Use o)).mail (opens-use o (get S.mail.uses o))

  more-release : (o : OpName) → NoMoreOpens S.mail (after_event m S (event.Release o)).mail
  unfolding after_event
  more-release o = same_opens S.mail (after_event m S (event.Release o)).mail (opens-release o (get S.mail.releases o))

  more-idle : (v : OpName) → NoMoreOpens S.mail (after_event m S (event.Idle v)).mail
  unfolding after_event
  more-idle v = same_opens S.mail (after_event m S (event.Idle v)).mail (opens-idle v (get S.mail.idles v))

  more-retire : (v : OpName) → NoMoreOpens S.mail (after_event m S (event.Retire v)).mail
  unfolding after_event
  more-retire v = same_opens S.mail (after_event m S (event.Retire v)).mail (opens-retire v (get S.versions v))

  stay-idle : (v : OpName) → EntriesStay S (after_event m S (event.Idle v))
  unfolding after_event
  stay-idle v = entries-idle v (get S.mail.idles v)

-- ---- the events

module _ (m : Machine) (i : ImageState) (S : State) (facts : Facts m S) (values : HasHome m i facts.ts S) where
  open facts use {all, ts, ground, control as h}

  -- one behind the gateway
  by_later : (e : Event) → IsEnabled m S e → is_of_front e ≡ false → (after_event m S e).home ≡ S.home
      → (after_event m S e).main ≡ S.main
      → EntriesStay S (after_event m S e) → NoMoreOpens S.mail (after_event m S e).mail
      → HasHome m i ts (after_event m S e)
  by_later e on later home main entries opens =
      home_kept m i ts S (after_event m S e) (record {
        home = home;
        main = main;
        entries = stay_absent S (after_event m S e) entries;
        unclaimed = later_unclaimed m S e later entries;
        opens = opens;
        decoded = λ o p at.
            decoded_kept m S e later h.orderly (AreOrderly-controlled m S facts e on) o;
      }) values

  same_entries : (T : State) → T.entries ≡ S.entries → EntriesStay S T
  same_entries T e b x at = (x, ap (λ es. get es b) e ∙ at, refl)

  -- open
  pub HasHome-open : (o : OpName) → IsEnabled m S (event.Open o)
      → HasHome m i ts (after_event m S (event.Open o))
  HasHome-open o on =
      let e = event.Open o in
      by_later e on refl (λ j. (Leaves-after_event m S e j).home) (λ j. (Leaves-after_event m S e j).main)
      (same_entries (after_event m S e) (λ j. (Leaves-after_event m S e j).entries)) (more-open m S o)

  -- use
  pub HasHome-use : (o : OpName) → IsEnabled m S (event.Use o)
      → HasHome m i ts (after_event m S (event.Use o))
  HasHome-use o on =
      let e = event.Use o in
      by_later e on refl (λ j. (Leaves-after_event m S e j).home) (λ j. (Leaves-after_event m S e j).main)
      (same_entries (after_event m S e) (λ j. (Leaves-after_event m S e j).entries)) (more-use m S o)

  -- release
  pub HasHome-release : (o : OpName) → IsEnabled m S (event.Release o)
      → HasHome m i ts (after_event m S (event.Release o))
  HasHome-release o on =
      let e = event.Release o in
      by_later e on refl (λ j. (Leaves-after_event m S e j).home) (λ j. (Leaves-after_event m S e j).main)
      (same_entries (after_event m S e) (λ j. (Leaves-after_event m S e j).entries)) (more-release m S o)

  -- nack
  pub HasHome-nack : (v : OpName) → IsEnabled m S (event.Nack v)
      → HasHome m i ts (after_event m S (event.Nack v))
  HasHome-nack v on =
      let e = event.Nack v in
      by_later e on refl (λ j. (Leaves-after_event m S e j).home) (λ j. (Leaves-after_event m S e j).main)
      (same_entries (after_event m S e) (λ j. (Leaves-after_event m S e j).entries))
      (same_opens S.mail (after_event m S e).mail (opens-nack m S v))

  -- retire
  pub HasHome-retire : (v : OpName) → IsEnabled m S (event.Retire v)
      → HasHome m i ts (after_event m S (event.Retire v))
  HasHome-retire v on =
      let e = event.Retire v in
      by_later e on refl (λ j. (Leaves-after_event m S e j).home) (λ j. (Leaves-after_event m S e j).main)
      (same_entries (after_event m S e) (λ j. (Leaves-after_event m S e j).entries)) (more-retire m S v)

  -- idle
  pub HasHome-idle : (v : OpName) → IsEnabled m S (event.Idle v)
      → HasHome m i ts (after_event m S (event.Idle v))
  HasHome-idle v on =
      let e = event.Idle v in
      by_later e on refl (λ j. (Leaves-after_event m S e j).home) (λ j. (Leaves-after_event m S e j).main)
      (stay-idle m S v) (more-idle m S v)

  -- ready
  pub HasHome-ready : (o : OpName) → IsEnabled m S (event.Ready o)
      → HasHome m i ts (after_event m S (event.Ready o))
  HasHome-ready o on =
      let e = event.Ready o in
      by_later e on refl (λ j. (Leaves-after_event m S e j).home) (λ j. (Leaves-after_event m S e j).main)
      (same_entries (after_event m S e) (λ j. (Leaves-after_event m S e j).entries))
      (same_opens S.mail (after_event m S e).mail (quiet_objects m S e tt).opens)

  -- link
  pub HasHome-link : (o : OpName) → IsEnabled m S (event.Link o)
      → HasHome m i ts (after_event m S (event.Link o))
  HasHome-link o on =
      let e = event.Link o in
      by_later e on refl (λ j. (Leaves-after_event m S e j).home) (λ j. (Leaves-after_event m S e j).main)
      (same_entries (after_event m S e) (λ j. (Leaves-after_event m S e j).entries))
      (same_opens S.mail (after_event m S e).mail (quiet_objects m S e tt).opens)

  -- bye
  pub HasHome-bye : (o : OpName) → IsEnabled m S (event.Bye o)
      → HasHome m i ts (after_event m S (event.Bye o))
  HasHome-bye o on =
      let e = event.Bye o in
      by_later e on refl (λ j. (Leaves-after_event m S e j).home) (λ j. (Leaves-after_event m S e j).main)
      (same_entries (after_event m S e) (λ j. (Leaves-after_event m S e j).entries))
      (same_opens S.mail (after_event m S e).mail (quiet_objects m S e tt).opens)

  -- finish
  pub HasHome-finish : (w : ℕ) → IsEnabled m S (event.Finish w)
      → HasHome m i ts (after_event m S (event.Finish w))
  HasHome-finish w on =
      let e = event.Finish w in
      by_later e on refl (λ j. (Leaves-after_event m S e j).home) (λ j. (Leaves-after_event m S e j).main)
      (same_entries (after_event m S e) (λ j. (Leaves-after_event m S e j).entries))
      (same_opens S.mail (after_event m S e).mail (quiet_objects m S e tt).opens)

  decodes-ack : (o : OpName) → (after_event m S (event.Ack o)).mail.decodes ≡ S.mail.decodes
  unfolding after_event
  decodes-ack o = refl

  -- ack
  pub HasHome-ack : (o : OpName) → HasHome m i ts (after_event m S (event.Ack o))
  HasHome-ack o =
      let e = event.Ack o in
      home_kept m i ts S (after_event m S e) (record {
        home = λ j. (Leaves-after_event m S e j).home;
        main = λ j. (Leaves-after_event m S e j).main;
        entries =
            stay_absent S (after_event m S e)
            (same_entries (after_event m S e) (λ j. (Leaves-after_event m S e j).entries));
        unclaimed =
            stay_unclaimed S (after_event m S e)
            (same_entries (after_event m S e) (λ j. (Leaves-after_event m S e j).entries))
            (λ j. (Leaves-after_event m S e j).inbox) (decodes-ack o);
        opens = same_opens S.mail (after_event m S e).mail (quiet_objects m S e tt).opens;
        decoded = λ q p at. ap is_decoded (phase_of-ack m S o q);
      }) values

  -- ---- take

  taken_decoded : (t : Task) → S.inbox ≡ Some t → (o : OpName) (p : Operand) → operand_among ts o ≡ Some p
      → is_decoded (phase_of (after_event m S event.Take) o) ≡ is_decoded (phase_of S o)
  taken_decoded t inbox o p at = elim (decide_key nat_order o.task t.number) [
    | inr other ↦ ap is_decoded (phase_of-take-other m S t inbox o other)
    | inl same ↦
        let k = ground.known.operands o p at in
        let is = same_Some k.task t
        (sym k.spawned ∙ ap (task_at all) same ∙ (ground.numbers.inbox t inbox).task) in
        let place = ap (λ t. slice_get (operands_of t) o.place) (sym is) ∙ k.place in
        ap is_decoded (phase_of-take m S t inbox o p same place)
        ∙ sym (ap is_decoded
        (ahead_by_test (look_ups S o) (h.orderly o) (inbox_is_ahead m S t inbox o same)))
  ]

  -- each operand of the task is to be decoded
  taken_decode : (t : Task) → S.inbox ≡ Some t → (o : OpName) (p : Operand) → o.task ≡ t.number
      → slice_get (operands_of t) o.place ≡ Some p → get (after_event m S event.Take).mail.decodes o ≡ Some p
  taken_decode t inbox o p number at =
      let l : LookUps = record (look_ups S o) {
        station = operand_at (flight_after_take S.flight t) o;
        ahead = nat_lt S.main.spawned o.task || false;
      } in
      ap (λ (l : LookUps). l.decoding)
      (look_ups-take m S t inbox o ∙ decodes_own t.number 0 (operands_of t) o.place p o l at number (omega arith))

  -- and what was to be decoded still is
  still_decode : (t : Task) → S.inbox ≡ Some t → (o : OpName) (p : Operand) → get S.mail.decodes o ≡ Some p
      → get (after_event m S event.Take).mail.decodes o ≡ Some p
  still_decode t inbox o p there = elim (decide_key nat_order o.task t.number) [
    | inr other ↦ ap (λ (l : LookUps). l.decoding) (look_ups-take-other m S t inbox o other) ∙ there
    | inl same ↦
        let k = (ground.gateway.decodes o p there).2 in
        let is = same_Some k.task t (sym k.spawned ∙ ap (task_at all) same ∙ (ground.numbers.inbox t inbox).task) in
        taken_decode t inbox o p same (ap (λ t. slice_get (operands_of t) o.place) (sym is) ∙ k.place)
  ]

  taken_unclaimed : (t : Task) → S.inbox ≡ Some t → (a : ℕ) → IsUnclaimed (after_event m S event.Take) a
      → IsUnclaimed S a
  taken_unclaimed t inbox a free =
      let e : Event = event.Take in
      record {
        entered =
            stay_loose S (after_event m S e)
            (same_entries (after_event m S e) (λ j. (Leaves-after_event m S e j).entries)) a free.entered;
        arriving = λ u there j p at inside.
            let is = same_Some u t (sym there ∙ inbox) in
            free.decoding (operand_name t.number j) p
            (taken_decode t inbox (operand_name t.number j) p refl
            (ap (λ u. slice_get (operands_of u) j) (sym is) ∙ at)) inside;
        decoding = λ o p at inside. free.decoding o p (still_decode t inbox o p at) inside;
      }

  taken_home : (t : Task) → S.inbox ≡ Some t → HasHome m i ts (after_event m S event.Take)
  taken_home t inbox =
      let e : Event = event.Take in
      home_kept m i ts S (after_event m S e) (record {
        home = λ j. (Leaves-after_event m S e j).home;
        main = λ j. (Leaves-after_event m S e j).main;
        entries =
            stay_absent S (after_event m S e)
            (same_entries (after_event m S e) (λ j. (Leaves-after_event m S e j).entries));
        unclaimed = taken_unclaimed t inbox;
        opens = same_opens S.mail (after_event m S e).mail (quiet_objects m S e tt).opens;
        decoded = taken_decoded t inbox;
      }) values

  -- take
  pub HasHome-take : IsEnabled m S event.Take → HasHome m i ts (after_event m S event.Take)
  unfolding is_enabled
  HasHome-take on =
      let t = something (can_take m S) S.inbox refl on in
      taken_home t.0 t.1
