-- What an event changes of the lists of names: nothing but for its suspects.
use Rattle.std.proofs.Common.{◌≡◌, ◌≢◌, ◌⊎◌, true, false, Some, None, refl, sym, ap, ◌∙◌, subst, inl, inr}
use Rattle.std.specs.Prelude.{is_some}
use Rattle.std.specs.FinMap.{get, remove}
use Rattle.tss_base.specs.declared.operand.OpName.{OpName}
use Rattle.tss_base.specs.declared.machine.Machine.{Machine}
use Rattle.tss_base.specs.declared.event.Event.{Event}
use Rattle.tss_base.specs.declared.event.Event.TheVariants as event
use Rattle.tss_maps.proofs.Keys.{name_order}
use Rattle.tss_maps.proofs.Changes.{beside_removed, from_removed}
use Rattle.std.proofs.lemmas.Option.{none-some, same_Some}
use Rattle.tss_protocol.specs.Counts.{message_limit}
use Rattle.tss_protocol.specs.State.{State}
use Rattle.tss_protocol.specs.MainEvent.{call_next}
use Rattle.tss_protocol.specs.UnitMachine.{is_enabled, after_event}
use Rattle.tss_names.proofs.OpeningFrames.{all_from, KeepsOpenings, openings_main, openings_take, openings_ready, openings_link, openings_bye, openings_start, openings_exec, openings_finish, openings_release, openings_idle, openings_nack, openings_retire, openings_copy, openings_gone}
use Rattle.tss_control.proofs.rounds.Facts.{Facts}
use Rattle.tss_conditions.proofs.Known.{facts_reached}
use Rattle.tss_mail.specs.declared.kind.Kind.{Kind}
use Rattle.tss_mail.specs.declared.kind.Kind.TheVariants as kind
use Rattle.tss_mail.specs.Kinds.{event_of}
use Rattle.tss_pipeline.specs.declared.listing.Suspects.TheVariants as suspects
use Rattle.tss_pipeline.specs.declared.units.Units.{Units}
use Rattle.tss_pipeline.specs.State.{state_of}
use Rattle.tss_pipeline.specs.Fit.{IsFit}
use Rattle.tss_pipeline.specs.Does.{Does}
use Rattle.tss_pipeline.specs.Listing.{Names, is_listed, is_there, marked, may_happen, FitsBeside, FitsIn, AreListed, WereListed, name_taken, suspects_of, suspects_of_open, suspects_of_use}
use Rattle.tss_pipeline.proofs.listed.ListedNames.{value_of, happens_there, one_tested}
use Rattle.tss_pipeline.proofs.listed.WaitingLemmas.{open_waits, use_waits, decode_others, open_letters, use_letters}

not_both : false ≡ true → ⊥
not_both e = cc

one_nobody : (o : OpName) → suspects.One o ≡ suspects.Nobody → ⊥
one_nobody o e = cc

all_nobody : suspects.All ≡ suspects.Nobody → ⊥
all_nobody e = cc

nobody_one : (o : OpName) → suspects.Nobody ≡ suspects.One o → ⊥
nobody_one o e = cc

all_one : (o : OpName) → suspects.All ≡ suspects.One o → ⊥
all_one o e = cc

one_one : (p o : OpName) → suspects.One p ≡ suspects.One o → p ≡ o
one_one p o e = cc

nobody_all : suspects.Nobody ≡ suspects.All → ⊥
nobody_all e = cc

one_all : (o : OpName) → suspects.One o ≡ suspects.All → ⊥
one_all o e = cc

module _ (m : Machine) (S : State) where
  -- events that neither send nor take an open or a use
  openings_kept : (e : Event) → suspects_of_use e ≡ suspects.Nobody → KeepsOpenings S (after_event m S e)
  unfolding after_event
  openings_kept event.Main none = openings_main m S (call_next m S)
  openings_kept event.Take none = openings_take m S S.inbox
  openings_kept (event.Decode o) none = absurd (one_nobody o none)
  openings_kept (event.Ack o) none = record { opens = refl; uses = refl; versions = all_from S.versions }
  openings_kept (event.Open o) none = absurd (all_nobody none)
  openings_kept (event.Use o) none = absurd (one_nobody o none)
  openings_kept (event.Ready o) none = openings_ready m S o (get S.mail.readies o)
  openings_kept (event.Link o) none = openings_link m S o (get S.mail.links o)
  openings_kept (event.Start w) none = openings_start m S w S.queue
  openings_kept (event.Exec w) none = openings_exec m S w (get S.workers w)
  openings_kept (event.Finish w) none = openings_finish m S w (get S.workers w)
  openings_kept (event.Release o) none = openings_release m S o (get S.mail.releases o)
  openings_kept (event.Bye o) none = openings_bye m S o (get S.mail.byes o)
  openings_kept (event.Idle v) none = openings_idle m S v (get S.mail.idles v)
  openings_kept (event.Nack v) none = openings_nack m S v
  openings_kept (event.Retire v) none = openings_retire m S v (get S.versions v)
  openings_kept (event.Copy b) none = openings_copy m S b (get S.copies b)
  openings_kept (event.Gone v) none = openings_gone m S v (get S.mail.gones v)

  -- opens are left alone by a use, too
  opens_nobody : (e : Event) → suspects_of_open e ≡ suspects.Nobody
      → (suspects_of_use e ≡ suspects.Nobody) ⊎ ((o : OpName) × (e ≡ event.Use o))
  opens_nobody event.Main none = inl refl
  opens_nobody event.Take none = inl refl
  opens_nobody (event.Decode o) none = inl none
  opens_nobody (event.Ack o) none = inl refl
  opens_nobody (event.Open o) none = inl none
  opens_nobody (event.Use o) none = inr (o, refl)
  opens_nobody (event.Ready o) none = inl refl
  opens_nobody (event.Link o) none = inl refl
  opens_nobody (event.Start w) none = inl refl
  opens_nobody (event.Exec w) none = inl refl
  opens_nobody (event.Finish w) none = inl refl
  opens_nobody (event.Release o) none = inl refl
  opens_nobody (event.Bye o) none = inl refl
  opens_nobody (event.Idle v) none = inl refl
  opens_nobody (event.Nack v) none = inl refl
  opens_nobody (event.Retire v) none = inl refl
  opens_nobody (event.Copy b) none = inl refl
  opens_nobody (event.Gone v) none = inl refl

module _ (e : Event) (old new : Units) (fit : IsFit old) (does : Does e old new) where
  abbrev S : State
  S = state_of old

  abbrev T : State
  T = after_event old.machine S e

  before : Facts old.machine S
  before = facts_reached old.machine fit.reached.image S fit.reached.reached

  after : Facts new.machine (state_of new)
  after = facts_reached new.machine does.fit.reached.image (state_of new) does.fit.reached.reached

  -- that of the definitions' state after the event
  after_as : (U : State) → state_of new ≡ U → Facts new.machine U
  after_as U same = subst (Facts new.machine) same after

  -- what may happen is told by the state after the event
  happens_as : (k : Kind) (o : OpName) → may_happen new k o ≡ is_enabled old.machine T (event_of k o)
  happens_as k o = λ i. is_enabled (does.machine i) (does.state i) (event_of k o)

  there_as : (k : Kind) (o : OpName) → is_there (state_of new).mail k o ≡ is_there T.mail k o
  there_as k o = ap (λ (U : State). is_there U.mail k o) does.state

  open_nobody : suspects_of_open e ≡ suspects.Nobody → (o : OpName)
      → is_enabled old.machine T (event.Open o) ≡ is_enabled old.machine S (event.Open o)
  unfolding is_enabled
  open_nobody none o = elim (opens_nobody old.machine S e none) [
    | inl quiet ↦
        let k = openings_kept old.machine S e quiet in
        open_waits old.machine new.machine S T before (after_as T does.state) k.opens k.versions o
    | inr own ↦
        let is = ap (after_event old.machine S) own.1 in
        let k = use_letters old.machine S own.0 in
        open_waits old.machine new.machine S T before (after_as T does.state)
        (ap (λ (U : State). U.mail.opens) is ∙ k.opens)
        (λ v x at. k.versions v x (ap (λ (U : State). get U.versions v) (sym is) ∙ at)) o
  ]

  use_nobody : suspects_of_use e ≡ suspects.Nobody → (o : OpName)
      → is_enabled old.machine T (event.Use o) ≡ is_enabled old.machine S (event.Use o)
  unfolding is_enabled
  use_nobody none o =
      let k = openings_kept old.machine S e none in
      use_waits old.machine new.machine S T before (after_as T does.state) k.opens k.versions o
      (ap (λ us. get us o) k.uses)

  -- an event without suspects changes nothing
  pub nobody_changes : (k : Kind) → is_listed k ≡ true → suspects_of k e ≡ suspects.Nobody → (o : OpName)
      → may_happen new k o ≡ may_happen old k o
  nobody_changes kind.Open listed none o = happens_as kind.Open o ∙ open_nobody none o
  nobody_changes kind.Use listed none o = happens_as kind.Use o ∙ use_nobody none o
  nobody_changes kind.Decode listed none o = absurd (not_both listed)
  nobody_changes kind.Ack listed none o = absurd (not_both listed)
  nobody_changes kind.Ready listed none o = absurd (not_both listed)
  nobody_changes kind.Link listed none o = absurd (not_both listed)
  nobody_changes kind.Release listed none o = absurd (not_both listed)
  nobody_changes kind.Bye listed none o = absurd (not_both listed)
  nobody_changes kind.Idle listed none o = absurd (not_both listed)
  nobody_changes kind.Nack listed none o = absurd (not_both listed)
  nobody_changes kind.Retire listed none o = absurd (not_both listed)
  nobody_changes kind.Gone listed none o = absurd (not_both listed)

-- an event with one suspect changes nothing for others
module _ (old new : Units) (fit : IsFit old) where
  decode_one : (p : OpName) (does : Does (event.Decode p) old new) (k : Kind) → is_listed k ≡ true → (q : OpName)
      → q ≢ p → may_happen new k q ≡ may_happen old k q
  unfolding is_enabled
  decode_one p does kind.Open listed q other =
      happens_as (event.Decode p) old new fit does kind.Open q
      ∙ (decode_others old.machine (state_of old) p q other).0
  decode_one p does kind.Use listed q other =
      happens_as (event.Decode p) old new fit does kind.Use q
      ∙ (decode_others old.machine (state_of old) p q other).1
  decode_one p does kind.Decode listed q other = absurd (not_both listed)
  decode_one p does kind.Ack listed q other = absurd (not_both listed)
  decode_one p does kind.Ready listed q other = absurd (not_both listed)
  decode_one p does kind.Link listed q other = absurd (not_both listed)
  decode_one p does kind.Release listed q other = absurd (not_both listed)
  decode_one p does kind.Bye listed q other = absurd (not_both listed)
  decode_one p does kind.Idle listed q other = absurd (not_both listed)
  decode_one p does kind.Nack listed q other = absurd (not_both listed)
  decode_one p does kind.Retire listed q other = absurd (not_both listed)
  decode_one p does kind.Gone listed q other = absurd (not_both listed)

  use_one : (p : OpName) (does : Does (event.Use p) old new) (q : OpName) → q ≢ p
      → may_happen new kind.Use q ≡ may_happen old kind.Use q
  unfolding is_enabled
  use_one p does q other =
      let e = event.Use p in
      let k = use_letters old.machine (state_of old) p in
      happens_as e old new fit does kind.Use q
      ∙ use_waits old.machine new.machine (state_of old) (after_event old.machine (state_of old) e)
      (before e old new fit does) (after_as e old new fit does _ does.state) k.opens k.versions q
      (ap (λ us. get us q) k.uses ∙ beside_removed name_order (state_of old).mail.uses p q other)

  pub one_changes : (e : Event) (does : Does e old new) (k : Kind) → is_listed k ≡ true → (o : OpName)
      → suspects_of k e ≡ suspects.One o → (q : OpName) → q ≢ o → may_happen new k q ≡ may_happen old k q
  one_changes e does kind.Open listed o one q other = by e does one
    where
      by : (e : Event) (does : Does e old new) → suspects_of_open e ≡ suspects.One o
          → may_happen new kind.Open q ≡ may_happen old kind.Open q
      by (event.Decode p) does one = decode_one p does kind.Open refl q (λ same. other (same ∙ one_one p o one))
      by (event.Open p) does one = absurd (all_one o one)
      by event.Main does one = absurd (nobody_one o one)
      by event.Take does one = absurd (nobody_one o one)
      by (event.Ack p) does one = absurd (nobody_one o one)
      by (event.Use p) does one = absurd (nobody_one o one)
      by (event.Ready p) does one = absurd (nobody_one o one)
      by (event.Link p) does one = absurd (nobody_one o one)
      by (event.Start w) does one = absurd (nobody_one o one)
      by (event.Exec w) does one = absurd (nobody_one o one)
      by (event.Finish w) does one = absurd (nobody_one o one)
      by (event.Release p) does one = absurd (nobody_one o one)
      by (event.Bye p) does one = absurd (nobody_one o one)
      by (event.Idle v) does one = absurd (nobody_one o one)
      by (event.Nack v) does one = absurd (nobody_one o one)
      by (event.Retire v) does one = absurd (nobody_one o one)
      by (event.Copy b) does one = absurd (nobody_one o one)
      by (event.Gone v) does one = absurd (nobody_one o one)
  one_changes e does kind.Use listed o one q other = by e does one
    where
      by : (e : Event) (does : Does e old new) → suspects_of_use e ≡ suspects.One o
          → may_happen new kind.Use q ≡ may_happen old kind.Use q
      by (event.Decode p) does one = decode_one p does kind.Use refl q (λ same. other (same ∙ one_one p o one))
      by (event.Use p) does one = use_one p does q (λ same. other (same ∙ one_one p o one))
      by (event.Open p) does one = absurd (all_one o one)
      by event.Main does one = absurd (nobody_one o one)
      by event.Take does one = absurd (nobody_one o one)
      by (event.Ack p) does one = absurd (nobody_one o one)
      by (event.Ready p) does one = absurd (nobody_one o one)
      by (event.Link p) does one = absurd (nobody_one o one)
      by (event.Start w) does one = absurd (nobody_one o one)
      by (event.Exec w) does one = absurd (nobody_one o one)
      by (event.Finish w) does one = absurd (nobody_one o one)
      by (event.Release p) does one = absurd (nobody_one o one)
      by (event.Bye p) does one = absurd (nobody_one o one)
      by (event.Idle v) does one = absurd (nobody_one o one)
      by (event.Nack v) does one = absurd (nobody_one o one)
      by (event.Retire v) does one = absurd (nobody_one o one)
      by (event.Copy b) does one = absurd (nobody_one o one)
      by (event.Gone v) does one = absurd (nobody_one o one)
  one_changes e does kind.Decode listed o one q other = absurd (not_both listed)
  one_changes e does kind.Ack listed o one q other = absurd (not_both listed)
  one_changes e does kind.Ready listed o one q other = absurd (not_both listed)
  one_changes e does kind.Link listed o one q other = absurd (not_both listed)
  one_changes e does kind.Release listed o one q other = absurd (not_both listed)
  one_changes e does kind.Bye listed o one q other = absurd (not_both listed)
  one_changes e does kind.Idle listed o one q other = absurd (not_both listed)
  one_changes e does kind.Nack listed o one q other = absurd (not_both listed)
  one_changes e does kind.Retire listed o one q other = absurd (not_both listed)
  one_changes e does kind.Gone listed o one q other = absurd (not_both listed)

  -- ---- an event with any suspects leaves the messages of all names but its own

  open_stays : (v : OpName) (does : Does (event.Open v) old new) (k : Kind) → is_listed k ≡ true → (q : OpName) → q ≢ v
      → is_there (state_of old).mail k q ≡ true → is_there (state_of new).mail k q ≡ true
  open_stays v does kind.Open listed q other there =
      there_as (event.Open v) old new fit does kind.Open q
      ∙ ap (λ os. is_some (get os q)) (open_letters old.machine (state_of old) v).0
      ∙ ap is_some (beside_removed name_order (state_of old).mail.opens v q other)
      ∙ there
  open_stays v does kind.Use listed q other there =
      there_as (event.Open v) old new fit does kind.Use q
      ∙ ap (λ us. is_some (get us q)) (open_letters old.machine (state_of old) v).1
      ∙ there
  open_stays v does kind.Decode listed q other there = absurd (not_both listed)
  open_stays v does kind.Ack listed q other there = absurd (not_both listed)
  open_stays v does kind.Ready listed q other there = absurd (not_both listed)
  open_stays v does kind.Link listed q other there = absurd (not_both listed)
  open_stays v does kind.Release listed q other there = absurd (not_both listed)
  open_stays v does kind.Bye listed q other there = absurd (not_both listed)
  open_stays v does kind.Idle listed q other there = absurd (not_both listed)
  open_stays v does kind.Nack listed q other there = absurd (not_both listed)
  open_stays v does kind.Retire listed q other there = absurd (not_both listed)
  open_stays v does kind.Gone listed q other there = absurd (not_both listed)

  -- only an open has any suspects
  open_all : (e : Event) → suspects_of_open e ≡ suspects.All → (v : OpName) × (e ≡ event.Open v)
  open_all (event.Open v) all = (v, refl)
  open_all (event.Decode p) all = absurd (one_all p all)
  open_all event.Main all = absurd (nobody_all all)
  open_all event.Take all = absurd (nobody_all all)
  open_all (event.Ack p) all = absurd (nobody_all all)
  open_all (event.Use p) all = absurd (nobody_all all)
  open_all (event.Ready p) all = absurd (nobody_all all)
  open_all (event.Link p) all = absurd (nobody_all all)
  open_all (event.Start w) all = absurd (nobody_all all)
  open_all (event.Exec w) all = absurd (nobody_all all)
  open_all (event.Finish w) all = absurd (nobody_all all)
  open_all (event.Release p) all = absurd (nobody_all all)
  open_all (event.Bye p) all = absurd (nobody_all all)
  open_all (event.Idle v) all = absurd (nobody_all all)
  open_all (event.Nack v) all = absurd (nobody_all all)
  open_all (event.Retire v) all = absurd (nobody_all all)
  open_all (event.Copy b) all = absurd (nobody_all all)
  open_all (event.Gone v) all = absurd (nobody_all all)

  use_all : (e : Event) → suspects_of_use e ≡ suspects.All → (v : OpName) × (e ≡ event.Open v)
  use_all (event.Open v) all = (v, refl)
  use_all (event.Decode p) all = absurd (one_all p all)
  use_all (event.Use p) all = absurd (one_all p all)
  use_all event.Main all = absurd (nobody_all all)
  use_all event.Take all = absurd (nobody_all all)
  use_all (event.Ack p) all = absurd (nobody_all all)
  use_all (event.Ready p) all = absurd (nobody_all all)
  use_all (event.Link p) all = absurd (nobody_all all)
  use_all (event.Start w) all = absurd (nobody_all all)
  use_all (event.Exec w) all = absurd (nobody_all all)
  use_all (event.Finish w) all = absurd (nobody_all all)
  use_all (event.Release p) all = absurd (nobody_all all)
  use_all (event.Bye p) all = absurd (nobody_all all)
  use_all (event.Idle v) all = absurd (nobody_all all)
  use_all (event.Nack v) all = absurd (nobody_all all)
  use_all (event.Retire v) all = absurd (nobody_all all)
  use_all (event.Copy b) all = absurd (nobody_all all)
  use_all (event.Gone v) all = absurd (nobody_all all)

  is_open : (e : Event) (k : Kind) → is_listed k ≡ true → suspects_of k e ≡ suspects.All
      → (v : OpName) × (e ≡ event.Open v)
  is_open e kind.Open listed all = open_all e all
  is_open e kind.Use listed all = use_all e all
  is_open e kind.Decode listed all = absurd (not_both listed)
  is_open e kind.Ack listed all = absurd (not_both listed)
  is_open e kind.Ready listed all = absurd (not_both listed)
  is_open e kind.Link listed all = absurd (not_both listed)
  is_open e kind.Release listed all = absurd (not_both listed)
  is_open e kind.Bye listed all = absurd (not_both listed)
  is_open e kind.Idle listed all = absurd (not_both listed)
  is_open e kind.Nack listed all = absurd (not_both listed)
  is_open e kind.Retire listed all = absurd (not_both listed)
  is_open e kind.Gone listed all = absurd (not_both listed)

  pub all_stays : (e : Event) (does : Does e old new) (k : Kind) → is_listed k ≡ true → suspects_of k e ≡ suspects.All
      → (q : OpName) → name_taken e ≢ Some q → is_there (state_of old).mail k q ≡ true
      → is_there (state_of new).mail k q ≡ true
  all_stays e does k listed all q other there =
      let t = is_open e k listed all in
      open_stays t.0 (subst (λ e. Does e old new) t.1 does) k listed q
      (λ same. other (ap name_taken t.1 ∙ ap Some (sym same))) there

-- ---- the lists

module _ (e : Event) (new : Units) (k : Kind) (t : Names) (listed : is_listed k ≡ true) (were : WereListed e new k t) where
  same_size : t.size ≡ message_limit new.machine
  same_size = were.listed.size ∙ ap message_limit (sym were.does.machine)

  -- without suspects the list stays as it is
  pub listed_nobody : suspects_of k e ≡ suspects.Nobody → AreListed new k t
  listed_nobody none = record {
    size = same_size;
    each = λ o.
        were.listed.each o ∙ sym (nobody_changes e were.old new were.fit were.does k listed none o);
  }

  module _ (o : OpName) (one : suspects_of k e ≡ suspects.One o) where
    others_listed : (q : OpName) → q ≢ o → is_some (get t.entries q) ≡ may_happen new k q
    others_listed q other =
        were.listed.each q ∙ sym (one_changes were.old new were.fit e were.does k listed o one q other)

    -- with one, each other name has a message
    pub fits_one : FitsBeside new k o t
    fits_one = record {
      size = same_size;
      others = λ q other there. happens_there new k listed q (sym (others_listed q other) ∙ there);
    }

    -- and the list is right once that one is tested
    pub listed_one : AreListed new k (record t { entries = marked t.entries o (may_happen new k o) })
    listed_one = one_tested new k listed t o refl fits_one others_listed

  module _ (all : suspects_of k e ≡ suspects.All) where
    stays : (q : OpName) → name_taken e ≢ Some q → is_some (get t.entries q) ≡ true
        → is_there (state_of new).mail k q ≡ true
    stays q other there =
        all_stays were.old new were.fit e were.does k listed all q other
        (happens_there were.old k listed q (sym (were.listed.each q) ∙ there))

    -- with any, each name but that of the message that is taken has a message
    pub fits_all : name_taken e ≡ None → FitsIn new k t
    fits_all none = record {
      size = same_size;
      each = λ q there. stays q (λ same. none-some q (sym none ∙ same)) there;
    }

    pub fits_others : (o : OpName) → name_taken e ≡ Some o → FitsIn new k (record t { entries = remove t.entries o })
    fits_others o own = record {
      size = same_size;
      each = λ q there.
          let x = value_of (get (remove t.entries o) q) there in
          let before = from_removed name_order t.entries o q x.0 x.1 in
          stays q (λ same. before.0 (sym (same_Some o q (sym own ∙ same)))) (ap is_some before.1);
    }
