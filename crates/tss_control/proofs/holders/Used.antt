-- All that operands hold after a use.
use Rattle.std.proofs.Common.{◌≡◌, ◌≢◌, Bool, true, false, List, [], ◌∷◌, Option, Some, None, refl, sym, ap, ◌∙◌, subst}
use Rattle.std.proofs.Common.{inl, inr, arith, true≢false}
use Rattle.std.specs.Prelude.{cond, is_some}
use Rattle.std.specs.FinMap.{get}
use Rattle.std.proofs.lemmas.Option.{none-some, same_Some}
use Rattle.tss_base.specs.declared.operand.OpName.{OpName}
use Rattle.tss_base.specs.declared.operand.Operand.{Operand}
use Rattle.tss_base.specs.declared.operand.Mode.TheVariants.{Input}
use Rattle.tss_base.specs.declared.machine.Machine.{Machine}
use Rattle.tss_base.specs.declared.event.Event.TheVariants as event
use Rattle.tss_base.specs.declared.marks.LinkState.TheVariants as link
use Rattle.tss_maps.proofs.Keys.{name_order, decide_key}
use Rattle.tss_maps.proofs.Changes.{at_inserted, from_inserted}
use Rattle.tss_model.specs.Access.{writes}
use Rattle.tss_protocol.specs.Mail.{Source, StorageName}
use Rattle.tss_protocol.specs.State.{State, OperandState, Version}
use Rattle.tss_protocol.specs.Stations.{operand_at}
use Rattle.tss_protocol.specs.UnitMachine.{is_enabled, IsEnabled, after_event, can_use_message}
use Rattle.tss_phases.specs.Phase.{Phase, Ahead, Decoding, Sent, Waiting, Told, Ready, Releasing, Leaving, Promised}
use Rattle.tss_phases.specs.Phase.{Left, LookUps, look_ups, phase_at, phase_of, has_released}
use Rattle.tss_phases.specs.Alone.{IsSilent}
use Rattle.tss_phases.specs.Openers.{version_opener}
use Rattle.tss_phases.specs.Orderly.{IsUntold, FitsPhase, IsOrderly, AreOrderly}
use Rattle.tss_phases.proofs.PhaseLemmas.{phase_using, phase_silent, phase_telling, station_told}
use Rattle.tss_phases.proofs.OrderlyLemmas.{using_stands}
use Rattle.tss_phases.proofs.UseEvent.{look_ups-use-other}
use Rattle.tss_phases.proofs.Tests.{something}
use Rattle.tss_locality.proofs.LeftFields.{Leaves-after_event}
use Rattle.tss_control.specs.Members.{operand_among}
use Rattle.tss_control.specs.Chains.{IsUseInOrder}
use Rattle.tss_control.specs.Readers.{Arrivals, Has, has_arrived, tail_of, set_arrivals, arrivals_used}
use Rattle.tss_control.specs.Readers.{arrivals_after_event, IsNewest, HasArrivals}
use Rattle.tss_control.specs.Holders.{IsOwnOrRead, IsTrue, link_fits, HasHolders}
use Rattle.tss_control.proofs.rounds.ReadersLists.{newest_of, newest_at}
use Rattle.tss_control.proofs.readers.Come.{at_set}
use Rattle.tss_control.proofs.readers.Use.{sent_link}
use Rattle.tss_control.proofs.holders.Fits.{Holding, LinksFit, HoldsIn, HasOpened, HasCome, holding_of, holding_mapped}
use Rattle.tss_control.proofs.holders.Fits.{holders_by}
use Rattle.tss_control.proofs.holders.Moves.{holding_fresh, links_none}
use Rattle.tss_control.proofs.holders.Leaves.{may_be_linked, holding_linking}
use Rattle.tss_control.proofs.holders.Sent.{same_opener}
use Rattle.tss_control.proofs.holders.Use.{UsedBy, used_facts, has_more, alike_used, true_used}
use Rattle.tss_control.proofs.holders.KeepsOrder.{AreOrderly-controlled}
use Rattle.tss_control.proofs.holders.RunnerEvents.{HasRunners-after_event}
use Rattle.tss_control.proofs.rounds.Facts.{Facts}

-- ---- the last reader

-- the tail of a version is its newest reader, which hasn't released it
pub tail_some : (S : State) (xs : List OpName) (a : OpName) → tail_of S xs ≡ Some a
    → (newest_of xs ≡ Some a) × (has_released (phase_of S a) ≡ false) × Has a xs
tail_some S [] a e = absurd (none-some a e)
tail_some S (b ∷ bs) a e = by (has_released (phase_of S b)) refl e
  where
    by : (t : Bool) → has_released (phase_of S b) ≡ t → cond t None (Some b) ≡ Some a
        → (newest_of (b ∷ bs) ≡ Some a) × (has_released (phase_of S a) ≡ false) × Has a (b ∷ bs)
    by true t e = absurd (none-some a e)
    by false t e =
        let same = same_Some b a e in
        (e, ap (λ a. has_released (phase_of S a)) (sym same) ∙ t, inl same)

-- a reader that has come and hasn't released its version may be linked
come_linked : (p : Phase) → has_arrived p ≡ true → has_released p ≡ false → may_be_linked p ≡ true
come_linked Ahead a b = absurd (true≢false (sym a))
come_linked Decoding a b = absurd (true≢false (sym a))
come_linked Sent a b = absurd (true≢false (sym a))
come_linked Waiting a b = refl
come_linked Told a b = refl
come_linked Ready a b = refl
come_linked Releasing a b = refl
come_linked Leaving a b = absurd (true≢false b)
come_linked Promised a b = absurd (true≢false b)
come_linked Left a b = absurd (true≢false b)

-- and has a record
linked_has_record : (l : LookUps) (p : Phase) → FitsPhase p l → may_be_linked p ≡ true
    → (r : OperandState) × (l.station ≡ Some r)
linked_has_record l Waiting f a = (f.0.kept, f.0.there)
linked_has_record l Told f a = (f.0.kept, f.0.there)
linked_has_record l Ready f a = (f.0.1.kept, f.0.1.there)
linked_has_record l Releasing f a = (f.0.1.kept, f.0.1.there)
linked_has_record l other f a = absurd (true≢false (sym a))

module _ (m : Machine) (S : State) (facts : Facts m S) (o : OpName) (on : IsEnabled m S (event.Use o))
    (v : OpName) (x : Version) (there : get S.mail.uses o ≡ Some v) (at : get S.versions v ≡ Some x) where
  open facts use {all, ts, g, ground, control as h}

  abbrev T : State
  T = after_event m S (event.Use o)

  abbrev New : Arrivals
  New = set_arrivals g v (o ∷ g v)

  u : UsedBy S T o v x
  u = used_facts m S o v x there at

  after : AreOrderly T
  after = AreOrderly-controlled m S facts (event.Use o) on

  used : IsUseInOrder ts S o v
  used = h.chains.uses o v there

  abbrev stands : IsSilent (record (look_ups S o) { using = None }) × IsUntold (look_ups S o)
  stands = using_stands (look_ups S o) v (h.orderly o) there

  was_sent : phase_of S o ≡ Sent
  was_sent = phase_using (look_ups S o) v stands.0.decoding there

  not_itself : v ≢ o
  not_itself e = let a = used.older in let b = ap (λ (q : OpName). q.task) e in omega (arith, a, b)

  other_looked : (q : OpName) → q ≢ o → look_ups T q ≡ look_ups S q
  other_looked q apart = look_ups-use-other m S o v there q apart

  flight_same : T.flight ≡ S.flight
  flight_same = λ i. (Leaves-after_event m S (event.Use o) i).flight

  -- ---- what an operand holds, by its look-ups and its link

  holds_used : (q : OpName) (p : Operand) (l : LookUps) (k : Option OpName) → look_ups T q ≡ l → get T.mail.links q ≡ k
      → Holding (IsTrue g S q p) (HasOpened S q) (HasCome g S q) (writes p.mode) l k → HoldsIn New T q p
  holds_used q p l k e f was =
      subst (λ k. Holding (IsTrue New T q p) (HasOpened T q) (HasCome New T q) (writes p.mode) (look_ups T q) k) (sym f)
      (subst (λ l. Holding (IsTrue New T q p) (HasOpened T q) (HasCome New T q) (writes p.mode) l k) (sym e)
      (holding_mapped (IsTrue g S q p) (IsTrue New T q p) (HasOpened S q) (HasOpened T q) (HasCome g S q)
      (HasCome New T q)
      (writes p.mode) l k (subst IsOrderly e (after q)) (λ s needs. true_used g S T o v x at u q p s)
      (λ w i y. let z = alike_used g S T o v x at u q y.0 y.1 in (z.0, z.1, z.2.storage ∙ y.2))
      (λ w i y.
      let z = alike_used g S T o v x at u y.0 y.1 y.2 in (y.0, z.0, z.1, has_more g S T o v x at u q y.0 y.3)) was))

  -- ---- the operand itself

  module _ (p : Operand) (among : operand_among ts o ≡ Some p) where
    is_input : p.mode ≡ Input
    is_input = ap (λ (p : Operand). p.mode) (same_Some p used.operand (sym among ∙ used.there)) ∙ used.mode

    abbrev r : OperandState
    r = stands.1.0.kept

    was_links : LinksFit (writes p.mode) (look_ups S o) (get S.mail.links o) r
    was_links = (holding_of ts g S h.holders o p among).links r stands.1.0.there

    no_link_before : get S.mail.links o ≡ None
    no_link_before = was_links.early (inr was_sent)

    nothing : r.link ≡ link.Nothing
    nothing = sent_link (phase_of S o) r.link was_sent was_links.fits

    apart_last : (last : OpName) → x.tail ≡ Some last → last ≢ o
    apart_last last tail same =
        let arr = h.readers.versions v x at in
        let t = tail_some S (g v) last (sym arr.tail ∙ tail) in
        true≢false (sym (arr.each last t.2).arrived ∙ ap (λ a. has_arrived (phase_of S a)) same
        ∙ ap has_arrived was_sent)

    no_link_now : get T.mail.links o ≡ None
    no_link_now = elim u.links [
      | inl same ↦ same o ∙ no_link_before
      | inr l ↦ l.3 o (λ e. apart_last l.0 l.1 (sym e)) ∙ no_link_before
    ]

    put_there : get T.versions v ≡ Some u.version
    put_there = ap (λ vs. get vs v) u.put ∙ at_inserted name_order S.versions v u.version

    has_come : HasCome New T o
    has_come = (
      v,
      u.version,
      put_there,
      subst (Has o) (sym (at_set g v (o ∷ g v))) (inl refl),
    )

    not_writer : writes p.mode ≡ true → ⊥
    not_writer w = true≢false (sym w ∙ ap writes is_input)

    -- where it waits
    own_waits : look_ups T o ≡ record (look_ups S o) { using = None } → HoldsIn New T o p
    own_waits e =
        let l : LookUps = record (look_ups S o) { using = None } in
        let now : phase_at l ≡ Waiting = phase_silent l stands.0 ∙ station_told (look_ups S o) None stands.1.0 in
        subst (λ k. Holding (IsTrue New T o p) (HasOpened T o) (HasCome New T o) (writes p.mode) (look_ups T o) k)
        (sym no_link_now)
        (subst (λ l. Holding (IsTrue New T o p) (HasOpened T o) (HasCome New T o) (writes p.mode) l None) (sym e)
        (holding_fresh (IsTrue New T o p) (HasOpened T o) (HasCome New T o) (writes p.mode) l None r stands.1.0.there
        stands.1.0.told stands.0.releasing stands.0.leaving
        (λ s f. absurd (none-some s (sym stands.0.telling ∙ f))) (λ w f. absurd (not_writer w)) (λ w f. has_come)
        (links_none (IsTrue New T o p) (HasOpened T o) (HasCome New T o) (writes p.mode) l None r stands.1.0.there
        stands.1.0.told stands.0.releasing stands.0.leaving nothing (ap (λ p. link_fits p link.Nothing) now) refl
        (λ f. waiting_promised (sym now ∙ f)))))
      where
        waiting_promised : Waiting ≡ Promised → ⊥
        waiting_promised e = cc

    same_object : x.object ≡ p.object
    same_object =
        let is = ap (λ (p : Operand). p.object) (same_Some used.operand p (sym used.there ∙ among)) in
        elim used.member [
          | inl y ↦ ap (λ (y : Version). y.object) (same_Some x y.0 (sym at ∙ y.1)) ∙ y.2 ∙ is
          | inr c ↦ absurd (none-some x (sym (ground.openings.opens v c.0 c.1).no_version ∙ at))
        ]

    told_true_now : (s : StorageName) → x.storage ≡ Some s → IsTrue New T o p (record { version = v; storage = s })
    told_true_now s e = record {
      version = u.version;
      there = put_there;
      object = u.like.object ∙ same_object;
      storage = u.like.storage ∙ e;
      own = subst (λ w. IsOwnOrRead New o w v) (sym (ap writes is_input))
          (subst (Has o) (sym (at_set g v (o ∷ g v))) (inl refl));
    }

    -- where it is told
    own_told : (s : StorageName) → x.storage ≡ Some s
        → look_ups T o ≡ record (look_ups S o) { using = None; telling = Some (record { version = v; storage = s }) }
        → HoldsIn New T o p
    own_told s stored e =
        let source : Source = record { version = v; storage = s } in
        let l : LookUps = record (look_ups S o) { using = None; telling = Some source } in
        let now : phase_at l ≡ Told = phase_telling l source stands.0.decoding stands.0.opening refl refl in
        subst (λ k. Holding (IsTrue New T o p) (HasOpened T o) (HasCome New T o) (writes p.mode) (look_ups T o) k)
        (sym no_link_now)
        (subst (λ l. Holding (IsTrue New T o p) (HasOpened T o) (HasCome New T o) (writes p.mode) l None) (sym e)
        (holding_fresh (IsTrue New T o p) (HasOpened T o) (HasCome New T o) (writes p.mode) l None r stands.1.0.there
        stands.1.0.told stands.0.releasing stands.0.leaving
        (λ t f. subst (IsTrue New T o p) (same_Some source t f) (told_true_now s stored))
        (λ w f. absurd (not_writer w)) (λ w f. has_come)
        (links_none (IsTrue New T o p) (HasOpened T o) (HasCome New T o) (writes p.mode) l None r stands.1.0.there
        stands.1.0.told stands.0.releasing stands.0.leaving nothing (ap (λ p. link_fits p link.Nothing) now) refl
        (λ f. told_promised (sym now ∙ f)))))
      where
        told_promised : Told ≡ Promised → ⊥
        told_promised e = cc

    own_used : HoldsIn New T o p
    own_used = elim u.own [
      | inl e ↦ own_waits e
      | inr t ↦ own_told t.0 t.1 t.2
    ]

  -- ---- the last reader, which is linked

  module _ (last : OpName) (tail : x.tail ≡ Some last) where
    abbrev arrived : HasArrivals ts (g v) S v x
    arrived = h.readers.versions v x at

    abbrev newest : (newest_of (g v) ≡ Some last) × (has_released (phase_of S last) ≡ false) × Has last (g v)
    newest = tail_some S (g v) last (sym arrived.tail ∙ tail)

    is_newest : IsNewest S last
    is_newest = newest_at S (g v) arrived.newest last newest.0

    may : may_be_linked (phase_of S last) ≡ true
    may = come_linked (phase_of S last) (arrived.each last newest.2).arrived newest.1

    last_record : (r : OperandState) × (operand_at S.flight last ≡ Some r)
    last_record = linked_has_record (look_ups S last) (phase_of S last) (h.orderly last).fits may

    last_unlinked : get S.mail.links last ≡ None
    last_unlinked = by (get S.mail.links last) refl
      where
        by : (k : Option OpName) → get S.mail.links last ≡ k → get S.mail.links last ≡ None
        by None e = e
        by (Some c) e = absurd (is_newest.linking c e)

    last_apart : last ≢ o
    last_apart same =
        true≢false (sym (arrived.each last newest.2).arrived ∙ ap (λ a. has_arrived (phase_of S a)) same
        ∙ ap has_arrived was_sent)

    last_holds : (p : Operand) → operand_among ts last ≡ Some p → get T.mail.links last ≡ Some o → HoldsIn New T last p
    last_holds p e linked =
        let a = last_record in
        let onto = (arrived.each last newest.2).on in
        let mode = ap (λ (p : Operand). p.mode) (same_Some p onto.operand (sym e ∙ onto.there)) ∙ onto.is_mode in
        holds_used last p (look_ups S last) (Some o) (other_looked last last_apart) linked
        (holding_linking (IsTrue g S last p) (HasOpened S last) (HasCome g S last) (writes p.mode) (look_ups S last)
        (get S.mail.links last) (holding_of ts g S h.holders last p e) o last_unlinked (ap writes mode)
        (h.orderly last) a.0
        a.1 (is_newest.record_link a.0 a.1) may)

  -- ---- all

  same_holds : (q : OpName) → q ≢ o → get T.mail.links q ≡ get S.mail.links q → (p : Operand)
      → operand_among ts q ≡ Some p → HoldsIn New T q p
  same_holds q apart links p e =
      holds_used q p (look_ups S q) (get S.mail.links q) (other_looked q apart) links
      (holding_of ts g S h.holders q p e)

  each_holds : (q : OpName) (p : Operand) → operand_among ts q ≡ Some p → HoldsIn New T q p
  each_holds q p e = elim (decide_key name_order q o) [
    | inl same ↦
        subst (λ q. HoldsIn New T q p) (sym same) (own_used p (ap (operand_among ts) (sym same) ∙ e))
    | inr apart ↦ elim u.links [
      | inl links ↦ same_holds q apart (links q) p e
      | inr l ↦ elim (decide_key name_order q l.0) [
        | inl same ↦
            subst (λ q. HoldsIn New T q p) (sym same)
            (last_holds l.0 l.1 p (ap (operand_among ts) (sym same) ∙ e) l.2)
        | inr other ↦ same_holds q apart (l.3 q other) p e
      ]
    ]
  ]

  openers_used : (w : OpName) (y : Version) (p : Operand) → get T.versions w ≡ Some y → operand_among ts w ≡ Some p
      → version_opener y p.mode (phase_of T w) ≡ true
  openers_used w y p e among =
      elim (from_inserted name_order S.versions v u.version w y (sym (ap (λ vs. get vs w) u.put) ∙ e)) [
        | inl here ↦
            let apart : w ≢ o = λ f. not_itself (sym here.0 ∙ f) in
            ap (λ y. version_opener y p.mode (phase_of T w)) here.1
            ∙ same_opener x u.version p.mode (phase_of T w) u.like
            ∙ ap (version_opener x p.mode) (ap phase_at (other_looked w apart))
            ∙ h.holders.openers w x p (ap (get S.versions) here.0 ∙ at) among
        | inr old ↦
            let apart : w ≢ o = λ f.
            none-some y (sym (ground.openings.uses o v there).no_version ∙ ap (get S.versions) (sym f) ∙ old.1) in
            ap (version_opener y p.mode) (ap phase_at (other_looked w apart)) ∙ h.holders.openers w y p old.1 among
      ]

  same_records : (q next : OpName) → q ≢ o → get S.mail.links q ≡ Some next
      → (r : OperandState) × (operand_at T.flight q ≡ Some r) × (phase_of T q ≡ Left → ⊥)
  same_records q next apart e =
      let k = h.holders.records q next e in
      (k.0, ap (λ f. operand_at f q) flight_same ∙ k.1, λ left. k.2 (sym (ap phase_at (other_looked q apart)) ∙ left))

  records_used : (q next : OpName) → get T.mail.links q ≡ Some next
      → (r : OperandState) × (operand_at T.flight q ≡ Some r) × (phase_of T q ≡ Left → ⊥)
  records_used q next e = elim (decide_key name_order q o) [
    | inl same ↦
        absurd (none-some next (sym (no_link_now used.operand used.there) ∙ ap (get T.mail.links) (sym same) ∙ e))
    | inr apart ↦ elim u.links [
      | inl links ↦ same_records q next apart (sym (links q) ∙ e)
      | inr l ↦ elim (decide_key name_order q l.0) [
        | inl same ↦
            let k = last_record l.0 l.1 in (
              k.0,
              ap (λ f. operand_at f q) flight_same ∙ ap (operand_at S.flight) same ∙ k.1,
              λ left. true≢false (sym (may l.0 l.1)
                  ∙ ap (λ a. may_be_linked (phase_of S a)) (sym same)
                  ∙ ap may_be_linked (sym (ap phase_at (other_looked q apart)) ∙ left)),
            )
        | inr other ↦ same_records q next apart (sym (l.3 q other) ∙ e)
      ]
    ]
  ]

  -- who holds what, after it
  holders_used : HasHolders ts New T
  holders_used =
      holders_by ts New T each_holds openers_used records_used
      (HasRunners-after_event m all S ground.numbers ground.stages h.orderly h.holders.runners (event.Use o) on tt)

-- use
pub HasHolders-use : (m : Machine) (S : State) (facts : Facts m S) → (o : OpName) → IsEnabled m S (event.Use o)
    → HasHolders facts.ts (arrivals_after_event S facts.g (event.Use o)) (after_event m S (event.Use o))
unfolding is_enabled
HasHolders-use m S facts o on =
    let v = something (can_use_message S) (get S.mail.uses o) refl on in
    let x = something is_some (get S.versions v.0) refl (ap (can_use_message S) (sym v.1) ∙ on) in
    subst (λ u. HasHolders facts.ts (arrivals_used facts.g o u) (after_event m S (event.Use o))) (sym v.1)
    (holders_used m S facts o on v.0 x.0 v.1 x.1)
