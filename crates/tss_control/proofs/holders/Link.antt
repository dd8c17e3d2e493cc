-- What operands hold after a link: its operand holds it or has passed it on, and then the next one is told the same.
use Rattle.std.proofs.Common.{◌≡◌, ◌≢◌, ℕ, Bool, true, false, if◌then◌else◌, List, Option, Some, None, refl, sym, ap}
use Rattle.std.proofs.Common.{◌∙◌, subst, inl, inr, true≢false}
use Rattle.std.specs.Prelude.{is_some, slice_get}
use Rattle.std.specs.FinMap.{get, insert, remove}
use Rattle.std.proofs.lemmas.Option.{none-some}
use Rattle.tss_base.specs.declared.operand.OpName.{OpName}
use Rattle.tss_base.specs.declared.operand.Mode.{Mode}
use Rattle.tss_base.specs.declared.operand.Mode.TheVariants.{Input, Output, Inout}
use Rattle.tss_base.specs.declared.operand.Operand.{Operand}
use Rattle.tss_base.specs.declared.machine.Machine.{Machine}
use Rattle.tss_base.specs.declared.event.Event.TheVariants as event
use Rattle.tss_base.specs.Names.{Numbered}
use Rattle.tss_maps.proofs.Keys.{name_order, nat_order, decide_key}
use Rattle.tss_maps.proofs.Changes.{at_removed, beside_removed}
use Rattle.tss_model.specs.Access.{writes}
use Rattle.tss_protocol.specs.Mail.{Source, StorageName, Message}
use Rattle.tss_protocol.specs.State.{State, OperandState, Flying, Version, Outcome}
use Rattle.tss_protocol.specs.Stations.{operand_at, sent_by_link, is_gone, remaining_tasks}
use Rattle.tss_protocol.specs.UnitMachine.{is_enabled, IsEnabled, after_event, with_flight, without, link_message_taken}
use Rattle.tss_phases.specs.Phase.{Phase, Told, Promised}
use Rattle.tss_phases.specs.Phase.{Left, LookUps, look_ups, phase_at, phase_of, is_ahead}
use Rattle.tss_phases.specs.Leaving.{phase_linked}
use Rattle.tss_phases.specs.Told.{tells, phase_told}
use Rattle.tss_phases.specs.Openers.{produced_opener, open_opener, opener_by, version_opener}
use Rattle.tss_phases.specs.Orderly.{IsOrderly, AreOrderly, LinksWaiting, TellWaiting}
use Rattle.tss_phases.proofs.Received.{received_all}
use Rattle.tss_phases.proofs.News.{untold}
use Rattle.tss_phases.proofs.Records.{record_put}
use Rattle.tss_phases.proofs.PhaseLemmas.{same_station}
use Rattle.tss_phases.proofs.LeavingTasks.{remaining_beside, done_from_test}
use Rattle.tss_phases.proofs.LinkEvent.{news_link, link_tells, link_untold, linked_task, linked, look_ups-link}
use Rattle.tss_phases.proofs.LinkEvent.{flight-link, linked_record, linked_record_other, link_station_other}
use Rattle.tss_phases.proofs.LinkEvent.{phase_of-link, phase_of-link-other}
use Rattle.tss_phases.proofs.OrderlyLemmas.{taken_by_record}
use Rattle.tss_phases.proofs.OrderlyRecords.{left_by_record, orderly_linked}
use Rattle.tss_phases.proofs.Tests.{something}
use Rattle.tss_locality.proofs.LeftFields.{Leaves-after_event}
use Rattle.tss_control.specs.Members.{operand_among}
use Rattle.tss_control.specs.Holders.{IsTrue, HasHolders}
use Rattle.tss_protocol.proofs.SentLemmas.{AllSent}
use Rattle.tss_control.proofs.rounds.HoldersNext.{linking_waits}
use Rattle.tss_control.proofs.holders.Fits.{Holding, HoldsIn, HasOpened, HasCome}
use Rattle.tss_control.proofs.holders.Moves.{TellsTrue, holding_news}
use Rattle.tss_control.proofs.holders.Turns.{holding_remaining, holding_linked}
use Rattle.tss_control.proofs.holders.Frames.{IsChangedHolder, holders_kept}
use Rattle.tss_control.proofs.holders.KeepsOrder.{AreOrderly-controlled}
use Rattle.tss_control.proofs.holders.RunnerEvents.{HasRunners-after_event}
use Rattle.tss_control.proofs.holders.Ready.{waiting_input, next_input, next_true, holds_after, named_operand}
use Rattle.tss_control.proofs.rounds.Facts.{Facts}

-- ---- tasks that may leave

-- the record of an operand that hasn't left stays
remaining_stays : (flight : Numbered Flying) (task : ℕ) (y : Flying) (q : OpName) (l : LookUps) → q.task ≡ task
    → IsOrderly (record l { station = slice_get y.operands q.place }) → (r : OperandState)
    → slice_get y.operands q.place ≡ Some r → phase_at (record l { station = slice_get y.operands q.place }) ≢ Left
    → operand_at (remaining_tasks flight task y) q ≡ Some r
remaining_stays flight task y q l same o r at stays = by (is_gone y) refl
  where
    by : (b : Bool) → is_gone y ≡ b → operand_at (if b then remove flight task else insert flight task y) q ≡ Some r
    by true g =
        absurd (stays (left_by_record (record l { station = slice_get y.operands q.place }) r at
        ((done_from_test y g).left q.place r at) o))
    by false g = record_put flight task y q same ∙ at

-- ---- link

-- what a link tells is true
link_tells_true : (q : OpName) (P : Source → Type 0) (source : Option Source) (next : OpName)
    → ((s : Source) → source ≡ Some s → q ≡ next → P s) → AllSent (TellsTrue q P) (sent_by_link source next)
link_tells_true q P None next f = tt
link_tells_true q P (Some s) next f = (λ same. f s refl same, tt)

-- a link that has passed leaves the phase of an opener alone
linked_opener : (y : Version) (mode : Mode) (p : Phase) (b : Bool) → opener_by y mode p b ≡ true
    → opener_by y mode (phase_linked p) b ≡ true
linked_opener y mode Promised true e = promised_produced mode e
  where
    promised_produced : (mode : Mode) → produced_opener mode Promised ≡ true → produced_opener mode Left ≡ true
    promised_produced Input e = refl
    promised_produced Output e = refl
    promised_produced Inout e = refl
linked_opener y mode Promised false e = promised_open y.storage e
  where
    promised_open : (s : Option StorageName) → open_opener s Promised ≡ true → open_opener s Left ≡ true
    promised_open None e = absurd (true≢false (sym e))
    promised_open (Some s) e = absurd (true≢false (sym e))
linked_opener y mode other b e = e

module _ (m : Machine) (S : State) (facts : Facts m S) where
  open facts use {all, ts, g, ground, control as h}

  module _ (o : OpName) (on : IsEnabled m S (event.Link o)) (order : LinksWaiting S o) (next : OpName)
      (there : get S.mail.links o ≡ Some next) (r : OperandState) (kept : operand_at S.flight o ≡ Some r)
      (waits : TellWaiting S (sent_by_link r.source next)) where
    abbrev T : State
    T = after_event m S (event.Link o)

    abbrev ms : List Message
    ms = sent_by_link r.source next

    abbrev y : Flying
    y = linked_task m S o next r there kept

    after : AreOrderly T
    after = AreOrderly-controlled m S facts (event.Link o) on

    versions : T.versions ≡ S.versions
    versions = λ i. (Leaves-after_event m S (event.Link o) i).versions

    taken : is_ahead S o.task ≡ false
    taken = taken_by_record (look_ups S o) r (h.orderly o) kept

    -- the links under way
    links_after : T.mail.links ≡ remove S.mail.links o
    unfolding after_event
    links_after =
        ap (λ x. (link_message_taken (without S (event.Link o)) o x).mail.links) there
        ∙ ap (λ (d : Outcome (Numbered Flying)). (with_flight (without S (event.Link o)) d).mail.links)
        (linked m S o next r there kept)
        ∙ by r.source
      where
        by : (source : Option Source) → (with_flight (without S (event.Link o)) (record {
          part = remaining_tasks S.flight o.task y;
          sent = sent_by_link source next;
        })).mail.links ≡ remove S.mail.links o
        by None = refl
        by (Some s) = refl

    no_link : get T.mail.links o ≡ None
    no_link = ap (λ ks. get ks o) links_after ∙ at_removed name_order S.mail.links o

    same_link : (q : OpName) → q ≢ o → get T.mail.links q ≡ get S.mail.links q
    same_link q apart = ap (λ ks. get ks q) links_after ∙ beside_removed name_order S.mail.links o q apart

    -- ---- the operand itself

    stays : phase_of S o ≢ Left
    stays = (h.holders.records o next there).2

    abbrev own_look_ups : LookUps
    own_look_ups = record (look_ups S o) { station = operand_at (remaining_tasks S.flight o.task y) o }

    own_looked : look_ups T o ≡ own_look_ups
    own_looked =
        look_ups-link m S o next r there kept o
        ∙ untold ms o own_look_ups (news_link r.source next) (link_untold m S o next r there kept (waits o))

    own_orderly : IsOrderly (record (look_ups S o) { station = slice_get y.operands o.place })
    own_orderly =
        subst (λ k. IsOrderly (record (look_ups S o) { station = k })) (sym (linked_record m S o next r there kept))
        (orderly_linked (look_ups S o) r next kept (h.orderly o))

    link_own : IsChangedHolder ts g S T o
    link_own = record {
      holds = λ p e was.
          let P = IsTrue g S o p in
          holds_after ts g S T versions after o p own_look_ups None own_looked no_link
          (holding_remaining P (HasOpened S o) (HasCome g S o) (writes p.mode) S.flight o.task y o
          (look_ups S o) None refl
          own_orderly
          (subst (λ k. Holding P (HasOpened S o) (HasCome g S o) (writes p.mode)
          (record (look_ups S o) { station = k }) None)
          (sym (linked_record m S o next r there kept))
          (holding_linked P (HasOpened S o) (HasCome g S o) (writes p.mode) (look_ups S o) (get S.mail.links o) was next
          there (h.orderly o) stays r kept)));
      opener = λ z p v a was.
          ap (version_opener z p.mode) (phase_of-link m S o next r there kept taken (waits o))
          ∙ linked_opener z p.mode (phase_of S o) z.produced was;
      records = λ n f. absurd (none-some n (sym no_link ∙ f));
    }

    -- ---- the others

    abbrev mid : OpName → LookUps
    mid q = record (look_ups S q) { station = operand_at (remaining_tasks S.flight o.task y) q }

    mid_phase : (q : OpName) → q ≢ o → phase_at (mid q) ≡ phase_of S q
    mid_phase q apart =
        same_station (look_ups S q) (operand_at (remaining_tasks S.flight o.task y) q)
        (link_station_other m S o next r there kept taken q apart)

    before_orderly : (q : OpName) → q ≢ o → q.task ≡ o.task
        → IsOrderly (record (look_ups S q) { station = slice_get y.operands q.place })
    before_orderly q apart same =
        subst (λ k. IsOrderly (record (look_ups S q) { station = k }))
        (sym (linked_record_other m S o next r there kept q apart same)) (h.orderly q)

    mid_holds : (q : OpName) → q ≢ o → (p : Operand) → HoldsIn g S q p
        → Holding (IsTrue g S q p) (HasOpened S q) (HasCome g S q) (writes p.mode) (mid q) (get S.mail.links q)
    mid_holds q apart p was =
        let H : Option OperandState
        → Type 0 = λ k. Holding (IsTrue g S q p) (HasOpened S q) (HasCome g S q) (writes p.mode)
        (record (look_ups S q) { station = k }) (get S.mail.links q) in
        elim (decide_key nat_order q.task o.task) [
          | inl same ↦
              holding_remaining (IsTrue g S q p) (HasOpened S q) (HasCome g S q) (writes p.mode) S.flight o.task y q
              (look_ups S q) (get S.mail.links q) same (before_orderly q apart same)
              (subst H (sym (linked_record_other m S o next r there kept q apart same)) was)
          | inr other ↦ subst H (sym (remaining_beside S.flight o.task y q other)) was
        ]

    mid_record : (q : OpName) → q ≢ o → (k : OperandState) → operand_at S.flight q ≡ Some k → phase_of S q ≢ Left
        → operand_at (remaining_tasks S.flight o.task y) q ≡ Some k
    mid_record q apart k e not_left = elim (decide_key nat_order q.task o.task) [
      | inl same ↦
          let at = linked_record_other m S o next r there kept q apart same in
          remaining_stays S.flight o.task y q (look_ups S q) same (before_orderly q apart same) k (at ∙ e)
          (λ f. not_left (ap (λ k. phase_at (record (look_ups S q) { station = k })) (sym at) ∙ f))
      | inr other ↦ remaining_beside S.flight o.task y q other ∙ e
    ]

    -- ---- the next one

    own_operand : (p : Operand) × (operand_among ts o ≡ Some p)
    own_operand = named_operand ts o (ground.round.within.named.mail.links o next there)

    own_reads : (p : Operand) → operand_among ts o ≡ Some p → writes p.mode ≡ false
    own_reads p e = by (writes p.mode) refl
      where
        by : (b : Bool) → writes p.mode ≡ b → writes p.mode ≡ false
        by false w = w
        by true w = absurd (none-some next (sym ((h.holders.links o p r e kept).writer w).1 ∙ there))

    next_told : (s : Source) → r.source ≡ Some s → (p : Operand) → operand_among ts next ≡ Some p → IsTrue g S next p s
    next_told s e p f =
        let a = own_operand in
        next_true ts g S h.chains h.readers h.holders o next (linking_waits ts g S h.readers o next there) a.0 s a.1
        (own_reads a.0 a.1) (h.holders.linking o next a.0 r s a.1 kept e there) p f

    no_version : (s : Source) → r.source ≡ Some s → (z : Version) (p : Operand) → get S.versions next ≡ Some z
        → operand_among ts next ≡ Some p → ⊥
    no_version s e z p v f =
        let a = own_operand in
        let b = linking_waits ts g S h.readers o next there in
        waiting_input ts g S h.chains h.readers h.holders next b.waits z v p f
        (next_input ts g S h.chains h.readers h.holders o next b a.0 s a.1 (own_reads a.0 a.1)
        (h.holders.linking o next a.0 r s a.1 kept e there) p f)

    other_phase : (q : OpName) → q ≢ o → phase_of T q ≡ phase_told (tells ms q) (phase_of S q)
    other_phase q apart = phase_of-link-other m S o next r there kept taken q apart (waits q)

    link_other : (q : OpName) → q ≢ o → IsChangedHolder ts g S T q
    link_other q apart = record {
      holds = λ p e was.
          holds_after ts g S T versions after q p (received_all ms q (mid q)) (get S.mail.links q)
          (look_ups-link m S o next r there kept q) (same_link q apart)
          (holding_news (IsTrue g S q p) (HasOpened S q) (HasCome g S q) (writes p.mode) (mid q)
          (get S.mail.links q) ms q
          (news_link r.source next) (λ t. mid_phase q apart ∙ waits q t)
          (link_tells_true q (IsTrue g S q p) r.source next
          (λ s f same. subst (λ q. (p : Operand) → operand_among ts q ≡ Some p → IsTrue g S q p s) (sym same)
          (next_told s f) p e))
          (mid_holds q apart p was));
      opener = λ z p v a was. opener_by_news z p v a was (tells ms q) refl;
      records = λ n f.
          let k = h.holders.records q n (sym (same_link q apart) ∙ f) in (
            k.0,
            ap (λ f. operand_at f q) (flight-link m S o next r there kept) ∙ mid_record q apart k.0 k.1 k.2,
            λ left. not_left_by k.2 (tells ms q) (sym (other_phase q apart) ∙ left),
          );
    }
      where
        told_left : Told ≡ Left → ⊥
        told_left e = cc

        not_left_by : phase_of S q ≢ Left → (b : Bool) → phase_told b (phase_of S q) ≡ Left → ⊥
        not_left_by n true e = told_left e
        not_left_by n false e = n e

        opener_by_news : (z : Version) (p : Operand) → get S.versions q ≡ Some z → operand_among ts q ≡ Some p
            → version_opener z p.mode (phase_of S q) ≡ true → (b : Bool) → tells ms q ≡ b
            → version_opener z p.mode (phase_of T q) ≡ true
        opener_by_news z p v a was false e =
            ap (version_opener z p.mode) (other_phase q apart ∙ ap (λ b. phase_told b (phase_of S q)) e) ∙ was
        opener_by_news z p v a was true e =
            let t = link_tells r.source next q e in
            absurd (no_version t.1.0 t.1.1 z p (ap (get S.versions) (sym t.0) ∙ v)
            (ap (operand_among ts) (sym t.0) ∙ a))

    link_holders : HasHolders ts g T
    link_holders =
        holders_kept ts g S T versions h.orderly
        (HasRunners-after_event m all S ground.numbers ground.stages h.orderly h.holders.runners
        (event.Link o) on order)
        (λ q. elim (decide_key name_order q o) [
          | inl same ↦ inr (subst (IsChangedHolder ts g S T) (sym same) link_own)
          | inr apart ↦ inr (link_other q apart)
        ]) h.holders

  -- link
  pub HasHolders-link : (o : OpName) → IsEnabled m S (event.Link o) → LinksWaiting S o
      → HasHolders ts g (after_event m S (event.Link o))
  unfolding is_enabled
  HasHolders-link o on order =
      let next = something is_some (get S.mail.links o) refl on in
      let found = order next.0 next.1 in
      link_holders o on order next.0 next.1 found.0 found.1 found.2
