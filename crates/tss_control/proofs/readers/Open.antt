-- Readers after an open: those of the version that is opened, and the settle of the one that it follows.
use Rattle.std.proofs.Common.{◌≡◌, ◌≢◌, inl, inr, suc, true, List, [], Option, Some, None, refl, sym, ap, ◌∙◌, subst}
use Rattle.std.specs.FinMap.{get, len}
use Rattle.std.proofs.lemmas.Option.{same_Some}
use Rattle.tss_base.specs.declared.range.Range.{Range}
use Rattle.tss_base.specs.declared.operand.OpName.{OpName}
use Rattle.tss_base.specs.declared.operand.Mode.{Mode}
use Rattle.tss_base.specs.declared.operand.Mode.TheVariants.{Input, Output, Inout}
use Rattle.tss_base.specs.declared.operand.Operand.{Operand}
use Rattle.tss_base.specs.declared.operand.Task.{Task}
use Rattle.tss_base.specs.declared.machine.Machine.{Machine}
use Rattle.tss_base.specs.declared.event.Event.TheVariants as event
use Rattle.tss_base.specs.declared.marks.How.{How}
use Rattle.tss_base.specs.declared.marks.How.TheVariants.{Beside, Over}
use Rattle.tss_base.specs.declared.marks.Follow.{Follow}
use Rattle.tss_base.specs.Names.{Named}
use Rattle.tss_maps.proofs.Keys.{name_order}
use Rattle.tss_maps.proofs.Changes.{still_inserted, at_inserted, beside_inserted}
use Rattle.tss_protocol.specs.Mail.{Home, OpenContents}
use Rattle.tss_protocol.specs.State.{State, Version}
use Rattle.tss_protocol.specs.Stations.{operand_at}
use Rattle.tss_protocol.specs.Versions.{first_version, put_version, followed, opened_how, opened_by, after_open}
use Rattle.tss_protocol.specs.Versions.{settled}
use Rattle.tss_protocol.specs.UnitMachine.{IsEnabled, is_enabled, after_event, without, open_message_taken}
use Rattle.tss_protocol.specs.UnitMachine.{can_open_message}
use Rattle.tss_phases.specs.Phase.{Sent, Waiting, Told, look_ups, phase_of}
use Rattle.tss_phases.specs.Told.{tells, phase_told}
use Rattle.tss_phases.specs.Orderly.{AreOrderly, OpensForWaiting}
use Rattle.tss_phases.proofs.Tests.{something, not_both}
use Rattle.tss_phases.proofs.PhaseLemmas.{phase_opening}
use Rattle.tss_phases.proofs.OrderlyLemmas.{opening_stands}
use Rattle.tss_phases.proofs.OpenEvent.{open_tells, first_open_tells, phase_of-open, phase_of-open-other}
use Rattle.tss_locality.proofs.LeftFields.{Leaves-after_event}
use Rattle.tss_control.specs.Members.{IsOn}
use Rattle.tss_control.specs.Chains.{IsOpenInOrder, FollowsAs, HasChains}
use Rattle.tss_names.specs.Openings.{HasOpenings}
use Rattle.tss_control.specs.Readers.{Arrivals, first_arrivals, set_arrivals, arrivals_opened, arrivals_after_event}
use Rattle.tss_control.specs.Readers.{Has, has_arrived, HasArrivals, HasReaders}
use Rattle.tss_control.specs.Holders.{HasHolders}
use Rattle.tss_control.proofs.rounds.ReadersKept.{same_version}
use Rattle.tss_control.proofs.readers.Links.{links-open}
use Rattle.tss_control.proofs.readers.Told.{taker_writes}
use Rattle.tss_control.proofs.readers.Settled.{readers_settled, fails}
use Rattle.tss_control.proofs.readers.Use.{sent_link}
use Rattle.tss_control.proofs.readers.Written.{SameStations}
use Rattle.tss_control.proofs.readers.Opened.{no_arrivals_yet, first_arrival, Opens, readers_opened}
use Rattle.tss_control.proofs.readers.Following.{opened_tells, few_opened, from_opened, own_opened, stay_opened}

one_mode : (p q : Operand) → p ≡ q → (m n : Mode) → p.mode ≡ m → q.mode ≡ n → m ≡ n
one_mode p q e m n a b = sym a ∙ ap (λ (p : Operand). p.mode) e ∙ b

-- who opens a version that follows another writes it
writer_follows : (o : OpName) (c : OpenContents) (f : Follow) → FollowsAs o c f → c.operand.mode ≡ Input → ⊥
writer_follows o c f (inl p) e = by c.operand.mode p.0 e
  where
    by : (m : Mode) → m ≡ Inout → m ≡ Input → ⊥
    by m a b = cc
writer_follows o c f (inr p) e = by c.operand.mode p.0 e
  where
    by : (m : Mode) → m ≡ Output → m ≡ Input → ⊥
    by m a b = cc

none_first : (o : OpName) (mode : Mode) (f : Follow) → first_arrivals o mode (Some f) ≡ []
none_first o Input f = refl
none_first o Output f = refl
none_first o Inout f = refl

module _ (m : Machine) (all ts : List Task) (g : Arrivals) (S : State) (h : HasReaders ts g S) (orderly : AreOrderly S)
    (chains : HasChains ts S) (holders : HasHolders ts g S) (openings : HasOpenings m all S) (o : OpName)
    (c : OpenContents) (there : get S.mail.opens o ≡ Some c) (needs : OpensForWaiting S o) where
  abbrev After : State
  After = after_event m S (event.Open o)

  order : IsOpenInOrder ts S o c
  order = chains.opens o c there

  absent : get S.versions o ≡ None
  absent = (openings.opens o c there).no_version

  was_sent : phase_of S o ≡ Sent
  was_sent = phase_opening (look_ups S o) c (openings.opens o c there).no_decode there

  unread : (w : OpName) (y : Version) → get S.versions w ≡ Some y → Has o (g w) → ⊥
  unread w y e k =
      not_both (has_arrived (phase_of S o)) ((h.versions w y e).each o k).arrived (ap has_arrived was_sent)

  -- of the readers that have come it tells none
  tells_none : (q : OpName) (y : Range) → q ≢ o → IsOn ts y Input q
      → tells (after_open S.versions o c).sent q ≡ true → ⊥
  tells_none q y apart on e = elim (open_tells S.versions o c q e) [
    | inl p ↦ apart p.0
    | inr p ↦
        let n = suc (len (followed S.versions o c p.0)) in
        taker_writes ts q y (opened_tells ts S chains o c p.0 there p.1 n q p.2) on
  ]

  same : (w : OpName) (y : Version) (a : OpName) → get S.versions w ≡ Some y → Has a (g w)
      → phase_of After a ≡ phase_of S a
  same w y a e k =
      let apart : a ≢ o = λ is. unread w y e (subst (λ a. Has a (g w)) is k) in
      phase_of-open-other m S o c there a apart (needs c there a apart)
      ∙ ap (λ b. phase_told b (phase_of S a)) (fails (tells (after_open S.versions o c).sent a)
      (tells_none a y.object apart ((h.versions w y e).each a k).on))

  stations_of : (us : Named Version) → SameStations S (record After { versions = us })
  stations_of us = record {
    links = links-open m S o;
    station = λ a. ap (λ f. operand_at f a) (λ i. (Leaves-after_event m S (event.Open o) i).flight);
  }

  -- ---- a version that follows nothing

  module _ (none : c.follows ≡ None) where
    abbrev first : Version
    first = first_version o c.operand.object c.storage c.operand.mode

    abbrev us : Named Version
    us = put_version S.versions o first

    first_versions : After.versions ≡ us
    unfolding after_event
    first_versions =
        ap (λ y. (open_message_taken (without S (event.Open o)) o y).versions) there
        ∙ ap (λ f. (opened_by S.versions o c f).part) none

    is_told : phase_of After o ≡ Told
    is_told =
        phase_of-open m S o c there (orderly o).alone (opening_stands (look_ups S o) c (orderly o) there).1.0
        ∙ ap (λ b. phase_told b Waiting) (first_open_tells S.versions o c Home none (order.first none).storage)

    writer_new : (mode : Mode) → c.operand.mode ≡ mode → (mode ≡ Input → ⊥) → (z : Version)
        → z.object ≡ c.operand.object → IsOn ts z.object Input o → ⊥
    writer_new mode e other z object on =
        let same = same_Some c.operand on.operand (sym order.operand ∙ on.there) in
        other (one_mode c.operand on.operand same mode Input e on.is_mode)

    first_own : (mode : Mode) → c.operand.mode ≡ mode
        → HasArrivals ts (first_arrivals o mode None) (record After { versions = us }) o
        (first_version o c.operand.object c.storage mode)
    first_own Input e =
        first_arrival ts (record After { versions = us }) o (first_version o c.operand.object c.storage Input) (record {
          on = record { operand = c.operand; there = order.operand; object = refl; is_mode = e };
          produced = refl;
          registered = refl;
          released = refl;
          head = refl;
          tail = refl;
          told = is_told;
          no_link = λ d l.
              let k = h.links o d (sym (ap (λ ls. get ls o) (links-open m S o)) ∙ l) in
              unread k.0 k.1 k.2 k.3;
          nothing = λ r at. sent_link (phase_of S o) r.link was_sent
              (holders.links o c.operand r order.operand (sym ((stations_of us).station o) ∙ at)).fits;
        })
    first_own Output e =
        no_arrivals_yet ts (record After { versions = us }) o (first_version o c.operand.object c.storage Output)
        (record { produced = refl; registered = refl; released = refl; head = refl; tail = refl })
        (writer_new Output e (λ i. cc) (first_version o c.operand.object c.storage Output) refl)
    first_own Inout e =
        no_arrivals_yet ts (record After { versions = us }) o (first_version o c.operand.object c.storage Inout)
        (record { produced = refl; registered = refl; released = refl; head = refl; tail = refl })
        (writer_new Inout e (λ i. cc) (first_version o c.operand.object c.storage Inout) refl)

    alone_in : (mode : Mode) (a : OpName) → Has a (first_arrivals o mode None) → o ≡ a
    alone_in Input a (inl e) = e
    alone_in Input a (inr k) = absurd k
    alone_in Output a k = absurd k
    alone_in Inout a k = absurd k

    abbrev first_readers : List OpName
    first_readers = first_arrivals o c.operand.mode None

    opens_first : Opens ts g S (record After { versions = us }) o first_readers
    opens_first = record {
      stations = stations_of us;
      fresh = absent;
      unread = unread;
      from = λ w y apart e. (y, sym (beside_inserted name_order S.versions o first w apart) ∙ e, same_version y y refl);
      stay = λ w y e. still_inserted name_order S.versions o first w y e;
      same = same;
      own = λ y e. subst (HasArrivals ts (first_arrivals o c.operand.mode None) (record After { versions = us }) o)
          (same_Some first y (sym (at_inserted name_order S.versions o first) ∙ e)) (first_own c.operand.mode refl);
      alone = alone_in c.operand.mode;
    }

    readers_first : HasReaders ts (set_arrivals g o (first_arrivals o c.operand.mode c.follows)) After
    readers_first =
        subst (λ f. HasReaders ts (set_arrivals g o (first_arrivals o c.operand.mode f)) After) (sym none)
        (subst (λ vs. HasReaders ts (set_arrivals g o first_readers) (record After { versions = vs }))
        (sym first_versions)
        (readers_opened ts g S (record After { versions = us }) o first_readers h opens_first))

  -- ---- a version that follows another

  module _ (f : Follow) (to : c.follows ≡ Some f) where
    abbrev ws : Named Version
    ws = followed S.versions o c f

    settled_how : (w : How) → (opened_how S.versions o c f w).part ≡ (settled ws f.version).part
    settled_how Beside = refl
    settled_how Over = refl

    followed_versions : After.versions ≡ (settled ws f.version).part
    unfolding after_event
    followed_versions =
        ap (λ y. (open_message_taken (without S (event.Open o)) o y).versions) there
        ∙ ap (λ f. (opened_by S.versions o c f).part) to
        ∙ settled_how f.how

    reads_not : (y : Version) → IsOn ts y.object Input o → ⊥
    reads_not y on =
        writer_follows o c f (order.after f to).way
        (ap (λ (p : Operand). p.mode) (same_Some c.operand on.operand (sym order.operand ∙ on.there)) ∙ on.is_mode)

    opens_behind : Opens ts g S (record After { versions = ws }) o []
    opens_behind = record {
      stations = stations_of ws;
      fresh = absent;
      unread = unread;
      from = from_opened ts S chains o c f there to;
      stay = stay_opened ts S chains o c f there to;
      same = same;
      own = λ y e.
          let is = own_opened ts S chains o c f there to y e in
          no_arrivals_yet ts (record After { versions = ws }) o y (record {
            produced = ap (λ (y : Version). y.produced) is;
            registered = ap (λ (y : Version). y.registered) is;
            released = ap (λ (y : Version). y.released) is;
            head = ap (λ (y : Version). y.head) is;
            tail = ap (λ (y : Version). y.tail) is;
          }) (reads_not y);
      alone = λ a k. absurd k;
    }

    readers_behind : HasReaders ts (set_arrivals g o (first_arrivals o c.operand.mode c.follows)) After
    readers_behind =
        subst (λ ys. HasReaders ts (set_arrivals g o ys) After)
        (sym (ap (first_arrivals o c.operand.mode) to ∙ none_first o c.operand.mode f))
        (readers_settled ts (set_arrivals g o []) After ws f.version followed_versions
        (few_opened ts S chains o c f there to)
        (readers_opened ts g S (record After { versions = ws }) o [] h opens_behind))

  readers_by_follow : (f : Option Follow) → c.follows ≡ f
      → HasReaders ts (set_arrivals g o (first_arrivals o c.operand.mode c.follows)) After
  readers_by_follow None e = readers_first e
  readers_by_follow (Some f) e = readers_behind f e

  readers_after_open : HasReaders ts (set_arrivals g o (first_arrivals o c.operand.mode c.follows)) After
  readers_after_open = readers_by_follow c.follows refl

-- open
pub HasReaders-open : (m : Machine) (all ts : List Task) (g : Arrivals) (S : State) → HasReaders ts g S → AreOrderly S
    → HasChains ts S → HasHolders ts g S → HasOpenings m all S → (o : OpName) → IsEnabled m S (event.Open o)
    → OpensForWaiting S o → HasReaders ts (arrivals_after_event S g (event.Open o)) (after_event m S (event.Open o))
unfolding is_enabled
HasReaders-open m all ts g S h orderly chains holders openings o enabled needs =
    let c = something (can_open_message S) (get S.mail.opens o) refl enabled in
    subst (λ x. HasReaders ts (arrivals_opened g o x) (after_event m S (event.Open o))) (sym c.1)
    (readers_after_open m all ts g S h orderly chains holders openings o c.0 c.1 needs)
