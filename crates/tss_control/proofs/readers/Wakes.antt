-- A reader goes on, and the one that came right after it may be told: what that leaves of all readers.
use Rattle.std.proofs.Common.{◌≡◌, ◌≢◌, ◌⊎◌, inl, inr, Bool, true, false, List, Some, refl, sym, ap, ◌∙◌, subst}
use Rattle.std.specs.FinMap.{get}
use Rattle.tss_base.specs.declared.operand.OpName.{OpName}
use Rattle.tss_base.specs.declared.operand.Operand.{Operand}
use Rattle.tss_base.specs.declared.operand.Task.{Task}
use Rattle.tss_maps.proofs.Keys.{name_order, decide_key}
use Rattle.tss_protocol.specs.State.{State, OperandState, Version}
use Rattle.tss_protocol.specs.Stations.{operand_at}
use Rattle.tss_phases.specs.Phase.{Phase, Waiting, Told, phase_of, has_released}
use Rattle.tss_phases.specs.Openers.{is_waiting}
use Rattle.tss_phases.proofs.Tests.{not_both}
use Rattle.tss_control.specs.Members.{operand_among}
use Rattle.tss_control.specs.Readers.{Arrivals, Has, oldest_of, has_arrived, Holds, IsLinking, AreNeighbours, IsNewest}
use Rattle.tss_control.specs.Readers.{HasArrivals, HasReaders}
use Rattle.tss_control.proofs.rounds.ReadersLists.{newest_of, IsNext, has_older, has_newer, has_oldest, one_older}
use Rattle.tss_control.proofs.rounds.ReadersLists.{none_before_oldest, chained_at, chained_by, newest_at, newest_by}
use Rattle.tss_control.proofs.rounds.ReadersCounts.{same_released, same_tail}
use Rattle.tss_control.proofs.rounds.ReadersKept.{waiting_from_test, LooksAlike, waited, still_waits, neighbours_kept}
use Rattle.tss_control.proofs.rounds.ReadersKept.{arrival_kept}

-- ---- the readers of one version

-- what has to be known of the readers of a version, so that they are in order in another state
arrivals_moved : (ts : List Task) (xs : List OpName) (S T : State) (v : OpName) (y : Version)
    → HasArrivals ts xs S v y
    → ((a : OpName) → Has a xs → has_released (phase_of T a) ≡ has_released (phase_of S a))
    → ((a : OpName) → Has a xs → has_arrived (phase_of T a) ≡ has_arrived (phase_of S a))
    → ((a : OpName) → oldest_of xs ≡ Some a → is_waiting (phase_of T a) ≡ is_waiting (phase_of S a))
    → ((a b : OpName) → IsNext a b xs → AreNeighbours T a b)
    → ((a : OpName) → newest_of xs ≡ Some a → IsNewest T a) → HasArrivals ts xs T v y
arrivals_moved ts xs S T v y h released arrived first chained newest = record {
  once = h.once;
  each = λ a k. arrival_kept ts S T v y y a refl (arrived a k) (h.each a k);
  opener = h.opener;
  own = h.own;
  registered = h.registered;
  released = h.released ∙ sym (same_released S T xs released);
  head = h.head;
  tail = h.tail ∙ sym (same_tail S T xs released);
  first = λ a e.
      let k = h.first a e in (
        (λ w. k.0 (waited (phase_of S a) (phase_of T a) (first a e) w)),
        (λ b. still_waits (phase_of S a) (phase_of T a) (first a e) (k.1 b)),
      );
  chained = chained_by T xs chained;
  newest = newest_by T xs newest;
}

-- ---- who is told

-- a reader that waited is told, and came right after o
pub record IsWoken (g : Arrivals) (S T : State) (o a : OpName) : Type 0 where
  pub before : phase_of S a ≡ Waiting
  pub now : phase_of T a ≡ Told
  pub version : OpName
  pub state : Version
  pub there : get S.versions version ≡ Some state
  pub next : IsNext o a (g version)

-- o goes on, and readers beside it stay as they were but for one that is told
pub record Wakes (ts : List Task) (g : Arrivals) (S T : State) (o : OpName) : Type 0 where
  pub versions : T.versions ≡ S.versions
  pub links : (a : OpName) → a ≢ o → get T.mail.links a ≡ get S.mail.links a
  pub station : (a : OpName) (r : OperandState) → a ≢ o → operand_at T.flight a ≡ Some r
      → (k : OperandState) × (operand_at S.flight a ≡ Some k) × (r.link ≡ k.link)
  pub holds : (a c : OpName) (p : Operand) → a ≢ o → operand_among ts a ≡ Some p → Holds S a c → Holds T a c
  pub phases : (a : OpName) → a ≢ o → LooksAlike (phase_of S a) (phase_of T a) ⊎ IsWoken g S T o a
  pub released : has_released (phase_of T o) ≡ has_released (phase_of S o)
  pub arrived : has_arrived (phase_of T o) ≡ has_arrived (phase_of S o)
  pub waiting : is_waiting (phase_of T o) ≡ is_waiting (phase_of S o)
  pub next : (v : OpName) (y : Version) (b : OpName) → get S.versions v ≡ Some y → IsNext o b (g v)
      → AreNeighbours T o b
  pub newest : (v : OpName) (y : Version) → get S.versions v ≡ Some y → newest_of (g v) ≡ Some o → IsNewest T o
  pub own_link : (b : OpName) → IsLinking T o b ⊎ Holds T o b → IsLinking S o b ⊎ Holds S o b

-- what is seen of both is the same but whether it waits, and is told
pub waiting_told : (p q : Phase) → p ≡ Waiting → q ≡ Told
    → (has_released q ≡ has_released p) × (has_arrived q ≡ has_arrived p)
waiting_told p q e f = (
  ap has_released f ∙ ap has_released (sym e),
  ap has_arrived f ∙ ap has_arrived (sym e),
)

-- neighbours of whom the older is told stay so, where the newer waits as before
pub neighbours_woken : (S T : State) (a b : OpName) → get T.mail.links a ≡ get S.mail.links a
    → ((r : OperandState) → operand_at T.flight a ≡ Some r
    → (k : OperandState) × (operand_at S.flight a ≡ Some k) × (r.link ≡ k.link))
    → ((c : OpName) → Holds S a c → Holds T a c) → phase_of S a ≡ Waiting
    → (phase_of S b ≡ Waiting → phase_of T b ≡ Waiting) → ((phase_of S b ≡ Waiting → ⊥) → ⊥)
    → AreNeighbours S a b → AreNeighbours T a b
neighbours_woken S T a b links station holds was stays never n =
    let back : (c : OpName) → Holds T a c → Holds S a c = λ c h.
    let k = station h.0 h.1 in
    (k.0, k.1, sym k.2 ∙ h.2) in record {
      waits = λ e. elim (waits_by e) [
        | inl l ↦ inl (links ∙ l)
        | inr h ↦ inr (holds b h)
      ];
      linking = λ c e.
          let k = n.linking c (sym links ∙ e) in
          (k.0, stays k.1, λ d h. k.2 d (back d h));
      holding = λ c h. let k = n.holding c (back c h) in (k.0, stays k.1);
      woken = λ none. absurd (never (λ w. none (stays w)));
      passed = λ r none at late. absurd (never (λ w. none (stays w)));
    }
  where
    waits_by : phase_of T b ≡ Waiting → IsLinking S a b ⊎ Holds S a b
    waits_by e = by (is_waiting (phase_of S b)) refl
      where
        by : (t : Bool) → is_waiting (phase_of S b) ≡ t → IsLinking S a b ⊎ Holds S a b
        by true w = n.waits (waiting_from_test (phase_of S b) w)
        by false w = absurd (never (λ e. not_both (is_waiting (phase_of S b)) (ap is_waiting e) w))

-- ---- all readers

module _ (ts : List Task) (g : Arrivals) (S T : State) (o : OpName) (h : HasReaders ts g S) (k : Wakes ts g S T o) where
  module _ (v : OpName) (y : Version) (there : get S.versions v ≡ Some y) where
    abbrev Old : HasArrivals ts (g v) S v y
    Old = h.versions v y there

    -- who is told came right after o to this version
    woken_here : (a : OpName) → Has a (g v) → IsWoken g S T o a → IsNext o a (g v)
    woken_here a has w =
        let same = h.apart v w.version a y w.state there w.there has (has_newer o a (g w.version) w.next) in
        subst (λ v. IsNext o a (g v)) (sym same) w.next

    moved_released : (a : OpName) → Has a (g v) → has_released (phase_of T a) ≡ has_released (phase_of S a)
    moved_released a has = elim (decide_key name_order a o) [
      | inl same ↦ ap (λ a. has_released (phase_of T a)) same ∙ k.released
          ∙ ap (λ a. has_released (phase_of S a)) (sym same)
      | inr apart ↦ elim (k.phases a apart) [
        | inl alike ↦ alike.released
        | inr w ↦ (waiting_told (phase_of S a) (phase_of T a) w.before w.now).0
      ]
    ]

    moved_arrived : (a : OpName) → Has a (g v) → has_arrived (phase_of T a) ≡ has_arrived (phase_of S a)
    moved_arrived a has = elim (decide_key name_order a o) [
      | inl same ↦ ap (λ a. has_arrived (phase_of T a)) same ∙ k.arrived
          ∙ ap (λ a. has_arrived (phase_of S a)) (sym same)
      | inr apart ↦ elim (k.phases a apart) [
        | inl alike ↦ alike.arrived
        | inr w ↦ (waiting_told (phase_of S a) (phase_of T a) w.before w.now).1
      ]
    ]

    own_waiting : (a : OpName) → a ≡ o → is_waiting (phase_of T a) ≡ is_waiting (phase_of S a)
    own_waiting a same =
        ap (λ a. is_waiting (phase_of T a)) same ∙ k.waiting ∙ ap (λ a. is_waiting (phase_of S a)) (sym same)

    moved_first : (a : OpName) → oldest_of (g v) ≡ Some a → is_waiting (phase_of T a) ≡ is_waiting (phase_of S a)
    moved_first a e = elim (decide_key name_order a o) [
      | inl same ↦ own_waiting a same
      | inr apart ↦ elim (k.phases a apart) [
        | inl alike ↦ alike.waiting
        | inr w ↦ absurd (none_before_oldest o a (g v) Old.once (woken_here a (has_oldest a (g v) e) w) e)
      ]
    ]

    -- the newer of two neighbours waits as before, where the older isn't o
    newer_waiting : (a b : OpName) → a ≢ o → IsNext a b (g v) → is_waiting (phase_of T b) ≡ is_waiting (phase_of S b)
    newer_waiting a b other n = elim (decide_key name_order b o) [
      | inl same ↦ own_waiting b same
      | inr apart ↦ elim (k.phases b apart) [
        | inl alike ↦ alike.waiting
        | inr w ↦ absurd (other (one_older a o b (g v) Old.once n (woken_here b (has_newer a b (g v) n) w)))
      ]
    ]

    moved_next : (a b : OpName) → IsNext a b (g v) → AreNeighbours T a b
    moved_next a b n = elim (decide_key name_order a o) [
      | inl same ↦ subst (λ a. AreNeighbours T a b) (sym same)
          (k.next v y b there (subst (λ a. IsNext a b (g v)) same n))
      | inr apart ↦
          let on = (Old.each a (has_older a b (g v) n)).on in
          let old = chained_at S (g v) Old.chained a b n in
          let same = newer_waiting a b apart n in
          elim (k.phases a apart) [
            | inl alike ↦ neighbours_kept S T a (record {
              phase = alike;
              links = k.links a apart;
              holds = λ c q. k.holds a c on.operand apart on.there q;
              station = λ r e. k.station a r apart e;
            }) b same old
            | inr w ↦ neighbours_woken S T a b (k.links a apart) (λ r e. k.station a r apart e)
                (λ c q. k.holds a c on.operand apart on.there q) w.before
                (still_waits (phase_of S b) (phase_of T b) same) (λ none. (old.woken none).0 w.before) old
          ]
    ]

    moved_newest : (a : OpName) → newest_of (g v) ≡ Some a → IsNewest T a
    moved_newest a e = elim (decide_key name_order a o) [
      | inl same ↦ subst (IsNewest T) (sym same) (k.newest v y there (e ∙ ap Some same))
      | inr apart ↦
          let n = newest_at S (g v) Old.newest a e in
          record {
            linking = λ c l. n.linking c (sym (k.links a apart) ∙ l);
            record_link = λ r at. let s = k.station a r apart at in s.2 ∙ n.record_link s.0 s.1;
          }
    ]

    arrivals_after : HasArrivals ts (g v) T v y
    arrivals_after =
        arrivals_moved ts (g v) S T v y Old moved_released moved_arrived moved_first moved_next moved_newest

  abbrev HasCome : OpName → Type 0
  HasCome a = (v : OpName) × (y : Version) × (get S.versions v ≡ Some y) × Has a (g v)

  -- who has a link has come
  linked_has_come : (a b : OpName) → IsLinking S a b ⊎ Holds S a b → HasCome a
  linked_has_come a b (inl l) = h.links a b l
  linked_has_come a b (inr l) = h.held a b l

  link_before : (a b : OpName) → IsLinking T a b ⊎ Holds T a b → IsLinking S a b ⊎ Holds S a b
  link_before a b l = elim (decide_key name_order a o) [
    | inl same ↦ subst (λ a. IsLinking S a b ⊎ Holds S a b) (sym same)
        (k.own_link b (subst (λ a. IsLinking T a b ⊎ Holds T a b) same l))
    | inr apart ↦ elim l [
      | inl e ↦ inl (sym (k.links a apart) ∙ e)
      | inr q ↦ let s = k.station a q.0 apart q.1 in inr (s.0, s.1, sym s.2 ∙ q.2)
    ]
  ]

  now_there : (a : OpName) → HasCome a → (v : OpName) × (y : Version) × (get T.versions v ≡ Some y) × Has a (g v)
  now_there a c = (c.0, c.1, ap (λ vs. get vs c.0) k.versions ∙ c.2, c.3)

  -- all readers are in order
  pub readers_after_wake : HasReaders ts g T
  readers_after_wake =
      let was : (v : OpName) (y : Version) → get T.versions v ≡ Some y → get S.versions v ≡ Some y =
      λ v y e. sym (ap (λ vs. get vs v) k.versions) ∙ e in record {
        versions = λ v y e. arrivals_after v y (was v y e);
        apart = λ v w a y z e f. h.apart v w a y z (was v y e) (was w z f);
        links = λ a b l. now_there a (linked_has_come a b (link_before a b (inl l)));
        held = λ a b q. now_there a (linked_has_come a b (link_before a b (inr q)));
      }
