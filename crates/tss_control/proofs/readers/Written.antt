-- A version is written, and its readers are known: all readers are in order. And readers after a release by a reader.
use Rattle.std.proofs.Common.{◌≡◌, ◌≢◌, ◌⊎◌, inl, inr, suc, Bool, true, false, cond, List, [], ◌∷◌, Some, None, refl}
use Rattle.std.proofs.Common.{sym, ap, ◌∙◌, subst}
use Rattle.std.specs.Prelude.{if◌then◌else◌}
use Rattle.std.specs.FinMap.{get}
use Rattle.tss_base.specs.declared.operand.OpName.{OpName}
use Rattle.tss_base.specs.declared.operand.Task.{Task}
use Rattle.tss_maps.proofs.Keys.{name_order, decide_key}
use Rattle.tss_maps.proofs.Changes.{from_inserted, still_inserted}
use Rattle.tss_protocol.specs.Names.{same_name}
use Rattle.tss_protocol.specs.State.{State, Version}
use Rattle.tss_protocol.specs.Stations.{operand_at}
use Rattle.tss_protocol.specs.Versions.{put_version, tail_without, released_once}
use Rattle.tss_phases.specs.Phase.{Phase, Waiting, Told, Releasing, Leaving, phase_of, has_released}
use Rattle.tss_phases.specs.Openers.{is_waiting}
use Rattle.tss_phases.proofs.Received.{own_name, other_name}
use Rattle.tss_phases.proofs.Tests.{not_both}
use Rattle.tss_control.specs.Readers.{Arrivals, Has, tail_of, has_arrived, Holds, IsLinking, AreNeighbours, IsNewest}
use Rattle.tss_control.specs.Readers.{HasArrivals, HasReaders}
use Rattle.tss_control.proofs.rounds.ReadersLists.{IsNext, has_older, has_newer, has_oldest, chained_at, chained_by}
use Rattle.tss_control.proofs.rounds.ReadersLists.{newest_at, newest_by}
use Rattle.tss_control.proofs.rounds.ReadersCounts.{one_more_released}
use Rattle.tss_control.proofs.rounds.ReadersKept.{SameReader, LooksAlike, alike_same, waited, still_waits}
use Rattle.tss_control.proofs.rounds.ReadersKept.{neighbours_kept, arrival_kept, same_version, arrivals_kept}

-- ---- all readers

-- the links and the records are the same
pub record SameStations (S T : State) : Type 0 where
  pub links : T.mail.links ≡ S.mail.links
  pub station : (a : OpName) → operand_at T.flight a ≡ operand_at S.flight a

module _ (S T : State) (k : SameStations S T) where
  -- a link that is under way was so
  pub link_was : (a b : OpName) → IsLinking T a b → IsLinking S a b
  link_was a b e = sym (ap (λ ls. get ls a) k.links) ∙ e

  -- and one that is held
  pub held_was : (a b : OpName) → Holds T a b → Holds S a b
  held_was a b q = (q.0, sym (k.station a) ∙ q.1, q.2)

  -- a reader of whom the same is seen is as it was
  pub reader_by : (a : OpName) → LooksAlike (phase_of S a) (phase_of T a) → SameReader S T a
  reader_by a alike = record {
    phase = alike;
    links = ap (λ ls. get ls a) k.links;
    holds = λ c q. (q.0, k.station a ∙ q.1, q.2);
    station = λ r e. (r, sym (k.station a) ∙ e, refl);
  }

  -- the newest stays so
  pub newest_stays : (a : OpName) → IsNewest S a → IsNewest T a
  newest_stays a n = record {
    linking = λ c l. n.linking c (link_was a c l);
    record_link = λ r e. n.record_link r (sym (k.station a) ∙ e);
  }

-- one version is written
pub readers_written : (ts : List Task) (g : Arrivals) (S T : State) (v : OpName) (x z : Version) → HasReaders ts g S
    → SameStations S T → get S.versions v ≡ Some x → T.versions ≡ put_version S.versions v z
    → HasArrivals ts (g v) T v z
    → ((w : OpName) (y : Version) → w ≢ v → get S.versions w ≡ Some y → HasArrivals ts (g w) T w y)
    → HasReaders ts g T
readers_written ts g S T v x z h k at versions own other = record {
  versions = λ w y e. elim (was w y e) [
    | inl p ↦ subst (λ w. HasArrivals ts (g w) T w y) (sym p.0) (subst (HasArrivals ts (g v) T v) (sym p.1) own)
    | inr p ↦ other w y p.0 p.1
  ];
  apart = λ w u a y q e f.
      let b = before w y e in
      let c = before u q f in
      h.apart w u a b.0 c.0 b.1 c.1;
  links = λ a b l. let f = h.links a b (link_was S T k a b l) in now f.0 f.1 a f.2 f.3;
  held = λ a b q. let f = h.held a b (held_was S T k a b q) in now f.0 f.1 a f.2 f.3;
}
  where
    was : (w : OpName) (y : Version) → get T.versions w ≡ Some y
        → ((w ≡ v) × (y ≡ z)) ⊎ ((w ≢ v) × (get S.versions w ≡ Some y))
    was w y e = from_inserted name_order S.versions v z w y (sym (ap (λ vs. get vs w) versions) ∙ e)

    before : (w : OpName) (y : Version) → get T.versions w ≡ Some y → (q : Version) × (get S.versions w ≡ Some q)
    before w y e = elim (was w y e) [
      | inl p ↦ (x, ap (get S.versions) p.0 ∙ at)
      | inr p ↦ (y, p.1)
    ]

    now : (w : OpName) (y : Version) (a : OpName) → get S.versions w ≡ Some y → Has a (g w)
        → (w : OpName) × (y : Version) × (get T.versions w ≡ Some y) × Has a (g w)
    now w y a e q =
        let s = still_inserted name_order S.versions v z w y e in
        (w, s.0, ap (λ vs. get vs w) versions ∙ s.1, q)

-- ---- a reader releases

tail_by : (o a : OpName) (b : Bool) → a ≢ o → tail_without o (cond b None (Some a)) ≡ cond b None (Some a)
tail_by o a true apart = refl
tail_by o a false apart = ap (λ t. if t then None else Some a) (other_name a o apart)

module _ (S T : State) (o : OpName) (before : has_released (phase_of S o) ≡ false)
    (now : has_released (phase_of T o) ≡ true) where
  tail_own : (a : OpName) → a ≡ o
      → tail_without o (cond (has_released (phase_of S a)) None (Some a))
      ≡ cond (has_released (phase_of T a)) None (Some a)
  tail_own a same =
      ap (λ b. tail_without o (cond b None (Some a))) (ap (λ a. has_released (phase_of S a)) same ∙ before)
      ∙ ap (λ t. if t then None else Some a) (ap (same_name a) (sym same) ∙ own_name a)
      ∙ ap (λ b. cond b None (Some a)) (sym (ap (λ a. has_released (phase_of T a)) same ∙ now))

  -- the tail without it
  tail_released : (xs : List OpName)
      → ((a : OpName) → a ≢ o → Has a xs → has_released (phase_of T a) ≡ has_released (phase_of S a))
      → tail_without o (tail_of S xs) ≡ tail_of T xs
  tail_released [] same = refl
  tail_released (a ∷ bs) same = elim (decide_key name_order a o) [
    | inl is ↦ tail_own a is
    | inr apart ↦
        tail_by o a (has_released (phase_of S a)) apart
        ∙ ap (λ b. cond b None (Some a)) (sym (same a apart (inl refl)))
  ]

leaving_apart : (p : Phase) → p ≡ Leaving → (p ≢ Waiting) × (p ≢ Told)
leaving_apart p e = (λ f. cc, λ f. cc)

module _ (ts : List Task) (xs : List OpName) (S T : State) (v : OpName) (x : Version) (o : OpName)
    (h : HasArrivals ts xs S v x) (k : SameStations S T) (member : Has o xs) (was : phase_of S o ≡ Releasing)
    (now : phase_of T o ≡ Leaving) (same : (a : OpName) → a ≢ o → Has a xs → phase_of T a ≡ phase_of S a) where
  each_arrived : (a : OpName) → Has a xs → has_arrived (phase_of T a) ≡ has_arrived (phase_of S a)
  each_arrived a q = elim (decide_key name_order a o) [
    | inl is ↦ ap (λ a. has_arrived (phase_of T a)) is ∙ ap has_arrived now ∙ sym (ap has_arrived was)
        ∙ ap (λ a. has_arrived (phase_of S a)) (sym is)
    | inr apart ↦ ap has_arrived (same a apart q)
  ]

  each_waiting : (a : OpName) → Has a xs → is_waiting (phase_of T a) ≡ is_waiting (phase_of S a)
  each_waiting a q = elim (decide_key name_order a o) [
    | inl is ↦ ap (λ a. is_waiting (phase_of T a)) is ∙ ap is_waiting now ∙ sym (ap is_waiting was)
        ∙ ap (λ a. is_waiting (phase_of S a)) (sym is)
    | inr apart ↦ ap is_waiting (same a apart q)
  ]

  next_of_own : (b : OpName) → is_waiting (phase_of T b) ≡ is_waiting (phase_of S b) → AreNeighbours S o b
      → AreNeighbours T o b
  next_of_own b waits n = record {
    waits = λ e. elim (n.waits (waited (phase_of S b) (phase_of T b) waits e)) [
      | inl l ↦ inl (ap (λ ls. get ls o) k.links ∙ l)
      | inr q ↦ inr (q.0, k.station o ∙ q.1, q.2)
    ];
    linking = λ c l.
        let m = n.linking c (link_was S T k o c l) in
        (m.0, still_waits (phase_of S b) (phase_of T b) waits m.1, λ d q. m.2 d (held_was S T k o d q));
    holding = λ c q.
        let m = n.holding c (held_was S T k o c q) in
        (m.0, still_waits (phase_of S b) (phase_of T b) waits m.1);
    woken = λ none. leaving_apart (phase_of T o) now;
    passed = λ r none e late. absurd (not_both (has_released (phase_of T o)) (ap has_released now) late);
  }

  next_released : (a b : OpName) → IsNext a b xs → AreNeighbours T a b
  next_released a b n =
      let old = chained_at S xs h.chained a b n in
      let waits = each_waiting b (has_newer a b xs n) in
      elim (decide_key name_order a o) [
        | inl is ↦ subst (λ a. AreNeighbours T a b) (sym is)
            (next_of_own b waits (subst (λ a. AreNeighbours S a b) is old))
        | inr apart ↦ neighbours_kept S T a
            (reader_by S T k a (alike_same (phase_of S a) (phase_of T a) (same a apart (has_older a b xs n)))) b
            waits old
      ]

  -- its readers are in order where one of them has released it
  pub arrivals_released : HasArrivals ts xs T v (released_once x o)
  arrivals_released =
      let before = ap has_released was in
      let after = ap has_released now in
      let others = λ (a : OpName) (apart : a ≢ o) (q : Has a xs). ap has_released (same a apart q) in record {
        once = h.once;
        each = λ a q. arrival_kept ts S T v x (released_once x o) a refl (each_arrived a q) (h.each a q);
        opener = h.opener;
        own = h.own;
        registered = h.registered;
        released = ap suc h.released ∙ sym (one_more_released S T o xs h.once member before after others);
        head = h.head;
        tail = ap (tail_without o) h.tail ∙ tail_released S T o before after xs others;
        first = λ a e.
            let f = h.first a e in
            let waits = each_waiting a (has_oldest a xs e) in (
              (λ w. f.0 (waited (phase_of S a) (phase_of T a) waits w)),
              (λ b. still_waits (phase_of S a) (phase_of T a) waits (f.1 b)),
            );
        chained = chained_by T xs next_released;
        newest = newest_by T xs (λ a e. newest_stays S T k a (newest_at S xs h.newest a e));
      }

-- readers of another version stay in order
pub arrivals_beside : (ts : List Task) (xs : List OpName) (S T : State) (w : OpName) (y : Version)
    → SameStations S T → ((a : OpName) → Has a xs → phase_of T a ≡ phase_of S a) → HasArrivals ts xs S w y
    → HasArrivals ts xs T w y
arrivals_beside ts xs S T w y k same h =
    arrivals_kept ts xs S T w y y (same_version y y refl)
    (λ a q. reader_by S T k a (alike_same (phase_of S a) (phase_of T a) (same a q))) h
