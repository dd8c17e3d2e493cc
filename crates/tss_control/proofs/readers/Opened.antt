-- A version is opened: its readers, and all others.
use Rattle.std.proofs.Common.{◌≡◌, ◌≢◌, ◌⊎◌, inl, inr, ℕ, ◌<◌, true, false, cond, List, [], ◌∷◌, Some, None, refl, sym}
use Rattle.std.proofs.Common.{ap, ◌∙◌, subst, arith}
use Rattle.std.specs.FinMap.{get}
use Rattle.std.proofs.lemmas.Option.{none-some, same_Some}
use Rattle.tss_base.specs.declared.operand.OpName.{OpName}
use Rattle.tss_base.specs.declared.operand.Mode.TheVariants.{Input}
use Rattle.tss_base.specs.declared.operand.Task.{Task}
use Rattle.tss_base.specs.declared.marks.LinkState.TheVariants as link
use Rattle.tss_maps.proofs.Keys.{name_order, decide_key}
use Rattle.tss_protocol.specs.State.{State, OperandState, Version}
use Rattle.tss_protocol.specs.Stations.{operand_at}
use Rattle.tss_phases.specs.Phase.{Told, phase_of, has_released}
use Rattle.tss_phases.proofs.Tests.{not_both}
use Rattle.tss_control.specs.Members.{IsOn}
use Rattle.tss_control.specs.Readers.{Arrivals, set_arrivals, Has, head_of, has_arrived, IsArrival, IsLinking}
use Rattle.tss_control.specs.Readers.{HasArrivals, HasReaders}
use Rattle.tss_control.proofs.rounds.ReadersKept.{SameForReaders, alike_same, arrivals_kept}
use Rattle.tss_control.proofs.readers.Ready.{told_not_waiting}
use Rattle.tss_control.proofs.readers.Come.{at_set, beside_set}
use Rattle.tss_control.proofs.readers.Written.{SameStations, link_was, held_was, reader_by}

-- ---- a version without readers

-- a version of which nothing is known yet that no input opened
pub record IsNew (z : Version) : Type 0 where
  pub produced : z.produced ≡ false
  pub registered : z.registered ≡ 0
  pub released : z.released ≡ 0
  pub head : z.head ≡ None
  pub tail : z.tail ≡ None

-- it has no readers
pub no_arrivals_yet : (ts : List Task) (T : State) (v : OpName) (z : Version) → IsNew z
    → (IsOn ts z.object Input v → ⊥) → HasArrivals ts [] T v z
no_arrivals_yet ts T v z n writer = record {
  once = tt;
  each = λ a h. absurd h;
  opener = λ on. absurd (writer on);
  own = λ h. absurd h;
  registered = n.registered;
  released = n.released;
  head = n.head ∙ ap (λ b. head_of b []) (sym n.produced);
  tail = n.tail;
  first = λ a e. absurd (none-some a e);
  chained = tt;
  newest = tt;
}

-- ---- a version whose opener is its first reader

between_itself : (a b : ℕ) → a < b → b < a → ⊥
between_itself a b h k = omega (arith, h, k)

-- it is produced, and its opener was told so
pub record IsRead (ts : List Task) (T : State) (v : OpName) (z : Version) : Type 0 where
  pub on : IsOn ts z.object Input v
  pub produced : z.produced ≡ true
  pub registered : z.registered ≡ 1
  pub released : z.released ≡ 0
  pub head : z.head ≡ None
  pub tail : z.tail ≡ Some v
  pub told : phase_of T v ≡ Told
  pub no_link : (c : OpName) → IsLinking T v c → ⊥
  pub nothing : (r : OperandState) → operand_at T.flight v ≡ Some r → r.link ≡ link.Nothing

-- that is its only one
pub first_arrival : (ts : List Task) (T : State) (v : OpName) (z : Version) → IsRead ts T v z
    → HasArrivals ts (v ∷ []) T v z
first_arrival ts T v z n =
    let late : has_released (phase_of T v) ≡ false = ap has_released n.told in
    let own : IsArrival ts T v z v = record {
      on = n.on;
      arrived = ap has_arrived n.told;
      younger = inl refl;
      alone = λ q older newer w. between_itself v.task q.task older newer;
    } in record {
      once = (λ h. h, tt);
      each = λ a h. elim h [
        | inl e ↦ subst (IsArrival ts T v z) e own
        | inr none ↦ absurd none
      ];
      opener = λ on. refl;
      own = λ h. refl;
      registered = n.registered;
      released = n.released ∙ ap (λ b. cond {A = ℕ} b 1 0) (sym late);
      head = n.head ∙ ap (λ b. head_of b (v ∷ [])) (sym n.produced);
      tail = n.tail ∙ ap (λ b. cond b None (Some v)) (sym late);
      first = λ a e. (
        (λ w. absurd (told_not_waiting (phase_of T v) n.told (ap (phase_of T) (same_Some v a e) ∙ w))),
        (λ b. absurd (not_both z.produced n.produced b)),
      );
      chained = tt;
      newest = record { linking = n.no_link; record_link = n.nothing };
    }

-- ---- all readers

-- a version is opened beside those that were there
pub record Opens (ts : List Task) (g : Arrivals) (S T : State) (o : OpName) (ys : List OpName) : Type 0 where
  pub stations : SameStations S T
  pub fresh : get S.versions o ≡ None
  pub unread : (w : OpName) (y : Version) → get S.versions w ≡ Some y → Has o (g w) → ⊥
  pub from : (w : OpName) (y : Version) → w ≢ o → get T.versions w ≡ Some y
      → (z : Version) × (get S.versions w ≡ Some z) × SameForReaders z y
  pub stay : (w : OpName) (y : Version) → get S.versions w ≡ Some y → (z : Version) × (get T.versions w ≡ Some z)
  pub same : (w : OpName) (y : Version) (a : OpName) → get S.versions w ≡ Some y → Has a (g w)
      → phase_of T a ≡ phase_of S a
  pub own : (y : Version) → get T.versions o ≡ Some y → HasArrivals ts ys T o y
  pub alone : (a : OpName) → Has a ys → o ≡ a

module _ (ts : List Task) (g : Arrivals) (S T : State) (o : OpName) (ys : List OpName) (h : HasReaders ts g S)
    (k : Opens ts g S T o ys) where
  abbrev New : Arrivals
  New = set_arrivals g o ys

  each_version : (w : OpName) (y : Version) → get T.versions w ≡ Some y → HasArrivals ts (New w) T w y
  each_version w y e = elim (decide_key name_order w o) [
    | inl is ↦
        subst (λ xs. HasArrivals ts xs T w y) (sym (ap New is ∙ at_set g o ys))
        (subst (λ w. HasArrivals ts ys T w y) (sym is) (k.own y (ap (get T.versions) (sym is) ∙ e)))
    | inr apart ↦
        let f = k.from w y apart e in
        subst (λ xs. HasArrivals ts xs T w y) (sym (beside_set g o w ys apart))
        (arrivals_kept ts (g w) S T w f.0 y f.2
        (λ a q. reader_by S T k.stations a (alike_same (phase_of S a) (phase_of T a) (k.same w f.0 a f.1 q)))
        (h.versions w f.0 f.1))
  ]

  -- a reader is the opener of this version, or came to one that was there
  abbrev Came : OpName → OpName → Type 0
  Came w a = ((w ≡ o) × (o ≡ a)) ⊎ ((z : Version) × (get S.versions w ≡ Some z) × Has a (g w))

  came : (w a : OpName) (y : Version) → get T.versions w ≡ Some y → Has a (New w) → Came w a
  came w a y e q = elim (decide_key name_order w o) [
    | inl is ↦ inl (is, k.alone a (subst (Has a) (ap New is ∙ at_set g o ys) q))
    | inr apart ↦
        let f = k.from w y apart e in
        inr (f.0, f.1, subst (Has a) (beside_set g o w ys apart) q)
  ]

  not_elsewhere : (w a : OpName) (z : Version) → get S.versions w ≡ Some z → Has a (g w) → o ≡ a → ⊥
  not_elsewhere w a z e q is = k.unread w z e (subst (λ a. Has a (g w)) (sym is) q)

  apart_now : (w u a : OpName) → Came w a → Came u a → w ≡ u
  apart_now w u a (inl p) (inl r) = p.0 ∙ sym r.0
  apart_now w u a (inl p) (inr r) = absurd (not_elsewhere u a r.0 r.1 r.2 p.1)
  apart_now w u a (inr p) (inl r) = absurd (not_elsewhere w a p.0 p.1 p.2 r.1)
  apart_now w u a (inr p) (inr r) = h.apart w u a p.0 r.0 p.1 r.1 p.2 r.2

  now_there : (a w : OpName) (y : Version) → get S.versions w ≡ Some y → Has a (g w)
      → (w : OpName) × (y : Version) × (get T.versions w ≡ Some y) × Has a (New w)
  now_there a w y e q =
      let s = k.stay w y e in
      let apart : w ≢ o = λ is. none-some y (sym k.fresh ∙ ap (get S.versions) (sym is) ∙ e) in
      (w, s.0, s.1, subst (Has a) (sym (beside_set g o w ys apart)) q)

  -- all are in order
  pub readers_opened : HasReaders ts New T
  readers_opened = record {
    versions = each_version;
    apart = λ w u a y z e f q r. apart_now w u a (came w a y e q) (came u a z f r);
    links = λ a b l. let f = h.links a b (link_was S T k.stations a b l) in now_there a f.0 f.1 f.2 f.3;
    held = λ a b l. let f = h.held a b (held_was S T k.stations a b l) in now_there a f.0 f.1 f.2 f.3;
  }
