-- A reader comes to a version: what that leaves of all readers.
use Rattle.std.proofs.Common.{◌≡◌, ◌≢◌, ◌⊎◌, inl, inr, cond, List, ◌∷◌, Some, refl, sym, ap, ◌∙◌, subst}
use Rattle.std.specs.FinMap.{get}
use Rattle.tss_base.specs.declared.operand.OpName.{OpName}
use Rattle.tss_base.specs.declared.operand.Task.{Task}
use Rattle.tss_maps.proofs.Keys.{name_order, decide_key}
use Rattle.tss_maps.proofs.Changes.{from_inserted, still_inserted}
use Rattle.tss_protocol.specs.State.{State, Version}
use Rattle.tss_protocol.specs.Stations.{operand_at}
use Rattle.tss_protocol.specs.Versions.{put_version}
use Rattle.tss_phases.specs.Phase.{phase_of}
use Rattle.tss_phases.proofs.Received.{own_name, other_name}
use Rattle.tss_control.specs.Readers.{Arrivals, set_arrivals, Has, IsLinking, HasArrivals, HasReaders}
use Rattle.tss_control.proofs.rounds.ReadersKept.{alike_same, same_version, arrivals_kept}

-- ---- the lists of readers

-- at the version and at others
pub at_set : (g : Arrivals) (v : OpName) (xs : List OpName) → set_arrivals g v xs v ≡ xs
at_set g v xs = ap (λ b. cond b xs (g v)) (own_name v)

-- at another version they stay
pub beside_set : (g : Arrivals) (v w : OpName) (xs : List OpName) → w ≢ v → set_arrivals g v xs w ≡ g w
beside_set g v w xs apart = ap (λ b. cond b xs (g w)) (other_name w v apart)

-- ---- all readers

-- o comes to a version that is registered, whose readers are in order with it. Of the others at most the links of those
-- of this version are changed
pub record Comes (ts : List Task) (g : Arrivals) (S T : State) (o v : OpName) (x : Version) : Type 0 where
  pub version : Version
  pub at : get S.versions v ≡ Some x
  pub versions : T.versions ≡ put_version S.versions v version
  pub readers : HasArrivals ts (o ∷ g v) T v version
  pub links : (a : OpName) → (Has a (g v) → ⊥) → get T.mail.links a ≡ get S.mail.links a
  pub linked : (a b : OpName) → IsLinking T a b → IsLinking S a b ⊎ Has a (g v)
  pub unread : (w : OpName) (y : Version) → get S.versions w ≡ Some y → Has o (g w) → ⊥
  pub same : (a : OpName) → a ≢ o → phase_of T a ≡ phase_of S a
  pub station : (a : OpName) → operand_at T.flight a ≡ operand_at S.flight a

module _ (ts : List Task) (g : Arrivals) (S T : State) (o v : OpName) (x : Version) (h : HasReaders ts g S)
    (d : Comes ts g S T o v x) where
  abbrev New : Arrivals
  New = set_arrivals g v (o ∷ g v)

  reader_apart : (w : OpName) (y : Version) (a : OpName) → get S.versions w ≡ Some y → Has a (g w) → a ≢ o
  reader_apart w y a e k same = d.unread w y e (subst (λ a. Has a (g w)) same k)

  grows : (w a : OpName) → Has a (g w) → Has a (New w)
  grows w a k = elim (decide_key name_order w v) [
    | inl same ↦ subst (Has a) (sym (ap New same ∙ at_set g v (o ∷ g v))) (inr (subst (λ w. Has a (g w)) same k))
    | inr apart ↦ subst (Has a) (sym (beside_set g v w (o ∷ g v) apart)) k
  ]

  came_by : (w a : OpName) → w ≡ v → Has a (o ∷ g v) → ((w ≡ v) × (o ≡ a)) ⊎ Has a (g w)
  came_by w a same (inl e) = inl (same, e)
  came_by w a same (inr k) = inr (subst (λ w. Has a (g w)) (sym same) k)

  came : (w a : OpName) → Has a (New w) → ((w ≡ v) × (o ≡ a)) ⊎ Has a (g w)
  came w a k = elim (decide_key name_order w v) [
    | inl same ↦ came_by w a same (subst (Has a) (ap New same ∙ at_set g v (o ∷ g v)) k)
    | inr apart ↦ inr (subst (Has a) (beside_set g v w (o ∷ g v) apart) k)
  ]

  was : (w : OpName) (y : Version) → get T.versions w ≡ Some y
      → ((w ≡ v) × (y ≡ d.version)) ⊎ ((w ≢ v) × (get S.versions w ≡ Some y))
  was w y e = from_inserted name_order S.versions v d.version w y (sym (ap (λ vs. get vs w) d.versions) ∙ e)

  before : (w : OpName) (y : Version) → get T.versions w ≡ Some y → (z : Version) × (get S.versions w ≡ Some z)
  before w y e = elim (was w y e) [
    | inl p ↦ (x, ap (get S.versions) p.0 ∙ d.at)
    | inr p ↦ (y, p.1)
  ]

  abbrev HasComeNow : OpName → Type 0
  HasComeNow a = (w : OpName) × (y : Version) × (get T.versions w ≡ Some y) × Has a (New w)

  now_there : (a w : OpName) (y : Version) → get S.versions w ≡ Some y → Has a (g w) → HasComeNow a
  now_there a w y e k =
      let s = still_inserted name_order S.versions v d.version w y e in
      (w, s.0, ap (λ vs. get vs w) d.versions ∙ s.1, grows w a k)

  others_kept : (w : OpName) (y : Version) → w ≢ v → get S.versions w ≡ Some y → HasArrivals ts (g w) T w y
  others_kept w y apart e =
      arrivals_kept ts (g w) S T w y y (same_version y y refl) (λ a k. record {
        phase = alike_same (phase_of S a) (phase_of T a) (d.same a (reader_apart w y a e k));
        links = d.links a (λ q. apart (h.apart w v a y x e d.at k q));
        holds = λ c q. (q.0, d.station a ∙ q.1, q.2);
        station = λ r i. (r, sym (d.station a) ∙ i, refl);
      }) (h.versions w y e)

  each_version : (w : OpName) (y : Version) → get T.versions w ≡ Some y → HasArrivals ts (New w) T w y
  each_version w y e = elim (was w y e) [
    | inl p ↦
        subst (λ xs. HasArrivals ts xs T w y) (sym (ap New p.0 ∙ at_set g v (o ∷ g v)))
        (subst (λ w. HasArrivals ts (o ∷ g v) T w y) (sym p.0)
        (subst (HasArrivals ts (o ∷ g v) T v) (sym p.1) d.readers))
    | inr p ↦
        subst (λ xs. HasArrivals ts xs T w y) (sym (beside_set g v w (o ∷ g v) p.0)) (others_kept w y p.0 p.1)
  ]

  not_elsewhere : (w a : OpName) (y : Version) → get T.versions w ≡ Some y → o ≡ a → Has a (g w) → ⊥
  not_elsewhere w a y e same k =
      let b = before w y e in
      d.unread w b.0 b.1 (subst (λ a. Has a (g w)) (sym same) k)

  apart_now : (w u a : OpName) (y z : Version) → get T.versions w ≡ Some y → get T.versions u ≡ Some z
      → Has a (New w) → Has a (New u) → w ≡ u
  apart_now w u a y z e f k q = elim (came w a k) [
    | inl p ↦ elim (came u a q) [
      | inl r ↦ p.0 ∙ sym r.0
      | inr r ↦ absurd (not_elsewhere u a z f p.1 r)
    ]
    | inr p ↦ elim (came u a q) [
      | inl r ↦ absurd (not_elsewhere w a y e r.1 p)
      | inr r ↦
          let b = before w y e in
          let c = before u z f in
          h.apart w u a b.0 c.0 b.1 c.1 p r
    ]
  ]

  -- all readers are in order
  pub readers_come : HasReaders ts New T
  readers_come = record {
    versions = each_version;
    apart = apart_now;
    links = λ a b e. elim (d.linked a b e) [
      | inl k ↦ let f = h.links a b k in now_there a f.0 f.1 f.2 f.3
      | inr k ↦ now_there a v x d.at k
    ];
    held = λ a b q. let f = h.held a b (q.0, sym (d.station a) ∙ q.1, q.2) in now_there a f.0 f.1 f.2 f.3;
  }
