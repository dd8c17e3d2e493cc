-- What a settle does to versions where all others were settled: each is settled then.
use Rattle.std.proofs.Common.{◌≡◌, ◌≢◌, ℕ, ◌⊎◌, inl, inr, Bool, true, false, List, Option, Some, None, refl, sym, ap}
use Rattle.std.proofs.Common.{◌∙◌, subst, arith, true≢false}
use Rattle.std.proofs.lemmas.Bool.Decides.{nat_tests}
use Rattle.std.specs.Prelude.{◌&&◌, ◌==◌, is_none, not}
use Rattle.std.specs.FinMap.{get, insert}
use Rattle.std.proofs.lemmas.Bool.{and_parts}
use Rattle.std.proofs.lemmas.Option.{none-some, same_Some}
use Rattle.tss_base.specs.declared.operand.OpName.{OpName}
use Rattle.tss_base.specs.declared.operand.Task.{Task}
use Rattle.tss_base.specs.declared.marks.Follow.{Follow}
use Rattle.tss_base.specs.Names.{Named}
use Rattle.tss_maps.proofs.Keys.{name_order, decide_key}
use Rattle.tss_maps.proofs.Changes.{at_inserted, beside_inserted, from_inserted}
use Rattle.tss_protocol.specs.State.{State, Version}
use Rattle.tss_protocol.specs.Versions.{put_version, may_die, may_ask, is_count, followed_by, settle_asking}
use Rattle.tss_control.specs.Chains.{HasChains}
use Rattle.tss_protocol.specs.Settled.{IsSettled}
use Rattle.tss_protocol.proofs.SettleCases.{OthersSettled}
use Rattle.tss_protocol.proofs.UnlinkedVersions.{GaveWay, bridged}
use Rattle.tss_control.proofs.chains.Settled.{chains_next, chains_own}

-- ---- what becomes of a version

-- it asks as it did, or it asks now, rightly
abbrev AskedThen : Version → Version → Type 0
AskedThen y z =
    (z.asked ≡ y.asked)
    ⊎ ((y.asked ≡ None) × (z.asked ≡ Some y.registered) × (z.produced ≡ true) × (z.predecessor ≡ None)
    × (y.released ≡ y.registered))

-- what is left of a version that stays
pub record Becomes (y z : Version) : Type 0 where
  pub object : z.object ≡ y.object
  pub produced : z.produced ≡ y.produced
  pub registered : z.registered ≡ y.registered
  pub released : z.released ≡ y.released
  pub refused : z.refused ≡ y.refused
  pub oldest : y.predecessor ≡ None → z.predecessor ≡ None
  pub asked : AskedThen y z

-- nothing changed
pub becomes_itself : (y : Version) → Becomes y y
becomes_itself y = record {
  object = refl;
  produced = refl;
  registered = refl;
  released = refl;
  refused = refl;
  oldest = λ e. e;
  asked = inl refl;
}

-- versions after a settle: each was there, is settled, and one that has gone had a successor
pub record SettlesTo (vs ws : Named Version) : Type 0 where
  pub from : (w : OpName) (z : Version) → get ws w ≡ Some z → (y : Version) × (get vs w ≡ Some y) × Becomes y z
      × IsSettled z
  pub stay : (w : OpName) (y : Version) → get vs w ≡ Some y
      → ((z : Version) × (get ws w ≡ Some z)) ⊎ ((f : Follow) × (y.successor ≡ Some f))

-- ---- settled versions

and_false : (a b : Bool) → b ≡ false → (a && b) ≡ false
and_false true b e = e
and_false false b e = refl

false_and : (a b : Bool) → a ≡ false → (a && b) ≡ false
false_and true b e = absurd (true≢false e)
false_and false b e = refl

-- one that isn't produced
pub settled_open : (z : Version) → z.produced ≡ false → IsSettled z
settled_open z e = record {
  dies = λ f to.
      false_and (z.produced && (z.released == f.last)) (is_none z.asked)
      (false_and z.produced (z.released == f.last) e);
  asks = λ last.
      false_and (z.produced && (z.released == z.registered) && is_none z.predecessor && is_none z.asked)
      (not (is_count z.refused z.registered))
      (false_and (z.produced && (z.released == z.registered) && is_none z.predecessor) (is_none z.asked)
      (false_and (z.produced && (z.released == z.registered)) (is_none z.predecessor)
      (false_and z.produced (z.released == z.registered) e)));
}

-- the last one, where it asks
pub settled_asking : (x : Version) (n : ℕ) → x.successor ≡ None → IsSettled (record x { asked = Some n })
settled_asking x n last = record {
  dies = λ f to. absurd (none-some f (sym last ∙ to));
  asks = λ e.
      false_and (x.produced && (x.released == x.registered) && is_none x.predecessor && false)
      (not (is_count x.refused x.registered))
      (and_false (x.produced && (x.released == x.registered) && is_none x.predecessor) false refl);
}

-- one that is followed by another
bridged_follow : (s : OpName) (o : Option Follow) (f : Follow) → followed_by s o ≡ Some f
    → (h : Follow) × (o ≡ Some h) × (h.last ≡ f.last)
bridged_follow s None f e = absurd (none-some f e)
bridged_follow s (Some h) f e = (h, refl, ap (λ (h : Follow). h.last) (same_Some (record h { version = s }) f e))

bridged_none : (s : OpName) (o : Option Follow) → followed_by s o ≡ None → o ≡ None
bridged_none s None e = refl
bridged_none s (Some h) e = absurd (none-some (record h { version = s }) (sym e))

-- a settled version stays so where its successor is bridged
settled_bridged : (s : OpName) (y : Version) → IsSettled y → IsSettled (bridged s y)
settled_bridged s y k = record {
  dies = λ f to.
      let h = bridged_follow s y.successor f to in
      subst (λ n. may_die y n ≡ false) h.2 (k.dies h.0 h.1);
  asks = λ last. k.asks (bridged_none s y.successor last);
}

-- what is known of a version that may ask
pub asking_parts : (x : Version) → may_ask x ≡ true
    → (x.produced ≡ true) × (x.released ≡ x.registered) × (x.predecessor ≡ None) × (x.asked ≡ None)
asking_parts x e =
    let p = x.produced in
    let r = x.released == x.registered in
    let n = is_none x.predecessor in
    let a = and_parts (p && r && n && is_none x.asked) (not (is_count x.refused x.registered)) e in
    let b = and_parts (p && r && n) (is_none x.asked) a.0 in
    let c = and_parts (p && r) n b.0 in
    let d = and_parts p r c.0 in
    (d.0, equal x.released x.registered d.1, none_by x.predecessor c.1, none_by x.asked b.1)
  where
    equal : (a b : ℕ) → (a == b) ≡ true → a ≡ b
    equal a b e = grind (arith, nat_tests)

    none_by : {X : Type 0} (o : Option X) → is_none o ≡ true → o ≡ None
    none_by None e = refl
    none_by (Some y) e = absurd (true≢false (sym e))

-- ---- the cases

module _ (vs : Named Version) (v : OpName) (x : Version) (at : get vs v ≡ Some x) where
  -- the version asks
  asked_version : Version
  asked_version = record x { asked = Some (x.registered) }

  becomes_asked : may_ask x ≡ true → Becomes x asked_version
  unfolding asked_version
  becomes_asked may =
      let k = asking_parts x may in
      record {
        object = refl;
        produced = refl;
        registered = refl;
        released = refl;
        refused = refl;
        oldest = λ e. e;
        asked = inr (k.3, refl, k.0, k.2, k.1);
      }

  -- that leaves
  pub asks_to : OthersSettled vs v → x.successor ≡ None → may_ask x ≡ true → SettlesTo vs (settle_asking vs v x).part
  unfolding asked_version
  asks_to others last may = record {
    from = λ w z e. elim (from_inserted name_order vs v asked_version w z e) [
      | inl new ↦ (
        x,
        ap (get vs) new.0 ∙ at,
        subst (Becomes x) (sym new.1) (becomes_asked may),
        subst IsSettled (sym new.1) (settled_asking x x.registered last),
      )
      | inr old ↦ (z, old.1, becomes_itself z, others w z old.1 old.0)
    ];
    stay = λ w y e. elim (decide_key name_order w v) [
      | inl same ↦ inl (
        asked_version,
        ap (get (insert vs v asked_version)) same
            ∙ at_inserted name_order vs v asked_version,
      )
      | inr other ↦ inl (y, beside_inserted name_order vs v asked_version w other ∙ e)
    ];
  }

-- a version gives way to its successor
module _ (ts : List Task) (U : State) (h : HasChains ts U) (v : OpName) (x : Version) (at : get U.versions v ≡ Some x)
    (others : OthersSettled U.versions v) (f : Follow) (to : x.successor ≡ Some f) where
  abbrev s : OpName
  s = f.version

  apart : s ≢ v
  apart = (chains_next ts U h v x at f to).1

  ahead : x.predecessor ≡ Some s → ⊥
  ahead = (chains_next ts U h v x at f to).2

  -- what becomes of the version before it
  before_by : (ws : Named Version) (z : Version) → GaveWay U.versions ws v x s z → (p : OpName) → x.predecessor ≡ Some p
      → (y : Version) × (get U.versions p ≡ Some y) × (get ws p ≡ Some (bridged s y)) × IsSettled y
  before_by ws z k p e =
      let a = (h.linked v x at).after p e in
      let other : p ≢ v = λ same. chains_own ts U h v x at (e ∙ ap Some same) in
      (a.version, a.there, k.before p a.version e a.there, others p a.version a.there other)

  -- which names those are
  data Place (w : OpName) : Type 0 where
    Own : w ≡ v → Place w
    Next : w ≡ s → Place w
    Before : x.predecessor ≡ Some w → Place w
    Beyond : w ≢ v → w ≢ s → (x.predecessor ≡ Some w → ⊥) → Place w

  place_by : (w : OpName) → w ≢ v → w ≢ s → (o : Option OpName) → x.predecessor ≡ o → Place w
  place_by w a b None e = Beyond a b (λ k. none-some w (sym e ∙ k))
  place_by w a b (Some p) e = elim (decide_key name_order w p) [
    | inl same ↦ Before (e ∙ ap Some (sym same))
    | inr other ↦ Beyond a b (λ k. other (same_Some w p (sym k ∙ e)))
  ]

  place : (w : OpName) → Place w
  place w = elim (decide_key name_order w v) [
    | inl same ↦ Own same
    | inr a ↦ elim (decide_key name_order w s) [
      | inl same ↦ Next same
      | inr b ↦ place_by w a b x.predecessor refl
    ]
  ]

  module _ (ws : Named Version) (y z : Version) (there : get U.versions s ≡ Some y) (k : GaveWay U.versions ws v x s z)
      (becomes : Becomes y z) (calm : IsSettled z) where
    from_place : (w : OpName) (u : Version) → get ws w ≡ Some u → Place w
        → (t : Version) × (get U.versions w ≡ Some t) × Becomes t u × IsSettled u
    from_place w u e (Own same) = absurd (none-some u (sym k.gone ∙ ap (get ws) (sym same) ∙ e))
    from_place w u e (Next same) =
        let one = same_Some z u (sym k.next ∙ ap (get ws) (sym same) ∙ e) in
        (y, ap (get U.versions) same ∙ there, subst (Becomes y) one becomes, subst IsSettled one calm)
    from_place w u e (Before b) =
        let t = before_by ws z k w b in
        let one = same_Some (bridged s t.0) u (sym t.2 ∙ e) in (
          t.0,
          t.1,
          subst (Becomes t.0) one
              (record {
                object = refl;
                produced = refl;
                registered = refl;
                released = refl;
                refused = refl;
                oldest = λ e. e;
                asked = inl refl;
              }),
          subst IsSettled one (settled_bridged s t.0 t.3),
        )
    from_place w u e (Beyond a b c) =
        let old = sym (k.others w a b c) ∙ e in (u, old, becomes_itself u, others w u old a)

    stay_place : (w : OpName) (t : Version) → get U.versions w ≡ Some t → Place w
        → ((u : Version) × (get ws w ≡ Some u)) ⊎ ((f : Follow) × (t.successor ≡ Some f))
    stay_place w t e (Own same) =
        inr (f, ap (λ (x : Version). x.successor) (same_Some t x (sym e ∙ ap (get U.versions) same ∙ at)) ∙ to)
    stay_place w t e (Next same) = inl (z, ap (get ws) same ∙ k.next)
    stay_place w t e (Before b) = let q = before_by ws z k w b in inl (bridged s q.0, q.2)
    stay_place w t e (Beyond a b c) = inl (t, k.others w a b c ∙ e)

    -- what that leaves
    pub gave_to : SettlesTo U.versions ws
    gave_to = record { from = λ w u e. from_place w u e (place w); stay = λ w t e. stay_place w t e (place w) }

  -- the successor asks then
  pub gave_again : (ws : Named Version) (z t : Version) → GaveWay U.versions ws v x s z
      → GaveWay U.versions (put_version ws s t) v x s t
  gave_again ws z t k = record {
    gone = beside_inserted name_order ws s t v (λ e. apart (sym e)) ∙ k.gone;
    next = at_inserted name_order ws s t;
    before = λ p y e there.
        beside_inserted name_order ws s t p (λ same. ahead (e ∙ ap Some same)) ∙ k.before p y e there;
    others = λ q a b c. beside_inserted name_order ws s t q b ∙ k.others q a b c;
  }
