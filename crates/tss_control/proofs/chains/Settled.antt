-- The chains after a settle, where all other versions were settled.
use Rattle.std.proofs.Common.{◌≡◌, ℕ, ◌+◌, ◌<◌, ◌≤◌, true, List, Some, refl, sym, ap, ◌∙◌, subst, inl, inr, arith}
use Rattle.std.specs.Prelude.{◌&&◌, ◌==◌, is_none}
use Rattle.std.specs.FinMap.{get}
use Rattle.std.proofs.lemmas.Option.{same_Some}
use Rattle.std.proofs.lemmas.Bool.{and_parts}
use Rattle.std.proofs.lemmas.Bool.Decides.{nat_tests}
use Rattle.tss_base.specs.declared.operand.OpName.{OpName}
use Rattle.tss_base.specs.declared.operand.Task.{Task}
use Rattle.tss_base.specs.declared.marks.Follow.{Follow}
use Rattle.tss_base.specs.Names.{Named}
use Rattle.tss_maps.proofs.Keys.{name_order, decide_key}
use Rattle.tss_maps.proofs.Changes.{at_inserted, beside_inserted, from_inserted}
use Rattle.tss_maps.proofs.Sums.{counted}
use Rattle.tss_protocol.specs.Names.{same_name}
use Rattle.tss_protocol.specs.State.{State, Version}
use Rattle.tss_protocol.specs.Versions.{Versioned, put_version, may_die, unlinked, settled}
use Rattle.tss_phases.proofs.Received.{own_name}
use Rattle.tss_control.specs.Members.{registered_of, opening_reader, uses_of, total}
use Rattle.tss_control.specs.Chains.{HasChains}
use Rattle.tss_control.proofs.chains.Numbers.{below_self}
use Rattle.tss_protocol.proofs.SettleCases.{OthersSettled, HasNext, IsQuiet, Asks, IsTakenOver, IsPassedBy, SettleCase}
use Rattle.tss_protocol.proofs.SettleCases.{moved_up, settle_cases}
use Rattle.tss_protocol.proofs.UnlinkedVersions.{GaveWay, gave_way_beside, gave_way_over, took_over}
use Rattle.tss_control.proofs.chains.Alike.{AreAlike, alike_same, AreChainsAlike, HasChains-alike}
use Rattle.tss_control.proofs.chains.Frames.{HasChains-same}
use Rattle.tss_control.proofs.chains.GivingWay.{TakesStorage, Departs}
use Rattle.tss_control.proofs.chains.Departed.{HasChains-departed}

-- ---- one version is written over

-- a version is written over with one that is like it, and as many readers were directed to each version
pub record WritesAlike (S T : State) (v : OpName) (x y : Version) : Type 0 where
  pub there : get S.versions v ≡ Some x
  pub put : T.versions ≡ put_version S.versions v y
  pub like : AreAlike x y
  pub opens : T.mail.opens ≡ S.mail.opens
  pub uses : (o w : OpName) → get T.mail.uses o ≡ Some w → get S.mail.uses o ≡ Some w
  pub all : (w : OpName) → total T w ≡ total S w

module _ (S T : State) (v : OpName) (x y : Version) (h : WritesAlike S T v x y) where
  written_kept : (w : OpName) (u : Version) → get S.versions w ≡ Some u
      → (t : Version) × (get T.versions w ≡ Some t) × AreAlike u t
  written_kept w u e = elim (decide_key name_order w v) [
    | inl is ↦ (
      y,
      ap (λ m. get m w) h.put ∙ ap (λ k. get (put_version S.versions v y) k) is ∙ at_inserted name_order S.versions v y,
      subst (λ t. AreAlike t y) (same_Some x u (sym h.there ∙ ap (λ k. get S.versions k) (sym is) ∙ e)) h.like,
    )
    | inr apart ↦
        (u, ap (λ m. get m w) h.put ∙ beside_inserted name_order S.versions v y w apart ∙ e, alike_same u)
  ]

  written_from : (w : OpName) (t : Version) → get T.versions w ≡ Some t
      → (u : Version) × (get S.versions w ≡ Some u) × AreAlike u t
  written_from w t e = elim (from_inserted name_order S.versions v y w t (sym (ap (λ m. get m w) h.put) ∙ e)) [
    | inl new ↦ (x, ap (λ k. get S.versions k) new.0 ∙ h.there, subst (AreAlike x) (sym new.1) h.like)
    | inr old ↦ (t, old.1, alike_same t)
  ]

  -- the states are alike
  pub alike_written : AreChainsAlike S T
  alike_written =
      record { kept = written_kept; from = written_from; opens = h.opens; uses = h.uses; all = h.all }

-- the same where registered readers and uses stay
pub record Writes (S T : State) (v : OpName) (x y : Version) : Type 0 where
  pub there : get S.versions v ≡ Some x
  pub put : T.versions ≡ put_version S.versions v y
  pub like : AreAlike x y
  pub registered : y.registered ≡ x.registered
  pub opens : T.mail.opens ≡ S.mail.opens
  pub uses : T.mail.uses ≡ S.mail.uses

module _ (S T : State) (v : OpName) (x y : Version) (h : Writes S T v x y) where
  registered_written : (w : OpName) → registered_of (get T.versions w) ≡ registered_of (get S.versions w)
  registered_written w = elim (decide_key name_order w v) [
    | inl is ↦
        ap (λ m. registered_of (get m w)) h.put
        ∙ ap (λ k. registered_of (get (put_version S.versions v y) k)) is
        ∙ ap registered_of (at_inserted name_order S.versions v y)
        ∙ h.registered
        ∙ ap registered_of (sym h.there)
        ∙ ap (λ k. registered_of (get S.versions k)) (sym is)
    | inr apart ↦
        ap (λ m. registered_of (get m w)) h.put
        ∙ ap registered_of (beside_inserted name_order S.versions v y w apart)
  ]

  -- the chains are as good
  pub HasChains-written : (ts : List Task) → HasChains ts S → HasChains ts T
  HasChains-written ts c =
      HasChains-alike ts S T
      (alike_written S T v x y (record {
        there = h.there;
        put = h.put;
        like = h.like;
        opens = h.opens;
        uses = λ o w e. sym (ap (λ us. get us o) h.uses) ∙ e;
        all = λ w i. registered_written w i + opening_reader (get (h.opens i) w) + uses_of (h.uses i) w;
      })) c

-- ---- a version that is done

-- what is known of it
pub done_parts : (x : Version) (last : ℕ) → may_die x last ≡ true → (x.produced ≡ true) × (x.released ≡ last)
done_parts x last e =
    let a = and_parts (x.produced && (x.released == last)) (is_none x.asked) e in
    let b = and_parts x.produced (x.released == last) a.0 in
    (b.0, equal x.released last b.1)
  where
    equal : (a b : ℕ) → (a == b) ≡ true → a ≡ b
    equal a b e = grind (arith, nat_tests)

no_more : (r k u last released : ℕ) → last ≡ r + k + u → released ≡ last → released ≤ r → u ≡ 0
no_more r k u last released all done few = omega (arith, all, done, few)

above_none : (u : ℕ) → 1 ≤ u → u ≡ 0 → ⊥
above_none u a b = omega (arith, a, b)

module _ (ts : List Task) (S : State) (h : HasChains ts S) (v : OpName) (x : Version)
    (there : get S.versions v ≡ Some x) where
  -- no use is on its way to a version that all readers directed to it have released
  no_use_when_done : (f : Follow) → x.successor ≡ Some f → may_die x f.last ≡ true → x.released ≤ x.registered
      → (o : OpName) → get S.mail.uses o ≡ Some v → ⊥
  no_use_when_done f to done few o e =
      let last = ((h.linked v x there).followed f to).last in
      above_none (uses_of S.mail.uses v)
      (counted name_order (λ o w. same_name w v) S.mail.uses o v e (own_name v))
      (no_more x.registered (opening_reader (get S.mail.opens v)) (uses_of S.mail.uses v) f.last x.released
      (last
      ∙ ap (λ r. registered_of r + opening_reader (get S.mail.opens v) + uses_of S.mail.uses v) there)
      (done_parts x f.last done).1 few)

  not_older : (a b : ℕ) → a < b → b < a → ⊥
  not_older a b p q = omega (arith, p, q)

  -- the one that follows it is another, and isn't before it
  pub chains_next : HasNext S.versions v x
  chains_next f to =
      let g = (h.linked v x there).followed f to in (
        (g.version, g.there),
        λ is. below_self v.task (subst (λ (q : OpName). v.task < q.task) is g.younger),
        λ b. not_older f.version.task v.task ((h.linked v x there).after f.version b).older g.younger,
      )

  -- nor is it before itself
  pub chains_own : x.predecessor ≡ Some v → ⊥
  chains_own b = below_self v.task ((h.linked v x there).after v b).older

-- ---- settle

-- the state with other versions
abbrev pub with_versions : State → Named Version → State
with_versions S vs = record S { versions = vs }

-- nothing is done, or a version asks
asked_like : (x : Version) → AreAlike x (record x { asked = Some x.registered })
asked_like x = record { object = refl; storage = refl; predecessor = refl; successor = refl; produced = λ e. refl }

module _ (ts : List Task) (S T : State) (h : HasChains ts S) (v : OpName) (d : Versioned)
    (part : T.versions ≡ d.part) (opens : T.mail.opens ≡ S.mail.opens) (uses : T.mail.uses ≡ S.mail.uses) where
  chains_quiet : IsQuiet S.versions v d → HasChains ts T
  chains_quiet q =
      HasChains-same ts S T
      (record { versions = part ∙ ap (λ (k : Versioned). k.part) q.is; opens = opens; uses = uses }) h

  chains_asks : Asks S.versions v d → HasChains ts T
  chains_asks a =
      HasChains-written S T v a.version (record a.version { asked = Some (a.version.registered) })
      (record {
        there = a.there;
        put = part ∙ ap (λ (k : Versioned). k.part) a.is;
        like = asked_like a.version;
        registered = refl;
        opens = opens;
        uses = uses;
      })
      ts h

  module _ (few : (x : Version) → get S.versions v ≡ Some x → x.released ≤ x.registered) where
    -- the version that follows one that gives way
    next_over : IsTakenOver S.versions v d → Version
    next_over o = (chains_next ts S h v o.version o.gives.there o.follow o.gives.next).0.0

    -- one that is taken over departs
    departs_over : (o : IsTakenOver S.versions v d)
        → Departs S T v o.version o.follow (next_over o) (took_over o.version (next_over o))
    unfolding next_over
    departs_over o =
        let x = o.version in
        let f = o.follow in
        let g = o.gives in
        let n = chains_next ts S h v x g.there f g.next in
        let y = n.0.0 in
        record {
          there = g.there;
          follow = g.next;
          next = n.0.1;
          produced = (done_parts x f.last g.done).0;
          unused = no_use_when_done ts S h v x g.there f g.next g.done (few x g.there);
          gave = subst (λ ws. GaveWay S.versions ws v x f.version (took_over x y))
              (sym (part ∙ ap (λ (k : Versioned). k.part) o.is))
              (gave_way_over S.versions v x f.version n.1 n.2 (chains_own ts S h v x g.there) y n.0.1);
          opens = opens;
          uses = uses;
          object = refl;
          predecessor = refl;
          successor = refl;
          same_produced = refl;
          registered = refl;
          storage = subst (λ how. TakesStorage how x y (took_over x y)) (sym g.way) refl;
        }

    chains_over : IsTakenOver S.versions v d → HasChains ts T
    chains_over o =
        HasChains-departed ts S T h v o.version o.follow (next_over o) (took_over o.version (next_over o))
        (departs_over o)

    -- the state where a version has given way to one beside it
    abbrev passed_state : IsPassedBy S.versions v d → State
    passed_state p = with_versions S (unlinked S.versions v p.version p.follow.version)

    -- that version departs
    departs_beside : (p : IsPassedBy S.versions v d)
        → Departs S (passed_state p) v p.version p.follow p.next (moved_up p.version p.next)
    departs_beside p =
        let x = p.version in
        let f = p.follow in
        let g = p.gives in
        let n = chains_next ts S h v x g.there f g.next in
        record {
          there = g.there;
          follow = g.next;
          next = p.next_there;
          produced = (done_parts x f.last g.done).0;
          unused = no_use_when_done ts S h v x g.there f g.next g.done (few x g.there);
          gave = gave_way_beside S.versions v x f.version n.1 n.2 (chains_own ts S h v x g.there) p.next p.next_there;
          opens = refl;
          uses = refl;
          object = refl;
          predecessor = refl;
          successor = refl;
          same_produced = refl;
          registered = refl;
          storage = subst (λ how. TakesStorage how x p.next (moved_up x p.next)) (sym g.way) refl;
        }

    -- the chains there
    chains_unlinked : (p : IsPassedBy S.versions v d) → HasChains ts (passed_state p)
    chains_unlinked p =
        HasChains-departed ts S (passed_state p) h v p.version p.follow p.next (moved_up p.version p.next)
        (departs_beside p)

module _ (ts : List Task) (S T : State) (h : HasChains ts S) (v : OpName) (d : Versioned)
    (part : T.versions ≡ d.part) (opens : T.mail.opens ≡ S.mail.opens) (uses : T.mail.uses ≡ S.mail.uses)
    (few : (x : Version) → get S.versions v ≡ Some x → x.released ≤ x.registered) where
  chains_passed : IsPassedBy S.versions v d → HasChains ts T
  chains_passed p =
      let us = unlinked S.versions v p.version p.follow.version in
      let k = chains_unlinked ts S T h v d part opens uses few p in
      let on = part ∙ ap (λ (k : Versioned). k.part) p.is in
      elim (p.rest) [
        | inl q ↦ chains_quiet ts (with_versions S us) T k p.follow.version p.on on opens uses q
        | inr a ↦ chains_asks ts (with_versions S us) T k p.follow.version p.on on opens uses a
      ]

  chains_case : SettleCase S.versions v d → HasChains ts T
  chains_case (inl q) = chains_quiet ts S T h v d part opens uses q
  chains_case (inr (inl a)) = chains_asks ts S T h v d part opens uses a
  chains_case (inr (inr (inl o))) = chains_over ts S T h v d part opens uses few o
  chains_case (inr (inr (inr p))) = chains_passed p

-- what a settle leaves has its chains, where the other versions were settled and no more readers have released the
-- version than were registered
pub HasChains-settled : (ts : List Task) (S T : State) → HasChains ts S → (v : OpName)
    → T.versions ≡ (settled S.versions v).part → T.mail.opens ≡ S.mail.opens → T.mail.uses ≡ S.mail.uses
    → ((x : Version) → get S.versions v ≡ Some x → x.released ≤ x.registered) → OthersSettled S.versions v
    → HasChains ts T
HasChains-settled ts S T h v part opens uses few others =
    chains_case ts S T h v (settled S.versions v) part opens uses few
    (settle_cases S.versions v others (λ x there. chains_next ts S h v x there))
