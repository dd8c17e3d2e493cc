-- What a settle does where all other versions are settled: nothing, it asks, it gives way to one over it, or to one
-- beside it, which asks then or not.
use Rattle.std.proofs.Common.{◌≡◌, ◌≢◌, ℕ, zero, suc, ◌⊎◌, Bool, true, false, if◌then◌else◌, [], ◌∷◌, Option, Some}
use Rattle.std.proofs.Common.{None, refl, sym, ap, ◌∙◌, subst, inl, inr, arith}
use Rattle.std.specs.FinMap.{get, len}
use Rattle.std.proofs.lemmas.Option.{none-some}
use Rattle.tss_base.specs.declared.operand.OpName.{OpName}
use Rattle.tss_base.specs.declared.marks.How.{How}
use Rattle.tss_base.specs.declared.marks.How.TheVariants.{Beside, Over}
use Rattle.tss_base.specs.declared.marks.Follow.{Follow}
use Rattle.tss_base.specs.Names.{Named}
use Rattle.tss_maps.proofs.Keys.{name_order}
use Rattle.tss_maps.proofs.Changes.{at_inserted, beside_inserted, beside_removed, decide_get}
use Rattle.tss_maps.proofs.Entries.{len_there}
use Rattle.tss_protocol.specs.State.{Version}
use Rattle.tss_protocol.specs.Versions.{Versioned, Settling, sending, drop_version, version_changed, change_version}
use Rattle.tss_protocol.specs.Versions.{change_named, buffer_of, died, may_die, may_ask, followed_by, unlinked}
use Rattle.tss_protocol.specs.Versions.{settle_over, settle_how, settle_asking, unchanged, settle_by, settle_at, settle}
use Rattle.tss_protocol.specs.Versions.{settled}
use Rattle.tss_protocol.specs.Settled.{GivesWay, IsSettled}

-- ---- what is known before

-- all versions but one are settled
abbrev pub OthersSettled : Named Version → OpName → Type 0
OthersSettled vs v = (q : OpName) (y : Version) → get vs q ≡ Some y → q ≢ v → IsSettled y

-- the version that follows one is registered, and is neither that one nor the one before it
abbrev pub HasNext : Named Version → OpName → Version → Type 0
HasNext vs v x =
    (f : Follow) → x.successor ≡ Some f
    → ((y : Version) × (get vs f.version ≡ Some y)) × (f.version ≢ v) × (x.predecessor ≡ Some f.version → ⊥)

-- ---- the cases

-- nothing is done, and the version is settled
pub record IsQuiet (vs : Named Version) (v : OpName) (d : Versioned) : Type 0 where
  pub is : d ≡ unchanged vs
  pub calm : (x : Version) → get vs v ≡ Some x → IsSettled x

-- the version asks
pub record Asks (vs : Named Version) (v : OpName) (d : Versioned) : Type 0 where
  pub version : Version
  pub there : get vs v ≡ Some version
  pub last : version.successor ≡ None
  pub may : may_ask version ≡ true
  pub is : d ≡ settle_asking vs v version

-- it gives way to one that takes its storage
pub record IsTakenOver (vs : Named Version) (v : OpName) (d : Versioned) : Type 0 where
  pub version : Version
  pub follow : Follow
  pub gives : GivesWay vs v version follow Over
  pub is : d ≡ settle_over vs v version follow.version

-- a version that stands behind another one's predecessor
abbrev pub moved_up : Version → Version → Version
moved_up x y = record y { predecessor = x.predecessor }

-- it gives way to one beside it, which does no more, or asks
pub record IsPassedBy (vs : Named Version) (v : OpName) (d : Versioned) : Type 0 where
  pub version : Version
  pub follow : Follow
  pub gives : GivesWay vs v version follow Beside
  pub next : Version
  pub next_there : get vs follow.version ≡ Some next
  pub stands : get (unlinked vs v version follow.version) follow.version ≡ Some (moved_up version next)
  pub on : Versioned
  pub is : d ≡ sending (died v version.object (buffer_of version.storage) ∷ []) on
  pub rest : IsQuiet (unlinked vs v version follow.version) follow.version on
      ⊎ Asks (unlinked vs v version follow.version) follow.version on

-- one of these
abbrev pub SettleCase : Named Version → OpName → Versioned → Type 0
SettleCase vs v d = IsQuiet vs v d ⊎ (Asks vs v d ⊎ (IsTakenOver vs v d ⊎ IsPassedBy vs v d))

-- ---- a version that gives way leaves its successor behind its predecessor

module _ (f : Version → Version) where
  -- what stands at a version that is changed
  pub at_changed : (vs : Named Version) (v : OpName) (x : Version) → get vs v ≡ Some x
      → get (change_version vs v f) v ≡ Some (f x)
  at_changed vs v x e = ap (λ o. get (version_changed vs v f o) v) e ∙ at_inserted name_order vs v (f x)

  beside_changed_by : (vs : Named Version) (v q : OpName) → q ≢ v → (x : Option Version)
      → get (version_changed vs v f x) q ≡ get vs q
  beside_changed_by vs v q apart None = refl
  beside_changed_by vs v q apart (Some x) = beside_inserted name_order vs v (f x) q apart

  -- and beside it
  pub beside_changed : (vs : Named Version) (v q : OpName) → q ≢ v → get (change_version vs v f) q ≡ get vs q
  beside_changed vs v q apart = beside_changed_by vs v q apart (get vs v)

  -- what stands beside a version that is changed and may not be named
  pub beside_changed_named : (vs : Named Version) (v : Option OpName) (q : OpName) → (v ≡ Some q → ⊥)
      → get (change_named vs v f) q ≡ get vs q
  beside_changed_named vs None q apart = refl
  beside_changed_named vs (Some v) q apart = beside_changed vs v q (λ e. apart (ap Some (sym e)))

module _ (vs : Named Version) (v : OpName) (x : Version) (s : OpName) where
  -- the successor stands behind the predecessor
  pub at_unlinked : s ≢ v → (x.predecessor ≡ Some s → ⊥) → (y : Version) → get vs s ≡ Some y
      → get (unlinked vs v x s) s ≡ Some (moved_up x y)
  at_unlinked apart other y e =
      at_changed (moved_up x) _ s y
      (beside_changed_named (λ q. record q { successor = followed_by s q.successor }) (drop_version vs v) x.predecessor
      s other
      ∙ beside_removed name_order vs v s apart
      ∙ e)

-- ---- settle, by cases

some_same : {X : Type 0} (a b : X) → Some a ≡ Some b → a ≡ b
some_same a b e = cc

-- a settled version where nothing is done
calm_case : (vs : Named Version) (v : OpName) (x : Version) → get vs v ≡ Some x → IsSettled x
    → IsQuiet vs v (unchanged vs)
calm_case vs v x there calm =
    record { is = refl; calm = λ y e. subst IsSettled (some_same x y (sym there ∙ e)) calm }

module _ (vs : Named Version) (v : OpName) (go : Settling) where
  -- a version that isn't there
  case_absent : get vs v ≡ None → IsQuiet vs v (settle_at vs v go None)
  case_absent e = record { is = refl; calm = λ x there. absurd (none-some x (sym e ∙ there)) }

  -- one without a successor
  case_last : (x : Version) → get vs v ≡ Some x → x.successor ≡ None → (b : Bool) → may_ask x ≡ b
      → IsQuiet vs v (if b then settle_asking vs v x else unchanged vs)
      ⊎ Asks vs v (if b then settle_asking vs v x else unchanged vs)
  case_last x there last true may = inr (record { version = x; there = there; last = last; may = may; is = refl })
  case_last x there last false may =
      inl (calm_case vs v x there
      (record { dies = λ f to. absurd (none-some f (sym last ∙ to)); asks = λ to. may }))

  -- one with a successor that isn't done
  case_stays : (x : Version) (f : Follow) → get vs v ≡ Some x → x.successor ≡ Some f → may_die x f.last ≡ false
      → IsQuiet vs v (unchanged vs)
  case_stays x f there to off =
      calm_case vs v x there
      (record {
        dies = λ g at. subst (λ (h : Follow). may_die x h.last ≡ false) (some_same f g (sym to ∙ at)) off;
        asks = λ none. absurd (none-some f (sym none ∙ to));
      })

  -- where no successor is done, it asks or does nothing
  case_calm : (x : Version) → get vs v ≡ Some x
      → ((f : Follow) → x.successor ≡ Some f → may_die x f.last ≡ false) → (f : Option Follow) → x.successor ≡ f
      → IsQuiet vs v (settle_by vs v x go f) ⊎ Asks vs v (settle_by vs v x go f)
  case_calm x there stays None to = case_last x there to (may_ask x) refl
  case_calm x there stays (Some f) to =
      let off = stays f to in
      inl (subst (λ b. IsQuiet vs v (if b then settle_how vs v x f go f.how else unchanged vs)) (sym off)
      (case_stays x f there to off))

-- a settle of a version whose successor isn't done
next_case : (n : ℕ) (vs : Named Version) (v : OpName) (x : Version) → get vs v ≡ Some x
    → ((f : Follow) → x.successor ≡ Some f → may_die x f.last ≡ false)
    → IsQuiet vs v (settle (suc n) vs v) ⊎ Asks vs v (settle (suc n) vs v)
unfolding settle
next_case n vs v x there stays =
    subst (λ o. IsQuiet vs v (settle_at vs v (settle n) o) ⊎ Asks vs v (settle_at vs v (settle n) o)) (sym there)
    (case_calm vs v (settle n) x there stays x.successor refl)

module _ (n : ℕ) (vs : Named Version) (v : OpName) (others : OthersSettled vs v) where
  module _ (x : Version) (f : Follow) (there : get vs v ≡ Some x) (to : x.successor ≡ Some f)
      (next : HasNext vs v x) where
    case_gives : (h : How) → GivesWay vs v x f h → SettleCase vs v (settle_how vs v x f (settle (suc n)) h)
    case_gives Over gives = inr (inr (inl (record { version = x; follow = f; gives = gives; is = refl })))
    case_gives Beside gives =
        let y = (next f to).0.0 in
        let at = (next f to).0.1 in
        let us = unlinked vs v x f.version in
        let stands = at_unlinked vs v x f.version (next f to).1 (next f to).2 y at in
        let calm = others f.version y at (next f to).1 in
        inr (inr (inr (record {
          version = x;
          follow = f;
          gives = gives;
          next = y;
          next_there = at;
          stands = stands;
          on = settle (suc n) us f.version;
          is = refl;
          rest = next_case n us f.version (moved_up x y) stands (λ g last. calm.dies g last);
        })))

    case_done : (b : Bool) → may_die x f.last ≡ b
        → SettleCase vs v (if b then settle_how vs v x f (settle (suc n)) f.how else unchanged vs)
    case_done true done = case_gives f.how (record { there = there; next = to; way = refl; done = done })
    case_done false done = inl (case_stays vs v (settle (suc n)) x f there to done)

  case_by : (x : Version) → get vs v ≡ Some x → HasNext vs v x → (f : Option Follow) → x.successor ≡ f
      → SettleCase vs v (settle_by vs v x (settle (suc n)) f)
  case_by x there next None to = elim (case_last vs v (settle (suc n)) x there to (may_ask x) refl) [
    | inl q ↦ inl q
    | inr a ↦ inr (inl a)
  ]
  case_by x there next (Some f) to = case_done x f there to next (may_die x f.last) refl

  case_at : ((x : Version) → get vs v ≡ Some x → HasNext vs v x) → (o : Option Version) → get vs v ≡ o
      → SettleCase vs v (settle_at vs v (settle (suc n)) o)
  case_at next None e = inl (case_absent vs v (settle (suc n)) e)
  case_at next (Some x) e = case_by x e (next x e) x.successor refl

  case_again : ((x : Version) → get vs v ≡ Some x → HasNext vs v x) → SettleCase vs v (settle (suc (suc n)) vs v)
  unfolding settle
  case_again next = case_at next (get vs v) refl

case_none : (vs : Named Version) (v : OpName) → get vs v ≡ None → SettleCase vs v (settled vs v)
unfolding settle
case_none vs v e =
    subst (λ o. SettleCase vs v (settle_at vs v (settle (len vs)) o)) (sym e)
    (inl (case_absent vs v (settle (len vs)) e))

case_some : (vs : Named Version) (v : OpName) (x : Version) → get vs v ≡ Some x → OthersSettled vs v → HasNext vs v x
    → (n : ℕ) → n ≡ len vs → SettleCase vs v (settle (suc n) vs v)
case_some vs v x there others next zero e =
    absurd (omega (arith, e, len_there vs v x there))
case_some vs v x there others next (suc n) e =
    case_again n vs v others (λ y at. subst (HasNext vs v) (some_same x y (sym there ∙ at)) next)

-- what a settle does where all other versions are settled
pub settle_cases : (vs : Named Version) (v : OpName) → OthersSettled vs v
    → ((x : Version) → get vs v ≡ Some x → HasNext vs v x) → SettleCase vs v (settled vs v)
settle_cases vs v others next = elim (decide_get vs v) [
  | inl none ↦ case_none vs v none
  | inr there ↦ case_some vs v there.0 there.1 others (next there.0 there.1) (len vs) refl
]
