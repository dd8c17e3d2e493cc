-- Whom a settle tells is a writer: a version that is followed over is followed by an inout's.
use Rattle.std.proofs.Common.{◌≡◌, ◌≢◌, ◌⊎◌, inl, inr, ℕ, true, List, Option, Some, None, refl, sym, ap, ◌∙◌, subst}
use Rattle.std.specs.Prelude.{◌&&◌, ◌==◌, is_none}
use Rattle.std.specs.FinMap.{get}
use Rattle.std.proofs.lemmas.Option.{none-some, same_Some}
use Rattle.tss_base.specs.declared.range.Range.{Range}
use Rattle.tss_base.specs.declared.operand.OpName.{OpName}
use Rattle.tss_base.specs.declared.operand.Mode.{Mode}
use Rattle.tss_base.specs.declared.operand.Mode.TheVariants.{Input, Inout}
use Rattle.tss_base.specs.declared.operand.Operand.{Operand}
use Rattle.tss_base.specs.declared.operand.Task.{Task}
use Rattle.tss_base.specs.declared.marks.How.TheVariants.{Beside, Over}
use Rattle.tss_base.specs.declared.marks.Follow.{Follow}
use Rattle.tss_base.specs.Names.{Named}
use Rattle.tss_maps.proofs.Keys.{name_order}
use Rattle.tss_maps.proofs.Changes.{from_inserted, from_removed}
use Rattle.tss_protocol.specs.State.{State, Version}
use Rattle.tss_protocol.specs.Versions.{drop_version, version_changed, change_version, change_named, followed_by}
use Rattle.tss_protocol.specs.Versions.{unlinked}
use Rattle.tss_phases.specs.Settling.{SettleTells}
use Rattle.tss_protocol.specs.Settled.{GivesWay}
use Rattle.tss_phases.proofs.SettlingLemmas.{settle_tells_by}
use Rattle.tss_phases.proofs.Tests.{both, not_both}
use Rattle.tss_control.specs.Members.{IsOn}
use Rattle.tss_control.specs.Chains.{HasChains}
use Rattle.tss_protocol.proofs.SettleCases.{at_changed}

-- ---- whom versions are followed by

-- versions are followed over by such names alone
abbrev pub FollowsOver : (OpName → Type 0) → Named Version → Type 0
FollowsOver Q vs =
    (q : OpName) (x : Version) (f : Follow) → get vs q ≡ Some x → x.successor ≡ Some f → f.how ≡ Over → Q f.version

-- the one before a version isn't followed over
abbrev pub StandsBeside : Named Version → Version → Type 0
StandsBeside vs y =
    (q : OpName) (x : Version) (f : Follow) → y.predecessor ≡ Some q → get vs q ≡ Some x → x.successor ≡ Some f
    → f.how ≢ Over

-- before a settle: and the one before the settled version isn't, if that is produced
record IsReadyToSettle (Q : OpName → Type 0) (vs : Named Version) (v : OpName) : Type 0 where
  over : FollowsOver Q vs
  beside : (y : Version) → get vs v ≡ Some y → y.produced ≡ true → StandsBeside vs y

-- ---- what a version was before another one gave way

-- changed, or as it was
abbrev pub IsChanged : (Version → Version) → OpName → OpName → Version → Version → Type 0
IsChanged f v q x y = (y ≡ x) ⊎ ((q ≡ v) × (y ≡ f x))

from_changed_by : (vs : Named Version) (v : OpName) (f : Version → Version) (o : Option Version) → get vs v ≡ o
    → (q : OpName) (y : Version) → get (version_changed vs v f o) q ≡ Some y
    → (x : Version) × (get vs q ≡ Some x) × IsChanged f v q x y
from_changed_by vs v f None there q y e = (y, e, inl refl)
from_changed_by vs v f (Some x) there q y e = elim (from_inserted name_order vs v (f x) q y e) [
  | inl p ↦ (x, ap (get vs) p.0 ∙ there, inr p)
  | inr p ↦ (y, p.1, inl refl)
]

-- what stands after a change stood there, or was changed
pub from_changed : (vs : Named Version) (v : OpName) (f : Version → Version) (q : OpName) (y : Version)
    → get (change_version vs v f) q ≡ Some y → (x : Version) × (get vs q ≡ Some x) × IsChanged f v q x y
from_changed vs v f = from_changed_by vs v f (get vs v) refl

-- the same of a version that may not be named
abbrev pub IsNamedChange : (Version → Version) → Option OpName → OpName → Version → Version → Type 0
IsNamedChange f v q x y = (y ≡ x) ⊎ ((v ≡ Some q) × (y ≡ f x))

-- what stands after it
pub from_named : (vs : Named Version) (v : Option OpName) (f : Version → Version) (q : OpName) (y : Version)
    → get (change_named vs v f) q ≡ Some y → (x : Version) × (get vs q ≡ Some x) × IsNamedChange f v q x y
from_named vs None f q y e = (y, e, inl refl)
from_named vs (Some v) f q y e =
    let h = from_changed vs v f q y e in (
      h.0,
      h.1,
      elim h.2 [
        | inl s ↦ inl s
        | inr p ↦ inr (ap Some (sym p.0), p.1)
      ],
    )

module _ (vs : Named Version) (v : OpName) (x : Version) (s : OpName) where
  -- the version before knows another successor, and the successor another predecessor
  record WasLinked (q : OpName) (y : Version) : Type 0 where
    version : Version
    there : get vs q ≡ Some version
    successor : (y.successor ≡ version.successor)
        ⊎ ((x.predecessor ≡ Some q) × (y.successor ≡ followed_by s version.successor))

  abbrev bridge : Version → Version
  bridge q = record q { successor = followed_by s q.successor }

  abbrev moved : Version → Version
  moved y = record y { predecessor = x.predecessor }

  abbrev bridged : Named Version
  bridged = change_named (drop_version vs v) x.predecessor bridge

  same_successor : (a y : Version) (q : OpName) → IsChanged moved s q a y → y.successor ≡ a.successor
  same_successor a y q (inl i) = ap (λ (y : Version). y.successor) i
  same_successor a y q (inr p) = ap (λ (y : Version). y.successor) p.1

  linked_by : (q : OpName) (a b y : Version) → get vs q ≡ Some b → y.successor ≡ a.successor
      → IsNamedChange bridge x.predecessor q b a → WasLinked q y
  linked_by q a b y there same (inl i) =
      record { version = b; there = there; successor = inl (same ∙ ap (λ (y : Version). y.successor) i) }
  linked_by q a b y there same (inr p) =
      record { version = b; there = there; successor = inr (p.0, same ∙ ap (λ (y : Version). y.successor) p.1) }

  was_linked : (q : OpName) (y : Version) → get (unlinked vs v x s) q ≡ Some y → WasLinked q y
  was_linked q y e =
      let h = from_changed bridged s moved q y e in
      let k = from_named (drop_version vs v) x.predecessor bridge q h.0 h.1 in
      linked_by q h.0 k.0 y (from_removed name_order vs v q k.0 k.1).1 (same_successor h.0 y q h.2) k.2

  moved_behind : (y : Version) → get (unlinked vs v x s) s ≡ Some y → (q : OpName) → y.predecessor ≡ Some q
      → StandsBeside vs x → (z : Version) (f : Follow) → get vs q ≡ Some z → z.successor ≡ Some f → f.how ≢ Over
  moved_behind y e q back beside z f =
      let h = from_changed bridged s moved s y e in
      let changed = same_Some y (moved (h.0)) (sym e ∙ at_changed moved bridged s h.0 h.1) in
      beside q z f (sym (ap (λ (y : Version). y.predecessor) changed) ∙ back)

-- ---- a settle that goes on

some_follow : (s : OpName) (f : Option Follow) (g : Follow) → followed_by s f ≡ Some g
    → (h : Follow) × (f ≡ Some h) × (h.how ≡ g.how)
some_follow s None g e = absurd (none-some g e)
some_follow s (Some h) g e = (h, refl, ap (λ (f : Follow). f.how) (same_Some (record h { version = s }) g e))

module _ (Q : OpName → Type 0) (vs : Named Version) (v : OpName) (x : Version) (f : Follow)
    (r : IsReadyToSettle Q vs v) (gives : GivesWay vs v x f Beside) where
  stands_beside : StandsBeside vs x
  stands_beside =
      r.beside x gives.there
      (both x.produced (x.released == f.last)
      (both (x.produced && (x.released == f.last)) (is_none x.asked) gives.done).0).0

  over_then : FollowsOver Q (unlinked vs v x f.version)
  over_then q y g e to way =
      let w = was_linked vs v x f.version q y e in
      elim w.successor [
        | inl same ↦ r.over q w.version g w.there (sym same ∙ to) way
        | inr p ↦
            let h = some_follow f.version w.version.successor g (sym p.1 ∙ to) in
            absurd (stands_beside q w.version h.0 p.0 w.there h.1 (h.2 ∙ way))
      ]

  beside_then : (y : Version) → get (unlinked vs v x f.version) f.version ≡ Some y
      → StandsBeside (unlinked vs v x f.version) y
  beside_then y e q z g back there to =
      let w = was_linked vs v x f.version q z there in
      elim w.successor [
        | inl same ↦ moved_behind vs v x f.version y e q back stands_beside w.version g w.there (sym same ∙ to)
        | inr p ↦
            let h = some_follow f.version w.version.successor g (sym p.1 ∙ to) in
            λ way. moved_behind vs v x f.version y e q back stands_beside w.version h.0 w.there h.1 (h.2 ∙ way)
      ]

  ready_then : IsReadyToSettle Q (unlinked vs v x f.version) f.version
  ready_then = record { over = over_then; beside = λ y e produced. beside_then y e }

-- whom a settle tells is one of those that follow over
pub settle_tells_over : (Q : OpName → Type 0) (n : ℕ) (vs : Named Version) (v s : OpName) → FollowsOver Q vs
    → ((y : Version) → get vs v ≡ Some y → y.produced ≡ true → StandsBeside vs y) → SettleTells n vs v s → Q s
settle_tells_over Q n vs v s over beside =
    settle_tells_by (IsReadyToSettle Q) Q (λ us w x f r gives. ready_then Q us w x f r gives)
    (λ us w s r t. subst Q t.successor (r.over w t.version t.follow t.gives.there t.gives.next t.gives.way)) n vs v s
    (record { over = over; beside = beside })

-- ---- of a state

-- an operand that takes a version over
abbrev pub IsTaker : List Task → OpName → Type 0
IsTaker ts o = (x : Range) × IsOn ts x Inout o

-- no taker is an input
pub taker_writes : (ts : List Task) (o : OpName) (x : Range) → IsTaker ts o → IsOn ts x Input o → ⊥
taker_writes ts o x t i =
    two_modes t.1.operand i.operand (same_Some t.1.operand i.operand (sym t.1.there ∙ i.there)) t.1.is_mode i.is_mode
  where
    two_modes : (p q : Operand) → p ≡ q → p.mode ≡ Inout → q.mode ≡ Input → ⊥
    two_modes p q e a b = apart (p.mode) a (ap (λ (p : Operand). p.mode) e ∙ b)
      where
        apart : (m : Mode) → m ≡ Inout → m ≡ Input → ⊥
        apart m a b = cc

module _ (ts : List Task) (S : State) (h : HasChains ts S) where
  -- versions are followed over by takers
  pub followed_by_takers : FollowsOver (IsTaker ts) S.versions
  followed_by_takers q x f e to way =
      let k = (h.linked q x e).followed f to in
      let s = h.storages f.version k.version k.there in
      (k.version.object, (s.waits (s.over.1 (q, x, f, k.back, e, to, way))).1)

  -- a version with a storage stands beside the one before
  pub with_storage_beside : (v : OpName) (y : Version) → get S.versions v ≡ Some y → (y.storage ≡ None → ⊥)
      → StandsBeside S.versions y
  with_storage_beside v y e some q x f back there to way =
      some ((h.storages v y e).over.1 (q, x, f, back, there, to, way))

  -- a produced version has a storage
  pub produced_has_storage : (v : OpName) (y : Version) → get S.versions v ≡ Some y → y.produced ≡ true
      → y.storage ≡ None → ⊥
  produced_has_storage v y e produced none = not_both y.produced produced ((h.storages v y e).waits none).0
