-- A fact of each version, kept by the events of the versioning tables where a few changes keep it.
use Rattle.std.proofs.Common.{arith, ◌≤◌, ◌≡◌, ℕ, zero, suc, Bool, true, false, if◌then◌else◌, Option, Some, None, refl}
use Rattle.std.specs.FinMap.{get}
use Rattle.tss_base.specs.declared.operand.OpName.{OpName}
use Rattle.tss_base.specs.declared.operand.Mode.{Mode}
use Rattle.tss_base.specs.declared.operand.Mode.TheVariants.{Input, Output, Inout}
use Rattle.tss_base.specs.declared.marks.How.{How}
use Rattle.tss_base.specs.declared.marks.How.TheVariants.{Beside, Over}
use Rattle.tss_base.specs.declared.marks.Follow.{Follow}
use Rattle.tss_base.specs.Names.{Named}
use Rattle.tss_maps.proofs.Keys.{name_order}
use Rattle.tss_protocol.specs.Mail.{StorageName, OpenContents, ReleaseContents}
use Rattle.tss_protocol.specs.State.{Version}
use Rattle.tss_protocol.specs.Versions.{Settling, put_version, drop_version, version_changed, change_version}
use Rattle.tss_protocol.specs.Versions.{change_named, may_die, may_ask, followed_by, unlinked, settle_how}
use Rattle.tss_protocol.specs.Versions.{settle_asking, unchanged, settle_by, settle_at, settle, settled, new_version}
use Rattle.tss_protocol.specs.Versions.{first_version, followed, opened_how, opened_by, after_open, enlisted}
use Rattle.tss_protocol.specs.Versions.{used_alone, used_behind, used_at, after_use, produced_now, released_once}
use Rattle.tss_protocol.specs.Versions.{released_by, released_at, after_release, refused_once, nacked_at, after_nack}
use Rattle.tss_protocol.specs.Versions.{after_retire}
use Rattle.tss_names.specs.Names.{EachEntry}
use Rattle.tss_names.proofs.NameLemmas.{each_inserted, each_removed}

-- such facts, and the changes that keep them
pub record IsOfEach (C : OpName → Version → Type 0) : Type 0 where
  pub links : (v : OpName) (x : Version) (p : Option OpName) → C v x → C v (record x { predecessor = p })
  pub follows : (v : OpName) (x : Version) (f : Option Follow) → C v x → C v (record x { successor = f })
  pub stores : (v : OpName) (x : Version) (s : Option StorageName) → C v x → C v (record x { storage = s })
  pub asks : (v : OpName) (x : Version) (n : Option ℕ) → C v x → C v (record x { asked = n })
  pub produces : (v : OpName) (x : Version) → C v x → C v (produced_now x)
  pub releases : (v : OpName) (x : Version) (o : OpName) → C v x → C v (released_once x o)
  pub refuses : (v : OpName) (x : Version) → C v x → C v (refused_once x)

module _ (C : OpName → Version → Type 0) (k : IsOfEach C) where
  each_put : (vs : Named Version) (v : OpName) (x : Version) → EachEntry C vs → C v x → EachEntry C (put_version vs v x)
  each_put vs v x each new = each_inserted name_order C vs v x each new

  each_drop : (vs : Named Version) (v : OpName) → EachEntry C vs → EachEntry C (drop_version vs v)
  each_drop vs v each = each_removed name_order C vs v each

  -- a change that keeps it
  module _ (f : Version → Version) (keeps : (v : OpName) (x : Version) → C v x → C v (f x)) where
    each_changed_by : (vs : Named Version) (v : OpName) (x : Option Version) → get vs v ≡ x → EachEntry C vs
        → EachEntry C (version_changed vs v f x)
    each_changed_by vs v None e each = each
    each_changed_by vs v (Some x) e each = each_put vs v (f x) each (keeps v x (each v x e))

    each_changed : (vs : Named Version) (v : OpName) → EachEntry C vs → EachEntry C (change_version vs v f)
    each_changed vs v each = each_changed_by vs v (get vs v) refl each

    each_changed_named : (vs : Named Version) (v : Option OpName) → EachEntry C vs → EachEntry C (change_named vs v f)
    each_changed_named vs None each = each
    each_changed_named vs (Some v) each = each_changed vs v each

  -- ---- settle

  each_unlinked : (vs : Named Version) (v : OpName) (x : Version) (s : OpName) → EachEntry C vs
      → EachEntry C (unlinked vs v x s)
  each_unlinked vs v x s each =
      each_changed (λ y. record y { predecessor = x.predecessor }) (λ w y. k.links w y x.predecessor) _ s
      (each_changed_named (λ q. record q { successor = followed_by s q.successor })
      (λ w y. k.follows w y (followed_by s y.successor)) (drop_version vs v) x.predecessor (each_drop vs v each))

  module _ (vs : Named Version) (v : OpName) (x : Version) (each : EachEntry C vs) (here : C v x) (go : Settling)
      (rest : (ws : Named Version) (w : OpName) → EachEntry C ws → EachEntry C (go ws w).part) where
    each_settle_how : (f : Follow) (how : How) → EachEntry C (settle_how vs v x f go how).part
    each_settle_how f Beside = rest (unlinked vs v x f.version) f.version (each_unlinked vs v x f.version each)
    each_settle_how f Over =
        each_changed (λ y. record y { storage = x.storage }) (λ w y. k.stores w y x.storage)
        (unlinked vs v x f.version) f.version (each_unlinked vs v x f.version each)

    each_settle_by : (f : Option Follow) → EachEntry C (settle_by vs v x go f).part
    each_settle_by None =
        elim (may_ask x) as (λ b. EachEntry C (if b then settle_asking vs v x else unchanged vs).part) [
          | true ↦ each_put vs v (record x { asked = Some x.registered }) each (k.asks v x (Some x.registered) here)
          | false ↦ each
        ]
    each_settle_by (Some f) =
        elim (may_die x f.last)
        as (λ b. EachEntry C (if b then settle_how vs v x f go f.how else unchanged vs).part) [
          | true ↦ each_settle_how f f.how
          | false ↦ each
        ]

  each_settle_at : (vs : Named Version) (v : OpName) (go : Settling)
      → ((ws : Named Version) (w : OpName) → EachEntry C ws → EachEntry C (go ws w).part) → (x : Option Version)
      → get vs v ≡ x → EachEntry C vs → EachEntry C (settle_at vs v go x).part
  each_settle_at vs v go rest None e each = each
  each_settle_at vs v go rest (Some x) e each = each_settle_by vs v x each (each v x e) go rest x.successor

  each_settle : (n : ℕ) (vs : Named Version) (v : OpName) → EachEntry C vs → EachEntry C (settle n vs v).part
  unfolding settle
  each_settle zero vs v each = each
  each_settle (suc n) vs v each = each_settle_at vs v (settle n) (each_settle n) (get vs v) refl each

  each_settled : (vs : Named Version) (v : OpName) → EachEntry C vs → EachEntry C (settled vs v).part
  each_settled vs v each = each_settle _ vs v each

  -- ---- open, where it holds of a new version with at most one reader

  module _ (vs : Named Version) (o : OpName) (c : OpenContents) (each : EachEntry C vs)
      (new : (x : Version) → x.object ≡ c.operand.object → x.registered ≤ 1 → C o x) where
    each_followed : (f : Follow) → EachEntry C (followed vs o c f)
    each_followed f =
        each_changed (λ p. record p { successor = Some (record f { version = o }) })
        (λ w y. k.follows w y (Some (record f { version = o }))) _ f.version
        (each_put vs o (record (new_version c.operand.object c.storage) { predecessor = Some f.version }) each
        (new (record (new_version c.operand.object c.storage) { predecessor = Some f.version }) refl (omega arith)))

    each_opened_how : (f : Follow) (how : How) → EachEntry C (opened_how vs o c f how).part
    each_opened_how f Beside = each_settled (followed vs o c f) f.version (each_followed f)
    each_opened_how f Over = each_settled (followed vs o c f) f.version (each_followed f)

    each_first : (mode : Mode) → C o (first_version o c.operand.object c.storage mode)
    each_first Input = new (first_version o c.operand.object c.storage Input) refl (omega arith)
    each_first Output = new (first_version o c.operand.object c.storage Output) refl (omega arith)
    each_first Inout = new (first_version o c.operand.object c.storage Inout) refl (omega arith)

    each_opened_by : (f : Option Follow) → EachEntry C (opened_by vs o c f).part
    each_opened_by None =
        each_put vs o (first_version o c.operand.object c.storage c.operand.mode) each (each_first c.operand.mode)
    each_opened_by (Some f) = each_opened_how f f.how

    -- what open leaves
    pub each_open : EachEntry C (after_open vs o c).part
    each_open = each_opened_by c.follows

  -- ---- use, where it holds of a version with one more reader

  module _ (vs : Named Version) (o v : OpName) (each : EachEntry C vs)
      (more : (x : Version) → get vs v ≡ Some x
      → C v (enlisted x o) × C v (record (enlisted x o) { head = Some o })) where
    each_used_alone : (x : Version) → get vs v ≡ Some x → (produced : Bool)
        → EachEntry C (used_alone vs o v x produced).part
    each_used_alone x e true = each_put vs v (enlisted x o) each (more x e).0
    each_used_alone x e false = each_put vs v (record (enlisted x o) { head = Some o }) each (more x e).1

    each_used_behind : (x : Version) → get vs v ≡ Some x → (tail : Option OpName)
        → EachEntry C (used_behind vs o v x tail).part
    each_used_behind x e None = each_used_alone x e x.produced
    each_used_behind x e (Some last) = each_put vs v (enlisted x o) each (more x e).0

    each_used_at : (x : Option Version) → get vs v ≡ x → EachEntry C (used_at vs o v x).part
    each_used_at None e = each
    each_used_at (Some x) e = each_used_behind x e x.tail

    -- what use leaves
    pub each_use : EachEntry C (after_use vs o v).part
    each_use = each_used_at (get vs v) refl

  -- ---- release, nack, retire

  module _ (vs : Named Version) (each : EachEntry C vs) where
    each_released_by : (o v : OpName) (x : Version) → C v x → (producer : Bool)
        → EachEntry C (released_by vs o v x producer).part
    each_released_by o v x here true =
        each_settled (put_version vs v (produced_now x)) v
        (each_put vs v (produced_now x) each (k.produces v x here))
    each_released_by o v x here false =
        each_settled (put_version vs v (released_once x o)) v
        (each_put vs v (released_once x o) each (k.releases v x o here))

    each_released_at : (o v : OpName) (producer : Bool) (x : Option Version) → get vs v ≡ x
        → EachEntry C (released_at vs o v producer x).part
    each_released_at o v producer None e = each
    each_released_at o v producer (Some x) e = each_released_by o v x (each v x e) producer

    -- what release leaves
    pub each_release : (o : OpName) (r : ReleaseContents) → EachEntry C (after_release vs o r).part
    each_release o r = each_released_at o r.version r.producer (get vs r.version) refl

    each_nacked_at : (v : OpName) (x : Option Version) → get vs v ≡ x → EachEntry C (nacked_at vs v x).part
    each_nacked_at v None e = each
    each_nacked_at v (Some x) e =
        each_settled (put_version vs v (refused_once x)) v
        (each_put vs v (refused_once x) each (k.refuses v x (each v x e)))

    -- what nack leaves
    pub each_nack : (v : OpName) → EachEntry C (after_nack vs v).part
    each_nack v = each_nacked_at v (get vs v) refl

    -- what retire leaves
    pub each_retire : (v : OpName) → EachEntry C (after_retire vs v)
    each_retire v = each_drop vs v each
