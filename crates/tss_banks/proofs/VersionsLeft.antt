-- How many versions are left by changes: a version that gives way is one less.
use Rattle.std.proofs.Common.{◌≡◌, ◌+◌, Option, Some, None, refl, ap, ◌∙◌}
use Rattle.std.specs.FinMap.{get, len}
use Rattle.tss_base.specs.declared.operand.OpName.{OpName}
use Rattle.tss_base.specs.Names.{Named}
use Rattle.tss_maps.proofs.Keys.{name_order}
use Rattle.tss_maps.proofs.Entries.{len_written, len_removed}
use Rattle.tss_protocol.specs.State.{Version}
use Rattle.tss_protocol.specs.Versions.{drop_version, version_changed, change_version, change_named, followed_by}
use Rattle.tss_protocol.specs.Versions.{unlinked}

module _ (vs : Named Version) (f : Version → Version) where
  len_changed_by : (v : OpName) (o : Option Version) → get vs v ≡ o → len (version_changed vs v f o) ≡ len vs
  len_changed_by v None there = refl
  len_changed_by v (Some x) there = len_written name_order vs v x (f x) there

  -- a change leaves as many
  len_changed : (v : OpName) → len (change_version vs v f) ≡ len vs
  len_changed v = len_changed_by v (get vs v) refl

  -- the same of a version that may not be named
  len_changed_named : (v : Option OpName) → len (change_named vs v f) ≡ len vs
  len_changed_named None = refl
  len_changed_named (Some v) = len_changed v

-- a version that is removed from between its neighbours is one less
pub len_unlinked : (vs : Named Version) (v : OpName) (x y : Version) (s : OpName) → get vs v ≡ Some y
    → len (unlinked vs v x s) + 1 ≡ len vs
len_unlinked vs v x y s there =
    let bridge : Version → Version = λ q. record q { successor = followed_by s q.successor } in
    let moved = len_changed (change_named (drop_version vs v) x.predecessor bridge)
    (λ y. record y { predecessor = x.predecessor }) s in
    let bridged = len_changed_named (drop_version vs v) bridge x.predecessor in
    ap (λ n. n + 1) (moved ∙ bridged) ∙ len_removed name_order vs v y there
