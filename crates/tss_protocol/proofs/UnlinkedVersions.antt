-- What stands under each name after a version has given way to its successor.
use Rattle.std.proofs.Common.{◌≡◌, ◌≢◌, Option, Some, None, sym, ap, ◌∙◌}
use Rattle.std.specs.FinMap.{get}
use Rattle.tss_base.specs.declared.operand.OpName.{OpName}
use Rattle.tss_base.specs.Names.{Named}
use Rattle.tss_maps.proofs.Keys.{name_order}
use Rattle.tss_maps.proofs.Changes.{at_removed, beside_removed}
use Rattle.tss_protocol.specs.State.{Version}
use Rattle.tss_protocol.specs.Versions.{drop_version, change_named, followed_by, unlinked, settle_over}
use Rattle.tss_protocol.proofs.SettleCases.{moved_up, at_changed, beside_changed, beside_changed_named, at_unlinked}

-- the version before one that gives way is followed by this one
abbrev pub bridged : OpName → Version → Version
bridged s y = record y { successor = followed_by s y.successor }

-- v gave way to s: v is gone, z stands at s, the version before v is followed by s, and the others are as they were
pub record GaveWay (vs ws : Named Version) (v : OpName) (x : Version) (s : OpName) (z : Version) : Type 0 where
  pub gone : get ws v ≡ None
  pub next : get ws s ≡ Some z
  pub before : (p : OpName) (y : Version) → x.predecessor ≡ Some p → get vs p ≡ Some y → get ws p ≡ Some (bridged s y)
  pub others : (q : OpName) → q ≢ v → q ≢ s → (x.predecessor ≡ Some q → ⊥) → get ws q ≡ get vs q

-- a version that is followed over takes the storage too
abbrev pub took_over : Version → Version → Version
took_over x y = record (moved_up x y) { storage = x.storage }

module _ (vs : Named Version) (v : OpName) (x : Version) (s : OpName) (apart : s ≢ v)
    (ahead : x.predecessor ≡ Some s → ⊥) (own : x.predecessor ≡ Some v → ⊥) where
  -- the versions without v, before s is moved up
  abbrev bridge_built : Named Version
  bridge_built = change_named (drop_version vs v) x.predecessor (bridged s)

  built_at : (q : OpName) → q ≢ v → (x.predecessor ≡ Some q → ⊥) → get bridge_built q ≡ get vs q
  built_at q far other =
      beside_changed_named (bridged s) (drop_version vs v) x.predecessor q other
      ∙ beside_removed name_order vs v q far

  built_before : (o : Option OpName) (p : OpName) (y : Version) → o ≡ Some p → p ≢ v → get vs p ≡ Some y
      → get (change_named (drop_version vs v) o (bridged s)) p ≡ Some (bridged s y)
  built_before o p y e far there =
      ap (λ o. get (change_named (drop_version vs v) o (bridged s)) p) e
      ∙ at_changed (bridged s) (drop_version vs v) p y (beside_removed name_order vs v p far ∙ there)

  same_some : (p : OpName) → x.predecessor ≡ Some p → p ≢ v
  same_some p e is = own (e ∙ ap Some is)

  -- unlinked beside
  pub gave_way_beside : (y : Version) → get vs s ≡ Some y → GaveWay vs (unlinked vs v x s) v x s (moved_up x y)
  gave_way_beside y there = record {
    gone =
        beside_changed (moved_up x) bridge_built s v (λ e. apart (sym e))
        ∙ beside_changed_named (bridged s) (drop_version vs v) x.predecessor v own
        ∙ at_removed name_order vs v;
    next = at_unlinked vs v x s apart ahead y there;
    before = λ p y e at.
        beside_changed (moved_up x) bridge_built s p (λ is. ahead (e ∙ ap Some is))
        ∙ built_before x.predecessor p y e (same_some p e) at;
    others = λ q far other first.
        beside_changed (moved_up x) bridge_built s q other ∙ built_at q far first;
  }

  abbrev takes : Version → Version
  takes y = record y { storage = x.storage }

  -- taken over
  pub gave_way_over : (y : Version) → get vs s ≡ Some y → GaveWay vs (settle_over vs v x s).part v x s (took_over x y)
  gave_way_over y there =
      let b = gave_way_beside y there in
      let us = unlinked vs v x s in
      record {
        gone = beside_changed takes us s v (λ e. apart (sym e)) ∙ b.gone;
        next = at_changed takes us s (moved_up x y) b.next;
        before = λ p y e at. beside_changed takes us s p (λ is. ahead (e ∙ ap Some is)) ∙ b.before p y e at;
        others = λ q far other first. beside_changed takes us s q other ∙ b.others q far other first;
      }
