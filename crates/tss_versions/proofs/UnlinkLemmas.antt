-- The versions beside one that is taken out stand where they stood.
use Rattle.std.proofs.Common.{◌≡◌, ◌≢◌, ℕ, Option, Some, None, refl, sym, ap, subst, ◌∙◌, inl, inr}
use Rattle.std.specs.FinMap.{get, insert, remove}
use Rattle.std.proofs.lemmas.Option.{none-some, same_Some}
use Rattle.tss_base.specs.declared.range.Range.{Range}
use Rattle.tss_base.specs.declared.operand.OpName.{OpName}
use Rattle.tss_base.specs.Names.{Named}
use Rattle.tss_maps.proofs.Keys.{name_order, decide_key}
use Rattle.tss_maps.proofs.Changes.{at_inserted, beside_inserted, beside_removed, apart_absent}
use Rattle.tss_versions.specs.declared.kept.Kept.{Kept}
use Rattle.tss_versions.specs.declared.status.Site.{Site}
use Rattle.tss_versions.specs.declared.status.Next.{Next}
use Rattle.tss_versions.specs.declared.status.Status.{Status}
use Rattle.tss_versions.specs.Known.{behind_status, linked_to, followed_status, IsAt, IsRight, HaveSites}
use Rattle.tss_versions.specs.Rows.{with_status}
use Rattle.tss_versions.specs.Conditions.{Remain}

-- nothing has changed
pub remain_same : (vs : Named Kept) → Remain vs vs
remain_same vs v x e = (x, e, refl, refl)

-- one of them is known as something else
pub remain_written : (vs : Named Kept) (a : OpName) (k : Kept) → get vs a ≡ Some k → (status : Status) →
    Remain vs (insert vs a (with_status k status))
remain_written vs a k there status v x e = elim (decide_key name_order v a) [
  | inl same ↦
      let one : k ≡ x = same_Some k x (sym there ∙ ap (get vs) (sym same) ∙ e) in (
        with_status k status,
        ap (get (insert vs a (with_status k status))) same ∙ at_inserted name_order vs a (with_status k status),
        ap (λ (k : Kept). k.store) one,
        ap (λ (k : Kept). k.place) one,
      )
  | inr apart ↦ (x, beside_inserted name_order vs a (with_status k status) v apart ∙ e, refl, refl)
]

-- the site of one that remains
pub at_remaining : (vs ws : Named Kept) (s : Site) → Remain vs ws → IsAt vs s → IsAt ws s
at_remaining vs ws s remain at =
    let z = remain s.name at.0 at.1 in
    (z.0, z.1, ap (λ t. t.place) z.3 ∙ at.2)

-- and of another than the one that is taken out
pub at_beside : (vs : Named Kept) (v : OpName) (s : Site) → s.name ≢ v → IsAt vs s → IsAt (remove vs v) s
at_beside vs v s apart at = (at.0, beside_removed name_order vs v s.name apart ∙ at.1, at.2)

-- where a version stands, it stands nowhere else
pub right_at : (vs : Named Kept) (s : Site) → IsAt vs s → IsRight vs s
right_at vs s at x e = ap (λ (k : Kept). k.place.place) (same_Some x at.0 (sym e ∙ at.1)) ∙ at.2

linked_site : (next : Site) (o : Option Next) (n : Next) → linked_to next o ≡ Some n → next ≡ n.site
linked_site next None n e = absurd (none-some n e)
linked_site next (Some m) n e = ap (λ (n : Next). n.site) (same_Some (record m { site = next }) n e)

-- a version is followed by another one
pub sites_followed : (vs : Named Kept) (next : Site) (x : Status) → HaveSites vs x → IsAt vs next →
    HaveSites vs (followed_status next x)
sites_followed vs next x sites at = record {
  before = sites.before;
  after = λ n e. right_of (linked_site next x.successor n e);
}
  where
    right_of : {s : Site} → next ≡ s → IsRight vs s
    right_of {s} same = subst (IsRight vs) same (right_at vs next at)

-- and stands behind another one
pub sites_moved : (vs : Named Kept) (before : Option Site) (x : Status) → HaveSites vs x →
    ((s : Site) → before ≡ Some s → IsAt vs s) → HaveSites vs (record x { predecessor = before })
sites_moved vs before x sites at = record { before = λ s e. right_at vs s (at s e); after = sites.after }

-- ---- a new version

-- the others stand where they stood
pub at_added : (vs : Named Kept) (o : OpName) (k : Kept) → get vs o ≡ None → (s : Site) → IsAt vs s → IsAt (insert vs o k) s
at_added vs o k fresh s at =
    (at.0, beside_inserted name_order vs o k s.name (apart_absent vs s.name o at.0 at.1 fresh) ∙ at.1, at.2)

-- it stands at its place
pub at_new : (vs : Named Kept) (o : OpName) (k : Kept) (place : ℕ) → place ≡ k.place.place →
    IsAt (insert vs o k) (record { name = o; place = place })
at_new vs o k place same = (k, at_inserted name_order vs o k, sym same)

-- one behind another is linked to that one alone
pub sites_behind : (vs : Named Kept) (object : Range) (before : Site) → IsAt vs before →
    HaveSites vs (behind_status object (Some before))
sites_behind vs object before at = record {
  before = λ s e. subst (IsRight vs) (same_Some before s e) (right_at vs before at);
  after = λ n e. absurd (none-some n e);
}

-- a version that is followed now
pub sites_linked : (vs : Named Kept) (x : Status) (n : Next) → HaveSites vs x → IsAt vs n.site →
    HaveSites vs (record x { successor = Some n })
sites_linked vs x n sites at = record {
  before = sites.before;
  after = λ m e. subst (λ (m : Next). IsRight vs m.site) (same_Some n m e) (right_at vs n.site at);
}
