-- What a bank shows of its next version.
use Rattle.std.proofs.Common.{◌≡◌, Bool, true, false, cond, List, [], ◌∷◌, Option, Some, None, refl, sym, ap, ◌∙◌}
use Rattle.std.specs.Prelude.{find, map, option_map, slice_get}
use Rattle.std.specs.Ordering.{is_lt}
use Rattle.std.specs.FinMap.{get, entries}
use Rattle.std.proofs.lemmas.Option.{none-some, same_Some}
use Rattle.tss_base.specs.declared.operand.OpName.{OpName}
use Rattle.tss_base.specs.Names.{Named, name_cmp}
use Rattle.tss_maps.specs.Ordered.{key_at, least_above}
use Rattle.tss_maps.proofs.Keys.{name_order}
use Rattle.tss_maps.proofs.Places.{find_there}
use Rattle.tss_maps.proofs.OrderedLemmas.{key_at-entries, get_from_place}
use Rattle.tss_protocol.specs.State.{Version}
use Rattle.tss_versions.specs.declared.version_view.VersionView.{VersionView}
use Rattle.tss_pipeline.specs.BankParts.{value_at, version_shown}
use Rattle.tss_state_text.specs.Versions.{next_entry, shown}
use Rattle.tss_state_text.proofs.BankLemmas.{value_at-entries}

-- a name and a version that are shown together
both_shown : (r : Option VersionView) (o : Option (OpName × Version)) →
    option_map version_shown r ≡ option_map (λ e. e.1) o → option_map (λ v. v.name) r ≡ option_map (λ e. e.0) o →
    option_map shown r ≡ o
both_shown None None e f = refl
both_shown None (Some x) e f = absurd (none-some x.1 e)
both_shown (Some v) None e f = absurd (none-some (version_shown v) (sym e))
both_shown (Some v) (Some x) e f =
    let version = same_Some (version_shown v) x.1 e in
    let name = same_Some v.name x.0 f in
    λ i. Some (name i, version i)

find_any : {A : Type 0} (es : List A) → find (λ e. true) es ≡ slice_get es 0
find_any [] = refl
find_any (e ∷ es) = refl

-- the first of a bank
pub first_shown : (m : Named Version) (r : Option VersionView) → option_map version_shown r ≡ value_at m 0 →
    option_map (λ v. v.name) r ≡ key_at m 0 → option_map shown r ≡ next_entry m None
first_shown m r version name =
    both_shown r (slice_get (entries m) 0) (version ∙ value_at-entries name_order m 0) (name ∙ key_at-entries name_order m 0)
    ∙ sym (find_any (entries m))

find_key : (p : OpName → Bool) (es : List (OpName × Version)) →
    find p (map (λ (e : OpName × Version). e.0) es) ≡ option_map (λ (e : OpName × Version). e.0) (find (λ e. p e.0) es)
find_key p [] = refl
find_key p (e ∷ es) = by (p e.0) (find_key p es)
  where
    by : (t : Bool) → find p (map (λ (e : OpName × Version). e.0) es)
        ≡ option_map (λ (e : OpName × Version). e.0) (find (λ e. p e.0) es) →
        cond t (Some e.0) (find p (map (λ (e : OpName × Version). e.0) es))
        ≡ option_map (λ (e : OpName × Version). e.0) (cond t (Some e) (find (λ e. p e.0) es))
    by true rest = refl
    by false rest = rest

above_by : (m : Named Version) (last : OpName) →
    least_above name_cmp m last ≡ option_map (λ e. e.0) (next_entry m (Some last))
unfolding least_above
above_by m last = find_key (λ q. is_lt (name_cmp last q)) (entries m)

-- where none is above, there is no next one
pub none_shown : (m : Named Version) (last : OpName) → least_above name_cmp m last ≡ None → None ≡ next_entry m (Some last)
none_shown m last none = by (next_entry m (Some last)) (sym (above_by m last) ∙ none)
  where
    by : (o : Option (OpName × Version)) → option_map (λ (e : OpName × Version). e.0) o ≡ None → None ≡ o
    by None e = refl
    by (Some x) e = absurd (none-some x.0 (sym e))

-- the next of a bank, by its name
pub next_shown : (m : Named Version) (last v : OpName) (r : Option VersionView) → least_above name_cmp m last ≡ Some v →
    option_map version_shown r ≡ get m v → option_map (λ x. x.name) r ≡ option_map (λ x. v) (get m v) →
    option_map shown r ≡ next_entry m (Some last)
next_shown m last v r above version name = by (next_entry m (Some last)) refl (sym (above_by m last) ∙ above)
  where
    by : (o : Option (OpName × Version)) → next_entry m (Some last) ≡ o → option_map (λ (e : OpName × Version). e.0) o ≡ Some v →
        option_map shown r ≡ o
    by None is e = absurd (none-some v e)
    by (Some x) is e =
        let same : x.0 ≡ v = same_Some x.0 v e in
        let f = find_there (λ (e : OpName × Version). is_lt (name_cmp last e.0)) (entries m) x is in
        let there : get m v ≡ Some x.1 = ap (get m) (sym same) ∙ get_from_place name_order m f.0 x.0 x.1 f.1 in
        both_shown r (Some x) (version ∙ there) (name ∙ ap (option_map (λ y. v)) there ∙ ap Some (sym same))
