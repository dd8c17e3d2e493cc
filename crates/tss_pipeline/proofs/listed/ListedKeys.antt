-- A set of those keys of a map that pass a test has them in the order in which the map has them.
use Rattle.std.proofs.Common.{◌≡◌, Bool, true, false, cond, List, [], ◌∷◌, map, Option, Some, None, refl, sym, ap, ◌∙◌}
use Rattle.std.specs.Prelude.{filter, is_some, T, ◌&&◌}
use Rattle.std.specs.declared.cmp.Ordering.{Ordering}
use Rattle.std.specs.Ordering.{is_lt}
use Rattle.std.specs.FinMap.{FinMap, get, keys, entries, entries_sorted, from_sorted, entries-from_sorted, get-from_sorted, get-from_entries}
use Rattle.std.specs.FinMap.Entries.{below_all, is_sorted}
use Rattle.tss_maps.specs.Parts.{keys_in, keys_where, key_where}
use Rattle.tss_maps.proofs.Keys.{IsKeyOrder}
use Rattle.tss_maps.proofs.Changes.{same_by_get}
use Rattle.tss_maps.proofs.PartsLemmas.{get-keys_where}

not_both : false ≡ true → ⊥
not_both e = cc

first : (a b : Bool) → T (a && b) → T a
first true b p = tt
first false b p = absurd p

second : (a b : Bool) → T (a && b) → T b
second true b p = p
second false b p = absurd p

both : (a b : Bool) → T a → T b → T (a && b)
both true b p q = q
both false b p q = absurd p

-- a test of what is made of each, before or after it is made
pub filter-map : {A B : Type 0} (p : B → Bool) (f : A → B) (xs : List A) → filter p (map f xs) ≡ map f (filter (λ x. p (f x)) xs)
filter-map p f [] = refl
filter-map p f (x ∷ xs) =
    elim (p (f x))
    as (λ b. cond b (f x ∷ filter p (map f xs)) (filter p (map f xs)) ≡ map f (cond b (x ∷ filter (λ x. p (f x)) xs) (filter (λ x. p (f x)) xs))) [
      | true ↦ ap (λ ys. f x ∷ ys) (filter-map p f xs)
      | false ↦ filter-map p f xs
    ]

module _ {K X : Type 0} {R : K → K → Ordering} (order : IsKeyOrder R) (q : K → Bool) where
  abbrev kept : List (K × X) → List (K × Unit {0})
  kept es = keys_in (λ k x. q k) es

  -- what is kept of a list in order is in order
  below_kept : (k : K) (es : List (K × X)) → T (below_all R k es) → T (below_all R k (kept es))
  below_kept k [] h = tt
  below_kept k (e ∷ es) h =
      let rest = below_kept k es (second (is_lt (R k e.0)) (below_all R k es) h) in
      elim (q e.0) as (λ b. T (below_all R k (cond b ((e.0, tt) ∷ kept es) (kept es)))) [
        | true ↦ both (is_lt (R k e.0)) (below_all R k (kept es)) (first (is_lt (R k e.0)) (below_all R k es) h) rest
        | false ↦ rest
      ]

  sorted_kept : (es : List (K × X)) → T (is_sorted R es) → T (is_sorted R (kept es))
  sorted_kept [] h = tt
  sorted_kept (e ∷ es) h =
      let rest = sorted_kept es (second (below_all R e.0 es) (is_sorted R es) h) in
      elim (q e.0) as (λ b. T (is_sorted R (cond b ((e.0, tt) ∷ kept es) (kept es)))) [
        | true ↦
            both (below_all R e.0 (kept es)) (is_sorted R (kept es))
            (below_kept e.0 es (first (below_all R e.0 es) (is_sorted R es) h)) rest
        | false ↦ rest
      ]

  -- its keys are those that pass
  keys_kept : (es : List (K × X)) → map (λ (e : K × Unit {0}). e.0) (kept es) ≡ filter q (map (λ (e : K × X). e.0) es)
  keys_kept [] = refl
  keys_kept (e ∷ es) =
      elim (q e.0)
      as (λ b. map (λ (e : K × Unit {0}). e.0) (cond b ((e.0, tt) ∷ kept es) (kept es)) ≡ cond b (e.0 ∷ filter q (map (λ (e : K × X). e.0) es)) (filter q (map (λ (e : K × X). e.0) es))) [
        | true ↦ ap (λ ks. e.0 ∷ ks) (keys_kept es)
        | false ↦ keys_kept es
      ]

  -- the set of the keys that pass
  pub listed_keys : (t : FinMap R (Unit {0})) (m : FinMap R X) → ((k : K) → is_some (get t k) ≡ q k)
      → ((k : K) → q k ≡ true → is_some (get m k) ≡ true) → keys t ≡ filter q (keys m)
  unfolding keys_where
  listed_keys t m same only =
      ap keys (same_by_get order t (from_sorted (kept (entries m))) (λ k.
      by k (get t k) (get m k) (same k) (only k)
      ∙ sym (get-keys_where order (λ k x. q k) m k)
      ∙ get-from_entries order.total (kept (entries m)) k
      ∙ sym (get-from_sorted R (kept (entries m)) k (sorted_kept (entries m) (entries_sorted m)))))
      ∙ ap (map (λ (e : K × Unit {0}). e.0)) (entries-from_sorted R (kept (entries m)) (sorted_kept (entries m) (entries_sorted m)))
      ∙ keys_kept (entries m)
    where
      by : (k : K) (o : Option (Unit {0})) (x : Option X) → is_some o ≡ q k → (q k ≡ true → is_some x ≡ true)
          → o ≡ key_where (λ k x. q k) k x
      by k None None e only = refl
      by k None (Some x) e only = ap (λ b. cond b (Some tt) None) e
      by k (Some u) None e only = let f = only (sym e) in absurd (not_both f)
      by k (Some u) (Some x) e only = ap (λ b. cond b (Some tt) None) e
