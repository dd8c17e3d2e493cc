-- What stands at a key of a mapped finite map, its changes, its keys, and counts over it.
use Rattle.std.proofs.Common.{◌≡◌, ◌≢◌, ◌⊎◌, ℕ, suc, ◌+◌, Bool, true, false, cond, List, [], ◌∷◌, length, Some, refl}
use Rattle.std.proofs.Common.{sym, ap, subst, ◌∙◌, inl, inr, option_map}
use Rattle.std.specs.Prelude.{T, ◌&&◌, map}
use Rattle.std.specs.declared.cmp.Ordering.{Ordering}
use Rattle.std.specs.Ordering.{is_lt, eq_by_cmp}
use Rattle.std.specs.FinMap.{FinMap, empty, get, insert, remove, len, entries, keys, entries_sorted}
use Rattle.std.specs.FinMap.{entries-from_sorted, get-entries, get-empty, len-entries}
use Rattle.std.specs.FinMap.Entries.{find, is_sorted, below_all}
use Rattle.tss_maps.specs.Sums.{weigh, sum_of, count_of, one_if}
use Rattle.tss_maps.specs.Mapped.{map_entries, mapped}
use Rattle.tss_maps.proofs.Keys.{IsKeyOrder, decide_key}
use Rattle.tss_maps.proofs.Changes.{same_by_get, at_inserted, beside_inserted, at_removed, beside_removed}

module _ {K X Y : Type 0} (R : K → K → Ordering) (f : X → Y) where
  below_all-map_entries : (k : K) (es : List (K × X)) → below_all R k (map_entries f es) ≡ below_all R k es
  below_all-map_entries k [] = refl
  below_all-map_entries k (e ∷ es) = ap (λ b. is_lt (R k e.0) && b) (below_all-map_entries k es)

  is_sorted-map_entries : (es : List (K × X)) → is_sorted R (map_entries f es) ≡ is_sorted R es
  is_sorted-map_entries [] = refl
  is_sorted-map_entries (e ∷ es) = λ i. below_all-map_entries e.0 es i && is_sorted-map_entries es i

  find-map_entries : (q : K) (es : List (K × X)) → find R q (map_entries f es) ≡ option_map f (find R q es)
  find-map_entries q [] = refl
  find-map_entries q (e ∷ es) =
      elim (eq_by_cmp R q e.0) as (λ b. cond b (Some (f e.1)) (find R q (map_entries f es))
      ≡ option_map f (cond b (Some e.1) (find R q es))) [
        | true ↦ refl
        | false ↦ find-map_entries q es
      ]

module _ {K X Y : Type 0} (f : X → Y) where
  length-map_entries : (es : List (K × X)) → length (map_entries f es) ≡ length es
  length-map_entries [] = refl
  length-map_entries (e ∷ es) = ap suc (length-map_entries es)

  keys-map_entries : (es : List (K × X)) → map (λ e. e.0) (map_entries f es) ≡ map (λ e. e.0) es
  keys-map_entries [] = refl
  keys-map_entries (e ∷ es) = ap (λ ks. e.0 ∷ ks) (keys-map_entries es)

  weigh-map_entries : (g : K → Y → ℕ) (es : List (K × X)) →
      weigh g (map_entries f es) ≡ weigh (λ k x. g k (f x)) es
  weigh-map_entries g [] = refl
  weigh-map_entries g (e ∷ es) = ap (λ n. g e.0 (f e.1) + n) (weigh-map_entries g es)

module _ {K X Y : Type 0} {R : K → K → Ordering} (f : X → Y) where
  -- its entries
  entries-mapped : (m : FinMap R X) → entries (mapped f m) ≡ map_entries f (entries m)
  unfolding mapped
  entries-mapped m =
      entries-from_sorted R (map_entries f (entries m))
      (subst T (sym (is_sorted-map_entries R f (entries m))) (entries_sorted m))

  -- at a key stands the function of what stood there
  pub get-mapped : (m : FinMap R X) (q : K) → get (mapped f m) q ≡ option_map f (get m q)
  get-mapped m q =
      get-entries (mapped f m) q
      ∙ ap (find R q) (entries-mapped m)
      ∙ find-map_entries R f q (entries m)
      ∙ ap (option_map f) (sym (get-entries m q))

  -- there are as many
  pub len-mapped : (m : FinMap R X) → len (mapped f m) ≡ len m
  len-mapped m =
      len-entries (mapped f m) ∙ ap length (entries-mapped m) ∙ length-map_entries f (entries m) ∙ sym (len-entries m)

  -- under the same keys
  pub keys-mapped : (m : FinMap R X) → keys (mapped f m) ≡ keys m
  keys-mapped m = ap (map (λ (e : K × Y). e.0)) (entries-mapped m) ∙ keys-map_entries f (entries m)

  -- and as many pass a test as pass it after the function
  pub count_of-mapped : (p : K → Y → Bool) (m : FinMap R X) →
      count_of p (mapped f m) ≡ count_of (λ k x. p k (f x)) m
  unfolding sum_of
  count_of-mapped p m =
      ap (weigh (λ k y. one_if (p k y))) (entries-mapped m) ∙ weigh-map_entries f (λ k y. one_if (p k y)) (entries m)

module _ {K X Y : Type 0} {R : K → K → Ordering} (order : IsKeyOrder R) (f : X → Y) where
  -- the empty map stays empty
  pub mapped-empty : mapped f (empty {R = R}) ≡ empty
  mapped-empty =
      same_by_get order _ _ (λ q. get-mapped f empty q ∙ ap (option_map f) (get-empty R q) ∙ sym (get-empty R q))

  -- an insertion is one of the function of its value
  pub mapped-insert : (m : FinMap R X) (k : K) (v : X) → mapped f (insert m k v) ≡ insert (mapped f m) k (f v)
  mapped-insert m k v = same_by_get order _ _ (λ q. get-mapped f (insert m k v) q ∙ by q (decide_key order q k))
    where
      by : (q : K) → (q ≡ k) ⊎ (q ≢ k) → option_map f (get (insert m k v) q) ≡ get (insert (mapped f m) k (f v)) q
      by q (inl same) =
          ap (λ p. option_map f (get (insert m k v) p)) same
          ∙ ap (option_map f) (at_inserted order m k v)
          ∙ sym (ap (get (insert (mapped f m) k (f v))) same ∙ at_inserted order (mapped f m) k (f v))
      by q (inr apart) =
          ap (option_map f) (beside_inserted order m k v q apart)
          ∙ sym (get-mapped f m q)
          ∙ sym (beside_inserted order (mapped f m) k (f v) q apart)

  -- a removal stays one
  pub mapped-remove : (m : FinMap R X) (k : K) → mapped f (remove m k) ≡ remove (mapped f m) k
  mapped-remove m k = same_by_get order _ _ (λ q. get-mapped f (remove m k) q ∙ by q (decide_key order q k))
    where
      by : (q : K) → (q ≡ k) ⊎ (q ≢ k) → option_map f (get (remove m k) q) ≡ get (remove (mapped f m) k) q
      by q (inl same) =
          ap (λ p. option_map f (get (remove m k) p)) same
          ∙ ap (option_map f) (at_removed order m k)
          ∙ sym (ap (get (remove (mapped f m) k)) same ∙ at_removed order (mapped f m) k)
      by q (inr apart) =
          ap (option_map f) (beside_removed order m k q apart)
          ∙ sym (get-mapped f m q)
          ∙ sym (beside_removed order (mapped f m) k q apart)
