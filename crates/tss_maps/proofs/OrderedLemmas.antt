-- The entries of a finite map by place, its keys in order, the least key and the least above another.
use Rattle.std.proofs.Common.{◌≡◌, ℕ, zero, suc, ◌<◌, ◌≢◌, true, false, Option, Some, None, refl, sym, ap, ◌∙◌, arith}
use Rattle.std.proofs.Common.{inl, inr}
use Rattle.std.specs.Prelude.{slice_get, option_map}
use Rattle.std.specs.declared.cmp.Ordering.{Ordering}
use Rattle.std.specs.declared.cmp.Ordering.TheVariants.{Less, Equal, Greater}
use Rattle.std.specs.Ordering.{is_lt}
use Rattle.std.specs.FinMap.{FinMap, get, len, entries, keys, entries_sorted, get-entries, len-entries}
use Rattle.std.proofs.lemmas.Option.{none-some, same_Some, slice_get_within, slice_get-map}
use Rattle.tss_maps.specs.Ordered.{key_at, least, least_above}
use Rattle.tss_maps.proofs.Keys.{IsKeyOrder, nat_order, below_from_less, compare_keys}
use Rattle.tss_maps.proofs.Places.{not_past, find_there, entry_of_key, rising, find_at, place_of}

-- what the test of an answer says
less_from_test : (r : Ordering) → is_lt r ≡ true → r ≡ Less
less_from_test Less e = refl
less_from_test Equal e = absurd (cc)
less_from_test Greater e = absurd (cc)

test_not_less : (r : Ordering) → r ≡ Less → is_lt r ≡ false → ⊥
test_not_less Less e f = absurd (cc)
test_not_less Equal e f = absurd (cc)
test_not_less Greater e f = absurd (cc)

module _ {K X : Type 0} {R : K → K → Ordering} (order : IsKeyOrder R) where
  -- what stands at a place of the entries stands under its key
  pub get_from_place : (m : FinMap R X) (i : ℕ) (k : K) (x : X) → slice_get (entries m) i ≡ Some (k, x) →
      get m k ≡ Some x
  get_from_place m i k x e = get-entries m k ∙ find_at order (entries m) i k x (entries_sorted m) e

  -- what stands under a key stands with it at a place of the entries
  pub place_from_get : (m : FinMap R X) (k : K) (x : X) → get m k ≡ Some x →
      (i : ℕ) × (slice_get (entries m) i ≡ Some (k, x))
  place_from_get m k x e = place_of order (entries m) k x (sym (get-entries m k) ∙ e)

  -- the key at a place is that of the entry there
  pub key_at-entries : (m : FinMap R X) (i : ℕ) → key_at m i ≡ option_map (λ e. e.0) (slice_get (entries m) i)
  unfolding key_at
  key_at-entries m i = slice_get-map (λ e. e.0) (entries m) i

  -- a key at a place has its entry there
  entry_from_key : (m : FinMap R X) (i : ℕ) (k : K) → key_at m i ≡ Some k →
      (x : X) × (slice_get (entries m) i ≡ Some (k, x))
  unfolding key_at
  entry_from_key m i k e = entry_of_key (entries m) i k e

  -- under a key at a place something stands
  pub key_there : (m : FinMap R X) (i : ℕ) (k : K) → key_at m i ≡ Some k → (x : X) × (get m k ≡ Some x)
  key_there m i k e = let t = entry_from_key m i k e in (t.0, get_from_place m i k t.0 t.1)

  -- a key under which something stands is at a place
  pub key_from_get : (m : FinMap R X) (k : K) (x : X) → get m k ≡ Some x → (i : ℕ) × (key_at m i ≡ Some k)
  key_from_get m k x e =
      let t = place_from_get m k x e in (t.0, key_at-entries m t.0 ∙ ap (option_map (λ (e : K × X). e.0)) t.1)

  -- the keys rise with their places
  pub keys_rise : (m : FinMap R X) (i j : ℕ) (k q : K) → i < j → key_at m i ≡ Some k → key_at m j ≡ Some q →
      R k q ≡ Less
  keys_rise m i j k q l e g =
      let a = entry_from_key m i k e in
      let b = entry_from_key m j q g in
      rising R (entries m) i j k q a.0 b.0 (entries_sorted m) l a.1 b.1

  -- a key's place is below the number of entries
  pub key_at_within : (m : FinMap R X) (i : ℕ) (k : K) → key_at m i ≡ Some k → i < len m
  key_at_within m i k e =
      let t = entry_from_key m i k e in
      let w = slice_get_within (entries m) i (k, t.0) t.1 in
      let n = len-entries m in
      omega (arith, w, n)

  -- at each place below the number of entries is a key
  pub some_key_at : (m : FinMap R X) (i : ℕ) → i < len m → (k : K) × (key_at m i ≡ Some k)
  some_key_at m i h = by (slice_get (entries m) i) refl
    where
      by : (o : Option (K × X)) → slice_get (entries m) i ≡ o → (k : K) × (key_at m i ≡ Some k)
      by None e = let n = len-entries m in absurd (not_past (entries m) i (omega (arith, n, h)) e)
      by (Some p) e = (p.0, key_at-entries m i ∙ ap (option_map (λ (e : K × X). e.0)) e)

-- k is a key of the map, and each other key is above it
pub record IsLeast {K X : Type 0} {R : K → K → Ordering} (m : FinMap R X) (k : K) : Type 0 where
  pub there : (x : X) × (get m k ≡ Some x)
  pub others : (q : K) (y : X) → get m q ≡ Some y → q ≢ k → R k q ≡ Less

-- q is a key of the map above k, and each other key above k is above it
pub record IsLeastAbove {K X : Type 0} {R : K → K → Ordering} (m : FinMap R X) (k q : K) : Type 0 where
  pub above : R k q ≡ Less
  pub there : (x : X) × (get m q ≡ Some x)
  pub others : (p : K) (y : X) → get m p ≡ Some y → R k p ≡ Less → p ≢ q → R q p ≡ Less

module _ {K X : Type 0} {R : K → K → Ordering} (order : IsKeyOrder R) where
  -- the least key is the least
  pub least_some : (m : FinMap R X) (k : K) → least m ≡ Some k → IsLeast m k
  least_some m k e = record {
    there = key_there order m 0 k e;
    others = λ q y g apart. let t = key_from_get order m q y g in by q apart t.0 t.1;
  }
    where
      by : (q : K) → q ≢ k → (i : ℕ) → key_at m i ≡ Some q → R k q ≡ Less
      by q apart zero at = absurd (apart (same_Some q k (sym at ∙ e)))
      by q apart (suc i) at = keys_rise order m 0 (suc i) k q (omega arith) e at

  -- where there is no least key the map is empty
  pub least_none : (m : FinMap R X) → least m ≡ None → len m ≡ 0
  least_none m e = by (len m) refl
    where
      by : (n : ℕ) → len m ≡ n → n ≡ 0
      by zero h = refl
      by (suc n) h = let t = some_key_at order m 0 (omega (arith, h)) in absurd (none-some t.0 (sym e ∙ t.1))

  above_by : (m : FinMap R X) (q p : K) (i j : ℕ) → key_at m i ≡ Some q → key_at m j ≡ Some p → (j < i → ⊥) → p ≢ q →
      R q p ≡ Less
  above_by m q p i j at_q at_p not_before apart = elim (compare_keys nat_order i j) [
    | inl below ↦ keys_rise order m i j q p (below_from_less i j below) at_q at_p
    | inr (inl same) ↦ absurd (apart (same_Some p q (sym at_p ∙ ap (key_at m) (sym same) ∙ at_q)))
    | inr (inr above) ↦ absurd (not_before (below_from_less j i above))
  ]

  -- the least key above another is what its name says
  pub least_above_some : (m : FinMap R X) (k q : K) → least_above R m k ≡ Some q → IsLeastAbove m k q
  unfolding least_above key_at
  least_above_some m k q e =
      let t = find_there (λ q. is_lt (R k q)) (keys m) q e in
      record {
        above = less_from_test (R k q) t.2;
        there = key_there order m t.0 q t.1;
        others = λ p y g up apart.
            let s = key_from_get order m p y g in
            above_by m q p t.0 s.0 t.1 s.1 (λ l. test_not_less (R k p) up (t.3 s.0 p l s.1)) apart;
      }
