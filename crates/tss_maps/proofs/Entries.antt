-- How many entries a finite map has, induction over its entries, and a search among them.
use Rattle.std.proofs.Common.{◌≡◌, ℕ, zero, suc, ◌+◌, ◌-◌, ◌<◌, ◌≤◌, Bool, true, false, cond, Some, None, refl, sym, ap}
use Rattle.std.proofs.Common.{◌∙◌, subst, arith, inl, inr, ◌⊎◌}
use Rattle.std.specs.Prelude.{is_some, List, [], ◌∷◌, length}
use Rattle.std.specs.declared.cmp.Ordering.{Ordering}
use Rattle.std.specs.Ordering.{nat_cmp}
use Rattle.std.specs.FinMap.{FinMap, empty, get, insert, remove, len, entries, get-entries, len-entries, get-empty}
use Rattle.std.specs.FinMap.{len-empty, len-insert, len-remove, empty_of_len}
use Rattle.std.specs.FinMap.Entries.{find}
use Rattle.std.proofs.lemmas.Option.{none-some}
use Rattle.tss_maps.specs.Below.{all_below}
use Rattle.tss_maps.proofs.Keys.{IsKeyOrder, nat_order, decide_key, same_key}
use Rattle.tss_maps.proofs.Changes.{decide_get, apart_absent, at_inserted, beside_inserted, at_removed, beside_removed}
use Rattle.tss_maps.proofs.Changes.{from_inserted, insert_removed, remove_inserted}

module _ {K X : Type 0} {R : K → K → Ordering} where
  -- where something stands, the map isn't empty
  pub len_there : (m : FinMap R X) (k : K) (x : X) → get m k ≡ Some x → 0 < len m
  len_there m k x e = by (len m) refl
    where
      by : (n : ℕ) → len m ≡ n → 0 < n
      by zero none = absurd (none-some x (sym (get-empty R k) ∙ ap (λ m. get m k) (sym (empty_of_len m none)) ∙ e))
      by (suc n) some = omega arith

  -- in a map without entries nothing stands at any key
  pub absent_empty : (m : FinMap R X) (k : K) → len m ≡ 0 → get m k ≡ None
  absent_empty m k none = ap (λ m. get m k) (empty_of_len m none) ∙ get-empty R k

module _ {K X : Type 0} {R : K → K → Ordering} (order : IsKeyOrder R) where
  -- a new key makes one more
  pub len_added : (m : FinMap R X) (k : K) (v : X) → get m k ≡ None → len (insert m k v) ≡ len m + 1
  len_added m k v e = len-insert order.total m k v ∙ ap (λ y. cond (is_some y) (len m) (len m + 1)) e

  -- a write at a key that has something leaves as many
  pub len_written : (m : FinMap R X) (k : K) (u v : X) → get m k ≡ Some u → len (insert m k v) ≡ len m
  len_written m k u v e = len-insert order.total m k v ∙ ap (λ y. cond (is_some y) (len m) (len m + 1)) e

  -- a removal leaves one less
  pub len_removed : (m : FinMap R X) (k : K) (v : X) → get m k ≡ Some v → len (remove m k) + 1 ≡ len m
  len_removed m k v e =
      let less = len-remove order.total m k ∙ ap (λ y. cond (is_some y) (len m - 1) (len m)) e in
      let some = len_there m k v e in
      omega (arith, less, some)

  -- an insertion makes at most one more, and no less
  pub len_inserted : (m : FinMap R X) (k : K) (v : X) → (len m ≤ len (insert m k v)) × (len (insert m k v) ≤ len m + 1)
  len_inserted m k v = elim (decide_get m k) [
    | inl e ↦ let n = len_added m k v e in omega (arith, n)
    | inr there ↦ let n = len_written m k there.0 v there.1 in omega (arith, n)
  ]

  some_in : (m : FinMap R X) (es : List (K × X)) → entries m ≡ es →
      (len m ≡ 0) ⊎ ((k : K) × (x : X) × (get m k ≡ Some x))
  some_in m [] e = inl (len-entries m ∙ ap length e)
  some_in m (x ∷ es) e =
      let found = ap (λ b. cond b (Some x.1) (find R x.0 es)) (same_key order x.0) in
      inr (x.0, x.1, get-entries m x.0 ∙ ap (find R x.0) e ∙ found)

  -- a map is empty, or has some entry
  pub some_entry : (m : FinMap R X) → (len m ≡ 0) ⊎ ((k : K) × (x : X) × (get m k ≡ Some x))
  some_entry m = some_in m (entries m) refl

  -- what holds of the empty map, and of each map with one more entry, holds of each map
  pub map_induction : (P : FinMap R X → Type 0) → P empty →
      ((m : FinMap R X) (k : K) (v : X) → get m k ≡ None → P m → P (insert m k v)) → (m : FinMap R X) → P m
  map_induction P none more m = by (len m) m refl
    where
      by : (n : ℕ) (m : FinMap R X) → len m ≡ n → P m
      by zero m e = subst P (sym (empty_of_len m e)) none
      by (suc n) m e = elim (some_entry m) [
        | inl z ↦ absurd (omega (arith, z, e))
        | inr t ↦
            let less = len_removed m t.0 t.1 t.2 in
            let rest : len (remove m t.0) ≡ n = omega (arith, less, e) in
            subst P (insert_removed order m t.0 t.1 t.2)
            (more (remove m t.0) t.0 t.1 (at_removed order m t.0) (by n (remove m t.0) rest))
      ]

  -- some entry passes a test, or none does
  pub decide_entry : (p : K → X → Bool) (m : FinMap R X) →
      ((k : K) × (x : X) × (get m k ≡ Some x) × (p k x ≡ true)) ⊎ ((k : K) (x : X) → get m k ≡ Some x → p k x ≡ false)
  decide_entry p = map_induction _ (inr (λ k x e. absurd (none-some x (sym (get-empty R k) ∙ e)))) one_more
    where
      at_new : (m : FinMap R X) (k : K) (v : X) (b : Bool) → p k v ≡ b →
          ((q : K) (x : X) → get m q ≡ Some x → p q x ≡ false) →
          ((q : K) × (x : X) × (get (insert m k v) q ≡ Some x) × (p q x ≡ true))
          ⊎ ((q : K) (x : X) → get (insert m k v) q ≡ Some x → p q x ≡ false)
      at_new m k v true e none = inl (k, v, at_inserted order m k v, e)
      at_new m k v false e none = inr (λ q x there. elim (from_inserted order m k v q x there) [
        | inl same ↦ (λ i. p (same.0 i) (same.1 i)) ∙ e
        | inr before ↦ none q x before.1
      ])

      one_more : (m : FinMap R X) (k : K) (v : X) → get m k ≡ None →
          ((q : K) × (x : X) × (get m q ≡ Some x) × (p q x ≡ true)) ⊎ ((q : K) (x : X) → get m q ≡ Some x →
          p q x ≡ false) →
          ((q : K) × (x : X) × (get (insert m k v) q ≡ Some x) × (p q x ≡ true))
          ⊎ ((q : K) (x : X) → get (insert m k v) q ≡ Some x → p q x ≡ false)
      one_more m k v new (inl t) =
          inl (t.0, t.1, beside_inserted order m k v t.0 (apart_absent m t.0 k t.1 t.2 new) ∙ t.2, t.3)
      one_more m k v new (inr none) = at_new m k v (p k v) refl none

-- each entry of the first map goes to an entry of the second, which f names
abbrev GoesInto : {K X J Y : Type 0} {R : K → K → Ordering} {S : J → J → Ordering} → (K → X → J) → FinMap R X →
    FinMap S Y →
    Type 0
GoesInto {K} {X} {J} {Y} f m n = (k : K) (x : X) → get m k ≡ Some x → (y : Y) × (get n (f k x) ≡ Some y)

-- no two entries have one name by f
abbrev AreNamedApart : {K X J : Type 0} {R : K → K → Ordering} → (K → X → J) → FinMap R X → Type 0
AreNamedApart {K} {X} f m = (k q : K) (x y : X) → get m k ≡ Some x → get m q ≡ Some y → f k x ≡ f q y → k ≡ q

module _ {K X J Y : Type 0} {R : K → K → Ordering} {S : J → J → Ordering} (order : IsKeyOrder R) (other : IsKeyOrder S)
    (f : K → X → J) where
  into_more : (m : FinMap R X) (k : K) (v : X) → get m k ≡ None →
      ((n : FinMap S Y) → GoesInto f m n → AreNamedApart f m → len m ≤ len n) →
      (n : FinMap S Y) → GoesInto f (insert m k v) n → AreNamedApart f (insert m k v) → len (insert m k v) ≤ len n
  into_more m k v new before n goes apart =
      let here = at_inserted order m k v in
      let place = goes k v here in
      let kept : (q : K) (x : X) → get m q ≡ Some x → get (insert m k v) q ≡ Some x =
      λ q x e. beside_inserted order m k v q (apart_absent m q k x e new) ∙ e in
      let rest = before (remove n (f k v))
      (λ q x e. (
        (goes q x (kept q x e)).0,
        beside_removed other n (f k v) (f q x)
            (λ same. apart_absent m q k x e new (apart q k x v (kept q x e) here same))
            ∙ (goes q x (kept q x e)).1,
      ))
      (λ q p x y e g. apart q p x y (kept q x e) (kept p y g)) in
      let more = len_added order m k v new in
      let less = len_removed other n (f k v) place.0 place.1 in
      omega (arith, rest, more, less)

  -- a map whose entries go into another, no two to one entry, has at most as many
  len_into : (m : FinMap R X) (n : FinMap S Y) → GoesInto f m n → AreNamedApart f m → len m ≤ len n
  len_into = map_induction order (λ m. (n : FinMap S Y) → GoesInto f m n → AreNamedApart f m → len m ≤ len n)
      (λ n goes apart. let z = len-empty R X in omega (arith, z)) into_more

-- a map that has something wherever another has, has at least as many
pub len_at_most : {K X Y : Type 0} {R : K → K → Ordering} (order : IsKeyOrder R) (m : FinMap R X) (n : FinMap R Y) →
    ((k : K) (x : X) → get m k ≡ Some x → (y : Y) × (get n k ≡ Some y)) → len m ≤ len n
len_at_most order m n goes = len_into order order (λ k x. k) m n goes (λ k q x y e g same. same)

-- each number below n is one of them
pub get-all_below : (n k : ℕ) → k < n → get (all_below n) k ≡ Some tt
unfolding all_below
get-all_below zero k h = absurd (omega arith)
get-all_below (suc n) k h = elim (decide_key nat_order k n) [
  | inl same ↦ ap (get (insert (all_below n) n tt)) same ∙ at_inserted nat_order (all_below n) n tt
  | inr apart ↦ beside_inserted nat_order (all_below n) n tt k apart ∙ get-all_below n k (omega arith)
]

-- no other is
pub absent_all_below : (n k : ℕ) → n ≤ k → get (all_below n) k ≡ None
unfolding all_below
absent_all_below zero k h = get-empty nat_cmp k
absent_all_below (suc n) k h =
    beside_inserted nat_order (all_below n) n tt k (omega arith) ∙ absent_all_below n k (omega arith)

-- they are n
pub len-all_below : (n : ℕ) → len (all_below n) ≡ n
unfolding all_below
len-all_below zero = len-empty nat_cmp (Unit {0})
len-all_below (suc n) =
    let one = len_added nat_order (all_below n) n tt (absent_all_below n n (omega arith)) in
    let rest = len-all_below n in
    omega (arith, one, rest)

-- the numbers below n + 1 but n are those below n
pub remove-all_below : (n : ℕ) → remove (all_below (suc n)) n ≡ all_below n
unfolding all_below
remove-all_below n = remove_inserted nat_order (all_below n) n tt (absent_all_below n n (omega arith))

-- entries that hold places below n, no two the same, are at most n
pub len_within_places : {K X : Type 0} {R : K → K → Ordering} (order : IsKeyOrder R) (place : K → X →
    ℕ) (m : FinMap R X) (n : ℕ) →
    ((k : K) (x : X) → get m k ≡ Some x → place k x < n) → AreNamedApart place m → len m ≤ n
len_within_places order place m n within apart =
    let here : GoesInto place m (all_below n) = λ k x e. (tt, get-all_below n (place k x) (within k x e)) in
    let most = len_into order nat_order place m (all_below n) here apart in
    let few = len-all_below n in
    omega (arith, most, few)

-- a map under numbers below n has at most n entries
pub len_below : {X : Type 0} (m : FinMap nat_cmp X) (n : ℕ) → ((k : ℕ) (x : X) → get m k ≡ Some x → k < n) → len m ≤ n
len_below m n within = len_within_places nat_order (λ k x. k) m n within (λ k q x y e g same. same)
