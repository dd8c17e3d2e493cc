-- What stands at a key of a finite map after an insertion or a removal, and changes in another order.
use Rattle.std.proofs.Common.{◌≡◌, ◌≢◌, Bool, true, false, cond, Option, Some, None, refl, sym, ap, ◌∙◌, inl, inr, ◌⊎◌}
use Rattle.std.specs.declared.cmp.Ordering.{Ordering}
use Rattle.std.specs.FinMap.{FinMap, get, insert, remove, same_map, get-insert, get-remove}
use Rattle.std.proofs.lemmas.Option.{none-some, same_Some}
use Rattle.tss_maps.proofs.Keys.{IsKeyOrder, same_key, other_key, decide_key}

when_true : {A : Type 0} (b : Bool) (x y : A) → b ≡ true → cond b x y ≡ x
when_true b x y e = ap (λ b. cond b x y) e

when_false : {A : Type 0} (b : Bool) (x y : A) → b ≡ false → cond b x y ≡ y
when_false b x y e = ap (λ b. cond b x y) e

module _ {K X : Type 0} {R : K → K → Ordering} where
  decide_by : (m : FinMap R X) (k : K) (o : Option X) → get m k ≡ o → (get m k ≡ None) ⊎ ((x : X) × (get m k ≡ Some x))
  decide_by m k None e = inl e
  decide_by m k (Some x) e = inr (x, e)

  -- nothing stands at a key, or something does
  pub decide_get : (m : FinMap R X) (k : K) → (get m k ≡ None) ⊎ ((x : X) × (get m k ≡ Some x))
  decide_get m k = decide_by m k (get m k) refl

  -- one value at most stands at a key
  pub one_value : (m : FinMap R X) (k : K) (x y : X) → get m k ≡ Some x → get m k ≡ Some y → x ≡ y
  one_value m k x y e f = same_Some x y (sym e ∙ f)

  -- a key at which something stands isn't one at which nothing does
  pub apart_absent : (m : FinMap R X) (q k : K) (x : X) → get m q ≡ Some x → get m k ≡ None → q ≢ k
  apart_absent m q k x there absent same = none-some x (sym absent ∙ ap (get m) (sym same) ∙ there)

module _ {K X : Type 0} {R : K → K → Ordering} (order : IsKeyOrder R) where
  -- two maps that answer alike are equal
  pub same_by_get : (m n : FinMap R X) → ((q : K) → get m q ≡ get n q) → m ≡ n
  same_by_get m n alike = same_map order.total order.exact m n alike

  -- at the key of an insertion stands its value
  pub at_inserted : (m : FinMap R X) (k : K) (v : X) → get (insert m k v) k ≡ Some v
  at_inserted m k v = get-insert order.total m k v k ∙ when_true _ _ _ (same_key order k)

  -- at another key stands what stood there
  pub beside_inserted : (m : FinMap R X) (k : K) (v : X) (q : K) → q ≢ k → get (insert m k v) q ≡ get m q
  beside_inserted m k v q apart = get-insert order.total m k v q ∙ when_false _ _ _ (other_key order q k apart)

  -- at the key of a removal stands nothing
  pub at_removed : (m : FinMap R X) (k : K) → get (remove m k) k ≡ None
  at_removed m k = get-remove order.total m k k ∙ when_true _ _ _ (same_key order k)

  -- at another key stands what stood there
  pub beside_removed : (m : FinMap R X) (k q : K) → q ≢ k → get (remove m k) q ≡ get m q
  beside_removed m k q apart = get-remove order.total m k q ∙ when_false _ _ _ (other_key order q k apart)

  -- what stands somewhere after an insertion was put there, or stood there before
  pub from_inserted : (m : FinMap R X) (k : K) (v : X) (q : K) (x : X) → get (insert m k v) q ≡ Some x →
      ((q ≡ k) × (x ≡ v)) ⊎ ((q ≢ k) × (get m q ≡ Some x))
  from_inserted m k v q x e = elim (decide_key order q k) [
    | inl same ↦ inl (same, same_Some x v (sym e ∙ ap (get (insert m k v)) same ∙ at_inserted m k v))
    | inr apart ↦ inr (apart, sym (beside_inserted m k v q apart) ∙ e)
  ]

  -- what stands somewhere after a removal stood there before, at another key
  pub from_removed : (m : FinMap R X) (k q : K) (x : X) → get (remove m k) q ≡ Some x → (q ≢ k) × (get m q ≡ Some x)
  from_removed m k q x e = elim (decide_key order q k) [
    | inl same ↦ absurd (none-some x (sym (at_removed m k) ∙ ap (get (remove m k)) (sym same) ∙ e))
    | inr apart ↦ (apart, sym (beside_removed m k q apart) ∙ e)
  ]

  -- a key that has something still has something after an insertion
  pub still_inserted : (m : FinMap R X) (k : K) (v : X) (q : K) (x : X) → get m q ≡ Some x →
      (y : X) × (get (insert m k v) q ≡ Some y)
  still_inserted m k v q x e = elim (decide_key order q k) [
    | inl same ↦ (v, ap (get (insert m k v)) same ∙ at_inserted m k v)
    | inr apart ↦ (x, beside_inserted m k v q apart ∙ e)
  ]

  -- two maps that answer alike at a key and beside it are equal
  pub same_at_key : (m n : FinMap R X) (k : K) → get m k ≡ get n k → ((q : K) → q ≢ k → get m q ≡ get n q) → m ≡ n
  same_at_key m n k at beside = same_by_get m n (λ q. elim (decide_key order q k) [
    | inl same ↦ ap (get m) same ∙ at ∙ ap (get n) (sym same)
    | inr apart ↦ beside q apart
  ])

  -- to remove where nothing stands changes nothing
  pub absent_removed : (m : FinMap R X) (k : K) → get m k ≡ None → remove m k ≡ m
  absent_removed m k e = same_at_key _ _ k (at_removed m k ∙ sym e) (λ q apart. beside_removed m k q apart)

  -- to insert what stands there changes nothing
  pub insert_same : (m : FinMap R X) (k : K) (v : X) → get m k ≡ Some v → insert m k v ≡ m
  insert_same m k v e = same_at_key _ _ k (at_inserted m k v ∙ sym e) (λ q apart. beside_inserted m k v q apart)

  -- a second insertion at a key takes the place of the first
  pub insert_again : (m : FinMap R X) (k : K) (u v : X) → insert (insert m k u) k v ≡ insert m k v
  insert_again m k u v =
      same_at_key _ _ k (at_inserted _ k v ∙ sym (at_inserted m k v)) (λ q apart. beside_inserted _ k v q apart
      ∙ beside_inserted m k u q apart ∙ sym (beside_inserted m k v q apart))

  -- insertions at two keys, in either order
  pub insert_apart : (m : FinMap R X) (j k : K) (u v : X) → j ≢ k →
      insert (insert m j u) k v ≡ insert (insert m k v) j u
  insert_apart m j k u v n =
      same_at_key _ _ k (at_inserted _ k v ∙ sym (at_inserted m k v) ∙ sym (beside_inserted _ j u k (λ e. n (sym e))))
      (λ q apart. beside_inserted _ k v q apart ∙ elim (decide_key order q j) [
        | inl same ↦ ap (get (insert m j u)) same ∙ at_inserted m j u ∙ sym (at_inserted _ j u)
            ∙ ap (get (insert (insert m k v) j u)) (sym same)
        | inr other ↦ beside_inserted m j u q other ∙ sym (beside_inserted m k v q apart)
            ∙ sym (beside_inserted _ j u q other)
      ])

  -- a removal after an insertion at its key leaves what the removal alone leaves
  pub remove_written : (m : FinMap R X) (k : K) (u : X) → remove (insert m k u) k ≡ remove m k
  remove_written m k u =
      same_at_key _ _ k (at_removed _ k ∙ sym (at_removed m k)) (λ q apart. beside_removed _ k q apart
      ∙ beside_inserted m k u q apart ∙ sym (beside_removed m k q apart))

  -- the removal of what was new leaves what was there before
  pub remove_inserted : (m : FinMap R X) (k : K) (u : X) → get m k ≡ None → remove (insert m k u) k ≡ m
  remove_inserted m k u e = remove_written m k u ∙ absent_removed m k e

  -- a removal and an insertion at two keys, in either order
  pub remove_apart : (m : FinMap R X) (j k : K) (u : X) → j ≢ k → remove (insert m j u) k ≡ insert (remove m k) j u
  remove_apart m j k u n =
      same_at_key _ _ k
      (at_removed _ k ∙ sym (at_removed m k) ∙ sym (beside_inserted _ j u k (λ e. n (sym e))))
      (λ q apart. beside_removed _ k q apart ∙ elim (decide_key order q j) [
        | inl same ↦ ap (get (insert m j u)) same ∙ at_inserted m j u ∙ sym (at_inserted _ j u)
            ∙ ap (get (insert (remove m k) j u)) (sym same)
        | inr other ↦ beside_inserted m j u q other ∙ sym (beside_removed m k q apart)
            ∙ sym (beside_inserted _ j u q other)
      ])

  -- two removals, in either order
  pub removes_apart : (m : FinMap R X) (j k : K) → remove (remove m j) k ≡ remove (remove m k) j
  removes_apart m j k =
      same_at_key _ _ k (at_removed _ k ∙ elim (decide_key order k j) [
        | inl same ↦ sym (at_removed (remove m k) j) ∙ ap (get (remove (remove m k) j)) (sym same)
        | inr other ↦ sym (at_removed m k) ∙ sym (beside_removed _ j k other)
      ])
      (λ q apart. beside_removed _ k q apart ∙ elim (decide_key order q j) [
        | inl same ↦ ap (get (remove m j)) same ∙ at_removed m j ∙ sym (at_removed _ j)
            ∙ ap (get (remove (remove m k) j)) (sym same)
        | inr other ↦ beside_removed m j q other ∙ sym (beside_removed m k q apart)
            ∙ sym (beside_removed _ j q other)
      ])

  -- an insertion after a removal at its key is the insertion alone
  insert_emptied : (m : FinMap R X) (k : K) (v : X) → insert (remove m k) k v ≡ insert m k v
  insert_emptied m k v =
      same_at_key _ _ k (at_inserted _ k v ∙ sym (at_inserted m k v)) (λ q apart. beside_inserted _ k v q apart
      ∙ beside_removed m k q apart ∙ sym (beside_inserted m k v q apart))

  -- a map is its removal with the entry put back
  pub insert_removed : (m : FinMap R X) (k : K) (v : X) → get m k ≡ Some v → insert (remove m k) k v ≡ m
  insert_removed m k v e = insert_emptied m k v ∙ insert_same m k v e
