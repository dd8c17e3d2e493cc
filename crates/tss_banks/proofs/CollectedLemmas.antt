-- What stands at a key of a collected map, and what changes of the map or of the test make of it.
use Rattle.std.proofs.Common.{◌≡◌, ◌≢◌, cond, List, [], ◌∷◌, Option, Some, None, option_and_then, refl, sym, ap, ◌∙◌}
use Rattle.std.proofs.Common.{inl, inr}
use Rattle.std.specs.declared.cmp.Ordering.{Ordering}
use Rattle.std.specs.Ordering.{eq_by_cmp}
use Rattle.std.specs.FinMap.{FinMap, empty, get, insert, remove, entries, get-entries, get-empty}
use Rattle.std.specs.FinMap.Entries.{find}
use Rattle.tss_maps.proofs.Keys.{IsKeyOrder, decide_key, same_key, other_key}
use Rattle.tss_maps.proofs.Changes.{same_by_get, same_at_key, at_inserted, beside_inserted, at_removed, beside_removed}
use Rattle.tss_maps.proofs.Changes.{absent_removed}
use Rattle.tss_banks.specs.Collected.{answers_in, collected, with_at}

module _ {K Y : Type 0} {R : K → K → Ordering} (order : IsKeyOrder R) (m : FinMap R Y) (k : K) (o : Option Y) where
  at_by : (o : Option Y) → get (with_at m k o) k ≡ o
  at_by None = at_removed order m k
  at_by (Some y) = at_inserted order m k y

  -- at the key stands this
  pub at_with : get (with_at m k o) k ≡ o
  at_with = at_by o

  beside_by : (o : Option Y) (q : K) → q ≢ k → get (with_at m k o) q ≡ get m q
  beside_by None q apart = beside_removed order m k q apart
  beside_by (Some y) q apart = beside_inserted order m k y q apart

  -- at another key what stood there
  pub beside_with : (q : K) → q ≢ k → get (with_at m k o) q ≡ get m q
  beside_with q apart = beside_by o q apart

module _ {K X Y : Type 0} {R : K → K → Ordering} (order : IsKeyOrder R) (f : K → X → Option Y) where
  get-answers_in : (es : List (K × X)) (k : K) → get (answers_in {R = R} f es) k ≡ option_and_then (f k) (find R k es)
  get-answers_in [] k = get-empty R k
  get-answers_in (e ∷ es) k = elim (decide_key order k e.0) [
    | inl same ↦
        ap (get (answers_in f (e ∷ es))) same
        ∙ at_with order (answers_in f es) e.0 (f e.0 e.1)
        ∙ ap (λ q. f q e.1) (sym same)
        ∙ ap (λ b. option_and_then (f k) (cond b (Some e.1) (find R k es)))
        (sym (ap (eq_by_cmp R k) (sym same) ∙ same_key order k))
    | inr apart ↦
        beside_with order (answers_in f es) e.0 (f e.0 e.1) k apart
        ∙ get-answers_in es k
        ∙ ap (λ b. option_and_then (f k) (cond b (Some e.1) (find R k es))) (sym (other_key order k e.0 apart))
  ]

  -- at a key stands the answer for what stands there in the map
  pub get-collected : (m : FinMap R X) (k : K) → get (collected f m) k ≡ option_and_then (f k) (get m k)
  unfolding collected
  get-collected m k = get-answers_in (entries m) k ∙ ap (option_and_then (f k)) (sym (get-entries m k))

  -- of an empty map nothing is collected
  pub collected-empty : collected f (empty {R = R}) ≡ empty
  collected-empty =
      same_by_get order _ _ (λ k.
      get-collected empty k ∙ ap (option_and_then (f k)) (get-empty R k) ∙ sym (get-empty R k))

  module _ (m : FinMap R X) (k : K) where
    -- after an insertion the answer for its value is there
    collected-insert : (v : X) → collected f (insert m k v) ≡ with_at (collected f m) k (f k v)
    collected-insert v =
        same_at_key order _ _ k
        (get-collected (insert m k v) k
        ∙ ap (option_and_then (f k)) (at_inserted order m k v)
        ∙ sym (at_with order (collected f m) k (f k v)))
        (λ q apart.
        get-collected (insert m k v) q
        ∙ ap (option_and_then (f q)) (beside_inserted order m k v q apart)
        ∙ sym (get-collected m q)
        ∙ sym (beside_with order (collected f m) k (f k v) q apart))

    -- where it has one
    pub collected-insert_some : (v : X) (y : Y) → f k v ≡ Some y
        → collected f (insert m k v) ≡ insert (collected f m) k y
    collected-insert_some v y e = collected-insert v ∙ ap (with_at (collected f m) k) e

    -- where it has none
    collected-insert_none : (v : X) → f k v ≡ None → collected f (insert m k v) ≡ remove (collected f m) k
    collected-insert_none v e = collected-insert v ∙ ap (with_at (collected f m) k) e

    -- a new key without an answer changes nothing
    pub collected-insert_left : (v : X) → f k v ≡ None → get m k ≡ None → collected f (insert m k v) ≡ collected f m
    collected-insert_left v e new =
        collected-insert_none v e
        ∙ absent_removed order (collected f m) k (get-collected m k ∙ ap (option_and_then (f k)) new)

    -- a removal stays one
    pub collected-remove : collected f (remove m k) ≡ remove (collected f m) k
    collected-remove =
        same_at_key order _ _ k
        (get-collected (remove m k) k
        ∙ ap (option_and_then (f k)) (at_removed order m k)
        ∙ sym (at_removed order (collected f m) k))
        (λ q apart.
        get-collected (remove m k) q
        ∙ ap (option_and_then (f q)) (beside_removed order m k q apart)
        ∙ sym (get-collected m q)
        ∙ sym (beside_removed order (collected f m) k q apart))

module _ {K X Y : Type 0} {R : K → K → Ordering} (order : IsKeyOrder R) (f g : K → X → Option Y) (m : FinMap R X) where
  same_answers : (k : K) (o : Option X) → ((x : X) → o ≡ Some x → f k x ≡ g k x)
      → option_and_then (f k) o ≡ option_and_then (g k) o
  same_answers k None same = refl
  same_answers k (Some x) same = same x refl

  -- two tests that agree on the map collect the same
  pub collected_same : ((k : K) (x : X) → get m k ≡ Some x → f k x ≡ g k x) → collected f m ≡ collected g m
  collected_same same = same_by_get order _ _ (λ k.
      get-collected order f m k ∙ same_answers k (get m k) (same k) ∙ sym (get-collected order g m k))
