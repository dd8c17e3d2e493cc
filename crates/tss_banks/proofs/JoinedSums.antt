-- Sums, lengths and counts over joined maps.
use Rattle.std.proofs.Common.{◌≡◌, ◌≢◌, ℕ, zero, suc, ◌+◌, Bool, true, false, List, [], ◌∷◌, map, sum, Some, None, refl}
use Rattle.std.proofs.Common.{sym, ap, ◌∙◌, arith}
use Rattle.std.specs.declared.cmp.Ordering.{Ordering}
use Rattle.std.specs.FinMap.{FinMap, empty, get, insert, len, get-empty}
use Rattle.std.proofs.lemmas.List.Sums.{sum_by-cons}
use Rattle.tss_maps.specs.Sums.{sum_of, one_if, count_of}
use Rattle.tss_maps.proofs.Keys.{IsKeyOrder}
use Rattle.tss_maps.proofs.Changes.{same_by_get, at_inserted, beside_inserted, apart_absent}
use Rattle.tss_maps.proofs.Entries.{map_induction}
use Rattle.tss_maps.proofs.Sums.{sum_empty, sum_added, count_none, count_all}
use Rattle.tss_banks.specs.Joined.{bank, joined, AreApart}
use Rattle.tss_banks.proofs.JoinedLemmas.{get-joined_nil, joined_later, absent_in_banks, absent_in_joined}
use Rattle.tss_banks.proofs.JoinedLemmas.{joined_insert, apart_rest, apart_first}

-- a first number is added
sum_more : (n : ℕ) (ns : List ℕ) → sum (n ∷ ns) ≡ n + sum ns
sum_more n ns = sum_by-cons (λ n. n) n ns

module _ {K X : Type 0} {R : K → K → Ordering} (order : IsKeyOrder R) where
  -- without banks the joined map is empty
  joined_nil : joined {R = R} [] ≡ empty {X = X}
  joined_nil = same_by_get order _ _ (λ k. get-joined_nil R k ∙ sym (get-empty R k))

  -- a first bank that is empty adds nothing
  joined_empty_first : (ms : List (FinMap R X)) → joined (empty ∷ ms) ≡ joined ms
  joined_empty_first ms = same_by_get order _ _ (λ k. joined_later order empty ms k (get-empty R k))

  -- an insertion in the first bank, of a key that is in no other
  insert_first : (m : FinMap R X) (ms : List (FinMap R X)) (k : K) (v : X) → get (joined ms) k ≡ None
      → joined (insert m k v ∷ ms) ≡ insert (joined (m ∷ ms)) k v
  insert_first m ms k v none = joined_insert order (m ∷ ms) zero (omega arith) k v only
    where
      only : (i : ℕ) → i ≢ zero → get (bank (m ∷ ms) i) k ≡ None
      only zero other = absurd (other refl)
      only (suc i) other = absent_in_banks order ms k none i

  module _ (f : K → X → ℕ) where
    -- the first bank's sum, and that of the others
    sum_first : (ms : List (FinMap R X)) (m : FinMap R X)
        → ((k : K) (x : X) → get m k ≡ Some x → get (joined ms) k ≡ None)
        → sum_of f (joined (m ∷ ms)) ≡ sum_of f m + sum_of f (joined ms)
    sum_first ms = map_induction order
        (λ m. ((k : K) (x : X) → get m k ≡ Some x → get (joined ms) k ≡ None)
        → sum_of f (joined (m ∷ ms)) ≡ sum_of f m + sum_of f (joined ms))
        (λ apart.
        let none = sum_empty order f in
        let same = ap (sum_of f) (joined_empty_first ms) in
        omega (arith, none, same))
        (λ m k v new before apart.
        let absent = apart k v (at_inserted order m k v) in
        let rest = before (λ q x e. apart q x (beside_inserted order m k v q (apart_absent m q k x e new) ∙ e)) in
        let here = ap (sum_of f) (insert_first m ms k v absent) in
        let all = sum_added order f (joined (m ∷ ms)) k v (joined_later order m ms k new ∙ absent) in
        let one = sum_added order f m k v new in
        omega (arith, rest, here, all, one))

    -- the sum over the joined map is the sum of the banks' sums
    sum_of-joined : (ms : List (FinMap R X)) → AreApart ms → sum_of f (joined ms) ≡ sum (map (sum_of f) ms)
    sum_of-joined [] apart = ap (sum_of f) joined_nil ∙ sum_empty order f
    sum_of-joined (m ∷ ms) apart =
        let first = sum_first ms m (λ k x e. absent_in_joined order ms k (apart_first m ms apart k x e)) in
        let rest = sum_of-joined ms (apart_rest m ms apart) in
        first ∙ ap (λ n. sum_of f m + n) rest ∙ sym (sum_more (sum_of f m) (map (sum_of f) ms))

  -- as many pass a test as in the banks together
  count_of-joined : (p : K → X → Bool) (ms : List (FinMap R X)) → AreApart ms
      → count_of p (joined ms) ≡ sum (map (count_of p) ms)
  count_of-joined p ms apart = sum_of-joined (λ k x. one_if (p k x)) ms apart

  -- ---- counts that only one bank adds to

  module _ (g : FinMap R X → ℕ) (nothing : g empty ≡ 0) where
    sum_nothing : (ms : List (FinMap R X)) → ((i : ℕ) → g (bank ms i) ≡ 0) → sum (map g ms) ≡ 0
    sum_nothing [] none = refl
    sum_nothing (m ∷ ms) none =
        let first = none zero in
        let rest = sum_nothing ms (λ i. none (suc i)) in
        let all = sum_more (g m) (map g ms) in
        omega (arith, first, rest, all)

    -- where only one bank adds to a sum, it is that bank's
    sum_of_one : (ms : List (FinMap R X)) (b : ℕ) → ((i : ℕ) → i ≢ b → g (bank ms i) ≡ 0)
        → sum (map g ms) ≡ g (bank ms b)
    sum_of_one [] b none = sym nothing
    sum_of_one (m ∷ ms) zero none =
        let rest = sum_nothing ms (λ i. none (suc i) (λ e. suc_zero i e)) in
        let all : sum (map g (m ∷ ms)) ≡ g m + sum (map g ms) = sum_more (g m) (map g ms) in
        all ∙ plus_nothing (g m) (sum (map g ms)) rest
      where
        suc_zero : (i : ℕ) → suc i ≡ zero → ⊥
        suc_zero i e = omega (arith, e)

        plus_nothing : (a b : ℕ) → b ≡ 0 → a + b ≡ a
        plus_nothing a b e = omega (arith, e)
    sum_of_one (m ∷ ms) (suc b) none =
        let first = none zero (λ e. zero_suc e) in
        let rest = sum_of_one ms b (λ i apart. none (suc i) (λ e. apart (same_pred i e))) in
        let all : sum (map g (m ∷ ms)) ≡ g m + sum (map g ms) = sum_more (g m) (map g ms) in
        all ∙ plus_nothing (g m) (sum (map g ms)) first ∙ rest
      where
        zero_suc : zero ≡ suc b → ⊥
        zero_suc e = omega (arith, e)

        plus_nothing : (a c : ℕ) → a ≡ 0 → a + c ≡ c
        plus_nothing a c e = omega (arith, e)

        same_pred : (i : ℕ) → suc i ≡ suc b → i ≡ b
        same_pred i e = omega (arith, e)

  -- where each entry of one bank passes, and none of another, as many pass as the bank has entries
  pub count_in_bank : (p : K → X → Bool) (ms : List (FinMap R X)) (b : ℕ) → AreApart ms
      → ((k : K) (x : X) → get (bank ms b) k ≡ Some x → p k x ≡ true)
      → ((i : ℕ) → i ≢ b → (k : K) (x : X) → get (bank ms i) k ≡ Some x → p k x ≡ false)
      → count_of p (joined ms) ≡ len (bank ms b)
  count_in_bank p ms b apart own others =
      count_of-joined p ms apart
      ∙ sum_of_one (count_of p) (sum_empty order (λ k x. one_if (p k x))) ms b
      (λ i other. count_none order p (bank ms i) (others i other))
      ∙ count_all order p (bank ms b) own
