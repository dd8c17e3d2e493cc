-- Sums of weights over the entries of a finite map, and counts, which are sums of ones.
use Rattle.std.proofs.Common.{◌≡◌, ℕ, suc, ◌+◌, ◌≤◌, Bool, true, false, cond, List, [], ◌∷◌, length, Option, Some, None}
use Rattle.std.proofs.Common.{refl, sym, ap, ◌∙◌, arith}
use Rattle.std.specs.Prelude.{T, ◌&&◌, is_some}
use Rattle.std.specs.declared.cmp.Ordering.{Ordering}
use Rattle.std.specs.declared.cmp.Ordering.TheVariants.{Less, Equal, Greater}
use Rattle.std.specs.Ordering.{is_eq}
use Rattle.std.specs.FinMap.{FinMap, empty, get, insert, remove, len, entries, entries_sorted, entries-insert}
use Rattle.std.specs.FinMap.{get-entries, len-entries, len-empty}
use Rattle.std.specs.FinMap.Entries.{put, find, is_sorted, below_all, by_order, length-put}
use Rattle.tss_maps.specs.Sums.{weigh, weight_at, sum_of, one_if, count_of}
use Rattle.tss_maps.proofs.Keys.{IsKeyOrder}
use Rattle.tss_maps.proofs.Changes.{apart_absent, at_inserted, beside_inserted, at_removed, insert_removed}
use Rattle.tss_maps.proofs.Entries.{map_induction, len_added}

second : (a b : Bool) → T (a && b) → T b
second true b p = p
second false b p = absurd p

-- where a list got longer by a put, the key was not in it
absent : {X : Type 0} (o : Option X) (n : ℕ) → suc (suc n) ≡ cond (is_some o) (suc n) (suc n + 1) → o ≡ None
absent None n e = refl
absent (Some x) n e = absurd (omega arith)

module _ {K X : Type 0} {R : K → K → Ordering} (order : IsKeyOrder R) (f : K → X → ℕ) where
  weigh-put : (k : K) (v : X) (es : List (K × X)) → T (is_sorted R es) →
      weigh f (put R k v es) + weight_at f k (find R k es) ≡ weigh f es + f k v
  weigh-put k v [] h = omega arith
  weigh-put k v (e ∷ es) h =
      elim (R k e.0) as (λ r. R k e.0 ≡ r →
      weigh f (by_order r ((k, v) ∷ e ∷ es) ((e.0, v) ∷ es) (e ∷ put R k v es))
      + weight_at f k (cond (is_eq r) (Some e.1) (find R k es))
      ≡ (f e.0 e.1 + weigh f es) + f k v) [
        | Less ↦ λ p.
            let some = suc (length es) in
            let n = ap (λ r. length (by_order r ((k, v) ∷ e ∷ es) ((e.0, v) ∷ es) (e ∷ put R k v es))) (sym p)
            ∙ length-put R order.total k v (e ∷ es) h
            ∙ ap (λ r. cond (is_some (cond (is_eq r) (Some e.1) (find R k es))) some (some + 1)) p in
            let z = ap (weight_at f k) (absent (find R k es) (length es) n) in
            omega (arith, z)
        | Equal ↦ λ p.
            let same = order.exact k e.0 p in
            let new = ap (λ q. f q v) same in
            let old = ap (λ q. f q e.1) same in
            omega (arith, new, old)
        | Greater ↦ λ p. let rest = weigh-put k v es (second (below_all R e.0 es) (is_sorted R es) h) in
            omega (arith, rest)
      ] refl

  -- an insertion adds its weight and takes that of what stood there
  pub sum_inserted : (m : FinMap R X) (k : K) (v : X) →
      sum_of f (insert m k v) + weight_at f k (get m k) ≡ sum_of f m + f k v
  unfolding sum_of
  sum_inserted m k v =
      let new = ap (weigh f) (entries-insert order.total m k v) in
      let old = ap (weight_at f k) (get-entries m k) in
      let step = weigh-put k v (entries m) (entries_sorted m) in
      omega (arith, new, old, step)

  -- a new entry adds its weight
  pub sum_added : (m : FinMap R X) (k : K) (v : X) → get m k ≡ None → sum_of f (insert m k v) ≡ sum_of f m + f k v
  sum_added m k v e = let i = sum_inserted m k v in let z = ap (weight_at f k) e in omega (arith, i, z)

  -- a write adds the new weight and takes the old one
  pub sum_written : (m : FinMap R X) (k : K) (u v : X) → get m k ≡ Some u →
      sum_of f (insert m k v) + f k u ≡ sum_of f m + f k v
  sum_written m k u v e = let i = sum_inserted m k v in let z = ap (weight_at f k) e in omega (arith, i, z)

  -- a removal takes the weight
  pub sum_removed : (m : FinMap R X) (k : K) (v : X) → get m k ≡ Some v → sum_of f (remove m k) + f k v ≡ sum_of f m
  sum_removed m k v e =
      let back = ap (sum_of f) (insert_removed order m k v e) in
      let i = sum_added (remove m k) k v (at_removed order m k) in
      omega (arith, back, i)

  -- the empty map has the sum zero
  pub sum_empty : sum_of f (empty {X = X} {R = R}) ≡ 0
  unfolding sum_of
  sum_empty = ap (weigh f) (no_entries (entries empty) (sym (len-entries empty) ∙ len-empty R X))
    where
      no_entries : (es : List (K × X)) → length es ≡ 0 → es ≡ []
      no_entries [] e = refl
      no_entries (x ∷ es) e = absurd (omega arith)

  -- no entry weighs more than all
  weight_in_sum : (m : FinMap R X) (k : K) (x : X) → get m k ≡ Some x → f k x ≤ sum_of f m
  weight_in_sum m k x e = let less = sum_removed m k x e in omega (arith, less)

module _ {K X : Type 0} {R : K → K → Ordering} (order : IsKeyOrder R) (f g : K → X → ℕ) where
  -- where each entry weighs no more by f than by g, nor do all
  pub sum_at_most : (m : FinMap R X) → ((k : K) (x : X) → get m k ≡ Some x → f k x ≤ g k x) → sum_of f m ≤ sum_of g m
  sum_at_most =
      map_induction order (λ m. ((k : K) (x : X) → get m k ≡ Some x → f k x ≤ g k x) → sum_of f m ≤ sum_of g m)
      (λ each. let a = sum_empty order f in let b = sum_empty order g in omega (arith, a, b))
      (λ m k v new before each.
      let here = each k v (at_inserted order m k v) in
      let rest = before (λ q x e. each q x (beside_inserted order m k v q (apart_absent m q k x e new) ∙ e)) in
      let a = sum_added order f m k v new in
      let b = sum_added order g m k v new in
      omega (arith, here, rest, a, b))

  -- the sum of two weights is the sum of both sums
  pub sum_both : (m : FinMap R X) → sum_of (λ k x. f k x + g k x) m ≡ sum_of f m + sum_of g m
  sum_both = map_induction order (λ m. sum_of (λ k x. f k x + g k x) m ≡ sum_of f m + sum_of g m)
      (let a = sum_empty order f in
      let b = sum_empty order g in
      let c = sum_empty order (λ k x. f k x + g k x) in
      omega (arith, a, b, c))
      (λ m k v new before.
      let a = sum_added order f m k v new in
      let b = sum_added order g m k v new in
      let c = sum_added order (λ k x. f k x + g k x) m k v new in
      omega (arith, before, a, b, c))

module _ {K X : Type 0} {R : K → K → Ordering} (order : IsKeyOrder R) (f g : K → X → ℕ) where
  -- weights that agree at each entry have one sum
  pub sum_same : (m : FinMap R X) → ((k : K) (x : X) → get m k ≡ Some x → f k x ≡ g k x) → sum_of f m ≡ sum_of g m
  sum_same m each =
      let up = sum_at_most order f g m (λ k x e. let h = each k x e in omega (arith, h)) in
      let down = sum_at_most order g f m (λ k x e. let h = each k x e in omega (arith, h)) in
      omega (arith, up, down)

module _ {K X : Type 0} {R : K → K → Ordering} (order : IsKeyOrder R) where
  -- a one for each entry gives their number
  pub sum_ones : (m : FinMap R X) → sum_of (λ k x. 1) m ≡ len m
  sum_ones = map_induction order (λ m. sum_of (λ k x. 1) m ≡ len m)
      (let a = sum_empty order (λ (k : K) (x : X). 1) in let b = len-empty R X in omega (arith, a, b))
      (λ m k v new before.
      let a = sum_added order (λ k x. 1) m k v new in
      let b = len_added order m k v new in
      omega (arith, before, a, b))

  -- nothing for each entry gives nothing
  pub sum_zeros : (m : FinMap R X) → sum_of (λ k x. 0) m ≡ 0
  sum_zeros = map_induction order (λ m. sum_of (λ k x. 0) m ≡ 0) (sum_empty order (λ (k : K) (x : X). 0))
      (λ m k v new before. let a = sum_added order (λ k x. 0) m k v new in omega (arith, before, a))

  -- where no entry weighs anything the sum is zero
  pub sum_none : (f : K → X → ℕ) (m : FinMap R X) → ((k : K) (x : X) → get m k ≡ Some x → f k x ≡ 0) → sum_of f m ≡ 0
  sum_none f m each = sum_same order f (λ k x. 0) m each ∙ sum_zeros m

pub one_if-le-one : (b : Bool) → one_if b ≤ 1
one_if-le-one true = omega arith
one_if-le-one false = omega arith

module _ {K X : Type 0} {R : K → K → Ordering} (order : IsKeyOrder R) (p : K → X → Bool) where
  -- where no entry passes the count is zero
  pub count_none : (m : FinMap R X) → ((k : K) (x : X) → get m k ≡ Some x → p k x ≡ false) → count_of p m ≡ 0
  count_none m each = sum_none order (λ k x. one_if (p k x)) m (λ k x e. ap one_if (each k x e))

  -- where each entry passes, they all count
  pub count_all : (m : FinMap R X) → ((k : K) (x : X) → get m k ≡ Some x → p k x ≡ true) → count_of p m ≡ len m
  count_all m each =
      sum_same order (λ k x. one_if (p k x)) (λ k x. 1) m (λ k x e. ap one_if (each k x e)) ∙ sum_ones order m

  -- an entry that passes counts
  pub counted : (m : FinMap R X) (k : K) (x : X) → get m k ≡ Some x → p k x ≡ true → 1 ≤ count_of p m
  counted m k x e passes =
      let one = weight_in_sum order (λ k x. one_if (p k x)) m k x e in let w = ap one_if passes in omega (arith, one, w)
