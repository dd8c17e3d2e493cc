-- How many slots there are in all, by those of each station.
use Rattle.std.proofs.Common.{◌≡◌, ℕ, zero, suc, ◌+◌, ◌*◌, ◌<◌, ◌≤◌, Bool, true, false, refl, sym, ap, ◌∙◌, arith}
use Rattle.std.specs.Prelude.{◌==◌, nat_lt}
use Rattle.std.specs.declared.cmp.Ordering.{Ordering}
use Rattle.std.specs.FinMap.{FinMap, len}
use Rattle.std.proofs.lemmas.Bool.Decides.{nat_tests}
use Rattle.tss_maps.specs.Sums.{sum_of, count_of, one_if}
use Rattle.tss_maps.proofs.Keys.{IsKeyOrder}
use Rattle.tss_maps.proofs.Sums.{sum_both, sum_same, sum_ones}

-- a number is below the next one where it is below this one or equal to it
one_more : (a n : ℕ) (b c d : Bool) → nat_lt a (suc n) ≡ b → nat_lt a n ≡ c → (a == n) ≡ d → one_if b ≡ one_if c + one_if d
one_more a n true true true eb ec ed = absurd (grind (arith, nat_tests, ec, ed))
one_more a n true true false eb ec ed = refl
one_more a n true false true eb ec ed = refl
one_more a n true false false eb ec ed = absurd (grind (arith, nat_tests, eb, ec, ed))
one_more a n false true true eb ec ed = absurd (grind (arith, nat_tests, ec, ed))
one_more a n false true false eb ec ed = absurd (grind (arith, nat_tests, eb, ec))
one_more a n false false true eb ec ed = absurd (grind (arith, nat_tests, eb, ed))
one_more a n false false false eb ec ed = refl

is_below : (a n : ℕ) (b : Bool) → nat_lt a n ≡ b → a < n → b ≡ true
is_below a n true e h = refl
is_below a n false e h = absurd (grind (arith, nat_tests, e, h))

not_below : (a : ℕ) (b : Bool) → nat_lt a 0 ≡ b → b ≡ false
not_below a true e = absurd (grind (arith, nat_tests, e))
not_below a false e = refl

module _ {K X : Type 0} {R : K → K → Ordering} (order : IsKeyOrder R) (f : K → ℕ) (m : FinMap R X) where
  abbrev below : ℕ → ℕ
  below n = sum_of (λ k x. one_if (nat_lt (f k) n)) m

  none_below : below 0 ≡ 0
  none_below =
      let same : below 0 ≡ sum_of (λ (k : K) (x : X). 0) m =
      sum_same order (λ k x. one_if (nat_lt (f k) 0)) (λ k x. 0) m (λ k x e. ap one_if (not_below (f k) (nat_lt (f k) 0) refl))
      in
      let twice = sum_both order (λ (k : K) (x : X). 0) (λ k x. 0) m in
      omega (arith, same, twice)

  next_below : (n : ℕ) → below (suc n) ≡ below n + count_of (λ k x. f k == n) m
  next_below n =
      sum_same order (λ k x. one_if (nat_lt (f k) (suc n))) (λ k x. one_if (nat_lt (f k) n) + one_if (f k == n)) m
      (λ k x e. one_more (f k) n (nat_lt (f k) (suc n)) (nat_lt (f k) n) (f k == n) refl refl refl)
      ∙ sum_both order (λ k x. one_if (nat_lt (f k) n)) (λ k x. one_if (f k == n)) m

  few_below : (c n : ℕ) → ((k : ℕ) → k < n → count_of (λ q x. f q == k) m ≤ c) → below n ≤ n * c
  few_below c zero each = let z = none_below in omega (arith, z)
  few_below c (suc n) each =
      let rest = few_below c n (λ k h. each k (omega (arith, h))) in
      let here = each n (omega arith) in
      let all = next_below n in
      let product : suc n * c ≡ n * c + c = omega arith in
      omega (arith, rest, here, all, product)

  -- entries whose numbers are below n, at most c of each, are at most n times c
  pub len_by_parts : (c n : ℕ) → ((k : ℕ) → k < n → count_of (λ q x. f q == k) m ≤ c) → ((k : K) → f k < n) →
      len m ≤ n * c
  len_by_parts c n each within =
      let few = few_below c n each in
      let all : sum_of (λ (k : K) (x : X). 1) m ≡ below n = sum_same order (λ (k : K) (x : X). 1) (λ k x. one_if (nat_lt (f k) n)) m
      (λ k x e. sym (ap one_if (is_below (f k) n (nat_lt (f k) n) refl (within k)))) in
      let ones = sum_ones order m in
      omega (arith, few, all, ones)
