-- Texts of the numbers of a range, one after another.
use Rattle.std.proofs.Common.{◌≡◌, ℕ, suc, ◌+◌, ◌-◌, ◌<◌, ◌≤◌, List, [], ◌++◌, ap, arith}
use Rattle.std.specs.Prelude.{flat_map}
use Rattle.std.specs.List.{range_with_len}

-- the texts of the numbers from i to below an end
unfoldable pub texts_from : (ℕ → List ℕ) → ℕ → ℕ → List ℕ
texts_from f end i = flat_map f (range_with_len i (end - i))

module _ (f : ℕ → List ℕ) where
  -- at first all are left
  pub all_texts : (start n end : ℕ) → start + n ≡ end → flat_map f (range_with_len start n) ≡ texts_from f end start
  unfolding texts_from
  all_texts start n end e =
      let all : n ≡ end - start = omega (arith, e) in
      ap (λ k. flat_map f (range_with_len start k)) all

  -- in the end none is
  pub no_texts : (end i : ℕ) → end ≤ i → texts_from f end i ≡ []
  unfolding texts_from
  no_texts end i h =
      let none : end - i ≡ 0 = omega (arith, h) in
      ap (λ k. flat_map f (range_with_len i k)) none

  -- that of a number, and those after it
  pub texts_next : (end i : ℕ) → i < end → texts_from f end i ≡ f i ++ texts_from f end (i + 1)
  unfolding texts_from
  texts_next end i h =
      let one : end - i ≡ suc (end - (i + 1)) = omega (arith, h) in
      ap (λ k. flat_map f (range_with_len i k)) one
