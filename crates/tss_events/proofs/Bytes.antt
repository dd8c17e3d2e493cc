-- Bytes after a place.
use Rattle.std.proofs.Common.{◌≡◌, ℕ, ◌+◌, ◌-◌, ◌≤◌, ◌<◌, true, false, List, length, get_or, take, drop, sym, ap, ◌∙◌, arith}
use Rattle.std.specs.Prelude.{◌==◌}
use Rattle.std.specs.List.{before_first, after_first, position_or_len}
use Rattle.std.proofs.lemmas.List.{drop-drop, length-drop, take_all}
use Rattle.std.proofs.lemmas.List.Sums.{position_or_len_is}
use Rattle.std.proofs.lemmas.Bool.Decides.{nat_tests}

-- lists that agree from a place on agree from a later one on
pub later_same : (xs ys : List ℕ) (m n : ℕ) → m ≤ n → drop m xs ≡ drop m ys → drop n xs ≡ drop n ys
later_same xs ys m n h e =
    let more : m + (n - m) ≡ n = omega (arith, h) in
    ap (λ k. drop k xs) (sym more)
    ∙ sym (drop-drop (n - m) m xs)
    ∙ ap (drop (n - m)) e
    ∙ drop-drop (n - m) m ys
    ∙ ap (λ k. drop k ys) more

-- ---- cut at the first mark

-- a byte that is the mark passes the test
pub is_mark : (c mark : ℕ) → c ≡ mark → (c == mark) ≡ true
is_mark c mark e = grind (arith, nat_tests)

module _ (mark : ℕ) (line : List ℕ) where
  -- the first place of the mark
  first_mark : (at : ℕ) → at ≤ length line → ((k : ℕ) → k < at → (get_or line k 0 == mark) ≡ false) →
      (at < length line → (get_or line at 0 == mark) ≡ true) → position_or_len (λ c. c == mark) line ≡ at
  first_mark at h before here = position_or_len_is (λ c. c == mark) line at 0 h before here

  -- what stands before it
  pub before_mark : (at : ℕ) → at ≤ length line → ((k : ℕ) → k < at → (get_or line k 0 == mark) ≡ false) →
      (at < length line → (get_or line at 0 == mark) ≡ true) → take at line ≡ before_first (λ c. c == mark) line
  before_mark at h before here = ap (λ n. take n line) (sym (first_mark at h before here))

  -- what stands after it
  pub after_mark : (at : ℕ) → at ≤ length line → ((k : ℕ) → k < at → (get_or line k 0 == mark) ≡ false) →
      (at < length line → (get_or line at 0 == mark) ≡ true) → drop (at + 1) line ≡ after_first (λ c. c == mark) line
  after_mark at h before here = ap (λ n. drop (n + 1) line) (sym (first_mark at h before here))

  -- as the code cuts it
  pub after_cut : (at : ℕ) → take (length line - (at + 1)) (drop (at + 1) line) ≡ drop (at + 1) line
  after_cut at = let n = length-drop (at + 1) line in take_all (length line - (at + 1)) (drop (at + 1) line) (omega (arith, n))
