-- The starting words of a task, put one after another into registers that are 0 from there on.
use Rattle.std.proofs.Common.{◌≡◌, ℕ, suc, ◌+◌, ◌-◌, ◌<◌, ◌≤◌, List, [], ◌∷◌, ◌++◌, length, take, get_or, ap, sym, subst, ◌∙◌, append_assoc, arith}
use Rattle.std.specs.Prelude.{replicate, slice_set}
use Rattle.std.proofs.Math.Seq.{set-append_seam}
use Rattle.std.proofs.lemmas.List.{take_more, length-take}

-- what stands below the starting words
abbrev pub below_words : List ℕ
below_words = 0 ∷ 0xFFFFFFF0 ∷ 0xFFFE0000 ∷ replicate 7 0

-- a word put where the zeros begin
put_first : (before : List ℕ) (n k x : ℕ) → length before ≡ n
    → slice_set (before ++ replicate (suc k) 0) n x ≡ (before ++ x ∷ []) ++ replicate k 0
put_first before n k x e =
    subst (λ (m : ℕ). slice_set (before ++ replicate (suc k) 0) m x ≡ (before ++ x ∷ []) ++ replicate k 0) e
    (set-append_seam before 0 (replicate k 0) x ∙ sym (append_assoc before (x ∷ []) (replicate k 0)))

-- registers with i of the words, and zeros above
abbrev pub with_words : List ℕ → ℕ → List ℕ
with_words words i = (below_words ++ take i words) ++ replicate (22 - i) 0

module _ (words : List ℕ) (i : ℕ) (there : i ≤ length words) (few : i < 22) where
  placed : length (below_words ++ take i words) ≡ 10 + i
  placed = omega (arith, length-take i words)

  -- a word after those that are there
  pub with_words-then : (x : ℕ)
      → slice_set (with_words words i) (10 + i) x ≡ (below_words ++ (take i words ++ x ∷ [])) ++ replicate (21 - i) 0
  with_words-then x =
      let e : 22 - i ≡ suc (21 - i) = omega arith in
      ap (λ (n : ℕ). slice_set ((below_words ++ take i words) ++ replicate n 0) (10 + i) x) e
      ∙ put_first (below_words ++ take i words) (10 + i) (21 - i) x placed

-- one word more
pub with_words-more : (words : List ℕ) (i : ℕ) → i < length words → i < 22
    → slice_set (with_words words i) (10 + i) (get_or words i 0) ≡ with_words words (i + 1)
with_words-more words i there few =
    let e : 21 - i ≡ 22 - (i + 1) = omega arith in
    let there_yet : i ≤ length words = omega arith in
    with_words-then words i there_yet few (get_or words i 0)
    ∙ (λ j. (below_words ++ (sym (take_more words i 0 there) j)) ++ replicate (e j) 0)
