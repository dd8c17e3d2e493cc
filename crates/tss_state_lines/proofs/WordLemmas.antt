-- Words after one another, and the digits of bytes.
use Rattle.std.proofs.Common.{◌≡◌, ℕ, ◌+◌, ◌<◌, List, [], ◌∷◌, ◌++◌, map, length, drop, get_or, refl, sym, ap, ◌∙◌, append_assoc, append-nil, arith}
use Rattle.std.specs.Prelude.{◌/◌, ◌%◌, ◌==◌, true, codes, flat_map, slice_index}
use Rattle.std.specs.List.{range_with_len}
use Rattle.std.proofs.lemmas.Bool.Decides.{nat_tests}
use Rattle.std.proofs.lemmas.List.{drop_more}
use Rattle.hex.specs.Hex.{encode_with, encode_lower, lower_digits}
use Rattle.tss_model.specs.Registers.{Registers, register_at}
use Rattle.tss_text.specs.Digits.{hex_word}
use Rattle.tss_text.specs.Pieces.{joined}
use Rattle.tss_state_lines.specs.Words.{spaced, line, register_words}

-- ---- words

-- the words from a place on are one and those after it
pub spaced_from : (ws : List (List ℕ)) (i : ℕ) (d : List ℕ) → i < length ws →
    spaced (drop i ws) ≡ joined (codes " " ∷ get_or ws i d ∷ []) ++ spaced (drop (i + 1) ws)
spaced_from ws i d h =
    ap spaced (drop_more ws i d h)
    ∙ ap (λ l. (codes " " ++ l) ++ spaced (drop (i + 1) ws)) (sym (append-nil (get_or ws i d)))

-- a line whose first word comes before others
pub line_from : (first w : List ℕ) (ws : List (List ℕ)) →
    first ++ (spaced (w ∷ []) ++ (spaced ws ++ codes "\n")) ≡ line first (w ∷ ws)
line_from first w ws =
    ap (λ l. first ++ (l ++ (spaced ws ++ codes "\n"))) (append-nil (codes " " ++ w))
    ∙ ap (λ l. first ++ l) (sym (append_assoc (codes " " ++ w) (spaced ws) (codes "\n")))

-- ---- digits

-- those of two stretches of bytes
pub encode-append : (xs ys : List ℕ) → encode_lower (xs ++ ys) ≡ encode_lower xs ++ encode_lower ys
unfolding encode_with
encode-append [] ys = refl
encode-append (x ∷ xs) ys =
    ap (λ l. slice_index lower_digits (x / 16) ∷ slice_index lower_digits (x % 16) ∷ l) (encode-append xs ys)

no_length : (n : ℕ) → (n == 0) ≡ true → n ≡ 0
no_length n e = grind (arith, nat_tests)

-- no byte has no digit
pub no_digits : (xs : List ℕ) → (length xs == 0) ≡ true → encode_lower xs ≡ []
unfolding encode_with
no_digits [] e = refl
no_digits (x ∷ xs) e = let none = no_length (length (x ∷ xs)) e in absurd (omega (arith, none))

-- a line whose last word comes after others
pub line_with : (first : List ℕ) (ws : List (List ℕ)) (w : List ℕ) →
    first ++ (spaced ws ++ (codes " " ++ (w ++ codes "\n"))) ≡ line first (ws ++ w ∷ [])
line_with first ws w = ap (λ l. first ++ l) (by ws)
  where
    by : (ws : List (List ℕ)) → spaced ws ++ (codes " " ++ (w ++ codes "\n")) ≡ spaced (ws ++ w ∷ []) ++ codes "\n"
    by [] =
        sym (append_assoc (codes " ") w (codes "\n")) ∙ ap (λ l. l ++ codes "\n") (sym (append-nil (codes " " ++ w)))
    by (v ∷ vs) =
        append_assoc (codes " " ++ v) (spaced vs) (codes " " ++ (w ++ codes "\n"))
        ∙ ap (λ l. (codes " " ++ v) ++ l) (by vs)
        ∙ sym (append_assoc (codes " " ++ v) (spaced (vs ++ w ∷ [])) (codes "\n"))

-- ---- registers

-- the words of the registers, number by number
pub registers_spaced : (r : Registers) →
    spaced (register_words r) ≡ flat_map (λ n. codes " " ++ hex_word (register_at r n)) (range_with_len 1 31)
registers_spaced r = by (range_with_len 1 31)
  where
    by : (ns : List ℕ) → spaced (map (λ n. hex_word (register_at r n)) ns)
        ≡ flat_map (λ n. codes " " ++ hex_word (register_at r n)) ns
    by [] = refl
    by (n ∷ ns) = ap (λ l. (codes " " ++ hex_word (register_at r n)) ++ l) (by ns)
