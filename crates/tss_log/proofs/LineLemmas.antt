-- The lines of bytes, cut at the first line feed, and the text that they make again.
use Rattle.std.proofs.Common.{◌≡◌, ◌≢◌, ℕ, zero, suc, ◌+◌, ◌-◌, ◌≤◌, ◌<◌, Bool, true, false, cond, List, [], ◌∷◌, ◌++◌, length, get_or, take, drop, refl, sym, ap, ◌∙◌, Some, None, add-one, arith}
use Rattle.std.specs.Prelude.{◌==◌, nat_lt, position, slice_get}
use Rattle.std.specs.List.{onto_first, position_or_len}
use Rattle.std.proofs.lemmas.List.{length-drop, take_all}
use Rattle.std.proofs.lemmas.List.Quantifiers.{position-Some}
use Rattle.std.proofs.lemmas.List.Sums.{fails_before_first}
use Rattle.std.proofs.lemmas.Option.{get_or_from_slice_get, slice_get-get_or}
use Rattle.std.proofs.lemmas.Bool.Decides.{nat_tests}
use Rattle.tss_protocol.specs.Text.{line_feed, lines_of, text_of_lines}

none_some : {X : Type 0} {x : X} → None ≡ Some x → ⊥
none_some e = cc

-- ---- cut at the first line feed

-- a byte that ends no line goes onto the first line
onto : (c : ℕ) (cs l : List ℕ) (ls : List (List ℕ)) → (c == line_feed) ≡ false → lines_of cs ≡ l ∷ ls
    → lines_of (c ∷ cs) ≡ (c ∷ l) ∷ ls
unfolding lines_of
onto c cs l ls e is = ap (λ b. cond b ([] ∷ lines_of cs) (onto_first c (lines_of cs))) e ∙ ap (onto_first c) is

-- a byte that ends a line
ended : (c : ℕ) (cs : List ℕ) → (c == line_feed) ≡ true → lines_of (c ∷ cs) ≡ [] ∷ lines_of cs
unfolding lines_of
ended c cs e = ap (λ b. cond b ([] ∷ lines_of cs) (onto_first c (lines_of cs))) e

-- a byte that ends no line, alone
alone : (c : ℕ) → (c == line_feed) ≡ false → lines_of (c ∷ []) ≡ (c ∷ []) ∷ []
unfolding lines_of
alone c e = ap (λ b. cond b ([] ∷ []) (onto_first c [])) e

-- the first line ends at the first line feed
pub lines_cut : (bytes : List ℕ) (i : ℕ) → i < length bytes
    → ((k : ℕ) → k < i → (get_or bytes k 0 == line_feed) ≡ false)
    → (get_or bytes i 0 == line_feed) ≡ true → lines_of bytes ≡ take i bytes ∷ lines_of (drop (suc i) bytes)
lines_cut [] i h before here = absurd (omega arith)
lines_cut (c ∷ cs) zero h before here = ended c cs here
lines_cut (c ∷ cs) (suc i) h before here =
    onto c cs (take i cs) (lines_of (drop (suc i) cs)) (before 0 (omega arith))
    (lines_cut cs i (omega arith) (λ k h. before (suc k) (omega arith)) here)

-- with no line feed all is one line
pub lines_whole : (bytes : List ℕ) → 0 < length bytes
    → ((k : ℕ) → k < length bytes → (get_or bytes k 0 == line_feed) ≡ false)
    → lines_of bytes ≡ bytes ∷ []
lines_whole [] h before = absurd (omega arith)
lines_whole (c ∷ []) h before = alone c (before 0 (omega arith))
lines_whole (c ∷ d ∷ ds) h before =
    onto c (d ∷ ds) (d ∷ ds) [] (before 0 (omega arith))
    (lines_whole (d ∷ ds) (omega arith) (λ k h. before (suc k) (omega arith)))

-- no bytes have no line
pub lines_none : (bytes : List ℕ) → length bytes ≡ 0 → lines_of bytes ≡ []
unfolding lines_of
lines_none [] e = refl
lines_none (c ∷ cs) e = absurd (omega arith)

-- ---- as the code cuts it

-- no line feed is found among all bytes
none_passes : (bytes : List ℕ) → position (λ c. c == line_feed) bytes ≡ None → (k : ℕ) → k < length bytes
    → (get_or bytes k 0 == line_feed) ≡ false
none_passes bytes e k h =
    let n = position_or_len (λ c. c == line_feed) bytes in
    fails_before_first (λ c. c == line_feed) bytes k 0 (by (nat_lt n (length bytes)) refl e)
  where
    by : (b : Bool) → nat_lt (position_or_len (λ c. c == line_feed) bytes) (length bytes) ≡ b
        → cond b (Some (position_or_len (λ c. c == line_feed) bytes)) None ≡ None
        → k < position_or_len (λ c. c == line_feed) bytes
    by true is e = absurd (cc)
    by false is e =
        let far : length bytes ≤ position_or_len (λ c. c == line_feed) bytes = grind (arith, nat_tests) in
        omega arith

-- the bytes from a place on, as the code takes them
rest_from : (n : ℕ) (bytes : List ℕ) → take (length bytes - n) (drop n bytes) ≡ drop n bytes
rest_from n bytes = let l = length-drop n bytes in take_all (length bytes - n) (drop n bytes) (omega (arith, l))

-- the first line feed, as it is found
pub lines_found : (bytes : List ℕ) (i : ℕ) → position (λ c. c == line_feed) bytes ≡ Some i
    → lines_of bytes ≡ take i bytes ∷ lines_of (take (length bytes - (i + 1)) (drop (i + 1) bytes))
lines_found bytes i e =
    let found = position-Some (λ c. c == line_feed) bytes i 0 e in
    lines_cut bytes i found.0 found.2 found.1
    ∙ ap (λ n. take i bytes ∷ lines_of (drop n bytes)) (sym (add-one i))
    ∙ ap (λ l. take i bytes ∷ lines_of l) (sym (rest_from (i + 1) bytes))

-- none is found
pub lines_unfound : (bytes : List ℕ) → 0 < length bytes → position (λ c. c == line_feed) bytes ≡ None
    → lines_of bytes ≡ bytes ∷ lines_of []
lines_unfound bytes h e =
    lines_whole bytes h (none_passes bytes e) ∙ ap (λ ls. bytes ∷ ls) (sym (lines_none [] refl))

-- as the code tests it
pub no_lines : (bytes : List ℕ) → (length bytes == 0) ≡ true → lines_of bytes ≡ []
no_lines bytes e = let none : length bytes ≡ 0 = grind (arith, nat_tests) in lines_none bytes none

-- ---- the text that lines make

-- the last byte of some
abbrev last_of : ℕ → List ℕ → ℕ
last_of c [] = c
last_of c (d ∷ ds) = last_of d ds

-- by its place
last_is : (c : ℕ) (cs : List ℕ) → last_of c cs ≡ get_or (c ∷ cs) (length cs) 0
last_is c [] = refl
last_is c (d ∷ ds) = last_is d ds

-- the end that the last line lacks
abbrev end_after : Bool → List ℕ
end_after b = cond b [] (line_feed ∷ [])

-- some bytes have a line
some_lines : (c : ℕ) (cs : List ℕ) → (l : List ℕ) × (ls : List (List ℕ)) × (lines_of (c ∷ cs) ≡ l ∷ ls)
unfolding lines_of
some_lines c cs = elim (c == line_feed) as (λ b. (l : List ℕ) × (ls : List (List ℕ))
    × (cond b ([] ∷ lines_of cs) (onto_first c (lines_of cs)) ≡ l ∷ ls)) [
      | true ↦ ([], lines_of cs, refl)
      | false ↦ onto_some (lines_of cs)
    ]
  where
    onto_some : (ls : List (List ℕ)) → (l : List ℕ) × (rest : List (List ℕ)) × (onto_first c ls ≡ l ∷ rest)
    onto_some [] = (c ∷ [], [], refl)
    onto_some (l ∷ ls) = (c ∷ l, ls, refl)

-- the lines of bytes, each with its end, are these bytes again, with an end for the last line
text_again : (c : ℕ) (cs : List ℕ)
    → text_of_lines (lines_of (c ∷ cs)) ≡ (c ∷ cs) ++ end_after (last_of c cs == line_feed)
text_again c [] = by (c == line_feed) refl
  where
    by : (b : Bool) → (c == line_feed) ≡ b → text_of_lines (lines_of (c ∷ [])) ≡ (c ∷ []) ++ end_after b
    by true e =
        let same : c ≡ line_feed = grind (arith, nat_tests) in
        ap text_of_lines (ended c [] e ∙ ap (λ ls. [] ∷ ls) (lines_none [] refl)) ∙ ap (λ d. d ∷ []) (sym same)
    by false e = ap text_of_lines (alone c e)
text_again c (d ∷ ds) = by (text_again d ds) (c == line_feed) refl
  where
    by : text_of_lines (lines_of (d ∷ ds)) ≡ (d ∷ ds) ++ end_after (last_of d ds == line_feed) → (b : Bool)
        → (c == line_feed) ≡ b
        → text_of_lines (lines_of (c ∷ d ∷ ds)) ≡ (c ∷ d ∷ ds) ++ end_after (last_of d ds == line_feed)
    by again true e =
        let same : c ≡ line_feed = grind (arith, nat_tests) in
        ap text_of_lines (ended c (d ∷ ds) e)
        ∙ ap (λ t. line_feed ∷ t) again
        ∙ ap (λ b. b ∷ ((d ∷ ds) ++ end_after (last_of d ds == line_feed))) (sym same)
    by again false e =
        let some = some_lines d ds in
        ap text_of_lines (onto c (d ∷ ds) some.0 some.1 e some.2)
        ∙ ap (λ ls. c ∷ text_of_lines ls) (sym some.2)
        ∙ ap (λ t. c ∷ t) again

-- by what the last byte is
text_of-lines : (bytes : List ℕ) (last : ℕ) → slice_get bytes (length bytes - 1) ≡ Some last
    → bytes ++ end_after (last == line_feed) ≡ text_of_lines (lines_of bytes)
text_of-lines [] last e = absurd (cc)
text_of-lines (c ∷ cs) last e =
    let at : length (c ∷ cs) - 1 ≡ length cs = omega arith in
    let is : last_of c cs ≡ last =
    last_is c cs ∙ get_or_from_slice_get (c ∷ cs) (length cs) last 0 (ap (slice_get (c ∷ cs)) (sym at) ∙ e) in
    ap (λ d. (c ∷ cs) ++ end_after (d == line_feed)) (sym is) ∙ sym (text_again c cs)

-- no last byte, so no line
pub text_of-none : (bytes : List ℕ) → slice_get bytes (length bytes - 1) ≡ None
    → bytes ++ [] ≡ text_of_lines (lines_of bytes)
text_of-none [] e = ap text_of_lines (sym (lines_none [] refl))
text_of-none (c ∷ cs) e =
    let at : length (c ∷ cs) - 1 < length (c ∷ cs) = omega arith in
    absurd (none_some (sym e ∙ slice_get-get_or (c ∷ cs) (length (c ∷ cs) - 1) 0 at))

-- with an end, and without one
pub text_of-ended : (bytes : List ℕ) (last : ℕ) → slice_get bytes (length bytes - 1) ≡ Some last → last ≡ line_feed
    → bytes ++ [] ≡ text_of_lines (lines_of bytes)
text_of-ended bytes last e is =
    let same : (last == line_feed) ≡ true = grind (arith, nat_tests) in
    ap (λ b. bytes ++ end_after b) (sym same) ∙ text_of-lines bytes last e

pub text_of-unended : (bytes : List ℕ) (last : ℕ) → slice_get bytes (length bytes - 1) ≡ Some last → last ≢ line_feed
    → bytes ++ line_feed ∷ [] ≡ text_of_lines (lines_of bytes)
text_of-unended bytes last e apart =
    let same : (last == line_feed) ≡ false = grind (arith, nat_tests) in
    ap (λ b. bytes ++ end_after b) (sym same) ∙ text_of-lines bytes last e
