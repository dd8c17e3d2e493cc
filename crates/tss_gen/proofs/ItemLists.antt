-- Items that are put one after the other: numbers, and records of numbers over a range.
use Rattle.std.proofs.Common.{◌≡◌, ℕ, zero, suc, ◌+◌, ◌-◌, ◌<◌, ◌≤◌, length, take, get_or, List, [], ◌∷◌, ◌++◌, sym, ap, ◌∙◌, arith, append_assoc, append-nil}
use Rattle.std.specs.Prelude.{map, flat_map, Result, Ok, Err, OnOk}
use Rattle.std.specs.List.{range_with_len}
use Rattle.std.proofs.lemmas.List.{map-append, take_more}
use Rattle.std.proofs.lemmas.Grind.{flat_map-append}
use Rattle.tss_asm.specs.declared.item.Item.{Item}
use Rattle.tss_asm.specs.declared.item.Item.TheVariants.{Number}
use Rattle.tss_asm.specs.Program.{ProgramState, with_items}

-- a range with one number more at its end
range_push : (a n : ℕ) → range_with_len a (n + 1) ≡ range_with_len a n ++ (a + n) ∷ []
range_push a zero = let e : a ≡ a + 0 = omega arith in ap (λ k. k ∷ []) e
range_push a (suc n) =
    let more : suc n + 1 ≡ suc (n + 1) = omega arith in
    let last : a + 1 + n ≡ a + suc n = omega arith in
    ap (range_with_len a) more
    ∙ ap (λ ks. a ∷ ks) (range_push (a + 1) n ∙ ap (λ k. range_with_len (a + 1) n ++ k ∷ []) last)

-- items after items
pub with_both : (p q r : ProgramState) (xs ys : List Item) → q ≡ with_items p xs → r ≡ with_items q ys
    → r ≡ with_items p (xs ++ ys)
with_both p q r xs ys first second =
    second ∙ ap (λ s. with_items s ys) first ∙ (λ i. record p { text = append_assoc p.text xs ys i })

-- numbers after numbers
pub numbers_both : (p q r : ProgramState) (xs ys : List ℕ) → q ≡ with_items p (map Number xs)
    → r ≡ with_items q (map Number ys) → r ≡ with_items p (map Number (xs ++ ys))
numbers_both p q r xs ys first second =
    with_both p q r (map Number xs) (map Number ys) first second
    ∙ ap (with_items p) (sym (map-append Number xs ys))

-- the records of one number more
pub records_more : (f : ℕ → List ℕ) (p q r : ProgramState) (a i : ℕ) → a ≤ i
    → q ≡ with_items p (map Number (flat_map f (range_with_len a (i - a)))) → r ≡ with_items q (map Number (f i))
    → r ≡ with_items p (map Number (flat_map f (range_with_len a (i + 1 - a))))
records_more f p q r a i above before now =
    let xs = range_with_len a (i - a) in
    let len : i + 1 - a ≡ i - a + 1 = omega arith in
    let last : a + (i - a) ≡ i = omega arith in
    let all : flat_map f xs ++ f i ≡ flat_map f (range_with_len a (i + 1 - a)) =
    ap (λ ys. flat_map f xs ++ ys) (sym (append-nil (f i))) ∙ sym (flat_map-append f xs (i ∷ []))
    ∙ ap (λ k. flat_map f (xs ++ k ∷ [])) (sym last) ∙ ap (flat_map f) (sym (range_push a (i - a)))
    ∙ ap (λ n. flat_map f (range_with_len a n)) (sym len) in
    numbers_both p q r (flat_map f xs) (f i) before now ∙ ap (λ ys. with_items p (map Number ys)) all

-- numbers after numbers, where a call that can fail puts the last
pub numbers_last : {X E : Type 0} (o : Result X E) (p q r : ProgramState) (xs ys : List ℕ) → q ≡ with_items p (map Number xs)
    → OnOk o (r ≡ with_items q (map Number ys)) → OnOk o (r ≡ with_items p (map Number (xs ++ ys)))
numbers_last (Ok x) p q r xs ys first second = numbers_both p q r xs ys first second
numbers_last (Err e) p q r xs ys first second = tt

-- one item more of a list
pub items_more : {X : Type 0} (f : X → Item) (p q r : ProgramState) (xs : List X) (i : ℕ) (x : X) → i < length xs
    → get_or xs i x ≡ x → q ≡ with_items p (map f (take i xs)) → r ≡ with_items q (f x ∷ [])
    → r ≡ with_items p (map f (take (i + 1) xs))
items_more f p q r xs i x within is before now =
    let all : map f (take (i + 1) xs) ≡ map f (take i xs) ++ f x ∷ [] =
    ap (map f) (take_more xs i x within) ∙ map-append f (take i xs) (get_or xs i x ∷ [])
    ∙ ap (λ y. map f (take i xs) ++ f y ∷ []) is in
    with_both p q r (map f (take i xs)) (f x ∷ []) before now ∙ ap (with_items p) (sym all)

-- one word more of the data
pub words_more : (p q r : ProgramState) (first : List ℕ) (i : ℕ) → 1 ≤ i
    → q ≡ record p { data_words = first ++ range_with_len 1 (i - 1) }
    → r ≡ record q { data_words = q.data_words ++ i ∷ [] }
    → r ≡ record p { data_words = first ++ range_with_len 1 (i + 1 - 1) }
words_more p q r first i some before now =
    let count : i + 1 - 1 ≡ i - 1 + 1 = omega arith in
    let last : 1 + (i - 1) ≡ i = omega arith in
    let all : range_with_len 1 (i - 1) ++ i ∷ [] ≡ range_with_len 1 (i + 1 - 1) =
    ap (λ k. range_with_len 1 (i - 1) ++ k ∷ []) (sym last) ∙ sym (range_push 1 (i - 1))
    ∙ ap (range_with_len 1) (sym count) in
    now ∙ ap (λ (s : ProgramState). record s { data_words = s.data_words ++ i ∷ [] }) before
    ∙ (λ j. record p { data_words = append_assoc first (range_with_len 1 (i - 1)) (i ∷ []) j })
    ∙ ap (λ ws. record p { data_words = first ++ ws }) all
