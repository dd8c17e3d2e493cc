-- Items one after the other: the faults of some, and the words of all.
use Rattle.std.proofs.Common.{◌≡◌, ℕ, zero, suc, ◌+◌, ◌^◌, ◌<◌, Bool, true, false, ◌&&◌, ◌||◌, not, refl, sym, ap, ◌∙◌, subst}
use Rattle.std.proofs.Common.{arith, Option, List, [], ◌∷◌, ◌++◌, length, get_or, take, true≢false, append_assoc}
use Rattle.std.specs.List.{list_any}
use Rattle.std.proofs.lemmas.Bool.{or_parts, not-false}
use Rattle.std.proofs.lemmas.List.{take_more, length-take-le}
use Rattle.std.proofs.lemmas.Grind.{flat_map-append}
use Rattle.tss_base.specs.Names.{Numbered}
use Rattle.tss_isa.specs.declared.instr.Instr.{Instr}
use Rattle.tss_isa.specs.InstrTable.{fits, is_register, is_within, is_even, is_upper}
use Rattle.tss_asm.specs.declared.item.Item.{Item}
use Rattle.tss_asm.specs.declared.item.Item.TheVariants as item
use Rattle.tss_asm.specs.Labels.{label_place}
use Rattle.tss_asm.specs.Words.{Encoded, content, content_word, words_from, distance, upper_part}
use Rattle.tss_asm.specs.Words.{lower_part, label_address}
use Rattle.tss_asm.specs.Image.{word_bytes, bytes_of_words}
use Rattle.tss_asm.specs.Faults.{any_from, is_far, is_unfit, has_fit_fields}
use Rattle.tss_asm.proofs.DistanceLemmas.{is_even-distance, is_upper-upper_part, is_within-lower_part}

-- ---- tests

or_right : (a b : Bool) → b ≡ true → (a || b) ≡ true
or_right true b e = refl
or_right false b e = e

and_last : (a b : Bool) → b ≡ true → (a && b) ≡ a
and_last true b e = e
and_last false b e = refl

and_twice : (a : Bool) → (a && a) ≡ a
and_twice true = refl
and_twice false = refl

by_test : {P : Type 0} (b : Bool) → (b ≡ true → P) → (b ≡ false → P) → P
by_test true yes_case no_case = yes_case refl
by_test false yes_case no_case = no_case refl

or_assoc : (a b c : Bool) → (a || (b || c)) ≡ ((a || b) || c)
or_assoc true b c = refl
or_assoc false b c = refl

-- ---- some item

pub any_append : (test : ℕ → Item → Bool) (at : ℕ) (xs ys : List Item)
    → any_from test at (xs ++ ys) ≡ (any_from test at xs || any_from test (at + length xs) ys)
any_append test at [] ys = let e : at ≡ at + 0 = omega arith in ap (λ n. any_from test n ys) e
any_append test at (x ∷ xs) ys =
    let e : at + 1 + length xs ≡ at + length (x ∷ xs) = omega arith in
    ap (λ b. test at x || b) (any_append test (at + 1) xs ys ∙ ap (λ n. any_from test (at + 1) xs || any_from test n ys) e)
    ∙ or_assoc (test at x) (any_from test (at + 1) xs) (any_from test (at + length (x ∷ xs)) ys)

-- one that passes is enough
pub any_found : (test : ℕ → Item → Bool) (at : ℕ) (xs : List Item) (i : ℕ) (d : Item) → i < length xs
    → test (at + i) (get_or xs i d) ≡ true → any_from test at xs ≡ true
any_found test at [] i d within e = absurd (omega arith)
any_found test at (x ∷ xs) zero d within e =
    let here : at + 0 ≡ at = omega arith in
    ap (λ b. b || any_from test (at + 1) xs) (subst (λ n. test n x ≡ true) here e)
any_found test at (x ∷ xs) (suc i) d within e =
    let here : at + suc i ≡ at + 1 + i = omega arith in
    or_right (test at x) (any_from test (at + 1) xs) (any_found test (at + 1) xs i d (omega arith)
    (subst (λ n. test n (get_or xs i d) ≡ true) here e))

-- where none passes, each fails
pub any_none : (test : ℕ → Item → Bool) (xs : List Item) (i : ℕ) (d : Item) → i < length xs
    → any_from test 0 xs ≡ false → test i (get_or xs i d) ≡ false
any_none test xs i d within none =
    let here : i ≡ 0 + i = omega arith in
    by_test (test i (get_or xs i d))
    (λ e. absurd (true≢false (sym (any_found test 0 xs i d within (subst (λ n. test n (get_or xs i d) ≡ true) here e)) ∙ none)))
    (λ e. e)

-- one more that fails
pub any_more : (test : ℕ → Item → Bool) (xs : List Item) (i : ℕ) (d : Item) → i < length xs
    → any_from test 0 (take i xs) ≡ false → test i (get_or xs i d) ≡ false → any_from test 0 (take (i + 1) xs) ≡ false
any_more test xs i d within none here =
    let y = get_or xs i d in
    let at : 0 + length (take i xs) ≡ i = omega (arith, length-take-le i xs) in
    let last : any_from test (0 + length (take i xs)) (y ∷ []) ≡ false =
    ap (λ n. test n y || false) at ∙ ap (λ b. b || false) here in
    ap (any_from test 0) (take_more xs i d within) ∙ any_append test 0 (take i xs) (y ∷ [])
    ∙ (λ j. none j || last j)

-- what a test of the next item says of those so far
pub far_found : (labels : Numbered (Option ℕ)) (xs : List Item) (i : ℕ) (x : Item) (far : Bool) → i < length xs
    → x ≡ get_or xs i x → far ≡ is_far labels i x → far ≡ true → true ≡ any_from (is_far labels) 0 xs
far_found labels xs i x far within is tested passed =
    let here : i ≡ 0 + i = omega arith in
    let e : is_far labels i (get_or xs i x) ≡ true = ap (is_far labels i) (sym is) ∙ sym tested ∙ passed in
    sym (any_found (is_far labels) 0 xs i x within (subst (λ n. is_far labels n (get_or xs i x) ≡ true) here e))

pub far_more : (labels : Numbered (Option ℕ)) (xs : List Item) (i : ℕ) (x : Item) (far : Bool) → i < length xs
    → x ≡ get_or xs i x → far ≡ is_far labels i x → far ≡ false → any_from (is_far labels) 0 (take i xs) ≡ false
    → any_from (is_far labels) 0 (take (i + 1) xs) ≡ false
far_more labels xs i x far within is tested failed before =
    any_more (is_far labels) xs i x within before (ap (is_far labels i) (sym is) ∙ sym tested ∙ failed)

-- ---- one item

module _ (text_at : ℕ) (labels : Numbered (Option ℕ)) where
  -- an item whose target is near has an instruction that fits, where the fields that were given do
  pub is_unfit-content : (at : ℕ) (x : Item) → is_far labels at x ≡ false
      → is_unfit (content text_at labels at x) ≡ not (has_fit_fields x)
  is_unfit-content at (item.Plain i) near = refl
  is_unfit-content at (item.Branch test a b to) near =
      let d = distance at (label_place labels to) in
      let within : is_within (2 ^ 12) d ≡ true = not-false (is_within (2 ^ 12) d) near in
      ap not (and_last (is_register a && is_register b && is_within (2 ^ 12) d) (is_even d) (is_even-distance at (label_place labels to))
      ∙ and_last (is_register a && is_register b) (is_within (2 ^ 12) d) within)
  is_unfit-content at (item.Jump rd to) near =
      let d = distance at (label_place labels to) in
      let within : is_within (2 ^ 20) d ≡ true = not-false (is_within (2 ^ 20) d) near in
      ap not (and_last (is_register rd && is_within (2 ^ 20) d) (is_even d) (is_even-distance at (label_place labels to))
      ∙ and_last (is_register rd) (is_within (2 ^ 20) d) within)
  is_unfit-content at (item.Upper rd of) near =
      let n = upper_part (label_address text_at labels of) in
      ap not (and_last (is_register rd) (is_upper n) (is_upper-upper_part (label_address text_at labels of)))
  is_unfit-content at (item.Lower rd of) near =
      let z = lower_part (label_address text_at labels of) in
      ap not (and_last (is_register rd && is_register rd) (is_within (2 ^ 11) z)
      (is_within-lower_part (label_address text_at labels of)) ∙ and_twice (is_register rd))
  is_unfit-content at (item.Number n) near = refl
  is_unfit-content at (item.Address of) near = refl

  -- the instruction of an item that is near and whose fields fit
  pub fits-content : (at : ℕ) (x : Item) (i : Instr) → is_far labels at x ≡ false → has_fit_fields x ≡ true
      → content text_at labels at x ≡ Encoded i → fits i ≡ true
  fits-content at x i near fit e =
      not-false (fits i) (sym (ap is_unfit e) ∙ is_unfit-content at x near ∙ ap not fit)

  -- where each target is near, some instruction doesn't fit exactly where the given fields of one don't
  pub some_unfit : (at : ℕ) (xs : List Item) → any_from (is_far labels) at xs ≡ false
      → any_from (λ k x. is_unfit (content text_at labels k x)) at xs ≡ list_any (λ x. not (has_fit_fields x)) xs
  some_unfit at [] none = refl
  some_unfit at (x ∷ xs) none =
      let parts = or_parts (is_far labels at x) (any_from (is_far labels) (at + 1) xs) none in
      let here = is_unfit-content at x parts.0 in
      let rest = some_unfit (at + 1) xs parts.1 in
      λ j. here j || rest j

  -- the given fields of each item fit, where no instruction is unfit
  pub fields_fit : (xs : List Item) (i : ℕ) (d : Item) → i < length xs → any_from (is_far labels) 0 xs ≡ false
      → any_from (λ k x. is_unfit (content text_at labels k x)) 0 xs ≡ false → has_fit_fields (get_or xs i d) ≡ true
  fields_fit xs i d within near fit =
      let x = get_or xs i d in
      let here = any_none (λ k y. is_unfit (content text_at labels k y)) xs i d within fit in
      not-false (has_fit_fields x) (sym (is_unfit-content i x (any_none (is_far labels) xs i d within near)) ∙ here)

  -- ---- words

  pub words_append : (at : ℕ) (xs ys : List Item)
      → words_from text_at labels at (xs ++ ys) ≡ words_from text_at labels at xs ++ words_from text_at labels (at + length xs) ys
  words_append at [] ys = let e : at ≡ at + 0 = omega arith in ap (λ n. words_from text_at labels n ys) e
  words_append at (x ∷ xs) ys =
      let e : at + 1 + length xs ≡ at + length (x ∷ xs) = omega arith in
      ap (λ ws. content_word (content text_at labels at x) ∷ ws) (words_append (at + 1) xs ys
      ∙ ap (λ n. words_from text_at labels (at + 1) xs ++ words_from text_at labels n ys) e)

  pub length-words_from : (at : ℕ) (xs : List Item) → length (words_from text_at labels at xs) ≡ length xs
  length-words_from at [] = refl
  length-words_from at (x ∷ xs) = let e = length-words_from (at + 1) xs in omega arith

  -- one word more is put
  pub words_more : (xs : List Item) (i : ℕ) (d : Item) (word : ℕ) (start old new : List ℕ) → i < length xs
      → word ≡ content_word (content text_at labels i (get_or xs i d))
      → old ≡ start ++ bytes_of_words (words_from text_at labels 0 (take i xs)) → new ≡ old ++ word_bytes word
      → new ≡ start ++ bytes_of_words (words_from text_at labels 0 (take (i + 1) xs))
  words_more xs i d word start old new within is before now =
      let y = get_or xs i d in
      let ws = words_from text_at labels 0 (take i xs) in
      let at : 0 + length (take i xs) ≡ i = omega (arith, length-take-le i xs) in
      let all : words_from text_at labels 0 (take (i + 1) xs) ≡ ws ++ word ∷ [] =
      ap (words_from text_at labels 0) (take_more xs i d within) ∙ words_append 0 (take i xs) (y ∷ [])
      ∙ ap (λ n. ws ++ content_word (content text_at labels n y) ∷ []) at ∙ ap (λ w. ws ++ w ∷ []) (sym is) in
      now ∙ ap (λ bs. bs ++ word_bytes word) before
      ∙ put_last start ws word ∙ ap (λ vs. start ++ bytes_of_words vs) (sym all)
    where
      put_last : (start : List ℕ) (ws : List ℕ) (word : ℕ)
          → (start ++ bytes_of_words ws) ++ word_bytes word ≡ start ++ bytes_of_words (ws ++ word ∷ [])
      put_last start ws word =
          append_assoc start (bytes_of_words ws) (word_bytes word)
          ∙ ap (λ bs. start ++ bs) (sym (flat_map-append word_bytes ws (word ∷ [])))
