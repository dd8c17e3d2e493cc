-- What holds of each two elements of a list, in whatever order they stand, and headers whose segments share an address.
use Rattle.std.proofs.Common.{◌≡◌, ◌≢◌, ℕ, suc, zero, ◌+◌, ◌-◌, ◌<◌, ◌≤◌, Bool, true, false, List, [], ◌∷◌, length}
use Rattle.std.proofs.Common.{get_or, refl, sym, ap, ◌∙◌, subst, inl, inr, arith, swap}
use Rattle.std.specs.Prelude.{All, AllPairs}
use Rattle.std.specs.List.{list_any}
use Rattle.std.specs.List.Sorted.{IsPermutation, IsNonDecreasingBy}
use Rattle.std.proofs.lemmas.Bool.{cases_eq, cases_order, cases_Bool, or_parts, or_from, true_from_ne_false}
use Rattle.std.proofs.lemmas.Bool.{false_from_ne_true, both_ways}
use Rattle.std.proofs.lemmas.Bool.Decides.{nat_tests}
use Rattle.std.proofs.lemmas.List.{get_or_default}
use Rattle.std.proofs.lemmas.List.Edits.{length-swap, swapped_from_swap}
use Rattle.std.proofs.lemmas.List.Folds.{list_any_none, list_any-from_Any}
use Rattle.std.proofs.lemmas.List.Kept.{AllPairs-cons}
use Rattle.std.proofs.lemmas.List.Sorted.{IsPermutation-keeps, IsPermutation-sym}
use Rattle.tss_base.specs.Range.{end_of}
use Rattle.tss_elf.specs.declared.header.ProgramHeader.{ProgramHeader}
use Rattle.tss_elf.specs.Fields.{range_of}
use Rattle.tss_elf.specs.Checks.{shares_address, has_overlap}

-- the first element against the others, and the others among themselves
pub AllPairs-head : {X : Type 0} (R : X → X → Type 0) (x : X) (xs : List X) → AllPairs R (x ∷ xs) → All (R x) xs
AllPairs-head R x xs h k d within = h zero (suc k) d (omega arith) (omega arith)

pub AllPairs-tail : {X : Type 0} (R : X → X → Type 0) (x : X) (xs : List X) → AllPairs R (x ∷ xs) → AllPairs R xs
AllPairs-tail R x xs h i j d below within = h (suc i) (suc j) d (omega arith) (omega arith)

module _ {X : Type 0} (R : X → X → Type 0) (symmetric : (x y : X) → R x y → R y x) where
  -- two places, whichever comes first
  at_two : (xs : List X) → AllPairs R xs → (i j : ℕ) (d : X) → i ≢ j → i < length xs → j < length xs
      → R (get_or xs i d) (get_or xs j d)
  at_two xs h i j d apart li lj = elim (cases_order i j) [
    | inl same ↦ absurd (apart same)
    | inr (inl below) ↦ h i j d below lj
    | inr (inr above) ↦ symmetric (get_or xs j d) (get_or xs i d) (h j i d above li)
  ]

  -- two places of a list that has the elements of two other places of this one
  at_moved : (xs ys : List X) (i j p q : ℕ) (d : X) → AllPairs R xs → p ≢ q → p < length xs → q < length xs
      → get_or ys i d ≡ get_or xs p d → get_or ys j d ≡ get_or xs q d → R (get_or ys i d) (get_or ys j d)
  at_moved xs ys i j p q d h apart lp lq at_i at_j =
      subst (λ y. R y (get_or ys j d)) (sym at_i)
      (subst (λ y. R (get_or xs p d) y) (sym at_j) (at_two xs h p q d apart lp lq))

  -- two elements that change places
  AllPairs-swap : (xs : List X) (a b : ℕ) → a < length xs → b < length xs → AllPairs R xs → AllPairs R (swap xs a b)
  AllPairs-swap xs a b la lb h i j d below inside =
      let ys = swap xs a b in
      let within : j < length xs = omega (arith, length-swap xs a b) in
      let s = swapped_from_swap xs ys a b d la lb refl in
      let read = λ (k : ℕ). get_or ys k d in
      elim (cases_eq i a) [
        | inl ia ↦ elim (cases_eq j b) [
          | inl jb ↦ at_moved xs ys i j b a d h (omega arith) lb la (ap read ia ∙ s.0) (ap read jb ∙ s.1)
          | inr j_b ↦ at_moved xs ys i j b j d h (omega arith) lb within (ap read ia ∙ s.0) (s.2 j (omega arith) j_b)
        ]
        | inr i_a ↦ elim (cases_eq i b) [
          | inl ib ↦ elim (cases_eq j a) [
            | inl ja ↦ at_moved xs ys i j a b d h (omega arith) la lb (ap read ib ∙ s.1) (ap read ja ∙ s.0)
            | inr j_a ↦ at_moved xs ys i j a j d h (omega arith) la within (ap read ib ∙ s.1) (s.2 j j_a (omega arith))
          ]
          | inr i_b ↦ elim (cases_eq j a) [
            | inl ja ↦ at_moved xs ys i j i b d h (omega arith) (omega arith) lb (s.2 i i_a i_b) (ap read ja ∙ s.0)
            | inr j_a ↦ elim (cases_eq j b) [
              | inl jb ↦ at_moved xs ys i j i a d h (omega arith) (omega arith) la (s.2 i i_a i_b) (ap read jb ∙ s.1)
              | inr j_b ↦ at_moved xs ys i j i j d h (omega arith) (omega arith) within (s.2 i i_a i_b) (s.2 j j_a j_b)
            ]
          ]
        ]
      ]

  -- any order of the elements
  pub AllPairs-IsPermutation : (xs ys : List X) → IsPermutation xs ys → AllPairs R xs → AllPairs R ys
  AllPairs-IsPermutation xs ys moved h = IsPermutation-keeps xs (AllPairs R) h AllPairs-swap ys moved

-- no element passes a test, as a fact of each
pub all_from_none : {X : Type 0} (p : X → Bool) (xs : List X) → list_any p xs ≡ false → All (λ x. p x ≡ false) xs
all_from_none p xs none k d within =
    false_from_ne_true (p (get_or xs k d)) (λ e. both_ways (list_any p xs) none
    (list_any-from_Any p xs (k, get_or xs k d, within, get_or_default xs k (get_or xs k d) d within, e)))

-- the two share no address
abbrev pub AreApart : ProgramHeader → ProgramHeader → Type 0
AreApart g h = shares_address g h ≡ false

pub shares_address-sym : (g h : ProgramHeader) → AreApart g h → AreApart h g
shares_address-sym g h e = grind (arith, nat_tests)

-- one that ends before the other begins
pub apart_from_order : (g h : ProgramHeader) → end_of (range_of g) ≤ h.address → AreApart g h
apart_from_order g h e = grind (arith, nat_tests)

-- one that doesn't, though it begins no later
pub shared_from_order : (g h : ProgramHeader) → g.address ≤ h.address → 0 < h.memory_size
    → h.address < end_of (range_of g) → shares_address g h ≡ true
shared_from_order g h up some past = grind (arith, nat_tests)

-- no overlap, as a fact of each two
pub apart_from_test : (hs : List ProgramHeader) → has_overlap hs ≡ false → AllPairs AreApart hs
apart_from_test [] e = λ i j d below within. absurd (omega arith)
apart_from_test (h ∷ hs) e =
    let parts = or_parts (list_any (shares_address h) hs) (has_overlap hs) e in
    AllPairs-cons AreApart h hs (all_from_none (shares_address h) hs parts.0) (apart_from_test hs parts.1)

pub test_from_apart : (hs : List ProgramHeader) → AllPairs AreApart hs → has_overlap hs ≡ false
test_from_apart [] p = refl
test_from_apart (h ∷ hs) p =
    or_from (list_any (shares_address h) hs) (has_overlap hs)
    (list_any_none (shares_address h) hs (AllPairs-head AreApart h hs p))
    (test_from_apart hs (AllPairs-tail AreApart h hs p))

-- the test has one answer in any order
pub has_overlap-IsPermutation : (xs ys : List ProgramHeader) → IsPermutation xs ys → has_overlap xs ≡ has_overlap ys
has_overlap-IsPermutation xs ys moved =
    let there =
    λ (e : has_overlap xs ≡ false). test_from_apart ys
    (AllPairs-IsPermutation AreApart shares_address-sym xs ys moved (apart_from_test xs e)) in
    let back =
    λ (e : has_overlap ys ≡ false). test_from_apart xs
    (AllPairs-IsPermutation AreApart shares_address-sym ys xs (IsPermutation-sym xs ys moved)
    (apart_from_test ys e)) in
    elim (cases_Bool (has_overlap xs)) [
      | inl shared ↦ shared ∙ sym (true_from_ne_false (has_overlap ys)
          (λ e. both_ways (has_overlap xs) (back e) shared))
      | inr apart ↦ apart ∙ sym (there apart)
    ]

-- in the order of the addresses each ends before a later one begins, where each ends before the next begins
pub rising_from_neighbours : (hs : List ProgramHeader) → IsNonDecreasingBy (λ h. h.address) hs
    → ((k : ℕ) (d : ProgramHeader) → k + 1 < length hs
    → end_of (range_of (get_or hs k d)) ≤ (get_or hs (k + 1) d).address)
    → AllPairs (λ g h. end_of (range_of g) ≤ h.address) hs
rising_from_neighbours hs sorted next i j d below within =
    let one = next i d (omega arith) in
    let far = sorted (i + 1) j d (omega arith) within in
    omega arith

pub no_overlap_from_neighbours : (hs : List ProgramHeader) → AllPairs (λ g h. end_of (range_of g) ≤ h.address) hs
    → has_overlap hs ≡ false
no_overlap_from_neighbours hs rising =
    test_from_apart hs (λ i j d below within. apart_from_order (get_or hs i d) (get_or hs j d)
    (rising i j d below within))

-- and two neighbours that share an address are an overlap
pub overlap_at_neighbours : (hs : List ProgramHeader) (i : ℕ) (d : ProgramHeader)
    → IsNonDecreasingBy (λ h. h.address) hs → All (λ h. 0 < h.memory_size) hs → 0 < i → i < length hs
    → (get_or hs i d).address < end_of (range_of (get_or hs (i - 1) d)) → has_overlap hs ≡ true
overlap_at_neighbours hs i d sorted some later within past =
    let up = sorted (i - 1) i d (omega arith) within in
    let shared = shared_from_order (get_or hs (i - 1) d) (get_or hs i d) up (some i d within) past in
    true_from_ne_false (has_overlap hs)
    (λ e. both_ways (shares_address (get_or hs (i - 1) d) (get_or hs i d))
    (apart_from_test hs e (i - 1) i d (omega arith) within) shared)
