-- Headers in the order of their addresses: no two of one address, and then one order alone.
use Rattle.std.proofs.Common.{◌≡◌, ◌≢◌, suc, zero, ◌<◌, List, [], ◌∷◌, refl, sym, ap, ◌∙◌, ◌⊎◌, inl, inr, arith}
use Rattle.std.specs.Prelude.{All, AllPairs, Contains, nat_le}
use Rattle.std.specs.List.Sorted.{IsPermutation}
use Rattle.std.proofs.lemmas.Bool.{cond_both, leb-true, leb-false}
use Rattle.std.proofs.lemmas.List.Elements.{All-cons, All-contains, All-head, All-tail, All-weaker, All-nil}
use Rattle.std.proofs.lemmas.List.Kept.{AllPairs-cons}
use Rattle.std.proofs.lemmas.List.Sorted.{IsPermutation-refl, IsPermutation-sym, IsPermutation-trans}
use Rattle.std.proofs.lemmas.List.Sorted.{IsPermutation-cons, IsPermutation-middle, All-permutation}
use Rattle.std.proofs.lemmas.List.Sorted.{Contains-permutation}
use Rattle.tss_elf.specs.declared.header.ProgramHeader.{ProgramHeader}
use Rattle.tss_elf.specs.Elf.{put_by_address, by_address}
use Rattle.tss_elf.proofs.Pairs.{AllPairs-head, AllPairs-tail, AllPairs-IsPermutation}

-- the one lies below the other, and the two begin at different addresses
abbrev pub IsBelow : ProgramHeader → ProgramHeader → Type 0
IsBelow g h = g.address < h.address

abbrev pub IsElsewhere : ProgramHeader → ProgramHeader → Type 0
IsElsewhere g h = g.address ≢ h.address

pub IsElsewhere-sym : (g h : ProgramHeader) → IsElsewhere g h → IsElsewhere h g
IsElsewhere-sym g h apart same = apart (sym same)

-- the order keeps the headers
pub IsPermutation-put_by_address : (h : ProgramHeader) (gs : List ProgramHeader)
    → IsPermutation (h ∷ gs) (put_by_address h gs)
IsPermutation-put_by_address h [] = IsPermutation-refl (h ∷ [])
IsPermutation-put_by_address h (g ∷ gs) =
    let second = IsPermutation-sym (g ∷ h ∷ gs) (h ∷ g ∷ gs) (IsPermutation-middle (g ∷ []) h gs) in
    let later = IsPermutation-cons g (h ∷ gs) (put_by_address h gs) (IsPermutation-put_by_address h gs) in
    cond_both (nat_le h.address g.address) (h ∷ g ∷ gs) (g ∷ put_by_address h gs) (IsPermutation (h ∷ g ∷ gs))
    (λ _. IsPermutation-refl (h ∷ g ∷ gs))
    (λ _. IsPermutation-trans (h ∷ g ∷ gs) (g ∷ h ∷ gs) (g ∷ put_by_address h gs) second later)

pub IsPermutation-by_address : (hs : List ProgramHeader) → IsPermutation hs (by_address hs)
IsPermutation-by_address [] = IsPermutation-refl []
IsPermutation-by_address (h ∷ hs) =
    IsPermutation-trans (h ∷ hs) (h ∷ by_address hs) (put_by_address h (by_address hs))
    (IsPermutation-cons h hs (by_address hs) (IsPermutation-by_address hs))
    (IsPermutation-put_by_address h (by_address hs))

-- a header put among headers that rise and begin elsewhere
rising_put : (h : ProgramHeader) (gs : List ProgramHeader) → All (IsElsewhere h) gs → AllPairs IsBelow gs
    → AllPairs IsBelow (put_by_address h gs)
rising_put h [] apart up = AllPairs-cons IsBelow h [] (All-nil (IsBelow h)) up
rising_put h (g ∷ gs) apart up =
    let away = All-head (IsElsewhere h) g gs apart in
    let above = AllPairs-head IsBelow g gs up in
    cond_both (nat_le h.address g.address) (h ∷ g ∷ gs) (g ∷ put_by_address h gs) (AllPairs IsBelow)
    (λ le.
    let low = leb-true h.address g.address le in
    let lower : IsBelow h g = omega arith in
    let all = All-weaker (IsBelow g) (IsBelow h) (λ x more. omega arith) gs above in
    AllPairs-cons IsBelow h (g ∷ gs) (All-cons (IsBelow h) g gs lower all) up)
    (λ gt.
    let high = leb-false h.address g.address gt in
    let rest = rising_put h gs (All-tail (IsElsewhere h) g gs apart) (AllPairs-tail IsBelow g gs up) in
    let all =
    All-permutation (IsBelow g) (h ∷ gs) (put_by_address h gs) (IsPermutation-put_by_address h gs)
    (All-cons (IsBelow g) h gs high above) in
    AllPairs-cons IsBelow g (put_by_address h gs) all rest)

-- headers that begin at different addresses rise in that order
pub rising-by_address : (hs : List ProgramHeader) → AllPairs IsElsewhere hs → AllPairs IsBelow (by_address hs)
rising-by_address [] apart = λ i j d below within. absurd (omega arith)
rising-by_address (h ∷ hs) apart =
    let away =
    All-permutation (IsElsewhere h) hs (by_address hs) (IsPermutation-by_address hs)
    (AllPairs-head IsElsewhere h hs apart) in
    rising_put h (by_address hs) away (rising-by_address hs (AllPairs-tail IsElsewhere h hs apart))

-- an element of a list is its first one or one of the others
contains_cases : {X : Type 0} (x : X) (xs : List X) (z : X) → Contains (x ∷ xs) z → (x ≡ z) ⊎ Contains xs z
contains_cases x xs z (zero, within, is) = inl is
contains_cases x xs z (suc k, within, is) = inr (k, omega arith, is)

contains_later : {X : Type 0} (x : X) (xs : List X) (z : X) → Contains xs z → Contains (x ∷ xs) z
contains_later x xs z (k, within, is) = (suc k, omega arith, is)

-- two lists that rise and have the same headers begin with the same one
first_same : (g : ProgramHeader) (gs : List ProgramHeader) (h : ProgramHeader) (hs : List ProgramHeader)
    → AllPairs IsBelow (g ∷ gs) → AllPairs IsBelow (h ∷ hs) → Contains (h ∷ hs) g → Contains (g ∷ gs) h → g ≡ h
first_same g gs h hs up_g up_h there back = elim (contains_cases h hs g there) [
  | inl same ↦ sym same
  | inr later ↦ elim (contains_cases g gs h back) [
    | inl same ↦ same
    | inr other ↦
        let one = All-contains (IsBelow h) hs g (AllPairs-head IsBelow h hs up_h) later in
        let two = All-contains (IsBelow g) gs h (AllPairs-head IsBelow g gs up_g) other in
        absurd (omega arith)
  ]
]

-- what one of them has after that, the other has after that too
rest_same : (g : ProgramHeader) (gs : List ProgramHeader) (h : ProgramHeader) (hs : List ProgramHeader)
    → AllPairs IsBelow (g ∷ gs) → g ≡ h → ((z : ProgramHeader) → Contains (g ∷ gs) z → Contains (h ∷ hs) z)
    → (z : ProgramHeader) → Contains gs z → Contains hs z
rest_same g gs h hs up same all z has = elim (contains_cases h hs z (all z (contains_later g gs z has))) [
  | inl first ↦
      let above = All-contains (IsBelow g) gs z (AllPairs-head IsBelow g gs up) has in
      let one = ap (λ (x : ProgramHeader). x.address) (same ∙ first) in
      absurd (omega (arith, one))
  | inr later ↦ later
]

-- two lists that rise and have the same headers are equal
pub rising_same : (gs hs : List ProgramHeader) → AllPairs IsBelow gs → AllPairs IsBelow hs
    → ((z : ProgramHeader) → Contains gs z → Contains hs z) → ((z : ProgramHeader) → Contains hs z → Contains gs z)
    → gs ≡ hs
rising_same [] [] up_g up_h there back = refl
rising_same [] (h ∷ hs) up_g up_h there back =
    absurd (let has = back h (zero, omega arith, refl) in omega (arith, has.1))
rising_same (g ∷ gs) [] up_g up_h there back =
    absurd (let has = there g (zero, omega arith, refl) in omega (arith, has.1))
rising_same (g ∷ gs) (h ∷ hs) up_g up_h there back =
    let same = first_same g gs h hs up_g up_h (there g (zero, omega arith, refl)) (back h (zero, omega arith, refl)) in
    let rest = rising_same gs hs (AllPairs-tail IsBelow g gs up_g) (AllPairs-tail IsBelow h hs up_h)
    (rest_same g gs h hs up_g same there) (rest_same h hs g gs up_h (sym same) back) in
    ap (λ x. x ∷ gs) same ∙ ap (λ xs. h ∷ xs) rest

-- headers that rise are those in the order of their addresses
pub by_address_is : (hs sorted : List ProgramHeader) → IsPermutation hs sorted → AllPairs IsBelow sorted
    → sorted ≡ by_address hs
by_address_is hs sorted moved up =
    let apart_sorted : AllPairs IsElsewhere sorted =
    λ i j d below within same. let lt = up i j d below within in omega (arith, lt) in
    let apart =
    AllPairs-IsPermutation IsElsewhere IsElsewhere-sym sorted hs (IsPermutation-sym hs sorted moved) apart_sorted
    in
    let across =
    IsPermutation-trans sorted hs (by_address hs) (IsPermutation-sym hs sorted moved)
    (IsPermutation-by_address hs) in
    rising_same sorted (by_address hs) up (rising-by_address hs apart)
    (λ z has. Contains-permutation sorted (by_address hs) z across has)
    (λ z has. Contains-permutation (by_address hs) sorted z (IsPermutation-sym sorted (by_address hs) across) has)
