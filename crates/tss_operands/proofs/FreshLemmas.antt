-- Naming in two ways: the objects that aren't named yet, and objects of which each stands once.
use Rattle.std.proofs.Common.{◌≡◌, ℕ, ◌+◌, inl, inr, Bool, true, false, ◌||◌, not, cond, List, [], ◌∷◌, ◌++◌, length, refl, sym, ap, ◌∙◌, subst, arith}
use Rattle.std.specs.Prelude.{All, count_by, filter}
use Rattle.std.specs.List.{list_any}
use Rattle.std.proofs.lemmas.Bool.{cases_Bool, cond-true, cond-false, false_from_ne_true, not_from_true, not_from_false, or_from, or_left, or_right, true≢false}
use Rattle.std.proofs.lemmas.List.{append_assoc, append-nil, length-append}
use Rattle.std.proofs.lemmas.List.Elements.{All-push, All-head, All-tail, filter-append}
use Rattle.std.proofs.lemmas.List.Folds.{fold-map, list_any-append}
use Rattle.std.proofs.lemmas.List.Sums.{length-filter}
use Rattle.tss_base.specs.declared.range.Range.{Range}
use Rattle.tss_base.specs.declared.operand.Operand.{Operand}
use Rattle.tss_model.specs.Spawn.{same_range, merged_operands, name_object, name_objects, objects_of}
use Rattle.tss_operands.specs.Naming.{count_with, is_named}
use Rattle.tss_operands.proofs.PlacedLemmas.{same_range-true}
use Rattle.tss_operands.proofs.NamingLemmas.{list_any-name_objects, name_objects-append}
use Rattle.tss_operands.proofs.MergingLemmas.{objects_of-merged}

-- ---- objects of which each stands once

-- naming an object that is named changes nothing
name_object-again : (named : List Range) (r : Range) → is_named named r ≡ true → name_object named r ≡ named
name_object-again named r there = cond-true (is_named named r) named (named ++ r ∷ []) there

-- another goes to the end
name_object-more : (named : List Range) (r : Range) → is_named named r ≡ false → name_object named r ≡ named ++ r ∷ []
name_object-more named r fresh = cond-false (is_named named r) named (named ++ r ∷ []) fresh

-- it is the same to name objects and to name each of them once
name_objects-name_objects : (named done xs : List Range)
    → name_objects named (name_objects done xs) ≡ name_objects named (done ++ xs)
name_objects-name_objects named done [] = ap (name_objects named) (sym (append-nil done))
name_objects-name_objects named done (x ∷ xs) =
    name_objects-name_objects named (name_object done x) xs
    ∙ elim (cases_Bool (is_named done x)) [
      | inl there ↦
          let all = name_objects named done in
          let seen : is_named all x ≡ true =
          list_any-name_objects (same_range x) named done ∙ list_any-append (same_range x) named done
          ∙ or_right _ _ there in
          ap (λ ys. name_objects named (ys ++ xs)) (name_object-again done x there)
          ∙ name_objects-append named done xs
          ∙ ap (λ ys. name_objects ys xs) (sym (name_object-again all x seen))
          ∙ sym (name_objects-append named done (x ∷ xs))
      | inr fresh ↦
          ap (λ ys. name_objects named (ys ++ xs)) (name_object-more done x fresh)
          ∙ ap (name_objects named) (append_assoc done (x ∷ []) xs)
    ]

-- the merged operands' objects are named as the listed ones are
pub name_objects-merged : (named : List Range) (listed : List Operand)
    → name_objects named (objects_of (merged_operands listed)) ≡ name_objects named (objects_of listed)
name_objects-merged named listed =
    ap (name_objects named) (objects_of-merged listed) ∙ name_objects-name_objects named [] (objects_of listed)

-- what holds of the named objects and of these holds after these are named
All-name_objects : (P : Range → Type 0) (named xs : List Range) → All P named → All P xs → All P (name_objects named xs)
All-name_objects P named [] all each = all
All-name_objects P named (x ∷ xs) all each =
    All-name_objects P (name_object named x) xs
    (elim (cases_Bool (is_named named x)) [
      | inl there ↦ subst (All P) (sym (name_object-again named x there)) all
      | inr fresh ↦ subst (All P) (sym (name_object-more named x fresh)) (All-push P named x all (All-head P x xs each))
    ])
    (All-tail P x xs each)

-- what holds of each listed object holds of each merged one
pub All-merged : (P : Range → Type 0) (listed : List Operand) → All P (objects_of listed)
    → All P (objects_of (merged_operands listed))
All-merged P listed each =
    subst (All P) (sym (objects_of-merged listed))
    (All-name_objects P [] (objects_of listed) (λ k d within. absurd (omega arith)) each)

-- ---- the objects that aren't named yet

-- it isn't named
abbrev is_fresh : List Range → Range → Bool
is_fresh named r = not (is_named named r)

-- a test that none passes but those that stay
list_any-filter : (p q : Range → Bool) (xs : List Range) → ((y : Range) → p y ≡ true → q y ≡ true)
    → list_any p (filter q xs) ≡ list_any p xs
list_any-filter p q [] keeps = refl
list_any-filter p q (x ∷ xs) keeps =
    elim (cases_Bool (q x)) [
      | inl stays ↦ ap (list_any p) (cond-true (q x) (x ∷ filter q xs) (filter q xs) stays)
          ∙ ap (λ b. p x || b) (list_any-filter p q xs keeps)
      | inr goes ↦ ap (list_any p) (cond-false (q x) (x ∷ filter q xs) (filter q xs) goes)
          ∙ list_any-filter p q xs keeps
          ∙ ap (λ b. b || list_any p xs)
          (sym (false_from_ne_true (p x) (λ holds. true≢false (sym (keeps x holds) ∙ goes))))
    ]

module _ (named : List Range) where
  -- one element, kept or not
  kept_one : (x : Range) → is_fresh named x ≡ true → filter (is_fresh named) (x ∷ []) ≡ x ∷ []
  kept_one x fresh = cond-true (is_fresh named x) (x ∷ []) [] fresh

  dropped_one : (x : Range) → is_fresh named x ≡ false → filter (is_fresh named) (x ∷ []) ≡ []
  dropped_one x there = cond-false (is_fresh named x) (x ∷ []) [] there

  -- one object more, among the named ones and among those beside them
  name_object-fresh : (done : List Range) (x : Range)
      → name_object (named ++ filter (is_fresh named) done) x ≡ named ++ filter (is_fresh named) (name_object done x)
  name_object-fresh done x =
      let kept = filter (is_fresh named) done in
      let test = list_any-append (same_range x) named kept in
      elim (cases_Bool (is_named named x)) [
        | inl there ↦
            name_object-again (named ++ kept) x (test ∙ or_left _ _ there)
            ∙ ap (λ ys. named ++ ys) (elim (cases_Bool (is_named done x)) [
              | inl again ↦ ap (filter (is_fresh named)) (sym (name_object-again done x again))
              | inr more ↦
                  sym (ap (filter (is_fresh named)) (name_object-more done x more)
                  ∙ filter-append (is_fresh named) done (x ∷ [])
                  ∙ ap (λ ys. kept ++ ys) (dropped_one x (not_from_true _ there))
                  ∙ append-nil kept)
            ])
        | inr fresh ↦
            let free : is_fresh named x ≡ true = not_from_false _ fresh in
            let same : is_named kept x ≡ is_named done x =
            list_any-filter (same_range x) (is_fresh named) done
            (λ y holds. subst (λ z. is_fresh named z ≡ true) (same_range-true x y holds) free) in
            elim (cases_Bool (is_named done x)) [
              | inl again ↦
                  name_object-again (named ++ kept) x (test ∙ or_right _ _ (same ∙ again))
                  ∙ ap (λ ys. named ++ filter (is_fresh named) ys) (sym (name_object-again done x again))
              | inr more ↦
                  name_object-more (named ++ kept) x (test ∙ or_from _ _ fresh (same ∙ more))
                  ∙ append_assoc named kept (x ∷ [])
                  ∙ ap (λ ys. named ++ ys)
                  (sym (ap (filter (is_fresh named)) (name_object-more done x more)
                  ∙ filter-append (is_fresh named) done (x ∷ [])
                  ∙ ap (λ ys. kept ++ ys) (kept_one x free)))
            ]
      ]

  -- several
  name_objects-fresh : (done xs : List Range)
      → name_objects (named ++ filter (is_fresh named) done) xs
      ≡ named ++ filter (is_fresh named) (name_objects done xs)
  name_objects-fresh done [] = refl
  name_objects-fresh done (x ∷ xs) =
      ap (λ ys. name_objects ys xs) (name_object-fresh done x) ∙ name_objects-fresh (name_object done x) xs

  -- a count over the objects of operands
  count_by-objects_of : (p : Range → Bool) (os : List Operand) → count_by p (objects_of os) ≡ count_by (λ o. p o.object) os
  count_by-objects_of p os = fold-map (λ a x. a + cond {A = ℕ} (p x) 1 0) (λ o. o.object) 0 os

  -- how many are named with these: those that are, and the merged ones that aren't named yet
  pub length-name_objects : (listed : List Operand)
      → length (name_objects named (objects_of listed))
      ≡ count_with named (merged_operands listed)
  length-name_objects listed =
      let xs = objects_of listed in
      let all : name_objects named xs ≡ named ++ filter (is_fresh named) (name_objects [] xs) =
      ap (λ ys. name_objects ys xs) (sym (append-nil named)) ∙ name_objects-fresh [] xs in
      ap length all ∙ length-append named (filter (is_fresh named) (name_objects [] xs))
      ∙ ap (λ n. length named + n)
      (length-filter (is_fresh named) (name_objects [] xs)
      ∙ ap (count_by (is_fresh named)) (sym (objects_of-merged listed))
      ∙ count_by-objects_of (is_fresh named) (merged_operands listed))
