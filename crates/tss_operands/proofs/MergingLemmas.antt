-- Merging: the objects of merged operands, and one more.
use Rattle.std.proofs.Common.{◌≡◌, ℕ, ◌+◌, ◌<◌, ◌≤◌, inl, inr, Bool, true, false, ◌||◌, List, [], ◌∷◌, ◌++◌, length, map, take, get_or, refl, sym, ap, ◌∙◌, arith}
use Rattle.std.specs.List.{list_any}
use Rattle.std.proofs.lemmas.Bool.{cases_Bool, cond-true, cond-false}
use Rattle.std.proofs.lemmas.List.{length-map, length-take, length_push, map_more, map_push}
use Rattle.tss_base.specs.declared.range.Range.{Range}
use Rattle.tss_base.specs.declared.operand.Operand.{Operand}
use Rattle.tss_model.specs.Spawn.{same_range, merged_on, merged_operands, name_object, name_objects, objects_of}
use Rattle.tss_operands.specs.Naming.{is_named}
use Rattle.tss_operands.proofs.NamingLemmas.{name_objects-append}

-- a test of the objects of operands
pub list_any-objects_of : (p : Range → Bool) (os : List Operand)
    → list_any p (objects_of os) ≡ list_any (λ o. p o.object) os
list_any-objects_of p [] = refl
list_any-objects_of p (o ∷ os) = ap (λ b. p o.object || b) (list_any-objects_of p os)

-- operands that are merged for objects have these objects
objects_of-merged_on : (listed : List Operand) (xs : List Range) → objects_of (map (merged_on listed) xs) ≡ xs
objects_of-merged_on listed [] = refl
objects_of-merged_on listed (x ∷ xs) = ap (λ ys. x ∷ ys) (objects_of-merged_on listed xs)

-- the merged operands have the listed objects, each once
pub objects_of-merged : (listed : List Operand)
    → objects_of (merged_operands listed) ≡ name_objects [] (objects_of listed)
objects_of-merged listed = objects_of-merged_on listed (name_objects [] (objects_of listed))

-- at most one more
few_named : (named : List Range) (r : Range) → length (name_object named r) ≤ length named + 1
few_named named r =
    elim (cases_Bool (is_named named r)) [
      | inl there ↦ let e = ap length (cond-true (is_named named r) named (named ++ r ∷ []) there) in omega arith
      | inr fresh ↦ let e = ap length (cond-false (is_named named r) named (named ++ r ∷ []) fresh) in
          omega (arith, length_push named r)
    ]

-- no more than there are in both
pub few_named_all : (named xs : List Range) → length (name_objects named xs) ≤ length named + length xs
few_named_all named [] = omega arith
few_named_all named (x ∷ xs) = omega (arith, few_named named x, few_named_all (name_object named x) xs)

-- the operands of the objects of the first i listed ones
abbrev pub merged_front : List Operand → ℕ → List Operand
merged_front listed i = map (merged_on listed) (name_objects [] (objects_of (take i listed)))

-- there are no more of them
pub length-merged_front : (listed : List Operand) (i : ℕ) → length (merged_front listed i) ≤ i
length-merged_front listed i =
    let xs = objects_of (take i listed) in
    omega (
      arith,
      length-map (name_objects [] xs) (merged_on listed),
      few_named_all [] xs,
      length-map (take i listed) (λ o. o.object),
      length-take i listed,
    )

module _ (listed : List Operand) (i : ℕ) (d : Operand) (within : i < length listed) where
  -- the objects of one more
  named_more : name_objects [] (objects_of (take (i + 1) listed))
      ≡ name_object (name_objects [] (objects_of (take i listed))) (get_or listed i d).object
  named_more =
      ap (name_objects []) (map_more (λ o. o.object) listed i d within)
      ∙ name_objects-append [] (objects_of (take i listed)) ((get_or listed i d).object ∷ [])

  -- the test that one of the merged operands has its object
  has_object : list_any (λ o. same_range (get_or listed i d).object o.object) (merged_front listed i)
      ≡ is_named (name_objects [] (objects_of (take i listed))) (get_or listed i d).object
  has_object =
      sym (list_any-objects_of (same_range (get_or listed i d).object) (merged_front listed i))
      ∙ ap (λ ys. is_named ys (get_or listed i d).object)
      (objects_of-merged_on listed (name_objects [] (objects_of (take i listed))))

  -- an object that was listed before adds nothing
  pub merged_front-again : list_any (λ o. same_range (get_or listed i d).object o.object) (merged_front listed i) ≡ true
      → merged_front listed (i + 1) ≡ merged_front listed i
  merged_front-again there =
      let xs = name_objects [] (objects_of (take i listed)) in
      let r = (get_or listed i d).object in
      ap (map (merged_on listed))
      (named_more ∙ cond-true (is_named xs r) xs (xs ++ r ∷ []) (sym has_object ∙ there))

  -- another adds its operand
  pub merged_front-more : list_any (λ o. same_range (get_or listed i d).object o.object) (merged_front listed i) ≡ false
      → merged_front listed (i + 1) ≡ merged_front listed i ++ merged_on listed (get_or listed i d).object ∷ []
  merged_front-more fresh =
      let xs = name_objects [] (objects_of (take i listed)) in
      let r = (get_or listed i d).object in
      ap (map (merged_on listed))
      (named_more ∙ cond-false (is_named xs r) xs (xs ++ r ∷ []) (sym has_object ∙ fresh))
      ∙ map_push (merged_on listed) xs r
