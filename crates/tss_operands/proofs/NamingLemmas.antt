-- Naming: what holds of the objects after one, or several, are named.
use Rattle.std.proofs.Common.{◌≡◌, ℕ, ◌+◌, ◌<◌, ◌≤◌, inl, inr, Bool, true, false, ◌&&◌, ◌||◌, not, List, [], ◌∷◌, ◌++◌, length, take, drop, get_or, refl, sym, ap, ◌∙◌, subst, arith}
use Rattle.std.specs.List.{list_any}
use Rattle.std.proofs.lemmas.Bool.{cases_Bool, cond-true, cond-false, or_parts, or_from, or_right}
use Rattle.std.proofs.lemmas.List.{append-nil, length_push, take-append-drop, take_more, length-map, get_or-map}
use Rattle.std.proofs.lemmas.List.Folds.{Any-from_list_any, list_any-append, list_any_at}
use Rattle.tss_base.specs.declared.range.Range.{Range}
use Rattle.tss_base.specs.declared.operand.Operand.{Operand}
use Rattle.tss_base.specs.Range.{meets}
use Rattle.tss_model.specs.Spawn.{same_range, name_object, name_objects, objects_of}
use Rattle.tss_operands.specs.Naming.{CanName, CanNameAll, is_named}
use Rattle.tss_operands.proofs.PlacedLemmas.{same_range-true}

-- ---- one object

-- a test of two parts, the second false
or-false : (b : Bool) → (b || false) ≡ b
or-false true = refl
or-false false = refl

-- an object that is named passes a test only if a named one does
passes_named : (p : Range → Bool) (named : List Range) (r : Range) → is_named named r ≡ true → p r ≡ true
    → list_any p named ≡ true
passes_named p named r there passes =
    let (k, n, within, read, one) = Any-from_list_any (same_range r) named there in
    list_any_at p named k n within (ap p (read ∙ sym (same_range-true r n one)) ∙ passes)

-- a test of the objects with one more
list_any-name_object : (p : Range → Bool) (named : List Range) (r : Range)
    → list_any p (name_object named r) ≡ (list_any p named || p r)
list_any-name_object p named r =
    elim (cases_Bool (is_named named r)) [
      | inl there ↦ ap (list_any p) (cond-true (is_named named r) named (named ++ r ∷ []) there)
          ∙ elim (cases_Bool (p r)) [
            | inl passes ↦ passes_named p named r there passes ∙ sym (or_right (list_any p named) (p r) passes)
            | inr fails ↦ sym (ap (λ b. list_any p named || b) fails ∙ or-false (list_any p named))
          ]
      | inr fresh ↦ ap (list_any p) (cond-false (is_named named r) named (named ++ r ∷ []) fresh)
          ∙ list_any-append p named (r ∷ [])
          ∙ ap (λ b. list_any p named || b) (or-false (p r))
    ]

-- there is one more where it wasn't named
length-name_object : (named : List Range) (r : Range) → is_named named r ≡ false
    → length (name_object named r) ≡ length named + 1
length-name_object named r fresh =
    ap length (cond-false (is_named named r) named (named ++ r ∷ []) fresh) ∙ length_push named r

-- there aren't fewer
more_named : (named : List Range) (r : Range) → length named ≤ length (name_object named r)
more_named named r =
    elim (cases_Bool (is_named named r)) [
      | inl there ↦ let e = ap length (cond-true (is_named named r) named (named ++ r ∷ []) there) in omega arith
      | inr fresh ↦ let e = length-name_object named r fresh in omega arith
    ]

-- ---- several objects

-- some, and then others
pub name_objects-append : (named xs ys : List Range)
    → name_objects named (xs ++ ys) ≡ name_objects (name_objects named xs) ys
name_objects-append named [] ys = refl
name_objects-append named (x ∷ xs) ys = name_objects-append (name_object named x) xs ys

-- a test of the objects with these as well
pub list_any-name_objects : (p : Range → Bool) (named xs : List Range)
    → list_any p (name_objects named xs) ≡ list_any p (named ++ xs)
list_any-name_objects p named [] = sym (ap (list_any p) (append-nil named))
list_any-name_objects p named (x ∷ xs) =
    list_any-name_objects p (name_object named x) xs
    ∙ list_any-append p (name_object named x) xs
    ∙ ap (λ b. b || list_any p xs) (list_any-name_object p named x)
    ∙ or_assoc (list_any p named) (p x) (list_any p xs)
    ∙ sym (list_any-append p named (x ∷ xs))
  where
    or_assoc : (a b c : Bool) → ((a || b) || c) ≡ (a || (b || c))
    or_assoc true b c = refl
    or_assoc false b c = refl

-- there aren't fewer
pub more_named_all : (named xs : List Range) → length named ≤ length (name_objects named xs)
more_named_all named [] = omega arith
more_named_all named (x ∷ xs) = omega (arith, more_named named x, more_named_all (name_object named x) xs)

-- a front of the list leaves no more named than the whole
fewer_by_front : (named xs : List Range) (i : ℕ)
    → length (name_objects named (take i xs)) ≤ length (name_objects named xs)
fewer_by_front named xs i =
    let e = ap (λ ys. length (name_objects named ys)) (take-append-drop i xs) in
    let f = ap length (name_objects-append named (take i xs) (drop i xs)) in
    omega (arith, more_named_all (name_objects named (take i xs)) (drop i xs))

-- no element of a front passes a test that none passes
none_in_front : (p : Range → Bool) (named xs : List Range) (i : ℕ) → list_any p (named ++ xs) ≡ false
    → list_any p (named ++ take i xs) ≡ false
none_in_front p named xs i none =
    let parts = or_parts _ _ (sym (list_any-append p named xs) ∙ none) in
    let halves = or_parts _ _
    (sym (list_any-append p (take i xs) (drop i xs)) ∙ ap (list_any p) (take-append-drop i xs) ∙ parts.1) in
    list_any-append p named (take i xs) ∙ or_from _ _ parts.0 halves.0

module _ (limit : ℕ) (named xs : List Range) (all : CanNameAll limit named xs) (i : ℕ) (d : Range) (within : i < length xs) where
  -- one more
  name_objects-more : name_objects named (take (i + 1) xs) ≡ name_object (name_objects named (take i xs)) (get_or xs i d)
  name_objects-more =
      ap (name_objects named) (take_more xs i d within) ∙ name_objects-append named (take i xs) (get_or xs i d ∷ [])

  -- objects that can all be named can be named one after the other
  CanName-next : CanName (record { limit = limit; objects = name_objects named (take i xs) }) (get_or xs i d)
  CanName-next =
      let x = get_or xs i d in
      let test : Range → Bool = λ n. meets n x && not (same_range n x) in
      record {
        some = all.some i d within;
        apart = list_any-name_objects test named (take i xs) ∙ none_in_front test named xs i (all.apart i d within);
        room = λ fresh.
            let e = length-name_object (name_objects named (take i xs)) x fresh in
            let f = ap length name_objects-more in
            omega (arith, fewer_by_front named xs (i + 1), all.room);
      }

-- the same of the objects of operands
module _ (limit : ℕ) (named : List Range) (os : List Operand) (all : CanNameAll limit named (objects_of os)) (i : ℕ)
    (d : Operand) (within : i < length os) where
  inside : i < length (objects_of os)
  inside = omega (arith, length-map os (λ o. o.object))

  read : get_or (objects_of os) i d.object ≡ (get_or os i d).object
  read = get_or-map (λ o. o.object) os i d d.object within

  pub name_objects-operand : name_objects named (take (i + 1) (objects_of os))
      ≡ name_object (name_objects named (take i (objects_of os))) (get_or os i d).object
  name_objects-operand =
      name_objects-more limit named (objects_of os) all i d.object inside
      ∙ ap (name_object (name_objects named (take i (objects_of os)))) read

  pub CanName-operand : CanName (record { limit = limit; objects = name_objects named (take i (objects_of os)) })
      (get_or os i d).object
  CanName-operand =
      subst (CanName (record { limit = limit; objects = name_objects named (take i (objects_of os)) })) read
      (CanName-next limit named (objects_of os) all i d.object inside)
