-- Named objects: which a list has, and lists of objects of which any two that meet are one.
use Rattle.std.proofs.Common.{◌≡◌, ◌⊎◌, ℕ, zero, suc, Some, ◌+◌, ◌<◌, inl, inr, Bool, true, false, List, [], ◌∷◌, ◌++◌}
use Rattle.std.proofs.Common.{refl, sym, ap, ◌∙◌, arith, nat_le, nat_lt, eq-eqb}
use Rattle.std.specs.Prelude.{cond, ◌==◌, ◌&&◌, ◌||◌, not, max, min, slice_get}
use Rattle.std.specs.List.{list_any}
use Rattle.std.proofs.lemmas.Bool.{and_parts, and_from, or_cases, or_left, or_right, both_ways, eqb-true, leb-true}
use Rattle.std.proofs.lemmas.Bool.{ltb-true, lt-ltb, cases_Bool, not_from_false, false_from_ne_true, or_from, or_parts}
use Rattle.std.proofs.lemmas.List.Folds.{list_any-append}
use Rattle.std.proofs.lemmas.Option.{none-some, same_Some}
use Rattle.tss_base.specs.declared.range.Range.{Range}
use Rattle.tss_base.specs.declared.operand.Operand.{Operand}
use Rattle.tss_base.specs.Range.{end_of, meets}
use Rattle.tss_model.specs.Memory.{covers}
use Rattle.tss_model.specs.Access.{touches}
use Rattle.tss_model.specs.Spawn.{same_range, name_object, name_objects, unnamed, objects_of, overlaps}
use Rattle.tss_program_order.proofs.FlatLoads.{byte_range}

-- ---- equal ranges

-- ranges that the test calls the same are equal
pub same_range-equal : (r s : Range) → same_range r s ≡ true → r ≡ s
same_range-equal r s e =
    let parts = and_parts (r.base == s.base) (r.len == s.len) e in
    let base = eqb-true r.base s.base parts.0 in
    let len = eqb-true r.len s.len parts.1 in
    λ i. record { base = base i; len = len i }

-- a range is the same as itself
pub same_range-refl : (r : Range) → same_range r r ≡ true
same_range-refl r = and_from (r.base == r.base) (r.len == r.len) (eq-eqb r.base r.base refl) (eq-eqb r.len r.len refl)

-- ---- which objects a list has

-- the list has the object
abbrev pub Has : List Range → Range → Type 0
Has named object = list_any (same_range object) named ≡ true

-- what two lists in a row have
Has-append : (xs ys : List Range) (x : Range) → Has (xs ++ ys) x → Has xs x ⊎ Has ys x
Has-append xs ys x has =
    or_cases (list_any (same_range x) xs) (list_any (same_range x) ys)
    (sym (list_any-append (same_range x) xs ys) ∙ has)

-- what the first has
pub Has-left : (xs ys : List Range) (x : Range) → Has xs x → Has (xs ++ ys) x
Has-left xs ys x has =
    list_any-append (same_range x) xs ys ∙ or_left (list_any (same_range x) xs) (list_any (same_range x) ys) has

-- what the second has
pub Has-right : (xs ys : List Range) (x : Range) → Has ys x → Has (xs ++ ys) x
Has-right xs ys x has =
    list_any-append (same_range x) xs ys ∙ or_right (list_any (same_range x) xs) (list_any (same_range x) ys) has

-- what is left of the named objects without the one at a base
pub unnamed-has : (named : List Range) (base : ℕ) (x : Range) → Has (unnamed named base) x → Has named x
unnamed-has [] base x has = has
unnamed-has (y ∷ ys) base x has = by (not (y.base == base)) (unnamed-has ys base x) has
  where
    by : (b : Bool) → (Has (unnamed ys base) x → Has ys x) → Has (cond b (y ∷ unnamed ys base) (unnamed ys base)) x
        → Has (y ∷ ys) x
    by true still has = elim (or_cases (same_range x y) (list_any (same_range x) (unnamed ys base)) has) [
      | inl here ↦ or_left (same_range x y) (list_any (same_range x) ys) here
      | inr there ↦ or_right (same_range x y) (list_any (same_range x) ys) (still there)
    ]
    by false still has = or_right (same_range x y) (list_any (same_range x) ys) (still has)

-- what stands at a place
pub Has-at : (xs : List Range) (k : ℕ) (x : Range) → slice_get xs k ≡ Some x → Has xs x
Has-at [] k x e = absurd (none-some x e)
Has-at (y ∷ xs) zero x e =
    or_left (same_range x y) (list_any (same_range x) xs)
    (ap (same_range x) (same_Some y x e) ∙ same_range-refl x)
Has-at (y ∷ xs) (suc k) x e = or_right (same_range x y) (list_any (same_range x) xs) (Has-at xs k x e)

-- one object is itself
Has-one : (x y : Range) → Has (y ∷ []) x → x ≡ y
Has-one x y has = elim (or_cases (same_range x y) false has) [
  | inl same ↦ same_range-equal x y same
  | inr none ↦ absurd (cc)
]

-- a test that one of them passes is passed by some object of the list
pub any_has : (P : Range → Bool) (xs : List Range) → list_any P xs ≡ true → (x : Range) × Has xs x × (P x ≡ true)
any_has P [] any = absurd (cc)
any_has P (y ∷ xs) any = elim (or_cases (P y) (list_any P xs) any) [
  | inl here ↦ (y, or_left _ _ (same_range-refl y), here)
  | inr later ↦ let rest = any_has P xs later in (rest.0, or_right _ _ rest.1, rest.2)
]

-- and the other way round
has_any : (P : Range → Bool) (xs : List Range) (x : Range) → Has xs x → P x ≡ true → list_any P xs ≡ true
has_any P [] x has passes = absurd (cc)
has_any P (y ∷ xs) x has passes = elim (or_cases (same_range x y) (list_any (same_range x) xs) has) [
  | inl same ↦ or_left _ _ (ap P (sym (same_range-equal x y same)) ∙ passes)
  | inr later ↦ or_right _ _ (has_any P xs x later passes)
]

-- a test of operands' objects, by operands or by objects
pub any_object : (P : Range → Bool) (operands : List Operand)
    → list_any (λ o. P o.object) operands ≡ list_any P (objects_of operands)
any_object P [] = refl
any_object P (o ∷ operands) = ap (λ b. P o.object || b) (any_object P operands)

-- ---- naming

-- what is named was named before, or is the object
name_object-has : (named : List Range) (object x : Range) → Has (name_object named object) x
    → Has named x ⊎ (x ≡ object)
name_object-has named object x has = by (list_any (same_range object) named) has
  where
    by : (b : Bool) → Has (cond b named (named ++ object ∷ [])) x → Has named x ⊎ (x ≡ object)
    by true has = inl has
    by false has = elim (Has-append named (object ∷ []) x has) [
      | inl before ↦ inl before
      | inr last ↦ inr (Has-one x object last)
    ]

-- what was named stays, and the object is named
name_object-keeps : (named : List Range) (object x : Range) → Has named x → Has (name_object named object) x
name_object-keeps named object x has = by (list_any (same_range object) named)
  where
    by : (b : Bool) → Has (cond b named (named ++ object ∷ [])) x
    by true = has
    by false = Has-left named (object ∷ []) x has

-- the object is named
name_object-names : (named : List Range) (object : Range) → Has (name_object named object) object
name_object-names named object = by (list_any (same_range object) named) refl
  where
    by : (b : Bool) → list_any (same_range object) named ≡ b → Has (cond b named (named ++ object ∷ [])) object
    by true e = e
    by false e = Has-right named (object ∷ []) object (or_left _ _ (same_range-refl object))

-- the same for several
pub name_objects-has : (named objects : List Range) (x : Range) → Has (name_objects named objects) x
    → Has named x ⊎ Has objects x
name_objects-has named [] x has = inl has
name_objects-has named (object ∷ objects) x has =
    elim (name_objects-has (name_object named object) objects x has) [
      | inl first ↦ elim (name_object-has named object x first) [
        | inl before ↦ inl before
        | inr same ↦ inr (or_left _ _ (ap (λ y. same_range x y) (sym same) ∙ same_range-refl x))
      ]
      | inr later ↦ inr (or_right _ _ later)
    ]

-- what was named stays
name_objects-keeps : (named objects : List Range) (x : Range) → Has named x → Has (name_objects named objects) x
name_objects-keeps named [] x has = has
name_objects-keeps named (object ∷ objects) x has =
    name_objects-keeps (name_object named object) objects x (name_object-keeps named object x has)

-- and each of them is named
pub name_objects-names : (named objects : List Range) (x : Range) → Has objects x → Has (name_objects named objects) x
name_objects-names named [] x has = absurd (cc)
name_objects-names named (object ∷ objects) x has =
    elim (or_cases (same_range x object) (list_any (same_range x) objects) has) [
      | inl same ↦ name_objects-keeps (name_object named object) objects x
          (ap (λ y. list_any (same_range y) (name_object named object)) (same_range-equal x object same)
          ∙ name_object-names named object)
      | inr later ↦ name_objects-names (name_object named object) objects x later
    ]

-- ---- objects of which any two that meet are one

-- any two of the objects that meet are one
abbrev pub AreApart : List Range → Type 0
AreApart xs = (x y : Range) → Has xs x → Has xs y → meets x y ≡ true → x ≡ y

-- so are the objects of a part
pub AreApart-part : (xs ys : List Range) → ((x : Range) → Has xs x → Has ys x) → AreApart ys → AreApart xs
AreApart-part xs ys part apart x y has also meet = apart x y (part x has) (part y also) meet

meets-sym : (x y : Range) → meets x y ≡ true → meets y x ≡ true
meets-sym x y meet =
    let common : max x.base y.base < min (end_of x) (end_of y) =
    ltb-true (max x.base y.base) (min (end_of x) (end_of y)) meet in
    lt-ltb (max y.base x.base) (min (end_of y) (end_of x)) (omega (arith, common))

-- an object that overlaps none of the named ones is one of them, or meets none
not_overlapped : (named : List Range) (object x : Range) → overlaps named object ≡ false → Has named x
    → meets x object ≡ true → x ≡ object
not_overlapped named object x none has meet = elim (cases_Bool (same_range x object)) [
  | inl same ↦ same_range-equal x object same
  | inr other ↦
      let passes = and_from (meets x object) (not (same_range x object)) meet
      (not_from_false (same_range x object) other) in
      absurd (both_ways (overlaps named object) none
      (has_any (λ n. meets n object && not (same_range n object)) named x has passes))
]

-- and can be added to them
pub AreApart-more : (named : List Range) (object : Range) → AreApart named → overlaps named object ≡ false
    → AreApart (named ++ object ∷ [])
AreApart-more named object apart none x y has also meet =
    elim (Has-append named (object ∷ []) x has) [
      | inl before ↦ elim (Has-append named (object ∷ []) y also) [
        | inl too ↦ apart x y before too meet
        | inr last ↦
            let is = Has-one y object last in
            not_overlapped named object x none before (ap (λ z. meets x z) (sym is) ∙ meet) ∙ sym is
      ]
      | inr last ↦ elim (Has-append named (object ∷ []) y also) [
        | inl before ↦
            let is = Has-one x object last in
            is ∙ sym (not_overlapped named object y none before (ap (λ z. meets y z) (sym is) ∙ meets-sym x y meet))
        | inr too ↦ Has-one x object last ∙ sym (Has-one y object too)
      ]
    ]

-- ---- addresses

-- two objects that cover an address meet
pub covers-meet : (x y : Range) (a : ℕ) → covers x a ≡ true → covers y a ≡ true → meets x y ≡ true
covers-meet x y a in_x in_y =
    let p = and_parts (nat_le x.base a) (nat_lt a (end_of x)) in_x in
    let q = and_parts (nat_le y.base a) (nat_lt a (end_of y)) in_y in
    let low = leb-true x.base a p.0 in
    let high = ltb-true a (end_of x) p.1 in
    let from = leb-true y.base a q.0 in
    let to = ltb-true a (end_of y) q.1 in
    lt-ltb (max x.base y.base) (min (end_of x) (end_of y)) (omega (arith, low, high, from, to))

-- an address of a named object is touched
pub covers-touch : (named : List Range) (x : Range) (a : ℕ) → Has named x → covers x a ≡ true
    → touches named (byte_range a) ≡ true
covers-touch named x a has inside =
    let p = and_parts (nat_le x.base a) (nat_lt a (end_of x)) inside in
    let low = leb-true x.base a p.0 in
    let high = ltb-true a (end_of x) p.1 in
    has_any (λ n. meets n (byte_range a)) named x has
    (lt-ltb (max x.base a) (min (end_of x) (a + 1)) (omega (arith, low, high)))

-- ---- each object once

-- no object stands twice in the list
abbrev pub AreOnce : List Range → Type 0
AreOnce [] = Unit {0}
AreOnce (x ∷ xs) = (list_any (same_range x) xs ≡ false) × AreOnce xs

-- one that the list doesn't have can stand behind it
absent_push : (x y : Range) (xs : List Range) → list_any (same_range x) xs ≡ false → same_range y x ≡ false
    → list_any (same_range x) (xs ++ y ∷ []) ≡ false
absent_push x y xs absent apart =
    list_any-append (same_range x) xs (y ∷ [])
    ∙ or_from (list_any (same_range x) xs) (same_range x y || false) absent
    (or_from (same_range x y) false
    (false_from_ne_true (same_range x y) (λ same.
    both_ways (same_range y x) apart
    (ap (λ z. same_range z x) (sym (same_range-equal x y same)) ∙ same_range-refl x))) refl)

AreOnce-push : (xs : List Range) (y : Range) → AreOnce xs → list_any (same_range y) xs ≡ false → AreOnce (xs ++ y ∷ [])
AreOnce-push [] y once absent = (refl, tt)
AreOnce-push (x ∷ xs) y once absent =
    let parts = or_parts (same_range y x) (list_any (same_range y) xs) absent in
    (absent_push x y xs once.0 parts.0, AreOnce-push xs y once.1 parts.1)

-- naming keeps it so
name_object-once : (named : List Range) (object : Range) → AreOnce named → AreOnce (name_object named object)
name_object-once named object once = by (list_any (same_range object) named) refl
  where
    by : (b : Bool) → list_any (same_range object) named ≡ b → AreOnce (cond b named (named ++ object ∷ []))
    by true e = once
    by false e = AreOnce-push named object once e

-- also of several
pub name_objects-once : (named objects : List Range) → AreOnce named → AreOnce (name_objects named objects)
name_objects-once named [] once = once
name_objects-once named (object ∷ objects) once =
    name_objects-once (name_object named object) objects (name_object-once named object once)

-- so that one object stands at one place
pub AreOnce-at : (xs : List Range) (j k : ℕ) (x : Range) → AreOnce xs → slice_get xs j ≡ Some x
    → slice_get xs k ≡ Some x → j ≡ k
AreOnce-at [] j k x once e d = absurd (none-some x e)
AreOnce-at (y ∷ xs) zero zero x once e d = refl
AreOnce-at (y ∷ xs) zero (suc k) x once e d =
    absurd (both_ways (list_any (same_range y) xs) once.0 (Has-at xs k y (d ∙ ap Some (sym (same_Some y x e)))))
AreOnce-at (y ∷ xs) (suc j) zero x once e d =
    absurd (both_ways (list_any (same_range y) xs) once.0 (Has-at xs j y (e ∙ ap Some (sym (same_Some y x d)))))
AreOnce-at (y ∷ xs) (suc j) (suc k) x once e d = ap suc (AreOnce-at xs j k x once.1 e d)
