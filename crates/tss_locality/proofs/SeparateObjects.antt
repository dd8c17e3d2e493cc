-- Objects that main has named share no address unless they are one, and so do those of a task that it spawns.
use Rattle.std.proofs.Common.{◌≡◌, ◌≢◌, ℕ, ◌<◌, Bool, true, false, cond, List, [], ◌∷◌, ◌++◌, Option, Some, None, refl}
use Rattle.std.proofs.Common.{sym, ap, ◌∙◌, subst, inl, inr, ◌⊎◌, append-nil, arith, true≢false}
use Rattle.std.specs.Prelude.{◌%◌, ◌==◌, ◌&&◌, not, nat_lt, max, min, Result, Ok, Err}
use Rattle.std.specs.List.{list_any}
use Rattle.std.proofs.lemmas.Bool.{and_parts, and_from, or_parts, or_cases}
use Rattle.std.proofs.lemmas.Bool.Decides.{nat_tests}
use Rattle.std.proofs.lemmas.Option.{none-some, same_Some}
use Rattle.std.proofs.Math.Seq.{append_snoc}
use Rattle.tss_base.specs.declared.range.Range.{Range}
use Rattle.tss_base.specs.declared.operand.Mode.{Mode}
use Rattle.tss_base.specs.declared.operand.Operand.{Operand}
use Rattle.tss_base.specs.declared.machine.Limits.{Limits}
use Rattle.tss_base.specs.Range.{end_of, meets}
use Rattle.tss_model.specs.Memory.{Memory, range_of}
use Rattle.tss_base.specs.declared.refusals.TheConstants.{BAD_MODE, BAD_LENGTH, BAD_BASE, OBJECT_OUTSIDE, OVERLAP}
use Rattle.tss_model.specs.Spawn.{Entry, same_range, name_object, name_objects, named_at, unnamed, objects_of}
use Rattle.tss_model.specs.Spawn.{is_bad_length, is_outside, overlaps, mode_of, mode_checked, entry_checked}
use Rattle.tss_model.specs.Spawn.{after_first, with_rest, entries_checked}
use Rattle.tss_locality.specs.Rounds.{IsIn, AreSeparate}

-- ---- members

-- a member of the first of two lists
pub in_front : (x : Range) (xs ys : List Range) → IsIn x xs → IsIn x (xs ++ ys)
in_front x [] ys h = absurd h
in_front x (y ∷ xs) ys (inl h) = inl h
in_front x (y ∷ xs) ys (inr h) = inr (in_front x xs ys h)

-- or of the second
pub in_back : (x : Range) (xs ys : List Range) → IsIn x ys → IsIn x (xs ++ ys)
in_back x [] ys h = h
in_back x (y ∷ xs) ys h = inr (in_back x xs ys h)

in_either : (x : Range) (xs ys : List Range) → IsIn x (xs ++ ys) → IsIn x xs ⊎ IsIn x ys
in_either x [] ys h = inr h
in_either x (y ∷ xs) ys (inl h) = inl (inl h)
in_either x (y ∷ xs) ys (inr h) = elim (in_either x xs ys h) [
  | inl front ↦ inl (inr front)
  | inr back ↦ inr back
]

-- ---- ranges

-- a test that passes
same_from_test : (r s : Range) → same_range r s ≡ true → r ≡ s
same_from_test r s e =
    let parts = and_parts (r.base == s.base) (r.len == s.len) e in
    let base : r.base ≡ s.base = number_from_test r.base s.base parts.0 in
    let len : r.len ≡ s.len = number_from_test r.len s.len parts.1 in
    λ i. record { base = base i; len = len i }
  where
    number_from_test : (a b : ℕ) → (a == b) ≡ true → a ≡ b
    number_from_test a b e = grind (arith, nat_tests)

-- two ranges are equal, or they aren't
pub decide_range : (r s : Range) → (r ≡ s) ⊎ (r ≢ s)
decide_range r s = by (same_range r s) refl
  where
    itself : (a : ℕ) → (a == a) ≡ true
    itself a = grind (arith, nat_tests)

    own : same_range r r ≡ true
    own = and_from (r.base == r.base) (r.len == r.len) (itself r.base) (itself r.len)

    by : (b : Bool) → same_range r s ≡ b → (r ≡ s) ⊎ (r ≢ s)
    by true e = inl (same_from_test r s e)
    by false e = inr (λ same. true≢false (sym own ∙ ap (same_range r) same ∙ e))

meets_turned : (r s : Range) → meets r s ≡ true → meets s r ≡ true
meets_turned r s e = numbers r.base s.base (end_of r) (end_of s) e
  where
    numbers : (a b c d : ℕ) → nat_lt (max a b) (min c d) ≡ true → nat_lt (max b a) (min d c) ≡ true
    numbers a b c d e = grind (arith, nat_tests)

-- what overlaps none of the objects is one of them or shares no address with any
apart_by : (a b : Bool) → (a && not b) ≡ false → a ≡ true → b ≡ true
apart_by true true e f = refl
apart_by true false e f = absurd (cc)
apart_by false b e f = absurd (cc)

separate_from : (named : List Range) (x n : Range) → overlaps named x ≡ false → IsIn n named → meets n x ≡ true → n ≡ x
separate_from [] x n e h met = absurd h
separate_from (y ∷ ys) x n e (inl same) met =
    let parts = or_parts (meets y x && not (same_range y x)) (overlaps ys x) e in
    sym same ∙ same_from_test y x (apart_by (meets y x) (same_range y x) parts.0
    (subst (λ n. meets n x ≡ true) (sym same) met))
separate_from (y ∷ ys) x n e (inr rest) met =
    separate_from ys x n (or_parts (meets y x && not (same_range y x)) (overlaps ys x) e).1 rest met

-- ---- one more object

no_length : (n : ℕ) → (n == 0) ≡ false → 0 < n
no_length n e = grind (arith, nat_tests)

-- an object that has an address and overlaps none of them
separate_more : (named : List Range) (x : Range) → AreSeparate named → (x.len == 0) ≡ false → overlaps named x ≡ false →
    AreSeparate (named ++ x ∷ [])
separate_more named x separate long apart = record {
  some = λ y h. elim (in_either y named (x ∷ []) h) [
    | inl old ↦ separate.some y old
    | inr (inl same) ↦ subst (λ (y : Range). 0 < y.len) same (no_length x.len long)
    | inr (inr none) ↦ absurd none
  ];
  one = λ y z h k met. elim (in_either y named (x ∷ []) h) [
    | inl old ↦ elim (in_either z named (x ∷ []) k) [
      | inl older ↦ separate.one y z old older met
      | inr (inl same) ↦ separate_from named x y apart old (subst (λ z. meets y z ≡ true) (sym same) met) ∙ same
      | inr (inr none) ↦ absurd none
    ]
    | inr (inl new) ↦ elim (in_either z named (x ∷ []) k) [
      | inl older ↦
          sym new ∙ sym (separate_from named x z apart older
          (meets_turned x z (subst (λ y. meets y z ≡ true) (sym new) met)))
      | inr (inl same) ↦ sym new ∙ same
      | inr (inr none) ↦ absurd none
    ]
    | inr (inr none) ↦ absurd none
  ];
}

-- ---- the operand list

-- an operand that passes its checks
record PassesChecks (named : List Range) (x : Range) (o : Operand) : Type 0 where
  object : o.object ≡ x
  long : (x.len == 0) ≡ false
  apart : overlaps named x ≡ false

error_ok : {X : Type 0} (n : ℕ) (x : X) → Err n ≡ Ok x → ⊥
error_ok n x e = cc

same_ok : {X : Type 0} (x y : X) → ◌≡◌ {A = Result X ℕ} (Ok x) (Ok y) → x ≡ y
same_ok x y e = cc

passed_by : (limits : Limits) (named : List Range) (x : Range) (mode : Mode) (o : Operand) (a b c d : Bool) →
    is_bad_length limits x ≡ a → overlaps named x ≡ d →
    cond a (Err BAD_LENGTH) (cond b (Err BAD_BASE) (cond c (Err OBJECT_OUTSIDE) (cond d (Err OVERLAP)
    (Ok (record { object = x; mode = mode }))))) ≡ Ok o → PassesChecks named x o
passed_by limits named x mode o true b c d ea ed e = absurd (error_ok BAD_LENGTH o e)
passed_by limits named x mode o false true c d ea ed e = absurd (error_ok BAD_BASE o e)
passed_by limits named x mode o false false true d ea ed e = absurd (error_ok OBJECT_OUTSIDE o e)
passed_by limits named x mode o false false false true ea ed e = absurd (error_ok OVERLAP o e)
passed_by limits named x mode o false false false false ea ed e = record {
  object = ap (λ (o : Operand). o.object) (sym (same_ok (record { object = x; mode = mode }) o e));
  long = (or_parts (x.len == 0) (nat_lt limits.object_bytes x.len) ea).0;
  apart = ed;
}

passed : (limits : Limits) (m : Memory) (named : List Range) (x : Range) (mode : Option Mode) (o : Operand) →
    mode_checked limits m named x mode ≡ Ok o → PassesChecks named x o
passed limits m named x None o e = absurd (error_ok BAD_MODE o e)
passed limits m named x (Some mode) o e =
    passed_by limits named x mode o (is_bad_length limits x) (not (x.base % 4 == 0))
    (is_outside mode (range_of m.ranges x)) (overlaps named x) refl refl e

module _ (limits : Limits) (m : Memory) where
  -- what the rest of a list gives
  abbrev GivesSeparate : List Entry → Type 0
  GivesSeparate es = (named : List Range) (os : List Operand) → AreSeparate named →
      entries_checked limits m named es ≡ Ok os →
      AreSeparate (named ++ objects_of os)

  behind_first : (es : List Entry) → GivesSeparate es → (named : List Range) (o : Operand) (os : List Operand) →
      AreSeparate (named ++ o.object ∷ []) → (r : Result (List Operand) ℕ) →
      entries_checked limits m (named ++ o.object ∷ []) es ≡ r → after_first o r ≡ Ok os → AreSeparate
      (named ++ objects_of os)
  behind_first es rest named o os separate (Err n) there e = absurd (error_ok n os e)
  behind_first es rest named o os separate (Ok qs) there e =
      subst (λ os. AreSeparate (named ++ objects_of os)) (same_ok (o ∷ qs) os e)
      (subst AreSeparate (append_snoc named o.object (objects_of qs)) (rest (named ++ o.object ∷ []) qs separate there))

  at_first : (x : Entry) (es : List Entry) → GivesSeparate es → (named : List Range) (os : List Operand) →
      AreSeparate named →
      (r : Result Operand ℕ) → entry_checked limits m named x ≡ r →
      with_rest r (λ o. entries_checked limits m (named ++ o.object ∷ []) es) ≡ Ok os → AreSeparate
      (named ++ objects_of os)
  at_first x es rest named os separate (Err n) there e = absurd (error_ok n os e)
  at_first x es rest named os separate (Ok o) there e =
      let p = passed limits m named x.object (mode_of x.mode) o there in
      behind_first es rest named o os
      (subst (λ y. AreSeparate (named ++ y ∷ [])) (sym p.object) (separate_more named x.object separate p.long p.apart))
      (entries_checked limits m (named ++ o.object ∷ []) es) refl e

  -- the objects of a list that passes its checks are separate from those that are named
  pub separate_listed : (es : List Entry) → GivesSeparate es
  unfolding entries_checked
  separate_listed [] named os separate e =
      subst (λ os. AreSeparate (named ++ objects_of os)) (same_ok [] os e)
      (subst AreSeparate (sym (append-nil named)) separate)
  separate_listed (x ∷ es) named os separate e =
      at_first x es (separate_listed es) named os separate (entry_checked limits m named x) refl e

-- ---- naming

-- what is named is an old name or the new one
named_once : (x y : Range) (named : List Range) (b : Bool) → IsIn y (cond b named (named ++ x ∷ [])) →
    IsIn y named ⊎ (x ≡ y)
named_once x y named true h = inl h
named_once x y named false h = elim (in_either y named (x ∷ []) h) [
  | inl old ↦ inl old
  | inr (inl same) ↦ inr same
  | inr (inr none) ↦ absurd none
]

-- what is named after these is an old name or one of these
pub from_named : (y : Range) (named xs : List Range) → IsIn y (name_objects named xs) → IsIn y named ⊎ IsIn y xs
from_named y named [] h = inl h
from_named y named (x ∷ xs) h = elim (from_named y (name_object named x) xs h) [
  | inl before ↦ elim (named_once x y named (list_any (same_range x) named) before) [
    | inl old ↦ inl old
    | inr same ↦ inr (inl same)
  ]
  | inr rest ↦ inr (inr rest)
]

still_once : (x y : Range) (named : List Range) (b : Bool) → IsIn y named → IsIn y (cond b named (named ++ x ∷ []))
still_once x y named true h = h
still_once x y named false h = in_front y named (x ∷ []) h

-- an old name is still one
pub still_named : (y : Range) (named xs : List Range) → IsIn y named → IsIn y (name_objects named xs)
still_named y named [] h = h
still_named y named (x ∷ xs) h =
    still_named y (name_object named x) xs (still_once x y named (list_any (same_range x) named) h)

found_same : (x : Range) (named : List Range) → list_any (same_range x) named ≡ true → IsIn x named
found_same x [] e = absurd (cc)
found_same x (y ∷ ys) e = elim (or_cases (same_range x y) (list_any (same_range x) ys) e) [
  | inl here ↦ inl (sym (same_from_test x y here))
  | inr there ↦ inr (found_same x ys there)
]

new_once : (x : Range) (named : List Range) (b : Bool) → list_any (same_range x) named ≡ b →
    IsIn x (cond b named (named ++ x ∷ []))
new_once x named true e = found_same x named e
new_once x named false e = in_back x named (x ∷ []) (inl refl)

-- and each of these is one
pub newly_named : (y : Range) (named xs : List Range) → IsIn y xs → IsIn y (name_objects named xs)
newly_named y named [] h = absurd h
newly_named y named (x ∷ xs) (inl same) =
    subst (λ y. IsIn y (name_objects (name_object named x) xs)) same
    (still_named x (name_object named x) xs (new_once x named (list_any (same_range x) named) refl))
newly_named y named (x ∷ xs) (inr rest) = newly_named y (name_object named x) xs rest

-- fewer objects are separate too
pub separate_fewer : (xs ys : List Range) → ((x : Range) → IsIn x ys → IsIn x xs) → AreSeparate xs → AreSeparate ys
separate_fewer xs ys less separate = record {
  some = λ x h. separate.some x (less x h);
  one = λ x y h k met. separate.one x y (less x h) (less y k) met;
}

-- ---- an await

-- the object at a base is one of those that are named, and has the base
pub found_at : (named : List Range) (base : ℕ) (x : Range) → named_at named base ≡ Some x
    → IsIn x named × (x.base ≡ base)
found_at [] base x e = absurd (none-some x e)
found_at (y ∷ ys) base x e = by (y.base == base) refl (found_at ys base x) e
  where
    by : (b : Bool) → (y.base == base) ≡ b → (named_at ys base ≡ Some x → IsIn x ys × (x.base ≡ base))
        → cond b (Some y) (named_at ys base) ≡ Some x → IsIn x (y ∷ ys) × (x.base ≡ base)
    by true test rest e =
        let same = same_Some y x e in
        let base_is : y.base ≡ base = grind (arith, nat_tests, test) in
        (inl same, ap (λ (r : Range). r.base) (sym same) ∙ base_is)
    by false test rest e = let r = rest e in (inr r.0, r.1)

-- what is left was there
pub left_named : (named : List Range) (base : ℕ) (y : Range) → IsIn y (unnamed named base) → IsIn y named
left_named [] base y h = h
left_named (x ∷ xs) base y h = by (not (x.base == base)) (left_named xs base y) h
  where
    by : (b : Bool) → (IsIn y (unnamed xs base) → IsIn y xs)
        → IsIn y (cond b (x ∷ unnamed xs base) (unnamed xs base)) → IsIn y (x ∷ xs)
    by true still (inl same) = inl same
    by true still (inr rest) = inr (still rest)
    by false still rest = inr (still rest)

-- and what has another base is left
pub still_left : (named : List Range) (base : ℕ) (y : Range) → y.base ≢ base → IsIn y named
    → IsIn y (unnamed named base)
still_left [] base y other h = h
still_left (x ∷ xs) base y other (inl same) =
    let test : not (x.base == base) ≡ true = passes in
    subst (λ b. IsIn y (cond b (x ∷ unnamed xs base) (unnamed xs base))) (sym test) (inl same)
  where
    passes : not (x.base == base) ≡ true
    passes = by (x.base == base) refl
      where
        by : (b : Bool) → (x.base == base) ≡ b → not b ≡ true
        by true e = let is : x.base ≡ base = grind (arith, nat_tests, e) in
            absurd (other (ap (λ (r : Range). r.base) (sym same) ∙ is))
        by false e = refl
still_left (x ∷ xs) base y other (inr rest) =
    kept (not (x.base == base)) (still_left xs base y other rest)
  where
    kept : (b : Bool) → IsIn y (unnamed xs base) → IsIn y (cond b (x ∷ unnamed xs base) (unnamed xs base))
    kept true h = inr h
    kept false h = h
