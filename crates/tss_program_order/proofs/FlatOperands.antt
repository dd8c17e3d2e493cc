-- The operands of an accepted spawn: each lies in memory, which can be written where the operand is, has bytes and not
-- too many, and is known by its object.
use Rattle.std.proofs.Common.{◌≡◌, ℕ, zero, suc, ◌<◌, ◌≤◌, inl, inr, Bool, true, false, Option, Some, None, List, []}
use Rattle.std.proofs.Common.{◌∷◌, ◌++◌, refl, sym, ap, subst, ◌∙◌, arith, nat_lt}
use Rattle.std.specs.Prelude.{cond, if◌then◌else◌, slice_get, filter, ◌==◌, ◌%◌, ◌&&◌, ◌||◌, option_map}
use Rattle.std.specs.List.{list_any, list_all}
use Rattle.std.proofs.lemmas.Bool.{and_parts, and_from, and_cases, not_from_false, or_parts, or_cases, or_left}
use Rattle.std.proofs.lemmas.Bool.{or_right, both_ways, cases_Bool, ltb-false, eqb-true}
use Rattle.std.proofs.lemmas.Option.{same_Some, slice_get-map}
use Rattle.tss_base.specs.declared.range.Range.{Range}
use Rattle.tss_base.specs.declared.operand.Mode.{Mode}
use Rattle.tss_base.specs.declared.operand.Mode.TheVariants.{Input, Output, Inout}
use Rattle.tss_base.specs.declared.operand.Operand.{Operand}
use Rattle.tss_base.specs.declared.operand.Task.{Task}
use Rattle.tss_base.specs.declared.machine.Limits.{Limits}
use Rattle.tss_model.specs.Memory.{MemoryRange, Memory, range_of}
use Rattle.tss_model.specs.Access.{operands_of, writes}
use Rattle.tss_model.specs.Spawn.{same_range, name_objects, objects_of, is_outside, is_input, is_output, merged_mode}
use Rattle.tss_model.specs.Spawn.{merged_on}
use Rattle.tss_program_order.proofs.FlatRanges.{some_mapped}
use Rattle.tss_program_order.proofs.FlatNames.{AreOnce, AreOnce-at, name_objects-once, Has, Has-at, any_object}
use Rattle.tss_program_order.proofs.FlatNames.{same_range-equal, name_objects-has}
use Rattle.tss_program_order.proofs.FlatEpoch.{IsChecked, AreChecked, IsSpawned, spawned-objects}

-- ---- what the checks say of an operand

-- an operand as it may be
pub record IsFit (limits : Limits) (ranges : List MemoryRange) (o : Operand) : Type 0 where
  pub some : 0 < o.object.len
  pub short : o.object.len ≤ limits.object_bytes
  pub aligned : o.object.base % 4 ≡ 0
  pub writable : Bool
  pub placed : range_of ranges o.object ≡ Some writable
  pub written : writes o.mode ≡ true → writable ≡ true

outside_parts : (mode : Mode) (within : Option Bool) → is_outside mode within ≡ false
    → (w : Bool) × (within ≡ Some w) × (writes mode ≡ true → w ≡ true)
outside_parts mode None e = absurd (cc)
outside_parts mode (Some true) e = (true, refl, λ h. refl)
outside_parts mode (Some false) e = (false, refl, λ h. absurd (both_ways (writes mode && true) e (and_from _ _ h refl)))

some_length : (n : ℕ) → (n == 0) ≡ false → 0 < n
some_length zero e = absurd (cc)
some_length (suc n) e = omega arith

-- an operand that passed its checks is fit
checked_fit : (limits : Limits) (m : Memory) (named : List Range) (o : Operand) → IsChecked limits m named o
    → IsFit limits m.ranges o
checked_fit limits m named o checked =
    let lengths = or_parts (o.object.len == 0) (nat_lt limits.object_bytes o.object.len) checked.length in
    let place = outside_parts o.mode (range_of m.ranges o.object) checked.placed in
    record {
      some = some_length o.object.len lengths.0;
      short = ltb-false limits.object_bytes o.object.len lengths.1;
      aligned = eqb-true (o.object.base % 4) 0 checked.base;
      writable = place.0;
      placed = place.1;
      written = place.2;
    }

-- ---- listed operands

-- a listed operand that passes a test is fit
listed_fit : (limits : Limits) (m : Memory) (named : List Range) (os : List Operand) (P : Operand → Bool)
    → AreChecked limits m named os → list_any P os ≡ true
    → (o : Operand) × (P o ≡ true) × IsFit limits m.ranges o
listed_fit limits m named [] P checked any = absurd (cc)
listed_fit limits m named (o ∷ os) P checked any = elim (or_cases (P o) (list_any P os) any) [
  | inl here ↦ (o, here, checked_fit limits m named o checked.0)
  | inr later ↦ listed_fit limits m (named ++ o.object ∷ []) os P checked.1 later
]

-- ---- merged operands

input_or : (a c : Bool) → writes (if a then Input else if c then Output else Inout) ≡ true → a ≡ false
input_or true c e = absurd (cc)
input_or false c e = refl

merged_writes : (os : List Operand) → writes (merged_mode os) ≡ true → list_all is_input os ≡ false
merged_writes os w = input_or (list_all is_input os) (list_all is_output os) w

-- where one of a list isn't an input, one is written
one_written : (b y : Bool) (o : Operand) (os : List Operand) → (list_all is_input os ≡ false → y ≡ true)
    → list_all is_input (cond b (o ∷ os) os) ≡ false → ((b && writes o.mode) || y) ≡ true
one_written false y o os rest all = rest all
one_written true y o os rest all = elim (cases_Bool (writes o.mode)) [
  | inl written ↦ or_left (writes o.mode) y written
  | inr read ↦ or_right (writes o.mode) y (rest (elim (and_cases (is_input o) (list_all is_input os) all) [
    | inl none ↦ absurd (both_ways (is_input o) none (not_from_false (writes o.mode) read))
    | inr later ↦ later
  ]))
]

some_written : (p : Operand → Bool) (os : List Operand) → list_all is_input (filter p os) ≡ false
    → list_any (λ o. p o && writes o.mode) os ≡ true
some_written p [] e = absurd (cc)
some_written p (o ∷ os) e =
    one_written (p o) (list_any (λ o. p o && writes o.mode) os) o (filter p os) (some_written p os) e

-- an operand with the object of another, and with modes that are fit where they are written
fit_as : (limits : Limits) (ranges : List MemoryRange) (o l : Operand) → o.object ≡ l.object → IsFit limits ranges l
    → (writes o.mode ≡ true → (q : Operand) × (q.object ≡ o.object) × (writes q.mode ≡ true) × IsFit limits ranges q)
    → IsFit limits ranges o
fit_as limits ranges o l same fit written = record {
  some = subst (λ (r : Range). 0 < r.len) (sym same) fit.some;
  short = subst (λ (r : Range). r.len ≤ limits.object_bytes) (sym same) fit.short;
  aligned = ap (λ (r : Range). r.base % 4) same ∙ fit.aligned;
  writable = fit.writable;
  placed = ap (range_of ranges) same ∙ fit.placed;
  written = λ w.
      let q = written w in
      same_Some fit.writable true
      (sym fit.placed ∙ ap (range_of ranges) (sym same ∙ sym q.1) ∙ q.3.placed ∙ ap Some (q.3.written q.2));
}

module _ (limits : Limits) (m : Memory) (named : List Range) (t : Task) (spawn : IsSpawned limits m named t) where
  -- a listed operand on the object
  listed_on : (x : Range) → Has (objects_of spawn.listed) x
      → (l : Operand) × (same_range x l.object ≡ true) × IsFit limits m.ranges l
  listed_on x has =
      listed_fit limits m named spawn.listed (λ o. same_range x o.object) spawn.checked
      (any_object (same_range x) spawn.listed ∙ has)

  -- one that is written, where the merged operand is
  written_on : (x : Range) → writes (merged_mode (filter (λ o. same_range o.object x) spawn.listed)) ≡ true
      → (q : Operand) × (q.object ≡ x) × (writes q.mode ≡ true) × IsFit limits m.ranges q
  written_on x w =
      let found = listed_fit limits m named spawn.listed (λ o. same_range o.object x && writes o.mode) spawn.checked
      (some_written (λ o. same_range o.object x) spawn.listed
      (merged_writes (filter (λ o. same_range o.object x) spawn.listed) w)) in
      let parts = and_parts (same_range (found.0).object x) (writes (found.0).mode) found.1 in
      (found.0, same_range-equal (found.0).object x parts.0, parts.1, found.2)

  -- each of its operands is fit
  pub spawned-fit : (k : ℕ) (o : Operand) → slice_get (operands_of t) k ≡ Some o → IsFit limits m.ranges o
  spawned-fit k o at =
      let x = some_mapped (merged_on spawn.listed) (slice_get (name_objects [] (objects_of spawn.listed)) k) o
      (sym (slice_get-map (merged_on spawn.listed) (name_objects [] (objects_of spawn.listed)) k)
      ∙ ap (λ (os : List Operand). slice_get os k) (sym spawn.operands) ∙ at) in
      let listed = elim (name_objects-has [] (objects_of spawn.listed) x.0
      (Has-at (name_objects [] (objects_of spawn.listed)) k x.0 x.1)) as (λ h. Has (objects_of spawn.listed) x.0) [
        | inl none ↦ absurd (cc)
        | inr has ↦ has
      ] in
      let l = listed_on x.0 listed in
      subst (IsFit limits m.ranges) x.2
      (fit_as limits m.ranges (merged_on spawn.listed x.0) l.0 (same_range-equal x.0 (l.0).object l.1) l.2
      (written_on x.0))

  -- no object stands at two places
  spawned-once : AreOnce (objects_of (operands_of t))
  spawned-once =
      subst AreOnce (sym (spawned-objects limits m named t spawn))
      (name_objects-once [] (objects_of spawn.listed) tt)

  object_at : (k : ℕ) (o : Operand) → slice_get (operands_of t) k ≡ Some o
      → slice_get (objects_of (operands_of t)) k ≡ Some o.object
  object_at k o at = slice_get-map (λ (o : Operand). o.object) (operands_of t) k ∙ ap (option_map (λ o. o.object)) at

  -- so an operand is known by its object
  pub spawned-single : (j k : ℕ) (o q : Operand) → slice_get (operands_of t) j ≡ Some o
      → slice_get (operands_of t) k ≡ Some q → o.object ≡ q.object → j ≡ k
  spawned-single j k o q at there same =
      AreOnce-at (objects_of (operands_of t)) j k q.object spawned-once (object_at j o at ∙ ap Some same)
      (object_at k q there)
