-- Memory that can't be written: no address of it lies in memory that can, and in program order it stays as loaded.
use Rattle.std.proofs.Common.{◌≡◌, ℕ, zero, suc, ◌<◌, ◌≤◌, inl, inr, Bool, true, false, Option, Some, None, List, []}
use Rattle.std.proofs.Common.{◌∷◌, length, map, get_or, refl, sym, ap, subst, ◌∙◌, arith}
use Rattle.std.specs.Prelude.{slice_get, AllPairs, find, ◌&&◌}
use Rattle.std.specs.List.{list_any}
use Rattle.std.specs.FinMap.{get}
use Rattle.std.proofs.lemmas.Bool.{and_parts, both_ways, or_cases, cases_order, false_from_ne_true}
use Rattle.std.proofs.lemmas.Option.{same_Some, slice_get_within, get_or_from_slice_get}
use Rattle.std.proofs.lemmas.List.{get_or-map, length-map}
use Rattle.std.proofs.lemmas.List.Elements.{All-get_or, All-map, All-weaker}
use Rattle.std.proofs.lemmas.List.Quantifiers.{all_pairs_push}
use Rattle.tss_base.specs.declared.range.Range.{Range}
use Rattle.tss_base.specs.declared.operand.Operand.{Operand}
use Rattle.tss_base.specs.declared.machine.Limits.{Limits}
use Rattle.tss_base.specs.Image.{ImageState, IsAccepted, IsSegment, segment_end}
use Rattle.tss_base.specs.Range.{end_of, Covers, contains}
use Rattle.tss_maps.proofs.Places.{find_there}
use Rattle.tss_model.specs.Memory.{MemoryRange, range_of, covers, frozen, loaded, memory_range, memory_ranges}
use Rattle.tss_model.specs.Memory.{stack_range}
use Rattle.tss_model.specs.Access.{Stores, Granted, main_answer, writes, operands_of, touches}
use Rattle.tss_model.specs.TaskRun.{repeated}
use Rattle.tss_model.specs.MainStep.{Flat}
use Rattle.tss_model.specs.InOrder.{flat_stepped}
use Rattle.tss_program_order.proofs.FlatRanges.{some_mapped}
use Rattle.tss_program_order.proofs.FlatMain.{NeverStored}
use Rattle.tss_program_order.proofs.FlatTask.{is_written, covers_inside}
use Rattle.tss_program_order.proofs.FlatOrder.{flat_stepped-ranges, flat_stepped-next}
use Rattle.tss_program_order.proofs.FlatStarts.{started_at-step}
use Rattle.tss_program_order.proofs.FlatNaming.{flat_step-byte}
use Rattle.tss_program_order.proofs.FlatOperands.{IsFit}
use Rattle.tss_program_order.proofs.FlatStarted.{started-fit}
use Rattle.tss_program_order.proofs.StoreBytes.{covers_parts}

-- ---- the ranges of memory share no address

-- a relation of each image to each later one
pairs_map : {A B : Type 0} (R : B → B → Type 0) (f : A → B) (xs : List A) → AllPairs (λ x y. R (f x) (f y)) xs
    → AllPairs R (map f xs)
pairs_map R f [] all i j d h within = absurd (omega arith)
pairs_map {A} {B} R f (x ∷ xs) all i j d h within =
    let inside : j < length (x ∷ xs) = omega (arith, length-map (x ∷ xs) f) in
    let both = all i j x h inside in
    let left : R (get_or (map f (x ∷ xs)) i d) (f (get_or (x ∷ xs) j x)) =
    subst (λ (y : B). R y (f (get_or (x ∷ xs) j x))) (sym (get_or-map f (x ∷ xs) i x d (omega arith))) both in
    subst (λ (y : B). R (get_or (map f (x ∷ xs)) i d) y) (sym (get_or-map f (x ∷ xs) j x d inside)) left

-- one ends before the other begins
abbrev EndsBefore : MemoryRange → MemoryRange → Type 0
EndsBefore m n = end_of m.range ≤ n.range.base

module _ (i : ImageState) (accepted : IsAccepted i) where
  below_stack : (k : ℕ) (m : MemoryRange) → k < length (map memory_range i.segments)
      → end_of ((get_or (map memory_range i.segments) k m).range) ≤ stack_range.base
  below_stack k m h =
      All-get_or (λ m. end_of m.range ≤ stack_range.base) (map memory_range i.segments) k m h
      (All-map (λ m. end_of m.range ≤ stack_range.base) memory_range i.segments
      (All-weaker IsSegment (λ s. segment_end s ≤ stack_range.base) (λ s p. omega arith) i.segments accepted.each))

  ranges_ordered : AllPairs EndsBefore (memory_ranges i)
  ranges_ordered =
      all_pairs_push EndsBefore (map memory_range i.segments) (record { range = stack_range; writable = true })
      (pairs_map EndsBefore memory_range i.segments accepted.ordered) below_stack

  before_other : (j k : ℕ) (x y : MemoryRange) → j < k → slice_get (memory_ranges i) j ≡ Some x
      → slice_get (memory_ranges i) k ≡ Some y → EndsBefore x y
  before_other j k x y before at there =
      let pair = ranges_ordered j k x before (slice_get_within (memory_ranges i) k y there) in
      subst (λ (m : MemoryRange). EndsBefore m y) (get_or_from_slice_get (memory_ranges i) j x x at)
      (subst (EndsBefore (get_or (memory_ranges i) j x)) (get_or_from_slice_get (memory_ranges i) k y x there) pair)

  -- an address lies in one of them
  one_range : (j k : ℕ) (x y : MemoryRange) (a : ℕ) → slice_get (memory_ranges i) j ≡ Some x
      → slice_get (memory_ranges i) k ≡ Some y → covers x.range a ≡ true → covers y.range a ≡ true → j ≡ k
  one_range j k x y a at there in_x in_y =
      let p = covers_parts x.range a in_x in
      let q = covers_parts y.range a in_y in
      elim (cases_order j k) [
        | inl same ↦ same
        | inr (inl before) ↦ let apart = before_other j k x y before at there in absurd (omega (arith, apart, p.1, q.0))
        | inr (inr after) ↦ let apart = before_other k j y x after there at in absurd (omega (arith, apart, q.1, p.0))
      ]

-- ---- addresses that can't be written

-- an address lies in memory that can't be written
abbrev pub IsFixed : ImageState → ℕ → Type 0
IsFixed i a = (q : Range) × (range_of (memory_ranges i) q ≡ Some false) × Covers q a

-- the range of memory in which an address of another lies
placed_range : (ranges : List MemoryRange) (r : Range) (a : ℕ) (w : Bool) → range_of ranges r ≡ Some w → Covers r a
    → (k : ℕ) × (x : MemoryRange) × (slice_get ranges k ≡ Some x) × (x.writable ≡ w) × (covers x.range a ≡ true)
placed_range ranges r a w placed covered =
    let m = some_mapped (λ m. m.writable) (find (λ m. contains m.range r) ranges) w placed in
    let there = find_there (λ m. contains m.range r) ranges m.0 m.1 in
    (there.0, m.0, there.1, m.2, covers_inside (m.0).range r a there.2 covered)

-- what an option of a test answers at some place
any_at : {A : Type 0} (P : A → Bool) (xs : List A) → list_any P xs ≡ true
    → (k : ℕ) × (x : A) × (slice_get xs k ≡ Some x) × (P x ≡ true)
any_at P [] any = absurd (cc)
any_at P (y ∷ xs) any = elim (or_cases (P y) (list_any P xs) any) [
  | inl here ↦ (0, y, refl, here)
  | inr later ↦ let rest = any_at P xs later in (suc rest.0, rest.1, rest.2, rest.3)
]

-- main stores only where memory can be written
stored_writable : (within : Option Bool) (touched : Bool) → main_answer Stores within touched ≡ Granted
    → within ≡ Some true
stored_writable None touched e = absurd (cc)
stored_writable (Some true) touched e = refl
stored_writable (Some false) touched e = absurd (cc)

module _ (i : ImageState) (accepted : IsAccepted i) (a : ℕ) (fixed : IsFixed i a) where
  -- no range that can be written has such an address
  pub fixed_apart : (r : Range) → range_of (memory_ranges i) r ≡ Some true → Covers r a → ⊥
  fixed_apart r placed covered =
      let x = placed_range (memory_ranges i) r a true placed covered in
      let y = placed_range (memory_ranges i) fixed.0 a false fixed.1 fixed.2 in
      let same = one_range i accepted x.0 y.0 x.1 y.1 a x.2 y.2 x.4 y.4 in
      let equal = same_Some x.1 y.1 (sym x.2 ∙ ap (slice_get (memory_ranges i)) same ∙ y.2) in
      both_ways (x.1).writable (ap (λ (m : MemoryRange). m.writable) equal ∙ y.3) x.3

  -- main stores none
  pub fixed_unstored : (named : List Range) → NeverStored (memory_ranges i) named a
  fixed_unstored named q granted covered =
      fixed_apart q (stored_writable (range_of (memory_ranges i) q) (touches named q) granted) covered

  -- nor does a task whose operands are fit
  fixed_unwritten : (limits : Limits) (operands : List Operand)
      → ((k : ℕ) (o : Operand) → slice_get operands k ≡ Some o → IsFit limits (memory_ranges i) o)
      → is_written operands a ≡ false
  fixed_unwritten limits operands fit =
      false_from_ne_true (is_written operands a) (λ written.
      let o = any_at (λ o. writes o.mode && covers o.object a) operands written in
      let parts = and_parts (writes (o.1).mode) (covers (o.1).object a) o.3 in
      let good = fit o.0 o.1 o.2 in
      fixed_apart (o.1).object (good.placed ∙ ap Some (good.written parts.0)) (covers_parts (o.1).object a parts.1))

  fixed_step : (limits : Limits) (n : ℕ)
      → get (flat_stepped i limits (suc n)).memory.bytes a ≡ get (flat_stepped i limits n).memory.bytes a
  fixed_step limits n =
      ap (λ (f : Flat). get f.memory.bytes a) (flat_stepped-next i limits n)
      ∙ flat_step-byte (frozen i) limits (flat_stepped i limits n) a
      (subst (λ (ranges : List MemoryRange). NeverStored ranges (flat_stepped i limits n).main.epoch a)
      (sym (flat_stepped-ranges i limits n)) (fixed_unstored (flat_stepped i limits n).main.epoch))
      (λ t is. fixed_unwritten limits (operands_of t)
      (started-fit i limits n (record { task = t; memory = (flat_stepped i limits n).memory })
      (started_at-step i limits n t is)))

  -- so that it stays as loaded in program order
  pub flat_stepped-fixed : (limits : Limits) (n : ℕ)
      → get (flat_stepped i limits n).memory.bytes a ≡ get (loaded i).bytes a
  unfolding repeated
  flat_stepped-fixed limits zero = refl
  flat_stepped-fixed limits (suc n) = fixed_step limits n ∙ flat_stepped-fixed limits n
