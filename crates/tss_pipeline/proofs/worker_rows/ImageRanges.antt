-- The ranges of an image's memory are in address order, and share no address.
use Rattle.std.proofs.Common.{ℕ, ◌<◌, ◌≤◌, true, List, [], ◌∷◌, length, map, get_or, sym, subst, arith, length-append}
use Rattle.std.specs.Prelude.{All, AllPairs}
use Rattle.std.proofs.lemmas.List.{get_or-map, length-map}
use Rattle.std.proofs.lemmas.List.Elements.{All-get_or, All-map, All-push, All-weaker}
use Rattle.std.proofs.lemmas.List.Quantifiers.{all_pairs_push}
use Rattle.tss_base.specs.Range.{end_of}
use Rattle.tss_base.specs.Image.{ImageState, IsAccepted, IsSegment, segment_end}
use Rattle.tss_model.specs.Memory.{MemoryRange, memory_range, memory_ranges, stack_range}
use Rattle.tss_memory.specs.Ranges.{AreRanges, IsPlaced}

-- a relation of each image to each later one
pairs_map : {A B : Type 0} (R : B → B → Type 0) (f : A → B) (xs : List A) → AllPairs (λ x y. R (f x) (f y)) xs →
    AllPairs R (map f xs)
pairs_map R f [] all i j d h within = absurd (omega arith)
pairs_map {A} {B} R f (x ∷ xs) all i j d h within =
    let inside : j < length (x ∷ xs) = omega (arith, length-map (x ∷ xs) f) in
    let both = all i j x h inside in
    let left : R (get_or (map f (x ∷ xs)) i d) (f (get_or (x ∷ xs) j x)) =
    subst (λ (y : B). R y (f (get_or (x ∷ xs) j x))) (sym (get_or-map f (x ∷ xs) i x d (omega arith))) both in
    subst (λ (y : B). R (get_or (map f (x ∷ xs)) i d) y) (sym (get_or-map f (x ∷ xs) j x d inside)) left

-- ---- the ranges

module _ (i : ImageState) (accepted : IsAccepted i) where
  -- each segment ends before main's stack does
  each_placed : All IsPlaced (map memory_range i.segments)
  each_placed = All-map IsPlaced memory_range i.segments
      (All-weaker IsSegment (λ s. IsPlaced (memory_range s)) (λ s h. (h.0, omega arith)) i.segments accepted.each)

  -- and before it begins
  below_stack : (k : ℕ) (m : MemoryRange) → k < length (map memory_range i.segments) →
      end_of ((get_or (map memory_range i.segments) k m).range) ≤ stack_range.base
  below_stack k m h =
      All-get_or (λ m. end_of m.range ≤ stack_range.base) (map memory_range i.segments) k m h
      (All-map (λ m. end_of m.range ≤ stack_range.base) memory_range i.segments
      (All-weaker IsSegment (λ s. segment_end s ≤ stack_range.base) (λ s p. omega arith) i.segments accepted.each))

  pub memory_ranges_are : AreRanges (memory_ranges i)
  memory_ranges_are = record {
    few = omega (
      arith,
      length-append (map memory_range i.segments)
          (record { range = stack_range; writable = true } ∷ []),
      length-map i.segments memory_range,
      accepted.few,
    );
    each = All-push IsPlaced (map memory_range i.segments)
        (record { range = stack_range; writable = true }) each_placed (omega arith, omega arith);
    ordered =
        all_pairs_push (λ m n. end_of m.range ≤ n.range.base) (map memory_range i.segments)
        (record { range = stack_range; writable = true })
        (pairs_map (λ m n. end_of m.range ≤ n.range.base) memory_range i.segments accepted.ordered) below_stack;
  }
