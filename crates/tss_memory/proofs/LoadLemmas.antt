-- Blocks that are loaded are the memory of the image, in address order, and the segments of code are its code.
use Rattle.std.proofs.Common.{◌≡◌, ℕ, ◌+◌, ◌<◌, ◌≤◌, true, cond, Some, List, [], ◌∷◌, ◌++◌, length, map, take, get_or, refl, sym, ap, subst, ◌∙◌, arith, length-append}
use Rattle.std.specs.Prelude.{slice_get, flat_map, filter, All, AllPairs}
use Rattle.std.specs.List.{enumerate_from}
use Rattle.std.specs.FinMap.{from_entries}
use Rattle.std.proofs.lemmas.List.{append-nil, get_or-map, length-map, map_push, take_more}
use Rattle.std.proofs.lemmas.List.Concat.{flat_map-append}
use Rattle.std.proofs.lemmas.List.Elements.{All-get_or, All-map, All-push, All-weaker, filter_more}
use Rattle.std.proofs.lemmas.List.Quantifiers.{all_pairs_push}
use Rattle.std.proofs.lemmas.Option.{slice_get_within, get_or_from_slice_get}
use Rattle.tss_base.specs.Range.{end_of}
use Rattle.tss_base.specs.Image.{SegmentState, ImageState, IsAccepted, IsSegment, segment_end}
use Rattle.tss_model.specs.Memory.{MemoryRange, loaded, loaded_bytes, memory_range, memory_ranges, stack_range, zeros}
use Rattle.tss_memory.specs.Ranges.{AreRanges, IsPlaced}
use Rattle.tss_memory.specs.Blocks.{BlockState, AreBlocks, block_of, blocks_in, entries_in, memory_of, memory_range_of, ranges_in, stack_block}
use Rattle.tss_memory.proofs.PartLemmas.{length-zeros}

-- ---- one segment more

-- and its block
pub block_more : (segments : List SegmentState) (i : ℕ) (s : SegmentState) (b : BlockState) →
    slice_get segments i ≡ Some s → b ≡ block_of s →
    map block_of (take (i + 1) segments) ≡ map block_of (take i segments) ++ b ∷ []
block_more segments i s b there e =
    ap (map block_of) (take_more segments i s (slice_get_within segments i s there))
    ∙ map_push block_of (take i segments) (get_or segments i s)
    ∙ ap (λ (x : BlockState). map block_of (take i segments) ++ x ∷ [])
    (ap block_of (get_or_from_slice_get segments i s s there) ∙ sym e)

-- which is code, or isn't
pub code_more : (segments : List SegmentState) (i : ℕ) (s : SegmentState) → slice_get segments i ≡ Some s →
    filter (λ x. x.code) (take (i + 1) segments) ≡ filter (λ x. x.code) (take i segments) ++ cond s.code (s ∷ []) []
code_more segments i s there =
    filter_more (λ x. x.code) segments i s (slice_get_within segments i s there)
    ∙ ap (λ (x : SegmentState). filter (λ x. x.code) (take i segments) ++ cond x.code (x ∷ []) [])
    (get_or_from_slice_get segments i s s there)

-- ---- lists of images

map_map : {A B C : Type 0} (f : B → C) (g : A → B) (xs : List A) → map f (map g xs) ≡ map (λ x. f (g x)) xs
map_map f g [] = refl
map_map f g (x ∷ xs) = ap (λ ys. f (g x) ∷ ys) (map_map f g xs)

flat_map_map : {A B C : Type 0} (f : B → List C) (g : A → B) (xs : List A) →
    flat_map f (map g xs) ≡ flat_map (λ x. f (g x)) xs
flat_map_map f g [] = refl
flat_map_map f g (x ∷ xs) = ap (λ ys. f (g x) ++ ys) (flat_map_map f g xs)

-- a relation of each image to each later one
pairs_map : {A B : Type 0} (R : B → B → Type 0) (f : A → B) (xs : List A) → AllPairs (λ x y. R (f x) (f y)) xs →
    AllPairs R (map f xs)
pairs_map R f [] all i j d h within = absurd (omega arith)
pairs_map {A} {B} R f (x ∷ xs) all i j d h within =
    let inside : j < length (x ∷ xs) = omega (arith, length-map (x ∷ xs) f) in
    let both = all i j x h inside in
    let left : R (get_or (map f (x ∷ xs)) i d) (f (get_or (x ∷ xs) j x)) =
    subst (λ (y : B). R y (f (get_or (x ∷ xs) j x))) (sym (get_or-map f (x ∷ xs) i x d (omega arith))) both in
    subst (λ (y : B). R (get_or (map f (x ∷ xs)) i d) y) (sym (get_or-map f (x ∷ xs) j x d inside)) left

-- ---- the blocks of an image

-- the range of main's stack
stack_placed : memory_range_of stack_block ≡ record { range = stack_range; writable = true }
stack_placed t = record {
  range = record { base = stack_range.base; len = length-zeros stack_range.len t };
  writable = true;
}

-- the ranges of memory
ranges_in-blocks : (i : ImageState) → ranges_in (blocks_in i) ≡ memory_ranges i
ranges_in-blocks i =
    map_push memory_range_of (map block_of i.segments) stack_block
    ∙ (λ t. map_map memory_range_of block_of i.segments t ++ stack_placed t ∷ [])

module _ (i : ImageState) (accepted : IsAccepted i) where
  -- each segment ends before main's stack does
  each_placed : All IsPlaced (map memory_range i.segments)
  each_placed = All-map IsPlaced memory_range i.segments
      (All-weaker IsSegment (λ s. IsPlaced (memory_range s)) (λ s h. (h.0, omega arith)) i.segments accepted.each)

  -- and before it begins
  below_stack : (k : ℕ) (m : MemoryRange) → k < length (map memory_range i.segments) →
      end_of ((get_or (map memory_range i.segments) k m).range) ≤ stack_range.base
  below_stack k m h =
      All-get_or (λ m. end_of m.range ≤ stack_range.base) (map memory_range i.segments) k m h
      (All-map (λ m. end_of m.range ≤ stack_range.base) memory_range i.segments
      (All-weaker IsSegment (λ s. segment_end s ≤ stack_range.base) (λ s p. omega arith) i.segments accepted.each))

  memory_ranges_are : AreRanges (memory_ranges i)
  memory_ranges_are = record {
    few = omega (
      arith,
      length-append (map memory_range i.segments)
          (record { range = stack_range; writable = true } ∷ []),
      length-map i.segments memory_range,
      accepted.few,
    );
    each = All-push IsPlaced (map memory_range i.segments)
        (record { range = stack_range; writable = true }) each_placed (omega arith, omega arith);
    ordered =
        all_pairs_push (λ m n. end_of m.range ≤ n.range.base) (map memory_range i.segments)
        (record { range = stack_range; writable = true })
        (pairs_map (λ m n. end_of m.range ≤ n.range.base) memory_range i.segments accepted.ordered) below_stack;
  }

  -- blocks that are loaded are in address order
  pub loaded_blocks : (blocks : List BlockState) → blocks ≡ blocks_in i → AreBlocks blocks
  loaded_blocks blocks e = subst AreRanges (sym (ap ranges_in e ∙ ranges_in-blocks i)) memory_ranges_are

-- and are the memory of the image
pub memory_of-loaded : (i : ImageState) (blocks : List BlockState) → blocks ≡ blocks_in i → memory_of blocks ≡ loaded i
unfolding loaded loaded_bytes
memory_of-loaded i blocks e =
    ap memory_of e
    ∙ (λ t. record { ranges = ranges_in-blocks i t; bytes = from_entries (entries t) }) where
      each : BlockState → List (ℕ × ℕ)
      each b = enumerate_from b.base b.bytes

      entries : entries_in (blocks_in i)
          ≡ flat_map (λ s. enumerate_from s.base s.bytes) i.segments
          ++ enumerate_from stack_range.base (zeros stack_range.len)
      entries =
          flat_map-append each (map block_of i.segments) (stack_block ∷ [])
          ∙ (λ t. flat_map_map each block_of i.segments t
          ++ append-nil (enumerate_from stack_range.base (zeros stack_range.len)) t)
