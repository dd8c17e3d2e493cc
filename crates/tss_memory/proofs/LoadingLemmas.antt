-- The bytes of a range before the first instruction: those of the segment in which it lies, and zeros on the stack.
use Rattle.std.proofs.Common.{◌≡◌, ℕ, zero, suc, ◌+◌, ◌-◌, ◌≤◌, true, Some, List, [], ◌∷◌, ◌++◌, length, map, take, refl, sym, ap, subst, ◌∙◌, arith, length-append}
use Rattle.std.specs.Prelude.{slice_get, option_map}
use Rattle.std.proofs.lemmas.List.{length-map, take-replicate, drop-replicate}
use Rattle.std.proofs.lemmas.Option.{none-some, slice_get_within, slice_get-map, same_Some}
use Rattle.tss_base.specs.declared.range.Range.{Range}
use Rattle.tss_base.specs.Range.{contains}
use Rattle.tss_base.specs.Image.{SegmentState, ImageState, IsAccepted}
use Rattle.tss_model.specs.Memory.{Memory, bytes_of, loaded, segment_range, zeros}
use Rattle.tss_memory.specs.Ranges.{IsInside}
use Rattle.tss_memory.specs.Blocks.{BlockState, block_of, block_part, block_range, blocks_in, part_of, stack_block}
use Rattle.tss_memory.proofs.RangeLemmas.{contains_parts}
use Rattle.tss_memory.proofs.PartLemmas.{length-part_of, length-zeros}
use Rattle.tss_memory.proofs.ReadLemmas.{bytes_of-part, placed_in}
use Rattle.tss_memory.proofs.LoadLemmas.{loaded_blocks, memory_of-loaded}

-- what stands in the first of two lists
there_left : {A : Type 0} (xs ys : List A) (k : ℕ) (x : A) → slice_get xs k ≡ Some x → slice_get (xs ++ ys) k ≡ Some x
there_left [] ys k x e = absurd (none-some x e)
there_left (z ∷ xs) ys zero x e = e
there_left (z ∷ xs) ys (suc k) x e = there_left xs ys k x e

-- what stands behind a list
there_last : {A : Type 0} (xs : List A) (y : A) → slice_get (xs ++ y ∷ []) (length xs) ≡ Some y
there_last [] y = refl
there_last (x ∷ xs) y = there_last xs y

-- a part of zeros
zeros_part : (n at m : ℕ) → at + m ≤ n → part_of (zeros n) at m ≡ zeros m
unfolding zeros
zeros_part n at m h = ap (take m) (drop-replicate at n 0) ∙ take-replicate m (n - at) 0 (omega arith)

module _ (i : ImageState) (accepted : IsAccepted i) (k : ℕ) (r : Range)
    (inside : IsInside ((loaded i).ranges) k r) where
  -- the block in which the range lies
  block_there : (b : BlockState) × (slice_get (blocks_in i) k ≡ Some b) × (contains (block_range b) r ≡ true)
  block_there =
      placed_in (blocks_in i) k r
      (subst (λ (m : Memory). IsInside (m.ranges) k r) (sym (memory_of-loaded i (blocks_in i) refl)) inside)

  -- a block at its place has it
  block_has : (b : BlockState) → slice_get (blocks_in i) k ≡ Some b → contains (block_range b) r ≡ true
  block_has b e =
      let there = block_there in
      ap (λ (x : BlockState). contains (block_range x) r) (same_Some b there.0 (sym e ∙ there.1)) ∙ there.2

  -- and its bytes
  block_bytes : (b : BlockState) → slice_get (blocks_in i) k ≡ Some b → block_part b r ≡ bytes_of (loaded i) r
  block_bytes b e =
      bytes_of-part (blocks_in i) (loaded_blocks i accepted (blocks_in i) refl) k b e r (block_has b e)
      ∙ ap (λ (m : Memory). bytes_of m r) (memory_of-loaded i (blocks_in i) refl)

  module _ (s : SegmentState) (there : slice_get i.segments k ≡ Some s) where
    segment_block : slice_get (blocks_in i) k ≡ Some (block_of s)
    segment_block =
        there_left (map block_of i.segments) (stack_block ∷ []) k (block_of s)
        (slice_get-map block_of i.segments k ∙ ap (option_map block_of) there)

    -- the segment at the place has the range
    pub segment_has_range : contains (segment_range s) r ≡ true
    segment_has_range = block_has (block_of s) segment_block

    -- and its bytes
    pub segment_bytes : part_of s.bytes (r.base - s.base) r.len ≡ bytes_of (loaded i) r
    segment_bytes = block_bytes (block_of s) segment_block

    -- which are as many as the range has
    pub segment_count : length (part_of s.bytes (r.base - s.base) r.len) ≡ r.len
    segment_count =
        let parts = contains_parts (segment_range s) r segment_has_range in
        length-part_of s.bytes (r.base - s.base) r.len (omega arith)

  -- behind the segments stands main's stack, where all are zeros
  pub stack_bytes : length i.segments ≤ k → zeros r.len ≡ bytes_of (loaded i) r
  stack_bytes past =
      let there = block_there in
      let within = slice_get_within (blocks_in i) k there.0 there.1 in
      let count = length-append (map block_of i.segments) (stack_block ∷ []) in
      let blocks = length-map i.segments block_of in
      let last : k ≡ length (map block_of i.segments) = omega arith in
      let stands : slice_get (blocks_in i) k ≡ Some stack_block =
      ap (slice_get (blocks_in i)) last ∙ there_last (map block_of i.segments) stack_block in
      let parts = contains_parts (block_range stack_block) r (block_has stack_block stands) in
      let whole = length-zeros 65536 in
      sym (zeros_part 65536 (r.base - stack_block.base) r.len (omega arith)) ∙ block_bytes stack_block stands
