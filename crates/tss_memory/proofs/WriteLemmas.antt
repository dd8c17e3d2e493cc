-- A write in one block is a write in the memory that the blocks are.
use Rattle.std.proofs.Common.{◌≡◌, ℕ, zero, suc, ◌+◌, ◌-◌, ◌<◌, ◌≤◌, ◌⊎◌, inl, inr, Option, Some, List, [], ◌∷◌, length, map, get_or, refl, sym, ap, ◌∙◌, arith}
use Rattle.std.specs.Prelude.{slice_get, slice_set, IsTrue}
use Rattle.std.specs.Ordering.{nat_cmp}
use Rattle.std.specs.Cmp.{nat_cmp_total}
use Rattle.std.specs.FinMap.{get, find, get-from_entries}
use Rattle.std.proofs.lemmas.Bool.{cases_lt}
use Rattle.std.proofs.lemmas.Option.{slice_get-get_or, get_or_from_slice_get}
use Rattle.tss_base.specs.declared.range.Range.{Range}
use Rattle.tss_base.specs.Range.{contains}
use Rattle.tss_base.specs.Names.{Numbered}
use Rattle.tss_maps.proofs.Keys.{nat_order}
use Rattle.tss_maps.proofs.Changes.{at_inserted, beside_inserted, same_by_get}
use Rattle.tss_model.specs.Memory.{map_put, put_bytes}
use Rattle.tss_memory.specs.Blocks.{BlockState, AreBlocks, IsInBlock, block_end, block_range, entries_in, memory_of, memory_range_of, put_block, with_part}
use Rattle.tss_memory.proofs.RangeLemmas.{some_and, contains_parts}
use Rattle.tss_memory.proofs.PlaceLemmas.{blocks_apart, in_order}
use Rattle.tss_memory.proofs.PartLemmas.{length-with_part, part_before, part_inside, part_after}
use Rattle.tss_memory.proofs.EntryLemmas.{IsOutside, EndBefore, entry-inside, entry-beside}

-- ---- a map with bytes written

-- the byte at an address that is written
pub put_inside : (m : Numbered ℕ) (at : ℕ) (ys : List ℕ) (j q : ℕ) → at + j ≡ q → j < length ys →
    get (map_put m at ys) q ≡ slice_get ys j
put_inside m at [] j q e h = absurd (omega arith)
put_inside m at (y ∷ ys) zero q e h =
    let first : q ≡ at = omega arith in
    ap (get (map_put m at (y ∷ ys))) first ∙ at_inserted nat_order (map_put m (suc at) ys) at y
put_inside m at (y ∷ ys) (suc j) q e h =
    beside_inserted nat_order (map_put m (suc at) ys) at y q (λ s. absurd (omega arith))
    ∙ put_inside m (suc at) ys j q (omega arith) (omega arith)

-- and at another
pub put_outside : (m : Numbered ℕ) (at : ℕ) (ys : List ℕ) (q : ℕ) → (q < at) ⊎ (at + length ys ≤ q) →
    get (map_put m at ys) q ≡ get m q
put_outside m at [] q out = refl
put_outside m at (y ∷ ys) q (inl low) =
    beside_inserted nat_order (map_put m (suc at) ys) at y q (λ s. absurd (omega arith))
    ∙ put_outside m (suc at) ys q (inl (omega arith))
put_outside m at (y ∷ ys) q (inr high) =
    beside_inserted nat_order (map_put m (suc at) ys) at y q (λ s. absurd (omega arith))
    ∙ put_outside m (suc at) ys q (inr (omega arith))

-- ---- a list with one element written

set_there : {A : Type 0} (xs : List A) (i : ℕ) (x y : A) → slice_get xs i ≡ Some x →
    slice_get (slice_set xs i y) i ≡ Some y
set_there [] i x y e = absurd (cc)
set_there (z ∷ xs) zero x y e = refl
set_there (z ∷ xs) (suc i) x y e = set_there xs i x y e

set_before : {A : Type 0} (xs : List A) (i j : ℕ) (y : A) → j < i → slice_get (slice_set xs i y) j ≡ slice_get xs j
set_before [] i j y h = refl
set_before (z ∷ xs) zero j y h = absurd (omega arith)
set_before (z ∷ xs) (suc i) zero y h = refl
set_before (z ∷ xs) (suc i) (suc j) y h = set_before xs i j y (omega arith)

-- an element with the same image changes no image
map_set_same : {A B : Type 0} (f : A → B) (xs : List A) (i : ℕ) (x y : A) → slice_get xs i ≡ Some x → f y ≡ f x →
    map f (slice_set xs i y) ≡ map f xs
map_set_same f [] i x y e same = refl
map_set_same f (z ∷ xs) zero x y e same = let there : z ≡ x = cc in ap (λ v. v ∷ map f xs) (same ∙ ap f (sym there))
map_set_same f (z ∷ xs) (suc i) x y e same = ap (λ vs. f z ∷ vs) (map_set_same f xs i x y e same)

-- lists that read alike at a place within both
same_there : (xs ys : List ℕ) (i j : ℕ) → i < length xs → j < length ys → get_or xs i 0 ≡ get_or ys j 0 →
    slice_get xs i ≡ slice_get ys j
same_there xs ys i j h k e = slice_get-get_or xs i 0 h ∙ ap Some e ∙ sym (slice_get-get_or ys j 0 k)

-- ---- memory

-- the byte that the blocks have at an address, if any
abbrev pub stored : List BlockState → ℕ → Option ℕ
stored blocks q = get ((memory_of blocks).bytes) q

-- as the entries have it
stored-entries : (blocks : List BlockState) (q : ℕ) → stored blocks q ≡ find nat_cmp q (entries_in blocks)
stored-entries blocks q = get-from_entries nat_cmp_total (entries_in blocks) q

module _ (blocks : List BlockState) (are : AreBlocks blocks) (i : ℕ) (b : BlockState)
    (there : slice_get blocks i ≡ Some b) where
  -- the blocks before one end before it
  pub end_before : EndBefore blocks i b.base
  end_before j a h e = in_order block_range blocks (blocks_apart blocks are) j i a b h e there

  -- the byte at an address in a block
  pub stored-block : (k q : ℕ) → b.base + k ≡ q → k < length b.bytes → stored blocks q ≡ slice_get b.bytes k
  stored-block k q e h = stored-entries blocks q ∙ entry-inside blocks i b k q there end_before e h

  module _ (at : ℕ) (ys : List ℕ) (low : b.base ≤ at) (high : at + length ys ≤ block_end b) where
    -- the bytes that the block has then, and the blocks
    abbrev bytes_then : List ℕ
    bytes_then = with_part b.bytes (at - b.base) ys

    abbrev blocks_then : List BlockState
    blocks_then = slice_set blocks i (put_block b at ys)

    -- the byte that the write says
    abbrev written : ℕ → Option ℕ
    written q = get (map_put ((memory_of blocks).bytes) at ys) q

    as_long : length bytes_then ≡ length b.bytes
    as_long = length-with_part b.bytes (at - b.base) ys (omega arith)

    -- outside what is written it is the byte from before
    written-outside : (q : ℕ) → (q < at) ⊎ (at + length ys ≤ q) → written q ≡ stored blocks q
    written-outside q out = put_outside ((memory_of blocks).bytes) at ys q out

    -- the block's byte at each address that it has
    block_then : (k q : ℕ) → b.base + k ≡ q → k < length b.bytes → slice_get bytes_then k ≡ written q
    block_then k q e h = place (cases_lt q at) (cases_lt q (at + length ys)) where
      place : (q < at) ⊎ (at ≤ q) → (q < at + length ys) ⊎ (at + length ys ≤ q) → slice_get bytes_then k ≡ written q
      place (inl before) other =
          same_there bytes_then b.bytes k k (omega (arith, as_long)) h
          (part_before b.bytes (at - b.base) ys (omega arith) k 0 (omega arith))
          ∙ sym (written-outside q (inl before) ∙ stored-block k q e h)
      place (inr from) (inl below) =
          same_there bytes_then ys k (q - at) (omega (arith, as_long)) (omega arith)
          (part_inside b.bytes (at - b.base) ys (omega arith) k (q - at) 0 (omega arith) (omega arith))
          ∙ sym (put_inside ((memory_of blocks).bytes) at ys (q - at) q (omega arith) (omega arith))
      place (inr from) (inr behind) =
          same_there bytes_then b.bytes k k (omega (arith, as_long)) h
          (part_after b.bytes (at - b.base) ys (omega arith) k 0 (omega arith))
          ∙ sym (written-outside q (inr behind) ∙ stored-block k q e h)

    -- outside the block stands what stood there
    stored_beside : (q : ℕ) → IsOutside q b → stored blocks_then q ≡ stored blocks q
    stored_beside q out =
        stored-entries blocks_then q
        ∙ entry-beside blocks i b (put_block b at ys) q there refl as_long out
        ∙ sym (stored-entries blocks q)

    -- each address has the byte that the write says
    stored_then : (q : ℕ) → stored blocks_then q ≡ written q
    stored_then q = place (cases_lt q b.base) (cases_lt q (block_end b)) where
      place : (q < b.base) ⊎ (b.base ≤ q) → (q < block_end b) ⊎ (block_end b ≤ q) → stored blocks_then q ≡ written q
      place (inl before) other = stored_beside q (inl before) ∙ sym (written-outside q (inl (omega arith)))
      place (inr from) (inr behind) = stored_beside q (inr behind) ∙ sym (written-outside q (inr (omega arith)))
      place (inr from) (inl below) =
          stored-entries blocks_then q
          ∙ entry-inside blocks_then i (put_block b at ys) (q - b.base) q
          (set_there blocks i b (put_block b at ys) there)
          (λ j a h e. end_before j a h (sym (set_before blocks i j (put_block b at ys) h) ∙ e))
          (omega arith) (omega (arith, as_long))
          ∙ block_then (q - b.base) q (omega arith) (omega arith)

    same_range : memory_range_of (put_block b at ys) ≡ memory_range_of b
    same_range t = record { range = record { base = b.base; len = as_long t }; writable = b.writable }

    -- a write in a block
    pub memory_of-put : memory_of blocks_then ≡ put_bytes (memory_of blocks) at ys
    memory_of-put t = record {
      ranges = map_set_same memory_range_of blocks i b (put_block b at ys) there same_range t;
      bytes = same_by_get nat_order _ _ stored_then t;
    }

-- a write in the block at a place
pub written_in : (blocks : List BlockState) → AreBlocks blocks → (i : ℕ) (r : Range) → IsInBlock blocks r i →
    (d c : BlockState) (at : ℕ) (ys : List ℕ) → c ≡ put_block (get_or blocks i d) at ys → r.base ≡ at →
    r.len ≡ length ys → memory_of (slice_set blocks i c) ≡ put_bytes (memory_of blocks) at ys
written_in blocks are i r inside d c at ys written base len =
    let held = some_and (slice_get blocks i) (λ x. IsTrue (contains (block_range x) r)) inside in
    let b = held.0 in
    let same : get_or blocks i d ≡ b = get_or_from_slice_get blocks i b d held.1 in
    let parts = contains_parts (block_range b) r held.2 in
    ap (λ (x : BlockState). memory_of (slice_set blocks i x))
    (written ∙ ap (λ (x : BlockState). put_block x at ys) same)
    ∙ memory_of-put blocks are i b held.1 at ys (omega arith) (omega arith)
