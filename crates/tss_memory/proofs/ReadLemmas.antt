-- Reads in one block are reads in the memory that the blocks are.
use Rattle.std.proofs.Common.{◌≡◌, ℕ, zero, suc, ◌+◌, ◌-◌, ◌*◌, ◌<◌, Option, Some, List, length, get_or, refl, sym, ap, subst, ◌∙◌, arith, add-zero, zero-add, true}
use Rattle.std.specs.Prelude.{slice_get, slice_index, IsTrue, IsSomeAnd, unwrap_or}
use Rattle.std.proofs.lemmas.List.{same_lists, get_or_default}
use Rattle.std.proofs.lemmas.List.FromFn.{length-map-range_with_len, get_or-map-range_with_len}
use Rattle.std.proofs.lemmas.Option.{unwrap_or-slice_get, get_or_from_slice_get, slice_get-map}
use Rattle.tss_base.specs.declared.range.Range.{Range}
use Rattle.tss_base.specs.Range.{contains}
use Rattle.tss_model.specs.Memory.{MemoryRange, byte_at, bytes_of, number_at}
use Rattle.tss_memory.specs.declared.found.Found.{Found}
use Rattle.tss_memory.specs.Ranges.{IsFound, IsInside}
use Rattle.tss_memory.specs.Blocks.{BlockState, AreBlocks, IsInBlock, block_range, memory_of, memory_range_of, block_part, ranges_in}
use Rattle.tss_memory.proofs.RangeLemmas.{some_and, some_mapped, contains_parts}
use Rattle.tss_memory.proofs.PartLemmas.{length-part_of, get_or-part_of}
use Rattle.tss_memory.proofs.WriteLemmas.{stored-block}

-- numbers whose bytes agree are equal
pub number_at-same : (f g : ℕ → ℕ) (a b n : ℕ) → ((k : ℕ) → k < n → f (a + k) ≡ g (b + k)) →
    number_at f a n ≡ number_at g b n
number_at-same f g a b zero same = refl
number_at-same f g a b (suc n) same =
    let first : f a ≡ g b = ap f (sym (add-zero a)) ∙ same 0 (omega arith) ∙ ap g (add-zero b) in
    let rest = number_at-same f g (suc a) (suc b) n
    (λ k h. ap f (later a k) ∙ same (suc k) (omega arith) ∙ ap g (sym (later b k))) in
    λ t. first t + 256 * rest t
  where
    later : (x k : ℕ) → suc x + k ≡ x + suc k
    later x k = omega arith

-- where a range lies in the range of memory at a place there is a block, in which it lies
pub placed_in : (blocks : List BlockState) (i : ℕ) (r : Range) → IsInside (ranges_in blocks) i r →
    (b : BlockState) × (slice_get blocks i ≡ Some b) × (contains (block_range b) r ≡ true)
placed_in blocks i r inside =
    let m = some_and (slice_get (ranges_in blocks) i) (λ m. IsTrue (contains m.range r)) inside in
    let b = some_mapped memory_range_of (slice_get blocks i) m.0
    (sym (slice_get-map memory_range_of blocks i) ∙ m.1) in
    (b.0, b.1, ap (λ (x : MemoryRange). contains x.range r) b.2 ∙ m.2)

-- where a range of memory was found the range lies
inside_found : (ranges : List MemoryRange) (f : Found) (r : Range) → IsFound ranges f r → IsInside ranges f.index r
inside_found ranges f r found =
    let m = some_and (slice_get ranges f.index)
    (λ m. (m.writable ≡ f.writable) × IsTrue (contains m.range r)) found in
    subst (λ (o : Option MemoryRange). IsSomeAnd o (λ x. IsTrue (contains x.range r))) (sym m.1) m.2.1

-- and there is a block, in which it lies
pub found_in : (blocks : List BlockState) (f : Found) (r : Range) → IsFound (ranges_in blocks) f r →
    IsInBlock blocks r f.index
found_in blocks f r found =
    let there = placed_in blocks f.index r (inside_found (ranges_in blocks) f r found) in
    subst (λ (o : Option BlockState). IsSomeAnd o (λ x. IsTrue (contains (block_range x) r))) (sym there.1) there.2

-- the bytes of a range in a block
module _ (blocks : List BlockState) (are : AreBlocks blocks) (i : ℕ) (b : BlockState)
    (there : slice_get blocks i ≡ Some b) (r : Range) (held : contains (block_range b) r ≡ true) where
  -- each is the byte of memory at its address
  byte_at-part : (k : ℕ) → k < r.len → byte_at (memory_of blocks) (r.base + k) ≡ get_or (block_part b r) k 0
  byte_at-part k h =
      let parts = contains_parts (block_range b) r held in
      ap (λ o. unwrap_or o 0) (stored-block blocks are i b there (r.base - b.base + k) (r.base + k)
      (omega arith) (omega arith))
      ∙ unwrap_or-slice_get b.bytes (r.base - b.base + k) 0
      ∙ sym (get_or-part_of b.bytes (r.base - b.base) r.len k 0 h)

  -- and they are as many as the range has
  length-part : length (block_part b r) ≡ r.len
  length-part =
      let parts = contains_parts (block_range b) r held in
      length-part_of b.bytes (r.base - b.base) r.len (omega arith)

  pub bytes_of-part : block_part b r ≡ bytes_of (memory_of blocks) r
  bytes_of-part =
      same_lists (block_part b r) (bytes_of (memory_of blocks) r)
      (length-part ∙ sym (length-map-range_with_len (byte_at (memory_of blocks)) r.base r.len))
      (λ k d h.
      let small : k < r.len = omega (arith, length-part) in
      get_or_default (block_part b r) k d 0 h
      ∙ sym (byte_at-part k small)
      ∙ sym (get_or-map-range_with_len (byte_at (memory_of blocks)) r.base r.len k (r.base + k) d small refl))

  number_at-part : number_at (slice_index (block_part b r)) 0 (length (block_part b r))
      ≡ number_at (byte_at (memory_of blocks)) r.base r.len
  number_at-part =
      ap (number_at (slice_index (block_part b r)) 0) length-part
      ∙ number_at-same (slice_index (block_part b r)) (byte_at (memory_of blocks)) 0 r.base r.len
      (λ k h. ap (λ n. get_or (block_part b r) n 0) (zero-add k) ∙ sym (byte_at-part k h))

-- ---- the block as it is read at its place

-- a block that is read at its place
pub read_block : (blocks : List BlockState) (r : Range) (i : ℕ) (b : BlockState) → IsInBlock blocks r i →
    b ≡ get_or blocks i b → (slice_get blocks i ≡ Some b) × (contains (block_range b) r ≡ true)
read_block blocks r i b inside read =
    let held = some_and (slice_get blocks i) (λ x. IsTrue (contains (block_range x) r)) inside in
    let same : b ≡ held.0 = read ∙ get_or_from_slice_get blocks i held.0 b held.1 in
    (held.1 ∙ ap Some (sym same), ap (λ (x : BlockState). contains (block_range x) r) same ∙ held.2)

-- its bytes in a range
pub bytes_read : (blocks : List BlockState) → AreBlocks blocks → (r : Range) (i : ℕ) (b : BlockState) →
    IsInBlock blocks r i → b ≡ get_or blocks i b → block_part b r ≡ bytes_of (memory_of blocks) r
bytes_read blocks are r i b inside read =
    let at = read_block blocks r i b inside read in
    bytes_of-part blocks are i b at.0 r at.1

-- how many those are
pub count_read : (blocks : List BlockState) (r : Range) (i : ℕ) (b : BlockState) → IsInBlock blocks r i →
    b ≡ get_or blocks i b → length (block_part b r) ≡ r.len
count_read blocks r i b inside read =
    let at = read_block blocks r i b inside read in
    let parts = contains_parts (block_range b) r at.1 in
    length-part_of b.bytes (r.base - b.base) r.len (omega arith)

-- the number in a range
pub number_read : (blocks : List BlockState) → AreBlocks blocks → (r : Range) (i : ℕ) (b : BlockState) →
    IsInBlock blocks r i → b ≡ get_or blocks i b →
    number_at (slice_index (block_part b r)) 0 (length (block_part b r))
    ≡ number_at (byte_at (memory_of blocks)) r.base r.len
number_read blocks are r i b inside read =
    let at = read_block blocks r i b inside read in
    number_at-part blocks are i b at.0 r at.1
