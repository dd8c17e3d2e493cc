-- The blocks that a space is made of, and the memory that they are. No public clause speaks of them.
use Rattle.std.specs.Prelude.{ℕ, ◌+◌, ◌-◌, ◌<◌, ◌≤◌, Bool, true, IsTrue, List, [], ◌∷◌, ◌++◌, map, length, take, drop, flat_map, Option, option_map, IsSomeAnd, slice_get}
use Rattle.std.specs.List.{enumerate_from}
use Rattle.std.specs.FinMap.{from_entries}
use Rattle.tss_base.specs.declared.range.Range.{Range}
use Rattle.tss_base.specs.Range.{contains}
use Rattle.tss_base.specs.Image.{SegmentState, ImageState}
use Rattle.tss_model.specs.Memory.{MemoryRange, Memory, stack_range, zeros}
use Rattle.tss_memory.specs.Ranges.{AreRanges, memory_end}

-- the bytes of a range of memory, from its base on
pub record BlockState : Type 0 where
  pub base : ℕ
  pub bytes : List ℕ
  pub writable : Bool

-- the address after a block's last
abbrev pub block_end : BlockState → ℕ
block_end b = b.base + length b.bytes

-- it has a byte, and ends in time
abbrev pub IsBlock : BlockState → Type 0
IsBlock b = (0 < length b.bytes) × (block_end b ≤ memory_end)

abbrev pub block_range : BlockState → Range
block_range b = record { base = b.base; len = length b.bytes }

abbrev pub memory_range_of : BlockState → MemoryRange
memory_range_of b = record { range = block_range b; writable = b.writable }

abbrev pub ranges_in : List BlockState → List MemoryRange
ranges_in blocks = map memory_range_of blocks

-- the range of the block at a place
abbrev pub range_of_block : List BlockState → ℕ → Option MemoryRange
range_of_block blocks i = option_map memory_range_of (slice_get blocks i)

-- each address with its byte
abbrev pub entries_in : List BlockState → List (ℕ × ℕ)
entries_in blocks = flat_map (λ b. enumerate_from b.base b.bytes) blocks

-- the memory that the blocks are
abbrev pub memory_of : List BlockState → Memory
memory_of blocks = record { ranges = ranges_in blocks; bytes = from_entries (entries_in blocks) }

-- the blocks can be a memory
abbrev pub AreBlocks : List BlockState → Type 0
AreBlocks blocks = AreRanges (ranges_in blocks)

-- there is a block at this place, and the range lies in it
abbrev pub IsInBlock : List BlockState → Range → ℕ → Type 0
IsInBlock blocks r i = IsSomeAnd (slice_get blocks i) (λ b. IsTrue (contains (block_range b) r))

-- the bytes from a place on, so many of them
abbrev pub part_of : List ℕ → ℕ → ℕ → List ℕ
part_of xs at n = take n (drop at xs)

-- the bytes of a range in a block
abbrev pub block_part : BlockState → Range → List ℕ
block_part b r = part_of b.bytes (r.base - b.base) r.len

-- bytes with others in place of those from a place on
abbrev pub with_part : List ℕ → ℕ → List ℕ → List ℕ
with_part xs at ys = take at xs ++ (ys ++ drop (at + length ys) xs)

-- a block with other bytes from an address on
abbrev pub put_block : BlockState → ℕ → List ℕ → BlockState
put_block b at ys = record b { bytes = with_part b.bytes (at - b.base) ys }

-- ---- as loaded

-- the block of a segment
abbrev pub block_of : SegmentState → BlockState
block_of s = record { base = s.base; bytes = s.bytes; writable = s.writable }

-- the block of main's stack
abbrev pub stack_block : BlockState
stack_block = record { base = stack_range.base; bytes = zeros stack_range.len; writable = true }

-- the blocks of an image: those of its segments, and that of main's stack
abbrev pub blocks_in : ImageState → List BlockState
blocks_in i = map block_of i.segments ++ stack_block ∷ []
