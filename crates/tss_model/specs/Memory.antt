-- The memory of an image, its ranges and the byte at each of their addresses, and the words of its code as loaded.
use Rattle.std.specs.Prelude.{ℕ, zero, suc, ◌+◌, ◌-◌, ◌*◌, ◌%◌, ◌==◌, Bool, true, ◌&&◌, nat_le, nat_lt, if◌then◌else◌}
use Rattle.std.specs.Prelude.{List, [], ◌∷◌, ◌++◌, map, length, filter, find, flat_map, replicate, slice_index}
use Rattle.std.specs.Prelude.{slice_set, Option, None, option_map, unwrap_or}
use Rattle.std.specs.List.{enumerate_from, range_with_len}
use Rattle.std.specs.FinMap.{get, insert, from_entries}
use Rattle.tss_base.specs.declared.addresses.TheConstants.{SCRATCH, STACK}
use Rattle.tss_base.specs.declared.range.Range.{Range}
use Rattle.tss_base.specs.Range.{end_of, contains}
use Rattle.tss_base.specs.Names.{Numbered}
use Rattle.tss_base.specs.Image.{SegmentState, ImageState}

-- ---- ranges of memory

-- a range of memory, and whether it can be written
pub record MemoryRange : Type 0 where
  pub range : Range
  pub writable : Bool

-- memory: its ranges in address order, and the byte at each of their addresses
pub record Memory : Type 0 where
  pub ranges : List MemoryRange
  pub bytes : Numbered ℕ

-- the address lies in the range
abbrev pub covers : Range → ℕ → Bool
covers r a = nat_le r.base a && nat_lt a (end_of r)

-- whether the range of memory in which r lies wholly, the first such in address order, can be written: none where
-- there is no such range
abbrev pub range_of : List MemoryRange → Range → Option Bool
range_of ranges r = option_map (λ m. m.writable) (find (λ m. contains m.range r) ranges)

-- main's stack
abbrev pub stack_range : Range
stack_range = STACK

-- the scratch of a task: each running task has its own bytes there
abbrev pub scratch_range : Range
scratch_range = SCRATCH

-- ---- bytes

-- so many zeros
unfoldable pub zeros : ℕ → List ℕ
zeros n = replicate n 0

-- the number in the n bytes from an address on, the lowest first, where `byte` gives the byte at each address
abbrev pub number_at : (ℕ → ℕ) → ℕ → ℕ → ℕ
number_at byte at zero = 0
number_at byte at (suc n) = byte at + 256 * number_at byte (suc at) n

-- a list with these elements from a place on
abbrev pub list_put : List ℕ → ℕ → List ℕ → List ℕ
list_put xs at [] = xs
list_put xs at (b ∷ bs) = slice_set (list_put xs (suc at) bs) at b

-- a map with these bytes from an address on
abbrev pub map_put : Numbered ℕ → ℕ → List ℕ → Numbered ℕ
map_put m at [] = m
map_put m at (b ∷ bs) = insert (map_put m (suc at) bs) at b

-- ---- memory: what stands there, and what a write leaves

-- the byte at an address, and 0 where there is none
abbrev pub byte_at : Memory → ℕ → ℕ
byte_at m a = unwrap_or (get m.bytes a) 0

-- the bytes of a range, in order
abbrev pub bytes_of : Memory → Range → List ℕ
bytes_of m r = map (byte_at m) (range_with_len r.base r.len)

-- memory with one byte written
abbrev pub set_byte : Memory → ℕ → ℕ → Memory
set_byte m a v = record m { bytes = insert m.bytes a v }

-- memory with these bytes written from an address on
abbrev pub put_bytes : Memory → ℕ → List ℕ → Memory
put_bytes m at bs = record m { bytes = map_put m.bytes at bs }

-- memory with a range of zeros
abbrev pub zeroed : Memory → Range → Memory
zeroed m r = put_bytes m r.base (zeros r.len)

-- ---- as loaded

-- the addresses of a segment
abbrev pub segment_range : SegmentState → Range
segment_range s = record { base = s.base; len = length s.bytes }

-- the range of memory that a segment is
abbrev pub memory_range : SegmentState → MemoryRange
memory_range s = record { range = segment_range s; writable = s.writable }

-- the segments, and above them main's stack
abbrev pub memory_ranges : ImageState → List MemoryRange
memory_ranges i = map memory_range i.segments ++ record { range = stack_range; writable = true } ∷ []

-- each address with its byte: the segments' own, and zeros on the stack
unfoldable pub loaded_bytes : ImageState → List (ℕ × ℕ)
loaded_bytes i =
    flat_map (λ s. enumerate_from s.base s.bytes) i.segments ++ enumerate_from stack_range.base (zeros stack_range.len)

-- the memory of an image before its first instruction
unfoldable pub loaded : ImageState → Memory
loaded i = record { ranges = memory_ranges i; bytes = from_entries (loaded_bytes i) }

-- ---- code

-- the segments that can be executed, as loaded: what is stored in memory later changes no word of them
abbrev pub frozen : ImageState → List SegmentState
frozen i = filter (λ s. s.code) i.segments

-- the word in a segment from an address on
abbrev pub segment_word : ℕ → SegmentState → ℕ
segment_word pc s = number_at (slice_index s.bytes) (pc - s.base) 4

-- the word at a pc: none where the pc isn't a multiple of 4 or its four bytes don't lie in one segment of the code
abbrev pub code_word : List SegmentState → ℕ → Option ℕ
code_word code pc =
    if pc % 4 == 0
    then option_map (segment_word pc) (find (λ s. contains (segment_range s) (record { base = pc; len = 4 })) code)
    else None
