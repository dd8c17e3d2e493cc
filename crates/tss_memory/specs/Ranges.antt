-- The ranges of memory: what holds of all of them, where bytes may be read and written, and a range that was found.
use Rattle.std.specs.Prelude.{◌≡◌, ℕ, ◌+◌, ◌<◌, ◌≤◌, true, IsTrue, List, length, slice_get, All, AllPairs, Option, Some, IsSome, IsSomeAnd, find}
use Rattle.tss_base.specs.declared.addresses.TheConstants.{STACK_END}
use Rattle.tss_base.specs.declared.bounds.TheConstants.{MAX_SEGMENTS}
use Rattle.tss_base.specs.declared.range.Range.{Range}
use Rattle.tss_base.specs.Range.{end_of, contains}
use Rattle.tss_memory.specs.declared.found.Found.{Found}
use Rattle.tss_model.specs.Memory.{MemoryRange, range_of}

-- the address after the last of memory, which is that of main's stack
abbrev pub memory_end : ℕ
memory_end = STACK_END

-- the most ranges: those of an image's segments and main's stack
abbrev pub max_ranges : ℕ
max_ranges = MAX_SEGMENTS + 1

-- it has an address, and ends in time
abbrev pub IsPlaced : MemoryRange → Type 0
IsPlaced m = (0 < m.range.len) × (end_of m.range ≤ memory_end)

-- ranges of memory in address order, that share no address
pub record AreRanges (ranges : List MemoryRange) : Type 0 where
  pub few : length ranges ≤ max_ranges
  pub each : All IsPlaced ranges
  pub ordered : AllPairs (λ m n. end_of m.range ≤ n.range.base) ranges

-- the first range of memory that contains r
abbrev pub range_with : List MemoryRange → Range → Option MemoryRange
range_with ranges r = find (λ m. contains m.range r) ranges

-- so many bytes from an address on, where there are any, lie in one range of memory
abbrev pub CanRead : List MemoryRange → ℕ → ℕ → Type 0
CanRead ranges at n = 0 < n → IsSome (range_of ranges (record { base = at; len = n }))

-- and in one that can be written
abbrev pub CanWrite : List MemoryRange → ℕ → ℕ → Type 0
CanWrite ranges at n = 0 < n → range_of ranges (record { base = at; len = n }) ≡ Some true

-- what was found is the place of a range of memory that contains r, and whether that can be written
abbrev pub IsFound : List MemoryRange → Found → Range → Type 0
IsFound ranges f r = IsSomeAnd (slice_get ranges f.index) (λ m. (m.writable ≡ f.writable) × IsTrue (contains m.range r))

-- r lies in the range of memory at this place
abbrev pub IsInside : List MemoryRange → ℕ → Range → Type 0
IsInside ranges i r = IsSomeAnd (slice_get ranges i) (λ m. IsTrue (contains m.range r))
