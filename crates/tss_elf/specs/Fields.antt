-- What an image's bytes say: the numbers at a place, the fields of the file header, and the program headers.
use Rattle.std.specs.Prelude.{ℕ, ◌+◌, ◌*◌, ◌==◌, Bool, List, drop, filter, map, nat_lt, ◌&&◌}
use Rattle.std.specs.Int.{bit_at}
use Rattle.std.specs.List.{range_with_len}
use Rattle.byteorder.specs.Endian.{little_number}
use Rattle.tss_base.specs.declared.range.Range.{Range}
use Rattle.tss_elf.specs.declared.header.TheConstants.{HEADER_LEN}
use Rattle.tss_elf.specs.declared.header.ProgramHeader.{ProgramHeader}

-- the number in two bytes, the lower first
unfoldable pub half_at : List ℕ → ℕ → ℕ
half_at bytes at = little_number 2 (drop at bytes)

-- the number in four bytes, the lowest first
unfoldable pub word_at : List ℕ → ℕ → ℕ
word_at bytes at = little_number 4 (drop at bytes)

-- the address of the first instruction
abbrev pub entry_of : List ℕ → ℕ
entry_of bytes = word_at bytes 24

-- where the program headers stand, how long each is said to be, and how many there are
abbrev pub headers_place : List ℕ → ℕ
headers_place bytes = word_at bytes 28

abbrev pub header_size : List ℕ → ℕ
header_size bytes = half_at bytes 42

abbrev pub header_count : List ℕ → ℕ
header_count bytes = half_at bytes 44

-- the program header that stands at a place
unfoldable pub header_at : List ℕ → ℕ → ProgramHeader
header_at bytes at = record {
  kind = word_at bytes at;
  offset = word_at bytes (at + 4);
  address = word_at bytes (at + 8);
  file_size = word_at bytes (at + 16);
  memory_size = word_at bytes (at + 20);
  flags = word_at bytes (at + 24);
}

-- where the program header of a number stands
abbrev pub place_of : List ℕ → ℕ → ℕ
place_of bytes i = headers_place bytes + HEADER_LEN * i

-- the program headers, in the order of the file
unfoldable pub headers : List ℕ → List ProgramHeader
headers bytes = map (λ i. header_at bytes (place_of bytes i)) (range_with_len 0 (header_count bytes))

-- it describes a segment that is loaded
abbrev pub is_loaded : ProgramHeader → Bool
is_loaded h = h.kind == 1

-- its segment has a byte, and is kept
abbrev pub is_kept : ProgramHeader → Bool
is_kept h = is_loaded h && nat_lt 0 h.memory_size

-- the headers of the kept segments, in the order of the file
abbrev pub kept_headers : List ℕ → List ProgramHeader
kept_headers bytes = filter is_kept (headers bytes)

-- its segment can be executed, and written
abbrev pub is_code : ProgramHeader → Bool
is_code h = bit_at h.flags 0 == 1

abbrev pub is_writable : ProgramHeader → Bool
is_writable h = bit_at h.flags 1 == 1

-- the addresses of its segment
abbrev pub range_of : ProgramHeader → Range
range_of h = record { base = h.address; len = h.memory_size }
