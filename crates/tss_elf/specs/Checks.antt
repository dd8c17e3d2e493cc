-- The checks that an image has to pass, in their order, and the first that fails.
use Rattle.std.specs.Prelude.{ℕ, ◌+◌, ◌*◌, ◌%◌, ◌==◌, nat_lt, nat_eq, Bool, false, ◌&&◌, ◌||◌, not, if◌then◌else◌, List}
use Rattle.std.specs.Prelude.{[], ◌∷◌, ◌++◌, length, slice_index, flat_map, sum_by, Option, None, Some}
use Rattle.std.specs.Int.{bit_at}
use Rattle.std.specs.List.{list_any, starts_with}
use Rattle.tss_base.specs.declared.addresses.TheConstants.{SEGMENTS_END}
use Rattle.tss_base.specs.declared.bounds.TheConstants.{MAX_SEGMENTS, MAX_IMAGE_BYTES}
use Rattle.tss_base.specs.Range.{end_of, meets, contains}
use Rattle.tss_elf.specs.declared.checking.TheConstants.{FILE_HEADER_LEN}
use Rattle.tss_elf.specs.declared.header.TheConstants.{HEADER_LEN}
use Rattle.tss_elf.specs.declared.header.ProgramHeader.{ProgramHeader}
use Rattle.tss_elf.specs.declared.refusal.Refusal.{Refusal}
use Rattle.tss_elf.specs.declared.refusal.Refusal.TheVariants as check
use Rattle.tss_elf.specs.Fields.{half_at, word_at, entry_of, headers_place}
use Rattle.tss_elf.specs.Fields.{header_size, header_count, headers, is_loaded, kept_headers, is_code, range_of}

-- The tests, each of which says that its check fails.

-- of the file header: it isn't there whole
abbrev pub is_short : List ℕ → Bool
is_short bytes = nat_lt (length bytes) FILE_HEADER_LEN

-- it doesn't begin with 7F 45 4C 46
abbrev pub has_other_magic : List ℕ → Bool
has_other_magic bytes = not (starts_with nat_eq bytes (0x7F ∷ 0x45 ∷ 0x4C ∷ 0x46 ∷ []))

-- it isn't of 32 bits
abbrev pub has_other_class : List ℕ → Bool
has_other_class bytes = not (slice_index bytes 4 == 1)

-- its numbers don't begin with the lowest byte
abbrev pub has_other_data : List ℕ → Bool
has_other_data bytes = not (slice_index bytes 5 == 1)

-- one of its two versions isn't 1
abbrev pub has_other_version : List ℕ → Bool
has_other_version bytes = not (slice_index bytes 6 == 1) || not (word_at bytes 20 == 1)

-- it isn't an executable file
abbrev pub has_other_type : List ℕ → Bool
has_other_type bytes = not (half_at bytes 16 == 2)

-- it isn't for RISC-V
abbrev pub has_other_machine : List ℕ → Bool
has_other_machine bytes = not (half_at bytes 18 == 243)

-- by its flags it passes numbers with a fraction in registers of their own
abbrev pub names_float_abi : ℕ → Bool
names_float_abi flags = bit_at flags 1 == 1 || bit_at flags 2 == 1

abbrev pub has_float_abi : List ℕ → Bool
has_float_abi bytes = names_float_abi (word_at bytes 36)

-- it has too many program headers, or some of another length
abbrev pub has_bad_header_size : List ℕ → Bool
has_bad_header_size bytes =
    nat_lt MAX_SEGMENTS (header_count bytes)
    || nat_lt 0 (header_count bytes) && not (header_size bytes == HEADER_LEN)

-- it has program headers that pass the end of the file
abbrev pub has_misplaced_headers : List ℕ → Bool
has_misplaced_headers bytes =
    nat_lt 0 (header_count bytes)
    && nat_lt (length bytes) (headers_place bytes + HEADER_LEN * header_count bytes)

-- of a program header: it asks for a dynamic linker
abbrev pub is_dynamic : ProgramHeader → Bool
is_dynamic h = h.kind == 2 || h.kind == 3

-- its bytes pass the end of a file of this length, or its segment passes the last address that a segment may have
abbrev pub is_misplaced : ℕ → ProgramHeader → Bool
is_misplaced file_len h =
    is_loaded h
    && (nat_lt file_len (h.offset + h.file_size) || nat_lt SEGMENTS_END (end_of (range_of h)))

-- more bytes of the file than of memory belong to it
abbrev pub is_oversized : ProgramHeader → Bool
is_oversized h = is_loaded h && nat_lt h.memory_size h.file_size

-- of the kept segments together: some two share an address
abbrev pub shares_address : ProgramHeader → ProgramHeader → Bool
shares_address g h = meets (range_of g) (range_of h)

abbrev pub has_overlap : List ProgramHeader → Bool
has_overlap [] = false
has_overlap (h ∷ hs) = list_any (shares_address h) hs || has_overlap hs

-- none can be executed
abbrev pub has_no_code : List ProgramHeader → Bool
has_no_code hs = not (list_any is_code hs)

-- the entry isn't a multiple of 4, or its four bytes don't lie in one that can be executed
abbrev pub has_code_at : ℕ → ProgramHeader → Bool
has_code_at entry h = is_code h && contains (range_of h) (record { base = entry; len = 4 })

abbrev pub has_misplaced_entry : ℕ → List ProgramHeader → Bool
has_misplaced_entry entry hs = not (entry % 4 == 0) || not (list_any (has_code_at entry) hs)

-- they have too many bytes together
abbrev pub is_too_large : List ProgramHeader → Bool
is_too_large hs = nat_lt MAX_IMAGE_BYTES (sum_by (λ h. h.memory_size) hs)

-- the checks of each part in their order, each with whether it fails
abbrev pub file_checks : List ℕ → List (Refusal × Bool)
file_checks bytes =
    (check.Short, is_short bytes)
    ∷ (check.Magic, has_other_magic bytes)
    ∷ (check.Class, has_other_class bytes)
    ∷ (check.Data, has_other_data bytes)
    ∷ (check.Version, has_other_version bytes)
    ∷ (check.FileType, has_other_type bytes)
    ∷ (check.Machine, has_other_machine bytes)
    ∷ (check.Flags, has_float_abi bytes)
    ∷ (check.HeaderSize, has_bad_header_size bytes)
    ∷ (check.HeaderPlace, has_misplaced_headers bytes)
    ∷ []

abbrev pub header_checks : ℕ → ProgramHeader → List (Refusal × Bool)
header_checks file_len h =
    (check.Dynamic, is_dynamic h)
    ∷ (check.SegmentPlace, is_misplaced file_len h)
    ∷ (check.SegmentSize, is_oversized h)
    ∷ []

abbrev pub kept_checks : ℕ → List ProgramHeader → List (Refusal × Bool)
kept_checks entry hs =
    (check.Overlap, has_overlap hs)
    ∷ (check.NoCode, has_no_code hs)
    ∷ (check.EntryPlace, has_misplaced_entry entry hs)
    ∷ (check.TooLarge, is_too_large hs)
    ∷ []

-- those of one program header come before those of the next
abbrev pub each_header_checks : List ℕ → List (Refusal × Bool)
each_header_checks bytes = flat_map (header_checks (length bytes)) (headers bytes)

-- all of them
unfoldable pub checks : List ℕ → List (Refusal × Bool)
checks bytes = file_checks bytes ++ each_header_checks bytes ++ kept_checks (entry_of bytes) (kept_headers bytes)

-- the first that fails
abbrev pub first_failing : List (Refusal × Bool) → Option Refusal
first_failing [] = None
first_failing (c ∷ cs) = if c.1 then Some c.0 else first_failing cs
