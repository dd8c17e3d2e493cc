-- The image that a list of bytes is, or the number of the first check that it fails.
use Rattle.std.specs.Prelude.{◌≡◌, ℕ, ◌+◌, ◌-◌, ◌<◌, ◌≤◌, nat_le, if◌then◌else◌, List, [], ◌∷◌, ◌++◌, map, take, drop}
use Rattle.std.specs.Prelude.{replicate, Option, None, Some, option_map, Result, Ok, Err}
use Rattle.tss_base.specs.Image.{SegmentState, ImageState}
use Rattle.tss_elf.specs.declared.header.ProgramHeader.{ProgramHeader}
use Rattle.tss_elf.specs.declared.refusal.ImageFault.{ImageFault}
use Rattle.tss_elf.specs.declared.refusal.ImageFault.TheVariants as fault
use Rattle.tss_elf.specs.declared.refusal.Refusal.{Refusal}
use Rattle.tss_elf.specs.declared.refusal.Refusal.TheVariants as check
use Rattle.tss_elf.specs.Fields.{entry_of, kept_headers, is_code, is_writable}
use Rattle.tss_elf.specs.Checks.{checks, first_failing}
use Rattle.tss_base.specs.declared.addresses.TheConstants.{SEGMENTS_END}

-- what a list of bytes is: refused, with a check's number, or accepted
pub data Verdict : Type 0 where
  Refused : ℕ → Verdict
  Accepted : ImageState → Verdict

-- the number of a check
abbrev pub number_of : Refusal → ℕ
number_of check.Short = 1
number_of check.Magic = 2
number_of check.Class = 3
number_of check.Data = 4
number_of check.Version = 5
number_of check.FileType = 6
number_of check.Machine = 7
number_of check.Flags = 8
number_of check.HeaderSize = 9
number_of check.HeaderPlace = 10
number_of check.Dynamic = 11
number_of check.SegmentPlace = 12
number_of check.SegmentSize = 13
number_of check.Overlap = 14
number_of check.NoCode = 15
number_of check.EntryPlace = 16
number_of check.TooLarge = 17

-- the bytes of the file that a header names, and zeros after them
unfoldable pub loaded_bytes : List ℕ → ProgramHeader → List ℕ
loaded_bytes bytes h = take h.file_size (drop h.offset bytes) ++ replicate (h.memory_size - h.file_size) 0

-- its segment
abbrev pub segment_of : List ℕ → ProgramHeader → SegmentState
segment_of bytes h = record {
  base = h.address;
  bytes = loaded_bytes bytes h;
  writable = is_writable h;
  code = is_code h;
}

-- a header put before the first that isn't below it, and headers in the order of their addresses
abbrev pub put_by_address : ProgramHeader → List ProgramHeader → List ProgramHeader
put_by_address h [] = h ∷ []
put_by_address h (g ∷ gs) = if nat_le h.address g.address then h ∷ g ∷ gs else g ∷ put_by_address h gs

abbrev pub by_address : List ProgramHeader → List ProgramHeader
by_address [] = []
by_address (h ∷ hs) = put_by_address h (by_address hs)

-- the entry, and the kept segments in address order
abbrev pub loaded_image : List ℕ → ImageState
loaded_image bytes = record {
  entry = entry_of bytes;
  segments = map (segment_of bytes) (by_address (kept_headers bytes));
}

abbrev pub verdict_on : List ℕ → Option Refusal → Verdict
verdict_on bytes (Some refusal) = Refused (number_of refusal)
verdict_on bytes None = Accepted (loaded_image bytes)

-- what the bytes are
unfoldable pub image_of : List ℕ → Verdict
image_of bytes = verdict_on bytes (first_failing (checks bytes))

-- it passed its checks, and its segment has a byte, in a file of this length
pub record CanLoad (file_len : ℕ) (h : ProgramHeader) : Type 0 where
  pub some : 0 < h.memory_size
  pub stored : h.offset + h.file_size ≤ file_len
  pub within : h.file_size ≤ h.memory_size
  pub placed : h.address + h.memory_size ≤ SEGMENTS_END

-- an answer is right where the first check that fails is this one, if any, unless memory ran out
abbrev pub Passes : {X : Type 0} → Result X ImageFault → Option Refusal → (X → Type 0) → Type 0
Passes (Ok x) first P = (first ≡ None) × P x
Passes (Err (fault.Check n)) first P = option_map number_of first ≡ Some n
Passes (Err fault.NoMemory) first P = Unit {0}

-- an answer is that verdict, unless memory ran out
abbrev pub Gives : Result ImageState ImageFault → Verdict → Type 0
Gives (Ok image) v = v ≡ Accepted image
Gives (Err (fault.Check n)) v = v ≡ Refused n
Gives (Err fault.NoMemory) v = Unit {0}

-- a fact of the image, where there is one
abbrev pub IfAccepted : Verdict → (ImageState → Type 0) → Type 0
IfAccepted (Refused n) P = Unit {0}
IfAccepted (Accepted image) P = P image
