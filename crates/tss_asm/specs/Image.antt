-- The bytes of a program's image: a file header, two program headers, the words of the text and those of the data. And
-- the image that they are.
use Rattle.std.specs.Prelude.{ℕ, ◌+◌, ◌*◌, ◌==◌, nat_le, if◌then◌else◌, true, false, List, [], ◌∷◌, ◌++◌, length, flat_map}
use Rattle.std.specs.Prelude.{replicate}
use Rattle.byteorder.specs.Endian.{little_bytes}
use Rattle.tss_base.specs.Image.{SegmentState, ImageState}
use Rattle.tss_elf.specs.declared.header.ProgramHeader.{ProgramHeader}
use Rattle.tss_elf.specs.declared.checking.TheConstants.{FILE_HEADER_LEN}
use Rattle.tss_elf.specs.declared.header.TheConstants.{HEADER_LEN}
use Rattle.tss_asm.specs.Program.{ProgramState}
use Rattle.tss_asm.specs.Words.{word_len, words, address_of}

-- numbers of two and of four bytes, the lowest byte first
abbrev pub half_bytes : ℕ → List ℕ
half_bytes n = little_bytes 2 n

abbrev pub word_bytes : ℕ → List ℕ
word_bytes n = little_bytes word_len n

-- the bytes of words, one after the other
abbrev pub bytes_of_words : List ℕ → List ℕ
bytes_of_words ws = flat_map word_bytes ws

-- what begins each ELF file of 32 bits whose numbers have the lowest byte first
abbrev pub identification : List ℕ
identification = 0x7F ∷ 0x45 ∷ 0x4C ∷ 0x46 ∷ 1 ∷ 1 ∷ 1 ∷ 0 ∷ 0 ∷ 0 ∷ 0 ∷ 0 ∷ 0 ∷ 0 ∷ 0 ∷ 0 ∷ []

-- the file header of an executable file for RISC-V with two program headers directly after it
abbrev pub file_header_bytes : ℕ → List ℕ
file_header_bytes entry =
    identification
    ++ half_bytes 2 ++ half_bytes 243 ++ word_bytes 1
    ++ word_bytes entry ++ word_bytes FILE_HEADER_LEN ++ word_bytes 0
    ++ word_bytes 0 ++ half_bytes FILE_HEADER_LEN ++ half_bytes HEADER_LEN ++ half_bytes 2
    ++ half_bytes 0 ++ half_bytes 0 ++ half_bytes 0

-- where the words of the text stand in the file, and those of the data
abbrev pub text_offset : ℕ
text_offset = FILE_HEADER_LEN + 2 * HEADER_LEN

abbrev pub text_len : ProgramState → ℕ
text_len p = word_len * length p.text

abbrev pub data_len : ProgramState → ℕ
data_len p = word_len * length p.data_words

abbrev pub data_offset : ProgramState → ℕ
data_offset p = if length p.data_words == 0 then 0 else text_offset + text_len p

abbrev pub file_len : ProgramState → ℕ
file_len p = text_offset + text_len p + data_len p

-- the text is read and executed, and the data is read and written
abbrev pub text_header : ProgramState → ProgramHeader
text_header p = record {
  kind = 1;
  offset = text_offset;
  address = p.text_at;
  file_size = text_len p;
  memory_size = text_len p;
  flags = 5;
}

abbrev pub data_header : ProgramState → ProgramHeader
data_header p = record {
  kind = 1;
  offset = data_offset p;
  address = p.data_at;
  file_size = data_len p;
  memory_size = data_len p + p.zeros;
  flags = 6;
}

-- a program header's words: the physical address is the other one, and segments are aligned to words
abbrev pub header_words : ProgramHeader → List ℕ
header_words h =
    h.kind ∷ h.offset ∷ h.address ∷ h.address ∷ h.file_size ∷ h.memory_size ∷ h.flags ∷ word_len ∷ []

abbrev pub image_bytes : ProgramState → ℕ → List ℕ
image_bytes p entry =
    file_header_bytes (address_of p entry)
    ++ bytes_of_words (header_words (text_header p))
    ++ bytes_of_words (header_words (data_header p))
    ++ bytes_of_words (words p)
    ++ bytes_of_words p.data_words

-- the segments that the image is loaded as
abbrev pub text_segment : ProgramState → SegmentState
text_segment p = record {
  base = p.text_at;
  bytes = bytes_of_words (words p);
  writable = false;
  code = true;
}

abbrev pub data_segment : ProgramState → SegmentState
data_segment p = record {
  base = p.data_at;
  bytes = bytes_of_words p.data_words ++ replicate p.zeros 0;
  writable = true;
  code = false;
}

-- a segment without bytes isn't there, and the one with the lower address comes first
abbrev pub segments_of : ProgramState → List SegmentState
segments_of p =
    if data_len p + p.zeros == 0 then text_segment p ∷ []
    else if nat_le p.text_at p.data_at then text_segment p ∷ data_segment p ∷ []
    else data_segment p ∷ text_segment p ∷ []

abbrev pub built_image : ProgramState → ℕ → ImageState
built_image p entry = record { entry = address_of p entry; segments = segments_of p }
