-- The image of the workload, in either form, with n blocks a side.
use Rattle.std.specs.Prelude.{ℕ, ◌+◌, ◌*◌, ◌-◌, ◌/◌, List, [], ◌∷◌, ◌++◌, length, map, flat_map}
use Rattle.std.specs.List.{range_with_len}
use Rattle.tss_base.specs.declared.lists.TheConstants.{INPUT, OUTPUT, INOUT}
use Rattle.tss_isa.specs.declared.instr.Instr.{Instr}
use Rattle.tss_isa.specs.declared.instr.Instr.TheVariants.{Lui, OpImm}
use Rattle.tss_isa.specs.declared.instr.ImmOp.TheVariants.{Addi}
use Rattle.tss_isa.specs.InstrTable.{word_of}
use Rattle.tss_asm.specs.Words.{upper_part, lower_part}
use Rattle.tss_asm.specs.Image.{bytes_of_words, file_header_bytes}
use Rattle.tss_gen.specs.declared.form.Form.{Form}
use Rattle.tss_gen.specs.Tasks.{tasks, main_loop}

-- where the text begins, and where the blocks do
abbrev pub text_at : ℕ
text_at = 0x10000

abbrev pub data_at : ℕ
data_at = 0x1000000

-- a block has 16 words; those of a row follow those of the rows before, and the block T follows all
abbrev pub block_len : ℕ
block_len = 64

abbrev pub numbered_block : ℕ → ℕ
numbered_block m = data_at + block_len * m

abbrev pub block : ℕ → ℕ → ℕ
block i j = numbered_block (i * (i + 1) / 2 + j)

abbrev pub last_number : ℕ → ℕ
last_number n = n * (n + 1) / 2

-- a record of the table: a task's address, how many operands it has, its argument, and a list of three operands of which
-- those that it has come first
abbrev pub input : ℕ → List ℕ
input base = base ∷ block_len ∷ INPUT ∷ []

abbrev pub output : ℕ → List ℕ
output base = base ∷ block_len ∷ OUTPUT ∷ []

abbrev pub inout : ℕ → List ℕ
inout base = base ∷ block_len ∷ INOUT ∷ []

abbrev pub nothing : List ℕ
nothing = 0 ∷ 0 ∷ 0 ∷ []

-- D on (k,k)
abbrev pub diagonal_record : ℕ → List ℕ
diagonal_record k = text_at ∷ 1 ∷ k ∷ inout (block k k) ++ nothing ++ nothing

-- E on (k,k) and T
abbrev pub extract_record : ℕ → ℕ → List ℕ
extract_record n k =
    (text_at + 4 * 9) ∷ 2 ∷ k ∷ input (block k k) ++ output (numbered_block (last_number n)) ++ nothing

-- C on T and (i,k)
abbrev pub column_record : ℕ → ℕ → ℕ → List ℕ
column_record n k i =
    (text_at + 4 * 17) ∷ 2 ∷ k ∷ input (numbered_block (last_number n)) ++ inout (block i k) ++ nothing

-- U on (i,k), (j,k) and (i,j)
abbrev pub update_record : ℕ → ℕ → ℕ → List ℕ
update_record k i j =
    (text_at + 4 * 27) ∷ 3 ∷ k ∷ input (block i k) ++ input (block j k) ++ inout (block i j)

-- the numbers above k and below n, and those above k up to i
abbrev pub between : ℕ → ℕ → List ℕ
between k n = range_with_len (k + 1) (n - (k + 1))

abbrev pub up_to : ℕ → ℕ → List ℕ
up_to k i = range_with_len (k + 1) (i - k)

-- the records of one k, and all
abbrev pub update_row : ℕ → ℕ → List ℕ
update_row k i = flat_map (update_record k i) (up_to k i)

abbrev pub records : ℕ → ℕ → List ℕ
records n k =
    diagonal_record k ++ extract_record n k
    ++ flat_map (column_record n k) (between k n)
    ++ flat_map (update_row k) (between k n)

abbrev pub table : ℕ → List ℕ
table n = flat_map (records n) (range_with_len 0 n)

-- main: the table's two ends, then its loop
abbrev pub load : ℕ → ℕ → List Instr
load rd n = Lui rd (upper_part n) ∷ OpImm Addi rd rd (lower_part n) ∷ []

abbrev pub main : ℕ → ℕ → List Instr
main from to = load 8 from ++ load 9 to ++ main_loop

abbrev pub table_at : Form → ℕ
table_at form = text_at + 4 * length (tasks form)

abbrev pub main_at : Form → ℕ → ℕ
main_at form n = table_at form + 4 * length (table n)

-- the words of the text: the tasks, the table, and main
abbrev pub text_words : Form → ℕ → List ℕ
text_words form n =
    map word_of (tasks form) ++ table n ++ map word_of (main (table_at form) (main_at form n))

-- those of the blocks, T among them: 1, 2, 3 and so on
abbrev pub block_words : ℕ → List ℕ
block_words n = range_with_len 1 (16 * (last_number n + 1))

-- a segment's program header: its place in the file, its address, its length and its flags
abbrev pub header : ℕ → ℕ → ℕ → ℕ → List ℕ
header offset at len flags = 1 ∷ offset ∷ at ∷ at ∷ len ∷ len ∷ flags ∷ 4 ∷ []

-- the bytes: the file header with main's address, the header of the text, that of the blocks, and the words of both
abbrev pub workload_bytes : Form → ℕ → List ℕ
workload_bytes form n =
    let text_len = 4 * length (text_words form n) in
    file_header_bytes (main_at form n)
    ++ bytes_of_words (header 116 text_at text_len 5)
    ++ bytes_of_words (header (116 + text_len) data_at (4 * length (block_words n)) 6)
    ++ bytes_of_words (text_words form n)
    ++ bytes_of_words (block_words n)
