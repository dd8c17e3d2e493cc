-- The words of a program's text.
use Rattle.std.specs.Prelude.{ℕ, ◌+◌, ◌*◌, ◌/◌, ◌%◌, ◌^◌, ℤ, pos, ◌-ℤ◌, Option, List, [], ◌∷◌}
use Rattle.tss_base.specs.Names.{Numbered}
use Rattle.tss_isa.specs.declared.instr.Instr.{Instr}
use Rattle.tss_isa.specs.declared.instr.Instr.TheVariants as isa
use Rattle.tss_isa.specs.declared.instr.ImmOp.TheVariants.{Addi}
use Rattle.tss_isa.specs.Fields.{signed}
use Rattle.tss_isa.specs.InstrTable.{word_of}
use Rattle.tss_asm.specs.declared.item.Item.{Item}
use Rattle.tss_asm.specs.declared.item.Item.TheVariants as item
use Rattle.tss_asm.specs.Labels.{label_place}
use Rattle.tss_asm.specs.Program.{ProgramState}

-- how many bytes a word has
abbrev pub word_len : ℕ
word_len = 4

-- the address of a label's place in a text at an address
abbrev pub label_address : ℕ → Numbered (Option ℕ) → ℕ → ℕ
label_address text_at labels label = text_at + word_len * label_place labels label

-- how far one place is from another, in bytes
abbrev pub distance : ℕ → ℕ → ℤ
distance from to = pos (word_len * to) -ℤ pos (word_len * from)

-- an address in two parts: a multiple of 2 ^ 12, and the number from -2048 to 2047 that is added to it
abbrev pub upper_part : ℕ → ℕ
upper_part address = (address + 2 ^ 11) / 2 ^ 12 % 2 ^ 20 * 2 ^ 12

abbrev pub lower_part : ℕ → ℤ
lower_part address = signed 12 (address % 2 ^ 12)

-- what loads a number into a register
abbrev pub loads : ℕ → ℕ → List Item
loads rd n =
    item.Plain (isa.Lui rd (upper_part n)) ∷ item.Plain (isa.OpImm Addi rd rd (lower_part n)) ∷ []

-- what a word of the text is: an instruction or a number
pub data Content : Type 0 where
  Encoded : Instr → Content
  Stored : ℕ → Content

-- what an item is as the word at a place of a text, by the text's address and the labels
abbrev pub content : ℕ → Numbered (Option ℕ) → ℕ → Item → Content
content text_at labels at (item.Plain i) = Encoded i
content text_at labels at (item.Branch test a b to) =
    Encoded (isa.Branch test a b (distance at (label_place labels to)))
content text_at labels at (item.Jump rd to) = Encoded (isa.Jal rd (distance at (label_place labels to)))
content text_at labels at (item.Upper rd of) = Encoded (isa.Lui rd (upper_part (label_address text_at labels of)))
content text_at labels at (item.Lower rd of) =
    Encoded (isa.OpImm Addi rd rd (lower_part (label_address text_at labels of)))
content text_at labels at (item.Number n) = Stored n
content text_at labels at (item.Address of) = Stored (label_address text_at labels of)

abbrev pub content_word : Content → ℕ
content_word (Encoded i) = word_of i
content_word (Stored n) = n

-- the words of items of which the first is at a place
abbrev pub words_from : ℕ → Numbered (Option ℕ) → ℕ → List Item → List ℕ
words_from text_at labels at [] = []
words_from text_at labels at (x ∷ xs) =
    content_word (content text_at labels at x) ∷ words_from text_at labels (at + 1) xs

-- the words of the text
abbrev pub words : ProgramState → List ℕ
words p = words_from p.text_at p.labels 0 p.text

-- the address of a label
abbrev pub address_of : ProgramState → ℕ → ℕ
address_of p label = label_address p.text_at p.labels label
