-- Why a program is no image: four faults in their order, and the first that holds.
use Rattle.std.specs.Prelude.{◌≡◌, ℕ, ◌+◌, ◌^◌, Bool, true, false, ◌&&◌, ◌||◌, not, if◌then◌else◌, List, [], ◌∷◌, ◌++◌}
use Rattle.std.specs.Prelude.{filter, Option, None, Some, is_none, is_some, Result, Ok, Err}
use Rattle.std.specs.List.{list_any}
use Rattle.tss_base.specs.Names.{Numbered}
use Rattle.tss_isa.specs.InstrTable.{fits, is_register, is_within}
use Rattle.tss_elf.specs.declared.refusal.Refusal.{Refusal}
use Rattle.tss_elf.specs.Fields.{is_kept}
use Rattle.tss_elf.specs.Checks.{header_checks, kept_checks, first_failing}
use Rattle.tss_asm.specs.declared.fault.AsmFault.{AsmFault}
use Rattle.tss_asm.specs.declared.fault.AsmFault.TheVariants as fault
use Rattle.tss_asm.specs.declared.item.Item.{Item}
use Rattle.tss_asm.specs.declared.item.Item.TheVariants as item
use Rattle.tss_asm.specs.Labels.{place_of, label_place}
use Rattle.tss_asm.specs.Program.{ProgramState}
use Rattle.tss_asm.specs.Words.{Content, Encoded, Stored, content, distance, address_of}
use Rattle.tss_asm.specs.Image.{text_header, data_header, file_len}

-- the label that an item uses
abbrev pub used_label : Item → Option ℕ
used_label (item.Plain i) = None
used_label (item.Branch test a b to) = Some to
used_label (item.Jump rd to) = Some to
used_label (item.Upper rd of) = Some of
used_label (item.Lower rd of) = Some of
used_label (item.Number n) = None
used_label (item.Address of) = Some of

-- a label without a place, if there is one
abbrev pub is_unplaced : Numbered (Option ℕ) → ℕ → Bool
is_unplaced labels label = is_none (place_of labels label)

abbrev pub some_unplaced : Numbered (Option ℕ) → Option ℕ → Bool
some_unplaced labels None = false
some_unplaced labels (Some label) = is_unplaced labels label

-- a used label isn't placed, where the entry is used too
abbrev pub has_unknown_label : ProgramState → ℕ → Bool
has_unknown_label p entry =
    is_unplaced p.labels entry || list_any (λ x. some_unplaced p.labels (used_label x)) p.text

-- some item, of which the first is at a place, passes a test of its place and itself
abbrev pub any_from : (ℕ → Item → Bool) → ℕ → List Item → Bool
any_from test at [] = false
any_from test at (x ∷ xs) = test at x || any_from test (at + 1) xs

-- a branch or a jump doesn't reach its label: a branch has 13 bits with sign, a jump 21
abbrev pub is_far : Numbered (Option ℕ) → ℕ → Item → Bool
is_far labels at (item.Branch test a b to) = not (is_within (2 ^ 12) (distance at (label_place labels to)))
is_far labels at (item.Jump rd to) = not (is_within (2 ^ 20) (distance at (label_place labels to)))
is_far labels at x = false

abbrev pub has_far_target : ProgramState → Bool
has_far_target p = any_from (is_far p.labels) 0 p.text

-- an instruction has a field that is out of its range
abbrev pub is_unfit : Content → Bool
is_unfit (Encoded i) = not (fits i)
is_unfit (Stored n) = false

abbrev pub has_bad_immediate : ProgramState → Bool
has_bad_immediate p = any_from (λ at x. is_unfit (content p.text_at p.labels at x)) 0 p.text

-- the fields that were given are in their ranges
abbrev pub has_fit_fields : Item → Bool
has_fit_fields (item.Plain i) = fits i
has_fit_fields (item.Branch test a b to) = is_register a && is_register b
has_fit_fields (item.Jump rd to) = is_register rd
has_fit_fields (item.Upper rd of) = is_register rd
has_fit_fields (item.Lower rd of) = is_register rd
has_fit_fields (item.Number n) = true
has_fit_fields (item.Address of) = true

-- the checks of an image that look at its program headers and its entry
abbrev pub layout_checks : ProgramState → ℕ → List (Refusal × Bool)
layout_checks p entry =
    header_checks (file_len p) (text_header p)
    ++ header_checks (file_len p) (data_header p)
    ++ kept_checks (address_of p entry) (filter is_kept (text_header p ∷ data_header p ∷ []))

abbrev pub has_bad_layout : ProgramState → ℕ → Bool
has_bad_layout p entry = is_some (first_failing (layout_checks p entry))

-- the first fault
abbrev pub first_fault : ProgramState → ℕ → Option AsmFault
first_fault p entry =
    if has_unknown_label p entry then Some fault.UnknownLabel
    else if has_far_target p then Some fault.FarTarget
    else if has_bad_immediate p then Some fault.BadImmediate
    else if has_bad_layout p entry then Some fault.BadLayout
    else None

-- there is none
pub record IsFaultless (p : ProgramState) (entry : ℕ) : Type 0 where
  pub known : has_unknown_label p entry ≡ false
  pub near : has_far_target p ≡ false
  pub fit : has_bad_immediate p ≡ false
  pub placed : has_bad_layout p entry ≡ false

-- an answer is right where it is this first fault, or a value of which a fact holds where there is none, unless memory
-- ran out
abbrev pub Answers : {X : Type 0} → Result X AsmFault → Option AsmFault → (X → Type 0) → Type 0
Answers (Ok x) first P = (first ≡ None) × P x
Answers (Err fault.NoMemory) first P = Unit {0}
Answers (Err fault.UnknownLabel) first P = first ≡ Some fault.UnknownLabel
Answers (Err fault.FarTarget) first P = first ≡ Some fault.FarTarget
Answers (Err fault.BadImmediate) first P = first ≡ Some fault.BadImmediate
Answers (Err fault.BadLayout) first P = first ≡ Some fault.BadLayout
