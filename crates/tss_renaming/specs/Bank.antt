-- What contracts see of a bank of the renaming table, and what its rows leave.
use Rattle.std.specs.Prelude.{◌≡◌, ℕ, ◌+◌, ◌*◌, Bool, true, false, if◌then◌else◌, List, [], ◌∷◌, Option, option_map, refl}
use Rattle.std.specs.Ordering.{nat_cmp}
use Rattle.std.specs.Coded.{Coded, code_by, coded×, coded_ℕ}
use Rattle.std.specs.FinMap.{get, remove, len, empty}
use Rattle.tss_base.specs.contracts.machine.Sizes as sizes
use Rattle.tss_base.specs.declared.bounds.TheConstants.{MAX_OPERANDS}
use Rattle.tss_base.specs.declared.operand.OpName.{OpName}
use Rattle.tss_base.specs.declared.machine.Sizes.{Sizes}
use Rattle.tss_base.specs.Names.{name_cmp, Named, Numbered}
use Rattle.tss_maps.specs.Mapped.{mapped}
use Rattle.tss_tables.specs.Table.{TableState}
use Rattle.tss_protocol.specs.Mail.{GoneContents}
use Rattle.tss_protocol.specs.State.{Entry}
use Rattle.tss_protocol.specs.Codes.{named, numbered, nothing_code}
use Rattle.tss_protocol.specs.StateCodes.{entry_code}
use Rattle.tss_protocol.specs.Renaming.{Tables, Fill, buffers_after_gone}
use Rattle.tss_events.specs.declared.message.Message.{Message}
use Rattle.tss_events.specs.declared.message.Message.TheVariants as message
use Rattle.tss_renaming.specs.Holding.{HeldState}

-- the number of the bank and the sizes of the machine, the entries under the bases of their objects, the places and the
-- buffers of the bank under the names that hold them, and the operands that are to be decoded here
pub record RenamingState : Type 0 where
  pub bank : ℕ
  pub sizes : Sizes
  pub entries : Numbered Entry
  pub places : Named ℕ
  pub buffers : Named ℕ
  pub line : Named (Unit {0})

abbrev pub renaming_code : Coded RenamingState
renaming_code =
    code_by (ℕ × (Sizes × (Numbered Entry × (Named ℕ × (Named ℕ × Named (Unit {0}))))))
    (coded× coded_ℕ (coded× (sizes.the_row).coded (coded× (numbered entry_code)
    (coded× (named coded_ℕ) (coded× (named coded_ℕ) (named nothing_code))))))
    (λ s. (s.bank, (s.sizes, (s.entries, (s.places, (s.buffers, s.line))))))
    (λ p. record {
      bank = p.0;
      sizes = p.1.0;
      entries = p.1.1.0;
      places = p.1.1.1.0;
      buffers = p.1.1.1.1.0;
      line = p.1.1.1.1.1;
    })
    (λ _. refl)

-- an empty bank
abbrev pub no_tables : ℕ → Sizes → RenamingState
no_tables bank sizes = record {
  bank = bank;
  sizes = sizes;
  entries = empty;
  places = empty;
  buffers = empty;
  line = empty;
}

-- ---- as the definitions have it

-- each place and buffer is of the bank
abbrev pub of_bank : ℕ → Named ℕ → Named ℕ
of_bank bank places = mapped (λ p. bank) places

-- the definitions' tables, which know the bank of a place alone
abbrev pub tables_of : RenamingState → Tables
tables_of s = record { entries = s.entries; places = of_bank s.bank s.places; buffers = of_bank s.bank s.buffers }

-- what the bank has in use
abbrev pub fill_in : RenamingState → Fill
fill_in s = record { entries = len s.entries; places = len s.places; buffers = len s.buffers }

-- ---- how it is kept

-- the parts of a bank, as what contracts see
abbrev pub renaming_of : ℕ → Sizes → TableState nat_cmp Entry → HeldState → HeldState
    → TableState name_cmp (Unit {0}) → RenamingState
renaming_of bank sizes entries places buffers line = record {
  bank = bank;
  sizes = sizes;
  entries = entries.entries;
  places = places.places;
  buffers = buffers.places;
  line = line.entries;
}

-- tables of the sizes, and pools with the bank's two numbers
pub record IsBank (bank : ℕ) (sizes : Sizes) (entries : TableState nat_cmp Entry) (places buffers : HeldState)
    (line : TableState name_cmp (Unit {0})) : Type 0 where
  pub entry_room : entries.size ≡ sizes.entries
  pub place_room : places.size ≡ sizes.versions
  pub buffer_room : buffers.size ≡ sizes.buffers
  pub line_room : line.size ≡ sizes.window * MAX_OPERANDS
  pub place_number : places.number ≡ 2 * bank
  pub buffer_number : buffers.number ≡ 2 * bank + 1

-- ---- the rows of idle and gone, and what a reader shows

-- the answer to a version that asks whether it may retire
abbrev pub answered : OpName → Bool → List Message
answered v true = message.Retire v ∷ []
answered v false = message.Nack v ∷ []

-- the bank after a version is gone
abbrev pub state_after_gone : RenamingState → OpName → GoneContents → RenamingState
state_after_gone s v g = record s {
  entries = if g.retired then remove s.entries g.object.base else s.entries;
  places = remove s.places v;
  buffers = buffers_after_gone s.buffers g.buffer;
}

-- a name with the place of its buffer
abbrev pub buffer_under : Named ℕ → OpName → Option (OpName × ℕ)
buffer_under buffers name = option_map (λ p. (name, p)) (get buffers name)
