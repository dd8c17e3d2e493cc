-- The renaming tables, one bank at a time: an object's entry knows its latest version, and places and buffers are held
-- under the names of the versions for which they were taken.
use Rattle.std.specs.Prelude.{◌≡◌, ℕ, suc, ◌==◌, Bool, true, false, ◌&&◌, nat_lt, nat_le, if◌then◌else◌, List, [], ◌∷◌}
use Rattle.std.specs.Prelude.{Option, Some, None, is_none}
use Rattle.std.specs.FinMap.{get, insert, remove}
use Rattle.tss_base.specs.declared.operand.OpName.{OpName}
use Rattle.tss_base.specs.declared.operand.Mode.{Mode}
use Rattle.tss_base.specs.declared.operand.Mode.TheVariants.{Input, Output, Inout}
use Rattle.tss_base.specs.declared.operand.Operand.{Operand}
use Rattle.tss_base.specs.declared.machine.Sizes.{Sizes}
use Rattle.tss_base.specs.declared.marks.How.{How}
use Rattle.tss_base.specs.declared.marks.How.TheVariants.{Beside, Over}
use Rattle.tss_base.specs.declared.marks.Follow.{Follow}
use Rattle.tss_base.specs.Names.{Named, Numbered}
use Rattle.tss_maps.specs.Sums.{count_of}
use Rattle.tss_maps.specs.Parts.{keys_where}
use Rattle.tss_protocol.specs.Names.{bank_of, same_name}
use Rattle.tss_protocol.specs.Mail.{Home, Buffer, Message, Ack, Open, Use, Nack, Retire, GoneContents}
use Rattle.tss_protocol.specs.State.{Entry, Outcome}

-- ---- what a bank has in use

-- the entries, held places and held buffers of a bank, by number
pub record Fill : Type 0 where
  pub entries : ℕ
  pub places : ℕ
  pub buffers : ℕ

-- what the renaming tables have: entries under their objects' bases, and held places and buffers, with their banks,
-- under names
pub record Tables : Type 0 where
  pub entries : Numbered Entry
  pub places : Named ℕ
  pub buffers : Named ℕ

-- the entries of a bank
abbrev pub entries_in : Sizes → ℕ → Numbered Entry → ℕ
entries_in sizes bank entries = count_of (λ base e. bank_of sizes e.object == bank) entries

-- the places held of a bank
abbrev pub places_in : ℕ → Named ℕ → ℕ
places_in bank places = count_of (λ v b. b == bank) places

-- the buffers held of a bank
abbrev pub buffers_in : ℕ → Named ℕ → ℕ
buffers_in bank buffers = count_of (λ v b. b == bank) buffers

-- what a bank has in use
abbrev pub fill_of : Sizes → Tables → ℕ → Fill
fill_of sizes t bank = record {
  entries = entries_in sizes bank t.entries;
  places = places_in bank t.places;
  buffers = buffers_in bank t.buffers;
}

-- ---- decode: an operand finds its object's entry, or makes one

-- why a decode waits: it isn't its turn, its entry is about to leave, or a table of the bank is full
pub data Wait : Type 0 where
  Turn : Wait
  Retiring : Wait
  EntriesFull : Wait
  VersionsFull : Wait
  BuffersFull : Wait

-- their numbers. Turn is tested first, and then the others in order
abbrev pub wait_number : Wait → ℕ
wait_number Retiring = 1
wait_number EntriesFull = 2
wait_number VersionsFull = 3
wait_number BuffersFull = 4
wait_number Turn = 5

-- the first of two waits
abbrev pub wait_or : Bool → Wait → Option Wait → Option Wait
wait_or waits w rest = if waits then Some w else rest

-- where a table of the bank has its size in use
abbrev pub needs_entry : Sizes → Fill → Option Wait → Option Wait
needs_entry sizes fill rest = wait_or (nat_le sizes.entries fill.entries) EntriesFull rest

-- a free place
abbrev pub needs_place : Sizes → Fill → Option Wait → Option Wait
needs_place sizes fill rest = wait_or (nat_le sizes.versions fill.places) VersionsFull rest

-- a free buffer
abbrev pub needs_buffer : Sizes → Fill → Option Wait → Option Wait
needs_buffer sizes fill rest = wait_or (nat_le sizes.buffers fill.buffers) BuffersFull rest

-- of an operand whose object has an entry that isn't retiring: an input takes nothing, an inout a place, and an output
-- a place and a buffer
abbrev pub live_wait : Sizes → Fill → Mode → Option Wait
live_wait sizes fill Input = None
live_wait sizes fill Inout = needs_place sizes fill None
live_wait sizes fill Output = needs_place sizes fill (needs_buffer sizes fill None)

-- by the tables: an object without an entry takes an entry and a place, and a retiring entry is waited for
abbrev pub decode_wait : Sizes → Fill → Option Entry → Mode → Option Wait
decode_wait sizes fill None mode = needs_entry sizes fill (needs_place sizes fill None)
decode_wait sizes fill (Some e) mode = wait_or e.retiring Retiring (live_wait sizes fill mode)

-- the line of a bank: the names of the operands that are to be decoded there, of all decodes under way
abbrev pub line_of : Sizes → ℕ → Named Operand → Named (Unit {0})
line_of sizes bank decodes = keys_where (λ o p. bank_of sizes p.object == bank) decodes

-- an operand of an earlier task is in the line. Operands of one task have no order among themselves
abbrev pub has_earlier : OpName → Named (Unit {0}) → Bool
has_earlier o line = nat_le 1 (count_of (λ p x. nat_lt p.task o.task) line)

-- it is an operand's turn in the bank of its object
abbrev pub HasTurn : Sizes → Named Operand → OpName → Operand → Type 0
HasTurn sizes decodes o operand = has_earlier o (line_of sizes (bank_of sizes operand.object) decodes) ≡ false

-- the first wait that holds in a bank, by its line and what it has in use: operands are decoded there in the order of
-- their tasks
abbrev pub bank_wait : Sizes → Fill → Named (Unit {0}) → OpName → Option Entry → Mode → Option Wait
bank_wait sizes fill line o entry mode = wait_or (has_earlier o line) Turn (decode_wait sizes fill entry mode)

-- the same in one of all banks
abbrev pub wait_in : Sizes → ℕ → Tables → Named Operand → OpName → Operand → Option Wait
wait_in sizes bank t decodes o operand =
    bank_wait sizes (fill_of sizes t bank) (line_of sizes bank decodes) o
    (get t.entries operand.object.base) operand.mode

-- in the bank of the operand's object
abbrev pub operand_wait : Sizes → Tables → Named Operand → OpName → Operand → Option Wait
operand_wait sizes t decodes o operand = wait_in sizes (bank_of sizes operand.object) t decodes o operand

-- it waits for nothing
abbrev pub can_decode : Sizes → Tables → Named Operand → OpName → Operand → Bool
can_decode sizes t decodes o operand = is_none (operand_wait sizes t decodes o operand)

-- readers that the version of a new entry has already: an input opens its version as the first of them
abbrev pub first_readers : Mode → ℕ
first_readers Input = 1
first_readers Output = 0
first_readers Inout = 0

-- a live entry: an input is one more reader of its latest version, and any other operand opens the next version
abbrev pub live_entry : OpName → Entry → Mode → Entry
live_entry o e Input = record e { sent = suc e.sent }
live_entry o e Output = record e { latest = o; sent = 0 }
live_entry o e Inout = record e { latest = o; sent = 0 }

-- the object's entry after the decode
abbrev pub entry_after_decode : OpName → Operand → Option Entry → Entry
entry_after_decode o operand None =
    record { object = operand.object; latest = o; sent = first_readers operand.mode; retiring = false }
entry_after_decode o operand (Some e) = live_entry o e operand.mode

-- every operand but an input of a live entry opens a version, which takes a place
abbrev pub takes_place : Option Entry → Mode → Bool
takes_place None mode = true
takes_place (Some e) Input = false
takes_place (Some e) Output = true
takes_place (Some e) Inout = true

-- a version that follows beside another takes a buffer
abbrev pub takes_buffer : Option Entry → Mode → Bool
takes_buffer None mode = false
takes_buffer (Some e) Input = false
takes_buffer (Some e) Output = true
takes_buffer (Some e) Inout = false

-- the places, one more where a place is taken
abbrev pub places_after_decode : Named ℕ → OpName → ℕ → Bool → Named ℕ
places_after_decode places o bank takes = if takes then insert places o bank else places

-- the buffers, one more where a buffer is taken
abbrev pub buffers_after_decode : Named ℕ → OpName → ℕ → Bool → Named ℕ
buffers_after_decode buffers o bank takes = if takes then insert buffers o bank else buffers

-- the version of an object without an entry follows nothing and lies at home
abbrev pub opens_first : OpName → Operand → Message
opens_first o operand = Open o (record { operand = operand; storage = Some Home; follows = None })

-- a version follows the latest one, which then has the uses sent as its final number
abbrev pub follows_latest : Entry → How → Follow
follows_latest e how = record { version = e.latest; how = how; last = e.sent }

-- an inout follows over the latest version, and gets its storage once that is free
abbrev pub opens_over : OpName → Operand → Entry → Message
opens_over o operand e =
    Open o (record { operand = operand; storage = None; follows = Some (follows_latest e Over) })

-- an output follows beside the latest version, in a buffer of its own
abbrev pub opens_beside : OpName → Operand → Entry → Message
opens_beside o operand e =
    Open o (record { operand = operand; storage = Some (Buffer o); follows = Some (follows_latest e Beside) })

-- the message to the versioning tables
abbrev pub live_message : OpName → Operand → Entry → Mode → Message
live_message o operand e Input = Use o e.latest
live_message o operand e Output = opens_beside o operand e
live_message o operand e Inout = opens_over o operand e

-- the message where there may be no entry
abbrev pub decode_message : OpName → Operand → Option Entry → Message
decode_message o operand None = opens_first o operand
decode_message o operand (Some e) = live_message o operand e operand.mode

-- that message, and an ack for the gateway
abbrev pub sent_by_decode : OpName → Operand → Option Entry → List Message
sent_by_decode o operand entry = decode_message o operand entry ∷ Ack o ∷ []

-- the tables and messages, by the object's entry
abbrev pub decoded_by : Tables → OpName → Operand → ℕ → Option Entry → Outcome Tables
decoded_by t o operand bank entry = record {
  part = record {
    entries = insert t.entries operand.object.base (entry_after_decode o operand entry);
    places = places_after_decode t.places o bank (takes_place entry operand.mode);
    buffers = buffers_after_decode t.buffers o bank (takes_buffer entry operand.mode);
  };
  sent = sent_by_decode o operand entry;
}

-- the same in the bank of the operand's object
abbrev pub after_decode : Sizes → Tables → OpName → Operand → Outcome Tables
after_decode sizes t o operand =
    decoded_by t o operand (bank_of sizes operand.object) (get t.entries operand.object.base)

-- ---- idle: a version that nobody uses asks whether it may retire

-- it may where it is the latest of its object and no further reader was directed to it
abbrev pub may_retire : OpName → ℕ → Option Entry → Bool
may_retire v count None = false
may_retire v count (Some e) = same_name e.latest v && (e.sent == count)

-- an entry that is about to leave
abbrev pub retiring_entry : Numbered Entry → ℕ → Option Entry → Numbered Entry
retiring_entry entries base None = entries
retiring_entry entries base (Some e) = insert entries base (record e { retiring = true })

-- the entries and the answer
abbrev pub idle_by : Numbered Entry → OpName → ℕ → Option Entry → Bool → Outcome (Numbered Entry)
idle_by entries v base entry true = record { part = retiring_entry entries base entry; sent = Retire v ∷ [] }
idle_by entries v base entry false = record { part = entries; sent = Nack v ∷ [] }

-- the same for a version that asks
abbrev pub after_idle : Numbered Entry → OpName → ℕ → ℕ → Outcome (Numbered Entry)
after_idle entries v base count = idle_by entries v base (get entries base) (may_retire v count (get entries base))

-- ---- gone: a version's place is free, its buffer where that ends with it, and the entry with the last of an object

-- the buffers without one that is free again
abbrev pub buffers_after_gone : Named ℕ → Option OpName → Named ℕ
buffers_after_gone buffers None = buffers
buffers_after_gone buffers (Some b) = remove buffers b

-- the tables after it
abbrev pub after_gone : Tables → OpName → GoneContents → Tables
after_gone t v g = record {
  entries = if g.retired then remove t.entries g.object.base else t.entries;
  places = remove t.places v;
  buffers = buffers_after_gone t.buffers g.buffer;
}
