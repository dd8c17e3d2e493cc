-- The state text: which lines it has, from the machine's description and the state alone, and their order.
use Rattle.std.specs.Prelude.{ℕ, suc, ◌+◌, ◌*◌, ◌/◌, ◌==◌, Bool, true, false, if◌then◌else◌, List, [], ◌∷◌, ◌++◌, length, take, drop, Option, Some, None, is_some, option_map, option_and_then}
use Rattle.std.specs.List.{flat_map, range_with_len}
use Rattle.std.specs.FinMap.{get, entries, keys}
use Rattle.tss_base.specs.declared.range.Range.{Range}
use Rattle.tss_base.specs.declared.operand.OpName.{OpName}
use Rattle.tss_base.specs.declared.ending.Ending.{Ending}
use Rattle.tss_base.specs.declared.machine.Machine.{Machine}
use Rattle.tss_base.specs.declared.machine.Sizes.{Sizes}
use Rattle.tss_base.specs.Names.{Named, Numbered}
use Rattle.tss_banks.specs.Collected.{collected}
use Rattle.tss_model.specs.Memory.{Memory, scratch_range}
use Rattle.tss_protocol.specs.Names.{bank_of, operand_name, same_name}
use Rattle.tss_protocol.specs.Mail.{StorageName, Home, Buffer, OpenContents, GoneContents, message_at, message_names}
use Rattle.tss_protocol.specs.Gateway.{held_tasks}
use Rattle.tss_protocol.specs.State.{State, OperandState, Flying, Busy, Entry, Version, CopyState}
use Rattle.tss_protocol.specs.UnitMachine.{enabled_events}
use Rattle.tss_report.specs.Report.{ending_text}
use Rattle.tss_report.specs.Rows.{changed_text, row_len}
use Rattle.tss_state_text.specs.declared.part.Part.{Part}
use Rattle.tss_state_text.specs.declared.part.Part.TheVariants as part
use Rattle.tss_state_lines.specs.Lines.{main_line, main_registers_line, epoch_line, inbox_line, gateway_line, task_line, operand_line, queue_line, idle_line, worker_line, worker_registers_line, scratch_row, entry_line, place_line, buffer_line, version_line, copy_line, message_line, trap_line, piece_line, enabled_line}

-- the text of what is there
abbrev pub text_if : {X : Type 0} → (X → List ℕ) → Option X → List ℕ
text_if text None = []
text_if text (Some x) = text x

-- ---- tasks

-- the operands of a task in flight, from a place on
abbrev pub operands_text : ℕ → ℕ → List OperandState → List ℕ
operands_text task place [] = []
operands_text task place (r ∷ rs) = operand_line (operand_name task place) r ++ operands_text task (suc place) rs

-- a task in flight, and its operands
abbrev pub task_text : ℕ × Flying → List ℕ
task_text e = task_line e.1.task e.1.stage ++ operands_text e.0 0 e.1.operands

-- ---- workers

-- the row at a place of a worker's scratch
abbrev pub scratch_row_at : ℕ → List ℕ → ℕ → List ℕ
scratch_row_at w scratch k = scratch_row w (scratch_range.base + row_len * k) (take row_len (drop (row_len * k) scratch))

-- the rows of a worker's scratch in order
abbrev pub scratch_text : ℕ → List ℕ → List ℕ
scratch_text w scratch = flat_map (scratch_row_at w scratch) (range_with_len 0 (length scratch / row_len))

-- a busy worker: how it stands, its registers, and its scratch
abbrev pub busy_text : ℕ → Busy → List ℕ
busy_text w b =
    worker_line w b.task.number b.registers (is_some b.trap) ++ (worker_registers_line w b.registers ++ scratch_text w b.scratch)

-- a worker
abbrev pub worker_text : ℕ → Option Busy → List ℕ
worker_text w None = idle_line w
worker_text w (Some b) = busy_text w b

-- ---- banks

-- an entry that passes a test
abbrev pub kept_if : {X : Type 0} → X → Bool → Option X
kept_if x true = Some x
kept_if x false = None

-- the entries of the objects of a bank, under their bases
abbrev pub bank_entries : Sizes → ℕ → Numbered Entry → Numbered Entry
bank_entries sizes b es = collected (λ base e. kept_if e (bank_of sizes e.object == b)) es

-- the places or the buffers that are held of a bank, under their names
abbrev pub bank_names : ℕ → Named ℕ → Named ℕ
bank_names b held = collected (λ n bank. kept_if bank (bank == b)) held

-- the versions of the objects of a bank, under their names
abbrev pub bank_versions : Sizes → ℕ → Named Version → Named Version
bank_versions sizes b vs = collected (λ v x. kept_if x (bank_of sizes x.object == b)) vs

-- the entries of a bank, by base
abbrev pub entries_text : Sizes → Numbered Entry → ℕ → List ℕ
entries_text sizes es b = flat_map (λ e. entry_line b e.1) (entries (bank_entries sizes b es))

-- the places of a bank, by name
abbrev pub places_text : Named ℕ → ℕ → List ℕ
places_text places b = flat_map (place_line b) (keys (bank_names b places))

-- ---- the object of a buffer

-- an object, where its value lies in the buffer of this name
abbrev pub object_in : OpName → Range → Option StorageName → Option Range
object_in n object None = None
object_in n object (Some Home) = None
object_in n object (Some (Buffer m)) = if same_name m n then Some object else None

-- the object of a version that has the buffer, of one that is still to be opened, and of one that is gone
abbrev pub version_object : OpName → Version → Option Range
version_object n x = object_in n x.object x.storage

abbrev pub opening_object : OpName → OpenContents → Option Range
opening_object n c = object_in n c.operand.object c.storage

abbrev pub gone_object : OpName → GoneContents → Option Range
gone_object n g = object_in n g.object (option_map Buffer g.buffer)

-- and of a copy
abbrev pub copy_object : OpName → CopyState → Option Range
copy_object n c = object_in n c.object (Some (Buffer c.buffer))

-- the first of two that is there
abbrev pub first_of : {X : Type 0} → Option X → Option X → Option X
first_of None o = o
first_of (Some x) o = Some x

-- the object of a name that holds a place of a bank, where its value lies in the buffer: the name is that of an open
-- message, of one of the bank's versions, or of a gone message
abbrev pub object_of : Sizes → State → ℕ → OpName → OpName → Option Range
object_of sizes S b n v =
    first_of (option_and_then (opening_object n) (get S.mail.opens v))
    (first_of (option_and_then (version_object n) (get (bank_versions sizes b S.versions) v))
    (option_and_then (gone_object n) (get S.mail.gones v)))

-- the first that is there for some names
abbrev pub first_for : {X : Type 0} → (OpName → Option X) → List OpName → Option X
first_for f [] = None
first_for f (v ∷ vs) = first_of (f v) (first_for f vs)

-- the object whose value lies in a buffer of a bank: that of the bank's copy, or of a name that holds a place there
abbrev pub buffer_object : Sizes → State → ℕ → OpName → Option Range
buffer_object sizes S b n =
    first_of (option_and_then (copy_object n) (get S.copies b))
    (first_for (object_of sizes S b n) (keys (bank_names b S.places)))

-- as many bytes as the object has
abbrev pub object_bytes : Option Range → List ℕ → List ℕ
object_bytes None bytes = bytes
object_bytes (Some object) bytes = take object.len bytes

-- a buffer of a bank
abbrev pub buffer_text : Sizes → State → ℕ → OpName → List ℕ
buffer_text sizes S b n = buffer_line b n (option_map (object_bytes (buffer_object sizes S b n)) (get S.contents n))

-- the buffers of a bank, by name
abbrev pub buffers_text : Sizes → State → ℕ → List ℕ
buffers_text sizes S b = flat_map (buffer_text sizes S b) (keys (bank_names b S.buffers))

-- a bank that copies
abbrev pub copy_text : Numbered CopyState → ℕ → List ℕ
copy_text copies b = text_if (λ c. copy_line b c.version c.moved) (get copies b)

-- ---- the whole

-- the numbers of the workers, and of the banks
abbrev pub all_workers : Machine → List ℕ
all_workers m = range_with_len 0 m.sizes.workers

abbrev pub all_banks : Machine → List ℕ
all_banks m = range_with_len 0 m.sizes.banks

-- a part of the text, where `before` is memory as loaded
unfoldable pub part_text : Memory → Machine → State → Part → List ℕ
part_text before m S part.Main = main_line S.main.registers S.main.spawned (is_some S.main.ending)
part_text before m S part.Registers = main_registers_line S.main.registers
part_text before m S part.Ending = text_if ending_text S.main.ending
part_text before m S part.Epoch = flat_map epoch_line S.main.epoch
part_text before m S part.Inbox = text_if inbox_line S.inbox
part_text before m S part.Gateway = flat_map gateway_line (held_tasks S.gateway)
part_text before m S part.Tasks = flat_map task_text (entries S.flight)
part_text before m S part.Queue = flat_map queue_line S.queue
part_text before m S part.Workers = flat_map (λ w. worker_text w (get S.workers w)) (all_workers m)
part_text before m S part.Entries = flat_map (entries_text m.sizes S.entries) (all_banks m)
part_text before m S part.Places = flat_map (places_text S.places) (all_banks m)
part_text before m S part.Buffers = flat_map (buffers_text m.sizes S) (all_banks m)
part_text before m S part.Versions = flat_map (λ e. version_line e.0 e.1) (entries S.versions)
part_text before m S part.Messages = flat_map (λ name. text_if message_line (message_at S.mail name)) (message_names S.mail)
part_text before m S part.Copies = flat_map (copy_text S.copies) (all_banks m)
part_text before m S part.Trap = text_if trap_line S.trap
part_text before m S part.Pieces = flat_map piece_line S.main.pieces
part_text before m S part.Rows = changed_text before S.home
part_text before m S part.Enabled = enabled_line (length (enabled_events m S))

-- the parts in the order of the text
abbrev pub all_parts : List Part
all_parts =
    part.Main
    ∷ part.Registers
    ∷ part.Ending
    ∷ part.Epoch
    ∷ part.Inbox
    ∷ part.Gateway
    ∷ part.Tasks
    ∷ part.Queue
    ∷ part.Workers
    ∷ part.Entries
    ∷ part.Places
    ∷ part.Buffers
    ∷ part.Versions
    ∷ part.Messages
    ∷ part.Copies
    ∷ part.Trap
    ∷ part.Pieces
    ∷ part.Rows
    ∷ part.Enabled
    ∷ []

-- the text of a state, where `before` is memory as loaded
unfoldable pub state_text : Memory → Machine → State → List ℕ
state_text before m S = flat_map (part_text before m S) all_parts
