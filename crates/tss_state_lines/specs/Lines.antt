-- The lines of the state text, one function for each kind.
use Rattle.std.specs.Prelude.{ℕ, ◌==◌, Bool, true, false, if◌then◌else◌, List, [], ◌∷◌, ◌++◌, Option, Some, None, codes, decimal}
use Rattle.std.specs.List.{list_all}
use Rattle.hex.specs.Hex.{encode_lower}
use Rattle.tss_base.specs.declared.addresses.TheConstants.{END_PC}
use Rattle.tss_base.specs.declared.range.Range.{Range}
use Rattle.tss_base.specs.declared.operand.OpName.{OpName}
use Rattle.tss_base.specs.declared.operand.Task.{Task}
use Rattle.tss_base.specs.declared.marks.Stage.{Stage}
use Rattle.tss_model.specs.Registers.{Registers}
use Rattle.tss_model.specs.MainStep.{Piece}
use Rattle.tss_protocol.specs.Gateway.{HeldTask}
use Rattle.tss_protocol.specs.Mail.{Message, name_of}
use Rattle.tss_protocol.specs.Mail as mail
use Rattle.tss_protocol.specs.State.{OperandState, Entry, Version, HeldTrap}
use Rattle.tss_protocol.specs.Text.{name_text, event_text}
use Rattle.tss_text.specs.Digits.{hex_word}
use Rattle.tss_state_lines.specs.Words.{line, optional, object_words, operand_words, storage_word, stage_word, source_words, link_word, farewell_word, follow_words, produced_word, retiring_word, ended_word, register_words}

-- ---- main

-- main: its pc, the instructions that it has completed, the tasks that it has spawned, and whether it has ended
abbrev pub main_line : Registers → ℕ → Bool → List ℕ
main_line r spawned ended =
    line (codes "main") (hex_word r.pc ∷ decimal r.done ∷ decimal spawned ∷ ended_word ended ∷ [])

-- its registers
abbrev pub main_registers_line : Registers → List ℕ
main_registers_line r = line (codes "regs") (codes "main" ∷ register_words r)

-- an object that is named
abbrev pub epoch_line : Range → List ℕ
epoch_line r = line (codes "epoch") (object_words r)

-- ---- tasks

-- the task in the inbox
abbrev pub inbox_line : Task → List ℕ
inbox_line t = line (codes "inbox") (decimal t.number ∷ [])

-- a task that the gateway holds, and how many of its operands are still to be acknowledged
abbrev pub gateway_line : HeldTask → List ℕ
gateway_line h = line (codes "gateway") (decimal h.task ∷ decimal h.operands ∷ [])

-- a task in flight, and its stage
abbrev pub task_line : Task → Stage → List ℕ
task_line t stage = line (codes "task") (decimal t.number ∷ stage_word stage ∷ [])

-- an operand of a task in flight: its object and mode, the version and storage that it was told, its link and its farewell
abbrev pub operand_line : OpName → OperandState → List ℕ
operand_line o r =
    line (codes "operand")
    (name_text o ∷ (operand_words r.operand ++ (source_words r.source ++ link_word r.link ∷ farewell_word r.farewell ∷ [])))

-- a task in the ready queue
abbrev pub queue_line : ℕ → List ℕ
queue_line task = line (codes "queue") (decimal task ∷ [])

-- ---- workers

-- a worker without a task
abbrev pub idle_line : ℕ → List ℕ
idle_line w = line (codes "worker") (decimal w ∷ codes "idle" ∷ [])

-- how a worker's task stands: it has trapped, its pc is where a task ends, or it runs
abbrev pub running_word : ℕ → Bool → List ℕ
running_word pc true = codes "trapped"
running_word pc false = if pc == END_PC then codes "ended" else codes "runs"

-- a busy worker: its task, the instructions completed, the pc, and how the task stands
abbrev pub worker_line : ℕ → ℕ → Registers → Bool → List ℕ
worker_line w task r trapped =
    line (codes "worker") (decimal w ∷ decimal task ∷ decimal r.done ∷ hex_word r.pc ∷ running_word r.pc trapped ∷ [])

-- its registers
abbrev pub worker_registers_line : ℕ → Registers → List ℕ
worker_registers_line w r = line (codes "regs") (decimal w ∷ register_words r)

-- a row of its scratch: the address and the bytes
abbrev pub scratch_line : ℕ → ℕ → List ℕ → List ℕ
scratch_line w at bytes = line (codes "scratch") (decimal w ∷ hex_word at ∷ encode_lower bytes ∷ [])

-- a row of scratch that isn't all zero
abbrev pub scratch_row : ℕ → ℕ → List ℕ → List ℕ
scratch_row w at bytes = if list_all (λ b. b == 0) bytes then [] else scratch_line w at bytes

-- ---- banks

-- an entry of a bank: the object, its latest version, the uses sent to that, and whether it is retiring
abbrev pub entry_line : ℕ → Entry → List ℕ
entry_line bank e =
    line (codes "entry")
    (decimal bank ∷ (object_words e.object ++ name_text e.latest ∷ decimal e.sent ∷ retiring_word e.retiring ∷ []))

-- a held place of a bank
abbrev pub place_line : ℕ → OpName → List ℕ
place_line bank v = line (codes "place") (decimal bank ∷ name_text v ∷ [])

-- the bytes of a buffer, where it is set
abbrev pub contents_word : Option (List ℕ) → List ℕ
contents_word None = codes "unset"
contents_word (Some bytes) = encode_lower bytes

-- a held buffer of a bank
abbrev pub buffer_line : ℕ → OpName → Option (List ℕ) → List ℕ
buffer_line bank n bytes = line (codes "buffer") (decimal bank ∷ name_text n ∷ contents_word bytes ∷ [])

-- a version: its object and storage, whether it is produced, the registered and the released readers, the head and the
-- tail of its chain, the versions before and after it, and the counts with which it asked and was refused
abbrev pub version_line : OpName → Version → List ℕ
version_line v x =
    line (codes "version")
    (name_text v
    ∷ (object_words x.object
    ++ (optional storage_word x.storage
    ∷ produced_word x.produced
    ∷ decimal x.registered
    ∷ decimal x.released
    ∷ optional name_text x.head
    ∷ optional name_text x.tail
    ∷ optional name_text x.predecessor
    ∷ (follow_words x.successor ++ optional decimal x.asked ∷ optional decimal x.refused ∷ []))))

-- what a bank copies home: the version, and the bytes moved so far
abbrev pub copy_line : ℕ → OpName → ℕ → List ℕ
copy_line bank v moved = line (codes "copy") (decimal bank ∷ name_text v ∷ decimal moved ∷ [])

-- ---- messages

-- what a release says of the operand
abbrev pub producer_word : Bool → List ℕ
producer_word true = codes "producer"
producer_word false = codes "reader"

-- whether a bye is promised
abbrev pub promised_word : Bool → List ℕ
promised_word true = codes "promised"
promised_word false = codes "free"

-- whether a version was the last of its object
abbrev pub retired_word : Bool → List ℕ
retired_word true = codes "retired"
retired_word false = codes "died"

-- the words of a message's contents
abbrev pub contents_words : Message → List (List ℕ)
contents_words (mail.Decode o operand) = operand_words operand
contents_words (mail.Ack o) = []
contents_words (mail.Open o c) =
    operand_words c.operand ++ (optional storage_word c.storage ∷ follow_words c.follows)
contents_words (mail.Use o v) = name_text v ∷ []
contents_words (mail.Ready o s) = name_text s.version ∷ storage_word s.storage ∷ []
contents_words (mail.Link o next) = name_text next ∷ []
contents_words (mail.Release o r) = name_text r.version ∷ producer_word r.producer ∷ []
contents_words (mail.Bye o promised) = promised_word promised ∷ []
contents_words (mail.Idle v i) = hex_word i.base ∷ decimal i.count ∷ []
contents_words (mail.Nack v) = []
contents_words (mail.Retire v) = []
contents_words (mail.Gone v g) = hex_word g.object.base ∷ optional name_text g.buffer ∷ retired_word g.retired ∷ []

-- a message: the event that takes it, and its contents
abbrev pub message_line : Message → List ℕ
message_line m = line (codes "message") (event_text (name_of m) ∷ contents_words m)

-- ---- the rest

-- the held trap
abbrev pub trap_line : HeldTrap → List ℕ
trap_line t =
    line (codes "trap") (decimal t.task ∷ hex_word t.trap.pc ∷ decimal t.trap.cause ∷ hex_word t.trap.value ∷ [])

-- a piece that main has printed, with the tasks spawned before it
abbrev pub piece_line : Piece → List ℕ
piece_line p = line (codes "piece") (decimal p.before ∷ encode_lower p.bytes ∷ [])

-- how many events may happen
abbrev pub enabled_line : ℕ → List ℕ
enabled_line count = line (codes "enabled") (decimal count ∷ [])
