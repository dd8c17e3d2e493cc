-- The state of the unit machine: a record of what stands under names and numbers in each unit.
use Rattle.std.specs.Prelude.{ℕ, Bool, List, [], Option, None}
use Rattle.std.specs.FinMap.{empty}
use Rattle.tss_base.specs.declared.range.Range.{Range}
use Rattle.tss_base.specs.declared.operand.OpName.{OpName}
use Rattle.tss_base.specs.declared.operand.Operand.{Operand}
use Rattle.tss_base.specs.declared.operand.Task.{Task}
use Rattle.tss_base.specs.declared.ending.Trap.{Trap}
use Rattle.tss_base.specs.declared.marks.Stage.{Stage}
use Rattle.tss_base.specs.declared.marks.LinkState.{LinkState}
use Rattle.tss_base.specs.declared.marks.Farewell.{Farewell}
use Rattle.tss_base.specs.declared.marks.Follow.{Follow}
use Rattle.tss_base.specs.Names.{Named, Numbered}
use Rattle.tss_base.specs.Image.{SegmentState, ImageState}
use Rattle.tss_model.specs.Memory.{Memory, loaded, frozen}
use Rattle.tss_model.specs.Registers.{Registers}
use Rattle.tss_model.specs.MainStep.{MainState, main_start}
use Rattle.tss_protocol.specs.Mail.{StorageName, Source, Message, Mail, no_mail}

-- an operand of a task in flight: its object and mode, the version and storage that it was told, its link to the next
-- operand of the version's chain, and its farewell
pub record OperandState : Type 0 where
  pub operand : Operand
  pub source : Option Source
  pub link : LinkState
  pub farewell : Farewell

-- a task in flight, with a record for each of its operands
pub record Flying : Type 0 where
  pub task : Task
  pub stage : Stage
  pub operands : List OperandState

-- a busy worker: its task with the storages of its operands, the registers and the scratch, and the trap where the task
-- has trapped
pub record Busy : Type 0 where
  pub task : Task
  pub storages : List StorageName
  pub registers : Registers
  pub scratch : List ℕ
  pub trap : Option Trap

-- an entry of a renaming table: the object, its latest version, the readers that were directed to that version, and
-- whether the object is about to leave the tables
pub record Entry : Type 0 where
  pub object : Range
  pub latest : OpName
  pub sent : ℕ
  pub retiring : Bool

-- a version: its object, the storage of its value where it has one, whether it is produced or still open, the readers
-- that registered and those that released it, the first reader of an open version, the last registered reader until
-- that one has released, the versions before and after it, and the number of readers for which it asked to retire, or
-- was refused to
pub record Version : Type 0 where
  pub object : Range
  pub storage : Option StorageName
  pub produced : Bool
  pub registered : ℕ
  pub released : ℕ
  pub head : Option OpName
  pub tail : Option OpName
  pub predecessor : Option OpName
  pub successor : Option Follow
  pub asked : Option ℕ
  pub refused : Option ℕ

-- what a bank copies home: the version, its object, its buffer, and the bytes moved so far
pub record CopyState : Type 0 where
  pub version : OpName
  pub object : Range
  pub buffer : OpName
  pub moved : ℕ

-- the trap of a task, by its number
pub record HeldTrap : Type 0 where
  pub task : ℕ
  pub trap : Trap

-- the state. The gateway has the operands of the tasks that it holds, as far as they are still to be acknowledged. A
-- worker, or the copy of a bank, is idle where nothing stands under its number. Held places and buffers have the number
-- of their bank, and a held buffer has contents where it is set
pub record State : Type 0 where
  pub code : List SegmentState
  pub main : MainState
  pub home : Memory
  pub inbox : Option Task
  pub gateway : Named (Unit {0})
  pub flight : Numbered Flying
  pub queue : List ℕ
  pub workers : Numbered Busy
  pub entries : Numbered Entry
  pub places : Named ℕ
  pub buffers : Named ℕ
  pub contents : Named (List ℕ)
  pub versions : Named Version
  pub mail : Mail
  pub copies : Numbered CopyState
  pub trap : Option HeldTrap

-- the first state
abbrev pub initial_state : ImageState → State
initial_state i = record {
  code = frozen i;
  main = main_start i.entry;
  home = loaded i;
  inbox = None;
  gateway = empty;
  flight = empty;
  queue = [];
  workers = empty;
  entries = empty;
  places = empty;
  buffers = empty;
  contents = empty;
  versions = empty;
  mail = no_mail;
  copies = empty;
  trap = None;
}

-- what a unit's event makes of the unit's part of the state, and the messages that it sends, in order
pub record Outcome (P : Type 0) : Type 0 where
  pub part : P
  pub sent : List Message
