-- The worker cores: each runs a task over the storages of its operands and a scratch of its own.
use Rattle.std.specs.Prelude.{ℕ, ◌-◌, ◌==◌, Bool, false, ◌&&◌, ◌||◌, not, nat_lt, if◌then◌else◌, List, [], ◌∷◌, find}
use Rattle.std.specs.Prelude.{slice_index, Option, Some, None, is_none, is_some, take}
use Rattle.std.specs.FinMap.{insert}
use Rattle.tss_base.specs.declared.range.Range.{Range}
use Rattle.tss_base.specs.declared.operand.Operand.{Operand}
use Rattle.tss_base.specs.declared.operand.Task.{Task}
use Rattle.tss_base.specs.declared.ending.Trap.{Trap}
use Rattle.tss_base.specs.declared.machine.Limits.{Limits}
use Rattle.tss_base.specs.Names.{Named}
use Rattle.tss_base.specs.Image.{SegmentState}
use Rattle.tss_model.specs.Memory.{Memory, scratch_range, covers, zeros, list_put, byte_at, bytes_of, zeroed}
use Rattle.tss_model.specs.Registers.{task_registers}
use Rattle.tss_model.specs.Access.{TaskActor, operands_of, reads}
use Rattle.tss_model.specs.Core.{Write}
use Rattle.tss_model.specs.TaskRun.{TaskState, task_stretch, memory_write}
use Rattle.tss_protocol.specs.Mail.{StorageName, Home, Buffer}
use Rattle.tss_protocol.specs.State.{Flying, Busy, HeldTrap}
use Rattle.tss_protocol.specs.Stations.{storages_of}
use Rattle.tss_protocol.specs.Buffers.{buffer_bytes}
use Rattle.tss_base.specs.declared.addresses.TheConstants.{END_PC}

-- ---- storages

-- what workers read and write beyond their scratch: home, and the contents of the buffers
pub record Stores : Type 0 where
  pub home : Memory
  pub contents : Named (List ℕ)

-- an object with its storage
pub record Placed : Type 0 where
  pub object : Range
  pub storage : StorageName

-- the operands' objects with these storages
abbrev pub placed_in : List Operand → List StorageName → List Placed
placed_in [] ss = []
placed_in (o ∷ os) [] = []
placed_in (o ∷ os) (s ∷ ss) = record { object = o.object; storage = s } ∷ placed_in os ss

-- the object in which an address lies
abbrev pub placed_at : List Placed → ℕ → Option Placed
placed_at placed a = find (λ p. covers p.object a) placed

-- the byte of an object in its storage
abbrev pub storage_byte : Stores → Range → StorageName → ℕ → ℕ
storage_byte s object Home a = byte_at s.home a
storage_byte s object (Buffer n) a = slice_index (buffer_bytes s.contents n) (a - object.base)

-- the byte at an address, by the object in which it lies
abbrev pub byte_in : Stores → Option Placed → ℕ → ℕ
byte_in s None a = byte_at s.home a
byte_in s (Some p) a = storage_byte s p.object p.storage a

-- the byte at an address: of an operand in its storage, and any other at home
abbrev pub worker_byte : List Placed → Stores → ℕ → ℕ
worker_byte placed s a = byte_in s (placed_at placed a) a

-- the bytes of an object in its storage
abbrev pub stored_bytes : Stores → Range → StorageName → List ℕ
stored_bytes s object Home = bytes_of s.home object
stored_bytes s object (Buffer n) = take object.len (buffer_bytes s.contents n)

-- bytes written to an object in its storage
abbrev pub storage_write : Stores → Range → StorageName → Write → Stores
storage_write s object Home w = record s { home = memory_write s.home w }
storage_write s object (Buffer n) w =
    record s { contents = insert s.contents n (list_put (buffer_bytes s.contents n) (w.at - object.base) w.bytes) }

-- a write, by the object in which it begins
abbrev pub write_in : Stores → Option Placed → Write → Stores
write_in s None w = record s { home = memory_write s.home w }
write_in s (Some p) w = storage_write s p.object p.storage w

-- a write to the object in which it begins
abbrev pub worker_write : List Placed → Stores → Write → Stores
worker_write placed s w = write_in s (placed_at placed w.at) w

-- ---- start: the front task of the queue runs on an idle worker

-- start may happen, by the worker and the queue
abbrev pub can_start : ℕ → ℕ → Option Busy → List ℕ → Bool
can_start workers w busy [] = false
can_start workers w busy (t ∷ ts) = nat_lt w workers && is_none busy

-- a storage becomes zeros, and a buffer all of it
abbrev pub storage_zeroed : Limits → Stores → Range → StorageName → Stores
storage_zeroed limits s object Home = record s { home = zeroed s.home object }
storage_zeroed limits s object (Buffer n) = record s { contents = insert s.contents n (zeros limits.object_bytes) }

-- those of the operands that the task doesn't read
abbrev pub output_zeroed : Limits → Stores → Operand → StorageName → Stores
output_zeroed limits s o storage = if reads o.mode then s else storage_zeroed limits s o.object storage

-- the same for all operands
abbrev pub outputs_zeroed : Limits → Stores → List Operand → List StorageName → Stores
outputs_zeroed limits s [] ss = s
outputs_zeroed limits s (o ∷ os) [] = s
outputs_zeroed limits s (o ∷ os) (storage ∷ ss) = output_zeroed limits (outputs_zeroed limits s os ss) o storage

-- a worker with a task before its first instruction
abbrev pub busy_with : Task → List StorageName → Busy
busy_with t storages = record {
  task = t;
  storages = storages;
  registers = task_registers t;
  scratch = zeros scratch_range.len;
  trap = None;
}

-- a worker with a queued task
abbrev pub busy_at_start : Flying → Busy
busy_at_start x = busy_with x.task (storages_of x)

-- the storages at its start
abbrev pub stores_after_start : Limits → Stores → Flying → Stores
stores_after_start limits s x = outputs_zeroed limits s (operands_of x.task) (storages_of x)

-- ---- exec: a busy worker goes a stretch further

-- its task has trapped, or its pc is where a task ends
abbrev pub has_ended : Busy → Bool
has_ended b = is_some b.trap || (b.registers.pc == END_PC)

-- exec may happen
abbrev pub can_exec : Option Busy → Bool
can_exec None = false
can_exec (Some b) = not (has_ended b)

-- the worker's task as it stands, over the storages
abbrev pub task_state_of : Busy → Stores → TaskState Stores
task_state_of b s = record { registers = b.registers; scratch = b.scratch; memory = s; trap = b.trap }

-- up to a quantum of steps, fewer where it ends or traps before
abbrev pub exec_stretch : List SegmentState → Limits → ℕ → Busy → Stores → TaskState Stores
exec_stretch code limits quantum b s =
    let placed = placed_in (operands_of b.task) b.storages in
    task_stretch
    (worker_byte placed)
    (worker_write placed)
    limits.task_budget
    code
    (TaskActor s.home.ranges (operands_of b.task))
    quantum
    (task_state_of b s)

-- the worker after a stretch
abbrev pub busy_after : Busy → TaskState Stores → Busy
busy_after b s = record b { registers = s.registers; scratch = s.scratch; trap = s.trap }

-- ---- finish: a worker whose task is over becomes idle

-- finish may happen
abbrev pub can_finish : Option Busy → Bool
can_finish None = false
can_finish (Some b) = has_ended b

-- of two traps that of the lower task is held
abbrev pub lower_trap : ℕ → Trap → Option HeldTrap → HeldTrap
lower_trap task trap None = record { task = task; trap = trap }
lower_trap task trap (Some h) = if nat_lt task h.task then record { task = task; trap = trap } else h

-- the held trap, where a task may have trapped
abbrev pub trap_after_finish : Option HeldTrap → ℕ → Option Trap → Option HeldTrap
trap_after_finish held task None = held
trap_after_finish held task (Some trap) = Some (lower_trap task trap held)
