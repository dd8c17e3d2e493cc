-- A task from its first instruction to its end. One step of it is one definition for every machine that runs tasks:
-- what stands at addresses beyond its scratch is read and written by two functions.
use Rattle.std.specs.Prelude.{ℕ, zero, suc, ◌-◌, ◌==◌, Bool, ◌||◌, nat_le, if◌then◌else◌, List, [], ◌∷◌, slice_index}
use Rattle.std.specs.Prelude.{Option, Some, None, is_some}
use Rattle.tss_base.specs.declared.operand.Operand.{Operand}
use Rattle.tss_base.specs.declared.operand.Task.{Task}
use Rattle.tss_base.specs.declared.ending.Trap.{Trap}
use Rattle.tss_base.specs.declared.machine.Limits.{Limits}
use Rattle.tss_base.specs.Image.{SegmentState}
use Rattle.tss_model.specs.Memory.{Memory, scratch_range, covers, zeros, list_put, byte_at, put_bytes, zeroed}
use Rattle.tss_model.specs.Memory.{code_word}
use Rattle.tss_model.specs.Registers.{Registers, register_at, task_registers, trap_of}
use Rattle.tss_base.specs.declared.causes.TheConstants.{CALL_IN_TASK, BUDGET_SPENT}
use Rattle.tss_model.specs.Access.{Actor, TaskActor, operands_of, reads}
use Rattle.tss_model.specs.Core.{Write, Stepped, Executed, Called, Ended, Trapped, Touched, core_step}
use Rattle.tss_base.specs.declared.addresses.TheConstants.{END_PC}

-- f done so many times
unfoldable pub repeated : {A : Type 0} → (A → A) → ℕ → A → A
repeated f zero a = a
repeated f (suc n) a = repeated f n (f a)

-- a task that runs: its registers, the bytes of its scratch, what it sees of memory, and its trap where it has trapped
pub record TaskState (M : Type 0) : Type 0 where
  pub registers : Registers
  pub scratch : List ℕ
  pub memory : M
  pub trap : Option Trap

-- it has trapped, or its pc is where a task ends
abbrev pub is_over : {M : Type 0} → TaskState M → Bool
is_over s = is_some s.trap || (s.registers.pc == END_PC)

-- the byte at an address: of its scratch, or else of what it sees of memory
abbrev pub task_byte : {M : Type 0} → (M → ℕ → ℕ) → TaskState M → ℕ → ℕ
task_byte byte s a =
    if covers scratch_range a then slice_index s.scratch (a - scratch_range.base)
    else byte s.memory a

-- the same for a write
abbrev pub task_write : {M : Type 0} → (M → Write → M) → TaskState M → Option Write → TaskState M
task_write write s None = s
task_write write s (Some w) =
    if covers scratch_range w.at then record s { scratch = list_put s.scratch (w.at - scratch_range.base) w.bytes }
    else record s { memory = write s.memory w }

-- a task traps
abbrev pub task_trapped : {M : Type 0} → TaskState M → Trap → TaskState M
task_trapped s t = record s { trap = Some t }

-- what a step makes of a task. No access of a task touches a named object
abbrev pub task_on : {M : Type 0} → (M → Write → M) → TaskState M → Stepped → TaskState M
task_on write s (Executed r w) = record (task_write write s w) { registers = r }
task_on write s Called = task_trapped s (trap_of s.registers CALL_IN_TASK (register_at s.registers 17))
task_on write s Ended = s
task_on write s (Trapped t) = task_trapped s t
task_on write s Touched = s

-- one step: a task that is over stays as it is, one that has spent its budget traps, and else its core takes a step
unfoldable pub task_step : {M : Type 0} → (M → ℕ → ℕ) → (M → Write → M) → ℕ → List SegmentState → Actor → TaskState M
    → TaskState M
task_step byte write budget code actor s =
    if is_over s then s
    else if nat_le budget s.registers.done then task_trapped s (trap_of s.registers BUDGET_SPENT 0)
    else task_on write s (core_step actor (task_byte byte s) (code_word code) s.registers)

-- a stretch of so many steps, fewer where the task is over before
abbrev pub task_stretch : {M : Type 0} → (M → ℕ → ℕ) → (M → Write → M) → ℕ → List SegmentState → Actor → ℕ → TaskState M
    → TaskState M
task_stretch byte write budget code actor n s = repeated (task_step byte write budget code actor) n s

-- ---- on the one flat memory

-- a write to memory
abbrev pub memory_write : Memory → Write → Memory
memory_write m w = put_bytes m w.at w.bytes

-- memory with zeros at the objects of the operands that the task doesn't read
abbrev pub zeroed_output : Memory → Operand → Memory
zeroed_output m o = if reads o.mode then m else zeroed m o.object

-- the same for all operands
abbrev pub zeroed_outputs : Memory → List Operand → Memory
zeroed_outputs m [] = m
zeroed_outputs m (o ∷ os) = zeroed_output (zeroed_outputs m os) o

-- a task at its start
abbrev pub task_start : Memory → Task → TaskState Memory
task_start m t = record {
  registers = task_registers t;
  scratch = zeros scratch_range.len;
  memory = zeroed_outputs m (operands_of t);
  trap = None;
}

-- the actor that it is
abbrev pub task_actor : Memory → Task → Actor
task_actor m t = TaskActor m.ranges (operands_of t)

-- the task after so many steps, fewer where it is over before
abbrev pub task_stepped : List SegmentState → Limits → Memory → Task → ℕ → TaskState Memory
task_stepped code limits m t n =
    task_stretch byte_at memory_write limits.task_budget code (task_actor m t) n (task_start m t)

-- the task after j completed instructions, where it gets there
abbrev pub task_after : List SegmentState → Limits → Memory → Task → ℕ → Option (TaskState Memory)
task_after code limits m t j =
    let s = task_stepped code limits m t j in
    if s.registers.done == j then Some s else None

-- how a task ends: the memory that it leaves, and its trap where it traps
pub record TaskEnd : Type 0 where
  pub memory : Memory
  pub trap : Option Trap

-- that of a task that is over
abbrev pub end_of_task : TaskState Memory → TaskEnd
end_of_task s = record { memory = s.memory; trap = s.trap }

-- the end of a task: each step completes an instruction or ends the task, so one more than its budget is enough
abbrev pub task_end : List SegmentState → Limits → Memory → Task → TaskEnd
task_end code limits m t = end_of_task (task_stepped code limits m t (suc limits.task_budget))
