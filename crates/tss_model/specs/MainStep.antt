-- Main: its state, a step of it that is no call, and its calls. Both machines take these, the one in program order and
-- the unit machine: only what becomes of a spawned task differs.
use Rattle.std.specs.Prelude.{ℕ, suc, ◌+◌, ◌==◌, Bool, ◌||◌, nat_lt, nat_le, if◌then◌else◌, List, [], ◌∷◌, ◌++◌, length}
use Rattle.std.specs.Prelude.{flat_map, Option, Some, None, is_none, is_some, Result, Ok, Err}
use Rattle.tss_base.specs.declared.calls.TheConstants.{EXIT, SPAWN, BARRIER, PRINT, AWAIT}
use Rattle.tss_base.specs.declared.range.Range.{Range}
use Rattle.tss_base.specs.declared.operand.Task.{Task}
use Rattle.tss_base.specs.declared.ending.Trap.{Trap}
use Rattle.tss_base.specs.declared.ending.Ending.{Ending}
use Rattle.tss_base.specs.declared.ending.Ending.TheVariants.{Exit, MainTrap, Refused}
use Rattle.tss_base.specs.declared.machine.Limits.{Limits}
use Rattle.tss_base.specs.Image.{SegmentState}
use Rattle.tss_model.specs.Memory.{Memory, range_of, byte_at, bytes_of, code_word}
use Rattle.tss_model.specs.Registers.{Registers, register_at, main_registers, onward, trap_of}
use Rattle.tss_base.specs.declared.causes.TheConstants.{FETCH_OUTSIDE, LOAD_DENIED, UNKNOWN_CALL}
use Rattle.tss_base.specs.declared.refusals.TheConstants.{MAIN_TOUCH, MAIN_BUDGET_SPENT, OUTPUT_FULL, NOT_NAMED}
use Rattle.tss_model.specs.Access.{MainActor, touches}
use Rattle.tss_model.specs.Core.{Write, Stepped, Executed, Called, Ended, Trapped, Touched, core_step}
use Rattle.tss_model.specs.Spawn.{SpawnCall, spawn_of, name_objects, named_at, unnamed, objects_of}
use Rattle.tss_model.specs.TaskRun.{memory_write, repeated}
use Rattle.tss_model.specs.Access.{operands_of}

-- bytes that main printed, with the number of tasks that it had spawned before
pub record Piece : Type 0 where
  pub before : ℕ
  pub bytes : List ℕ

-- main: its registers, the number of tasks that it has spawned, the objects that are named, in order of naming, what it
-- has printed, and its ending where it has ended. A spawn names its objects; an await takes one out, and a barrier all
pub record MainState : Type 0 where
  pub registers : Registers
  pub spawned : ℕ
  pub epoch : List Range
  pub pieces : List Piece
  pub ending : Option Ending

-- main with the memory that it sees
pub record Flat : Type 0 where
  pub main : MainState
  pub memory : Memory

-- main at first
abbrev pub main_start : ℕ → MainState
main_start entry = record { registers = main_registers entry; spawned = 0; epoch = []; pieces = []; ending = None }

-- what main has printed
abbrev pub output_of : List Piece → List ℕ
output_of pieces = flat_map (λ p. p.bytes) pieces

-- ---- endings

-- main ends
abbrev pub main_ended : MainState → Ending → MainState
main_ended m e = record m { ending = Some e }

-- a trap ends it
abbrev pub main_trapped : MainState → Trap → MainState
main_trapped m t = main_ended m (MainTrap t)

-- a step that is refused, with the refusal's number
abbrev pub main_refused : MainState → ℕ → MainState
main_refused m n = main_ended m (Refused n m.registers.pc)

-- it has completed as many instructions as its budget
abbrev pub has_spent : Limits → MainState → Bool
has_spent limits m = nat_le limits.main_budget m.registers.done

-- ---- a step that is no call

-- memory after a write, if there is one
abbrev pub flat_written : Memory → Option Write → Memory
flat_written m None = m
flat_written m (Some w) = memory_write m w

-- what its core's step makes of main, where ECALL is left to the calls. There is no word where a task ends
abbrev pub main_on : Flat → Stepped → Flat
main_on f (Executed r w) = record { main = record (f.main) { registers = r }; memory = flat_written f.memory w }
main_on f Called = f
main_on f Ended = record f { main = main_trapped f.main (trap_of f.main.registers FETCH_OUTSIDE f.main.registers.pc) }
main_on f (Trapped t) = record f { main = main_trapped f.main t }
main_on f Touched = record f { main = main_refused f.main MAIN_TOUCH }

-- what main's core does next
abbrev pub main_core : List SegmentState → Flat → Stepped
main_core code f =
    core_step (MainActor f.memory.ranges f.main.epoch) (byte_at f.memory) (code_word code) f.main.registers

-- one step: main that has ended, or whose next step is a call, stays as it is, and main that has spent its budget is
-- refused
unfoldable pub main_step : List SegmentState → Limits → Flat → Flat
main_step code limits f =
    if is_some f.main.ending then f
    else if has_spent limits f.main then record f { main = main_refused f.main MAIN_BUDGET_SPENT }
    else main_on f (main_core code f)

-- a stretch of so many steps, fewer where main ends before or its next step is a call
abbrev pub main_stretch : List SegmentState → Limits → ℕ → Flat → Flat
main_stretch code limits n f = repeated (main_step code limits) n f

-- ---- calls

-- main's calls, by the number in x17
pub data Call : Type 0 where
  ExitCall : Call
  Spawn : Call
  Barrier : Call
  Print : Call
  Await : Call
  Unknown : ℕ → Call

-- the call of a number
abbrev pub call_of : ℕ → Call
call_of n =
    if n == EXIT then ExitCall
    else if n == SPAWN then Spawn
    else if n == BARRIER then Barrier
    else if n == PRINT then Print
    else if n == AWAIT then Await
    else Unknown n

-- the call that a step of main's core meets
abbrev pub called_by : Registers → Stepped → Option Call
called_by r Called = Some (call_of (register_at r 17))
called_by r s = None

-- the call that main's next step is: none where it has ended or has spent its budget, or its next step is no ECALL
abbrev pub next_call : List SegmentState → Limits → Flat → Option Call
next_call code limits f =
    if is_some f.main.ending || has_spent limits f.main then None
    else called_by f.main.registers (main_core code f)

-- an accepted call goes on to the next instruction
abbrev pub call_done : MainState → MainState
call_done m = record m { registers = onward m.registers }

-- what main passes to a spawn
abbrev pub spawn_call : Registers → SpawnCall
spawn_call r = record {
  entry = register_at r 10;
  list = register_at r 11;
  count = register_at r 12;
  argument = register_at r 13;
}

-- an accepted spawn names its objects and has the next number
abbrev pub spawn_done : MainState → Task → MainState
spawn_done m t = record (call_done m) {
  spawned = suc m.spawned;
  epoch = name_objects m.epoch (objects_of (operands_of t));
}

-- main and the task that it has spawned
abbrev pub spawn_on : MainState → Result Task ℕ → MainState × Option Task
spawn_on m (Ok t) = (spawn_done m t, Some t)
spawn_on m (Err n) = (main_refused m n, None)

-- what main passes to a print
abbrev pub print_range : Registers → Range
print_range r = record { base = register_at r 10; len = register_at r 11 }

-- an accepted print adds a piece
abbrev pub print_done : MainState → List ℕ → MainState
print_done m bytes = record (call_done m) { pieces = m.pieces ++ record { before = m.spawned; bytes = bytes } ∷ [] }

-- a print of at least one byte: it lies wholly inside one range of memory, touches no named object, and leaves the
-- output within its limit
abbrev pub print_some : Limits → Memory → MainState → Range → MainState
print_some limits memory m r =
    if is_none (range_of memory.ranges r) then main_trapped m (trap_of m.registers LOAD_DENIED r.base)
    else if touches m.epoch r then main_refused m MAIN_TOUCH
    else if nat_lt limits.output_bytes (length (output_of m.pieces) + r.len) then main_refused m OUTPUT_FULL
    else print_done m (bytes_of memory r)

-- a print of no byte checks nothing and adds nothing
abbrev pub print_call : Limits → Memory → MainState → Range → MainState
print_call limits memory m r = if r.len == 0 then call_done m else print_some limits memory m r

-- the base of the object that main awaits
abbrev pub await_base : Registers → ℕ
await_base r = register_at r 10

-- the named object at that base, if there is one
abbrev pub awaited_object : MainState → Option Range
awaited_object m = named_at m.epoch (await_base m.registers)

-- an accepted await: the object is no longer named
abbrev pub await_done : MainState → Range → MainState
await_done m object = record (call_done m) { epoch = unnamed m.epoch object.base }

-- an await is refused where no named object has the base
abbrev pub await_on : MainState → Option Range → MainState
await_on m None = main_refused m NOT_NAMED
await_on m (Some object) = await_done m object

-- a call of main, with the task that it spawns
abbrev pub main_call : Limits → Memory → MainState → Call → MainState × Option Task
main_call limits memory m ExitCall = (main_ended (call_done m) (Exit (register_at m.registers 10)), None)
main_call limits memory m Spawn = spawn_on m (spawn_of (spawn_call m.registers) memory m.epoch limits m.spawned)
main_call limits memory m Barrier = (record (call_done m) { epoch = [] }, None)
main_call limits memory m Print = (print_call limits memory m (print_range m.registers), None)
main_call limits memory m Await = (await_on m (awaited_object m), None)
main_call limits memory m (Unknown n) = (main_trapped m (trap_of m.registers UNKNOWN_CALL n), None)
