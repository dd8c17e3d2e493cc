-- What a contract sees of the flat machine, and what an event of main makes of it: a call with all of the task that it
-- spawns, or a stretch.
use Rattle.std.specs.Prelude.{ℕ, suc, ◌<◌, ◌==◌, if◌then◌else◌, List, Option, Some, None}
use Rattle.tss_base.specs.declared.calls.TheConstants.{BARRIER, PRINT}
use Rattle.tss_base.specs.declared.range.Range.{Range}
use Rattle.tss_base.specs.declared.ending.Ending.{Ending}
use Rattle.tss_base.specs.declared.ending.Ending.TheVariants.{TaskTrap}
use Rattle.tss_base.specs.declared.ending.Trap.{Trap}
use Rattle.tss_base.specs.declared.operand.Task.{Task}
use Rattle.tss_base.specs.declared.machine.Limits.{Limits}
use Rattle.tss_base.specs.Image.{SegmentState}
use Rattle.tss_model.specs.Memory.{Memory}
use Rattle.tss_model.specs.TaskRun.{task_stepped}
use Rattle.tss_model.specs.MainStep.{MainState, Flat, Call, ExitCall, Spawn, Barrier, Print, Await, Unknown, next_call, main_call, main_stretch, awaited_object}
use Rattle.tss_model.specs.InOrder.{call_ran}
use Rattle.tss_inorder.specs.declared.flat.Did.{Did}
use Rattle.tss_inorder.specs.declared.flat.Did.TheVariants as did

-- the limits that it runs under, the code, main and memory
pub record FlatState : Type 0 where
  pub limits : Limits
  pub code : List SegmentState
  pub main : MainState
  pub memory : Memory

-- main with its memory
abbrev pub flat_of : FlatState → Flat
flat_of s = record { main = s.main; memory = s.memory }

-- a flat machine in its place
abbrev pub with_flat : FlatState → Flat → FlatState
with_flat s f = record s { main = f.main; memory = f.memory }

-- ---- an event of main

-- by the call that comes next
abbrev pub event_by : List SegmentState → Limits → ℕ → Flat → Option Call → Flat
event_by code limits quantum f None = main_stretch code limits quantum f
event_by code limits quantum f (Some c) = call_ran code limits f.memory (main_call limits f.memory f.main c)

abbrev pub flat_event : List SegmentState → Limits → ℕ → Flat → Flat
flat_event code limits quantum f = event_by code limits quantum f (next_call code limits f)

-- the machine after it
abbrev pub stretched : ℕ → FlatState → FlatState
stretched quantum s = with_flat s (flat_event s.code s.limits quantum (flat_of s))

-- a call, with all of the task that it spawns
abbrev pub called : FlatState → Call → Flat
called s c = call_ran s.code s.limits s.memory (main_call s.limits s.memory s.main c)

-- ---- what it was

-- a spawned task, with the instructions that it completed
abbrev pub did_spawn : FlatState → Option Task → Did
did_spawn s None = did.Steps
did_spawn s (Some t) =
    did.Spawned t (task_stepped s.code s.limits s.memory t (suc s.limits.task_budget)).registers.done

-- a task that has run: it ends the run where it trapped
abbrev pub did_end : Task → ℕ → Option Trap → Did
did_end t n None = did.Spawned t n
did_end t n (Some trap) = did.Over (TaskTrap t.number trap)

abbrev pub did_ran : FlatState → Task → Did
did_ran s t =
    let end = task_stepped s.code s.limits s.memory t (suc s.limits.task_budget) in
    did_end t end.registers.done end.trap

-- an await, with the object that was named: it is refused where there is none
abbrev pub did_await : Option Range → Did
did_await None = did.Printed
did_await (Some object) = did.Awaited object

-- where the run goes on, by the call that came: an exit, an unknown call and a refused await end it
abbrev pub did_by : FlatState → Option Call → Did
did_by s None = did.Steps
did_by s (Some ExitCall) = did.Steps
did_by s (Some Spawn) = did_spawn s (main_call s.limits s.memory s.main Spawn).1
did_by s (Some Barrier) = did.Barrier
did_by s (Some Print) = did.Printed
did_by s (Some Await) = did_await (awaited_object s.main)
did_by s (Some (Unknown n)) = did.Steps

-- by the ending of main after it
abbrev pub did_at : Option Ending → Did → Did
did_at None d = d
did_at (Some e) d = did.Over e

abbrev pub did_in : FlatState → FlatState → Did
did_in old new = did_at new.main.ending (did_by old (next_call old.code old.limits (flat_of old)))

-- where the run goes on, main had instructions left, and has completed more
pub record GoesFurther (old new : FlatState) : Type 0 where
  pub left : old.main.registers.done < old.limits.main_budget
  pub done : old.main.registers.done < new.main.registers.done

-- where the run goes on, this holds, and where it is over, that
abbrev pub ByDid : Did → Type 0 → (Ending → Type 0) → Type 0
ByDid did.Steps on over = on
ByDid (did.Spawned t n) on over = on
ByDid did.Barrier on over = on
ByDid did.Printed on over = on
ByDid (did.Awaited r) on over = on
ByDid (did.Over e) on over = over e

-- by the number of a call that spawned nothing and didn't end main, and the named object at the base in x10 before it
abbrev pub done_by : ℕ → Option Range → Did
done_by n object = if n == BARRIER then did.Barrier else if n == PRINT then did.Printed else did_await object
