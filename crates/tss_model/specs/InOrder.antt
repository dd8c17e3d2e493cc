-- Execution in program order, on one flat memory: main step by step, and each spawned task at once, to its end or trap.
use Rattle.std.specs.Prelude.{ℕ, suc, ◌==◌, Bool, true, false, ◌&&◌, if◌then◌else◌, List, Option, Some, None, unwrap_or}
use Rattle.std.specs.Prelude.{option_map}
use Rattle.tss_base.specs.declared.operand.Task.{Task}
use Rattle.tss_base.specs.declared.ending.Trap.{Trap}
use Rattle.tss_base.specs.declared.ending.Ending.{Ending}
use Rattle.tss_base.specs.declared.ending.Ending.TheVariants.{Exit, MainTrap, TaskTrap, Refused}
use Rattle.tss_base.specs.declared.machine.Limits.{Limits}
use Rattle.tss_base.specs.Image.{SegmentState, ImageState}
use Rattle.tss_model.specs.Memory.{Memory, loaded, frozen}
use Rattle.tss_model.specs.TaskRun.{repeated, TaskEnd, task_end}
use Rattle.tss_base.specs.declared.refusals.TheConstants.{MAIN_BUDGET_SPENT}
use Rattle.tss_model.specs.MainStep.{MainState, Flat, Call, main_start, main_ended, main_step, next_call, main_call}
use Rattle.tss_model.specs.MainStep.{output_of}

-- the image with main before its first instruction
abbrev pub flat_start : ImageState → Flat
flat_start i = record { main = main_start i.entry; memory = loaded i }

-- a spawned task has run: where it trapped, that is the ending
abbrev pub main_after_task : MainState → Task → Option Trap → MainState
main_after_task m t None = m
main_after_task m t (Some trap) = main_ended m (TaskTrap t.number trap)

-- main and memory after the task
abbrev pub task_ran : MainState → Task → TaskEnd → Flat
task_ran m t e = record { main = main_after_task m t e.trap; memory = e.memory }

-- a call is done: the task that it spawned runs
abbrev pub call_ran : List SegmentState → Limits → Memory → MainState × Option Task → Flat
call_ran code limits memory (m, None) = record { main = m; memory = memory }
call_ran code limits memory (m, Some t) = task_ran m t (task_end code limits memory t)

-- one step of main, with all of the task that it spawns
abbrev pub flat_by : List SegmentState → Limits → Flat → Option Call → Flat
flat_by code limits f None = main_step code limits f
flat_by code limits f (Some c) = call_ran code limits f.memory (main_call limits f.memory f.main c)

-- the same, where the next step says whether it is a call
unfoldable pub flat_step : List SegmentState → Limits → Flat → Flat
flat_step code limits f = flat_by code limits f (next_call code limits f)

-- the flat machine after so many steps, fewer where it ends before
abbrev pub flat_stepped : ImageState → Limits → ℕ → Flat
flat_stepped i limits n = repeated (flat_step (frozen i) limits) n (flat_start i)

-- main's last step was executed: nothing has ended it, or its own exit did
abbrev pub is_executed : Option Ending → Bool
is_executed None = true
is_executed (Some (Exit status)) = true
is_executed (Some (MainTrap trap)) = false
is_executed (Some (TaskTrap task trap)) = false
is_executed (Some (Refused number pc)) = false

-- the flat machine after main has completed k instructions, where no ending comes before
abbrev pub main_after : ImageState → Limits → ℕ → Option Flat
main_after i limits k =
    let f = flat_stepped i limits k in
    if f.main.registers.done == k && is_executed f.main.ending then Some f else None

-- ---- the tasks in program order

-- a task, and the memory before it
pub record Started : Type 0 where
  pub task : Task
  pub memory : Memory

-- the task that a call spawns
abbrev pub task_called : Limits → Flat → Option Call → Option Task
task_called limits f None = None
task_called limits f (Some call) = (main_call limits f.memory f.main call).1

-- the task that main spawns next, where there is a state
abbrev pub started_in : List SegmentState → Limits → Option Flat → Option Started
started_in code limits None = None
started_in code limits (Some f) =
    option_map (λ t. record { task = t; memory = f.memory }) (task_called limits f (next_call code limits f))

-- the task that main spawns with the instruction after k completed ones, where that is an accepted spawn
abbrev pub started_at : ImageState → Limits → ℕ → Option Started
started_at i limits k = started_in (frozen i) limits (main_after i limits k)

-- its end
abbrev pub end_of_started : ImageState → Limits → Started → TaskEnd
end_of_started i limits s = task_end (frozen i) limits s.memory s.task

-- ---- the whole

-- what a contract sees of the execution in program order: its ending, the number of tasks, what was printed, and the
-- memory at the end
pub record ReferenceState : Type 0 where
  pub ending : Ending
  pub tasks : ℕ
  pub output : List ℕ
  pub memory : Memory

-- that of a flat machine that has ended
abbrev pub reference_of : Flat → ReferenceState
reference_of f = record {
  ending = unwrap_or f.main.ending (Refused MAIN_BUDGET_SPENT f.main.registers.pc);
  tasks = f.main.spawned;
  output = output_of f.main.pieces;
  memory = f.memory;
}

-- the execution in program order. Each step completes an instruction of main or ends it, so one more than its budget is
-- enough, and there is always an ending
abbrev pub in_order : ImageState → Limits → ReferenceState
in_order i limits = reference_of (flat_stepped i limits (suc limits.main_budget))
