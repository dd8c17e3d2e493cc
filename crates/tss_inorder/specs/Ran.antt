-- A task that has run to its end.
use Rattle.std.specs.Prelude.{◌≡◌, ℕ, suc, List, Option, None}
use Rattle.tss_base.specs.declared.ending.Trap.{Trap}
use Rattle.tss_base.specs.declared.operand.Task.{Task}
use Rattle.tss_base.specs.declared.machine.Limits.{Limits}
use Rattle.tss_base.specs.Image.{SegmentState}
use Rattle.tss_model.specs.Memory.{Memory}
use Rattle.tss_model.specs.Registers.{Registers}
use Rattle.tss_model.specs.TaskRun.{TaskState, task_stepped}
use Rattle.tss_steps.specs.Tasks.{task_now, stretch_by}
use Rattle.tss_inorder.specs.Home.{home_terms}
use Rattle.tss_inorder.specs.Left.{IsSameTask}
use Rattle.tss_inorder.specs.declared.views.HomeTask.{HomeTask}

-- a task at its end
abbrev pub end_of : List SegmentState → Limits → Memory → Task → TaskState Memory
end_of code limits memory t = task_stepped code limits memory t (suc limits.task_budget)

-- its view has come to the end by one step more than its budget
pub record RunsOver (budget : ℕ) (old : HomeTask) (r : Registers) (new : HomeTask) (q : Registers) (trap : Option Trap) : Type 0 where
  pub end : task_now q new.scratch.now new.space.now trap
      ≡ stretch_by (home_terms old.code.now old.space.now.ranges old.operands.now) budget (suc budget) (task_now r old.scratch.now old.space.now None)
  pub same : IsSameTask old new
