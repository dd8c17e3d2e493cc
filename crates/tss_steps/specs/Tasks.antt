-- A task that runs over what its machine shows it.
use Rattle.std.specs.Prelude.{◌≡◌, ℕ, suc, Bool, true, false, List, Option, Some, None}
use Rattle.tss_base.specs.declared.ending.Trap.{Trap}
use Rattle.tss_model.specs.Core.{Write}
use Rattle.tss_model.specs.Registers.{Registers, register_at, trap_of}
use Rattle.tss_base.specs.declared.causes.TheConstants.{CALL_IN_TASK}
use Rattle.tss_model.specs.TaskRun.{TaskState, repeated, task_step, task_stretch}
use Rattle.tss_core.specs.declared.stepping.Outcome.{Outcome}
use Rattle.tss_core.specs.declared.stepping.Outcome.TheVariants.{Next, Call, Ended, Trapped, Touched}
use Rattle.tss_core.specs.declared.stepping.Stop.{Stop}
use Rattle.tss_core.specs.declared.stepping.Stop.TheVariants as stop
use Rattle.tss_steps.specs.Seen.{Terms, scratch_after, beyond_after}

-- what a step of a task comes to: the task goes on, or is over, with its trap where it has trapped
pub data Turn : Type 0 where
  Further : Turn
  Over : Option Trap → Turn

-- in two parts: whether it goes on, and the trap where it has one
abbrev pub turn : Bool → Option Trap → Turn
turn true trap = Further
turn false trap = Over trap

-- a task as it stands
abbrev pub task_now : {M : Type 0} → Registers → List ℕ → M → Option Trap → TaskState M
task_now r scratch beyond trap = record { registers = r; scratch = scratch; memory = beyond; trap = trap }

-- one step of a task, and so many
abbrev pub step_by : {M : Type 0} → Terms M → ℕ → TaskState M → TaskState M
step_by t budget = task_step t.byte t.write budget t.code t.actor

abbrev pub stretch_by : {M : Type 0} → Terms M → ℕ → ℕ → TaskState M → TaskState M
stretch_by t budget n = task_stretch t.byte t.write budget t.code t.actor n

-- what a core's step comes to, by the registers that it leaves
abbrev pub turn_after : Registers → Outcome → Turn
turn_after r Next = Further
turn_after r Call = Over (Some (trap_of r CALL_IN_TASK (register_at r 17)))
turn_after r Ended = Over None
turn_after r (Trapped t) = Over (Some t)
turn_after r Touched = Over None

-- the trap where a core's step executes no instruction
abbrev pub trap_by : Registers → Stop → Option Trap
trap_by r stop.Call = Some (trap_of r CALL_IN_TASK (register_at r 17))
trap_by r stop.Ended = None
trap_by r (stop.Trapped t) = Some t
trap_by r stop.Touched = None

-- a step has led from one state to another, where a task that is over stays as it is however many steps are taken
abbrev pub Turns : {M : Type 0} → (TaskState M → TaskState M) → TaskState M → Registers → List ℕ → M → Turn → Type 0
Turns step s r scratch beyond Further = step s ≡ task_now r scratch beyond None
Turns step s r scratch beyond (Over trap) = (n : ℕ) → repeated step (suc n) s ≡ task_now r scratch beyond trap

-- what an access leaves of a task's scratch and of what lies beyond, and how that is seen
pub record IsLeft {M : Type 0} (old new : Terms M) (xs ys : List ℕ) (m n : M) (w : Option Write) : Type 0 where
  pub terms : new ≡ old
  pub scratch : ys ≡ scratch_after xs w
  pub beyond : n ≡ beyond_after old.write m w

-- what is left of a stretch comes to what the whole does
abbrev pub LeftOfTask : {M : Type 0} → Terms M → ℕ → (left : ℕ) → Registers → List ℕ → M → (most : ℕ) → Registers → List ℕ → M → Type 0
LeftOfTask t budget left q ys n most r xs m =
    stretch_by t budget left (task_now q ys n None) ≡ stretch_by t budget most (task_now r xs m None)
