-- Refinement: a finished run has the result of the execution in program order, and every state that a run leaves
-- follows it.
use Rattle.std.specs.Prelude.{◌≡◌, ℕ, ◌<◌, Bool, true, false, ◌||◌, List, map, Option, Some, None, option_map}
use Rattle.std.specs.List.{list_any}
use Rattle.std.specs.FinMap.{get, values}
use Rattle.tss_base.specs.declared.operand.OpName.{OpName}
use Rattle.tss_base.specs.declared.operand.Task.{Task}
use Rattle.tss_base.specs.declared.ending.Trap.{Trap}
use Rattle.tss_base.specs.declared.ending.Ending.{Ending}
use Rattle.tss_base.specs.declared.ending.Ending.TheVariants.{Exit, MainTrap, TaskTrap, Refused}
use Rattle.tss_base.specs.declared.machine.Limits.{Limits}
use Rattle.tss_base.specs.declared.machine.Machine.{Machine}
use Rattle.tss_base.specs.declared.event.Event.{Event}
use Rattle.tss_base.specs.Image.{ImageState}
use Rattle.tss_model.specs.Memory.{Memory, covers, bytes_of, frozen}
use Rattle.tss_model.specs.Access.{operands_of}
use Rattle.tss_model.specs.TaskRun.{TaskState, task_after, task_end}
use Rattle.tss_model.specs.MainStep.{Flat}
use Rattle.tss_model.specs.InOrder.{ReferenceState, Started, main_after, started_at, end_of_started, in_order}
use Rattle.tss_protocol.specs.State.{State, Busy, Version}
use Rattle.tss_protocol.specs.Workers.{placed_in, stored_bytes}
use Rattle.tss_protocol.specs.UnitMachine.{stores_of}
use Rattle.tss_protocol.specs.Result.{RunResult, IsFinished, result_of}
use Rattle.tss_protocol.specs.Counts.{AreWithin, counts_of, sizes_of}
use Rattle.tss_protocol.specs.Run.{OverRuns}

-- ---- the result

-- a task's trap is the ending
abbrev pub is_task_trap : Ending → Bool
is_task_trap (Exit status) = false
is_task_trap (MainTrap trap) = false
is_task_trap (TaskTrap task trap) = true
is_task_trap (Refused number pc) = false

-- ending, tasks and output of program order, as those of a run
abbrev pub reference_result : ReferenceState → RunResult
reference_result r = record { ending = r.ending; tasks = r.tasks; output = r.output }

-- the ending, the number of tasks and the output are those of program order, and home is its memory unless a task
-- trapped
pub record HasReferenceResult (m : Machine) (i : ImageState) (S : State) : Type 0 where
  pub result : result_of S ≡ Some (reference_result (in_order i m.limits))
  pub memory : is_task_trap (in_order i m.limits).ending ≡ false → S.home ≡ (in_order i m.limits).memory

-- a finished state has the result of program order
abbrev pub RefinesResult : Machine → ImageState → List Event → State → Type 0
RefinesResult m i es S = IsFinished S → HasReferenceResult m i S

-- ---- the sizes

-- each count is at most its size
abbrev pub StaysWithinSizes : Machine → ImageState → List Event → State → Type 0
StaysWithinSizes m i es S = AreWithin (counts_of m S) (sizes_of m)

-- ---- the bytes of produced versions

-- a produced version has a storage, whose bytes are those of its object right after its task in program order, where
-- that runs the task to its end
abbrev pub HasProducedBytes : Machine → ImageState → List Event → State → Type 0
HasProducedBytes m i es S =
    (v : OpName) (x : Version) (k : ℕ) (s : Started)
    → get S.versions v ≡ Some x
    → x.produced ≡ true
    → started_at i m.limits k ≡ Some s
    → s.task.number ≡ v.task
    → (end_of_started i m.limits s).trap ≡ None
    → option_map (stored_bytes (stores_of S) x.object) x.storage
    ≡ Some (bytes_of (end_of_started i m.limits s).memory x.object)

-- ---- workers

-- program order runs the task of a number to its end
abbrev pub RunsToEnd : ImageState → Limits → ℕ → Type 0
RunsToEnd i limits n =
    (k : ℕ)
    × (s : Started)
    × (started_at i limits k ≡ Some s)
    × (s.task.number ≡ n)
    × ((end_of_started i limits s).trap ≡ None)

-- the bytes of each operand of a worker's task, in its storage
abbrev pub worker_bytes : State → Busy → List (List ℕ)
worker_bytes S b =
    map (λ p. stored_bytes (stores_of S) p.object p.storage) (placed_in (operands_of b.task) b.storages)

-- a busy worker is where program order has its task after as many instructions
pub record FollowsTask (m : Machine) (i : ImageState) (S : State) (b : Busy) : Type 0 where
  pub place : ℕ
  pub memory : Memory
  pub started : started_at i m.limits place ≡ Some (record { task = b.task; memory = memory })
  pub task : TaskState Memory
  pub after : task_after (frozen i) m.limits memory b.task b.registers.done ≡ Some task
  pub registers : b.registers ≡ task.registers
  pub scratch : b.scratch ≡ task.scratch
  pub bytes : worker_bytes S b ≡ map (λ o. bytes_of task.memory o.object) (operands_of b.task)
  pub trap : (t : Trap) → b.trap ≡ Some t → (task_end (frozen i) m.limits memory b.task).trap ≡ Some t

-- each worker does, where program order runs all tasks before its own to their ends
abbrev pub HasWorkerBytes : Machine → ImageState → List Event → State → Type 0
HasWorkerBytes m i es S =
    (w : ℕ) (b : Busy)
    → get S.workers w ≡ Some b
    → ((n : ℕ) → 0 < n → n < b.task.number → RunsToEnd i m.limits n)
    → FollowsTask m i S b

-- ---- main

-- an address lies in the object of an operand of the inbox's task
abbrev pub inbox_claims : Option Task → ℕ → Bool
inbox_claims None a = false
inbox_claims (Some t) a = list_any (λ o. covers o.object a) (operands_of t)

-- it lies in an object that has an entry, is of the inbox's task, or is still to be decoded
abbrev pub is_claimed : State → ℕ → Bool
is_claimed S a =
    list_any (λ e. covers e.object a) (values S.entries)
    || inbox_claims S.inbox a
    || list_any (λ o. covers o.object a) (values S.mail.decodes)

-- main, and home at every other address, are those of program order
pub record FollowsMain (S : State) (f : Flat) : Type 0 where
  pub registers : S.main.registers ≡ f.main.registers
  pub epoch : S.main.epoch ≡ f.main.epoch
  pub spawned : S.main.spawned ≡ f.main.spawned
  pub pieces : S.main.pieces ≡ f.main.pieces
  pub home : (a : ℕ) → is_claimed S a ≡ false → get S.home.bytes a ≡ get f.memory.bytes a

-- main does, where program order has a state after as many instructions of main
abbrev pub HasMainState : Machine → ImageState → List Event → State → Type 0
HasMainState m i es S = (f : Flat) → main_after i m.limits S.main.registers.done ≡ Some f → FollowsMain S f

-- ---- the laws

-- a finished run has the result of program order
abbrev pub ResultLaw : Type 0
ResultLaw = OverRuns RefinesResult

-- no table exceeds its size
abbrev pub SizesLaw : Type 0
SizesLaw = OverRuns StaysWithinSizes

-- produced versions have the bytes of program order
abbrev pub ProducedBytesLaw : Type 0
ProducedBytesLaw = OverRuns HasProducedBytes

-- workers follow the tasks of program order
abbrev pub WorkerBytesLaw : Type 0
WorkerBytesLaw = OverRuns HasWorkerBytes

-- main and what lies outside the objects in use follow program order
abbrev pub MainStateLaw : Type 0
MainStateLaw = OverRuns HasMainState
