-- The stages of tasks in flight, the ready queue, and the workers.
use Rattle.std.specs.Prelude.{◌≡◌, ℕ, ◌<◌, ◌≤◌, ◌↔◌, true, false, List, length, Some}
use Rattle.std.specs.FinMap.{get}
use Rattle.tss_base.specs.declared.operand.Task.{Task}
use Rattle.tss_base.specs.declared.machine.Machine.{Machine}
use Rattle.tss_base.specs.declared.marks.Stage.TheVariants as stage
use Rattle.tss_model.specs.Access.{operands_of}
use Rattle.tss_protocol.specs.State.{State, Flying, Busy}
use Rattle.tss_protocol.specs.Stations.{is_complete, is_gone}
use Rattle.tss_protocol.specs.Needs.{is_in_queue}
use Rattle.tss_names.specs.Tasks.{task_at, IsTaken, OverTasks}

-- a worker has the task of this number
abbrev pub IsOnWorker : State → ℕ → Type 0
IsOnWorker S n = (w : ℕ) × (b : Busy) × (get S.workers w ≡ Some b) × (b.task.number ≡ n)

-- the task of this number was taken, and as long as it is in flight each of its operands is ready
pub record IsReadyToRun (S : State) (n : ℕ) : Type 0 where
  pub taken : IsTaken S n
  pub complete : (x : Flying) → get S.flight n ≡ Some x → is_complete x ≡ true

-- a busy worker is one of the machine's. It has a spawned task with a storage for each operand, and has completed no
-- more instructions than a task may
pub record IsBusy (m : Machine) (ts : List Task) (S : State) (w : ℕ) (b : Busy) : Type 0 where
  pub number : w < m.sizes.workers
  pub task : task_at ts b.task.number ≡ Some b.task
  pub ready : IsReadyToRun S b.task.number
  pub storages : length b.storages ≡ length (operands_of b.task)
  pub budget : b.registers.done ≤ m.limits.task_budget

-- a task in flight waits exactly where one of its operands isn't ready, one that is queued is in the ready queue, one
-- that runs is on a worker, and one that has finished still has an operand whose farewell isn't done
pub record HasStages (m : Machine) (ts : List Task) (S : State) : Type 0 where
  pub waiting : (n : ℕ) (x : Flying) → get S.flight n ≡ Some x → (x.stage ≡ stage.Waiting) ↔ (is_complete x ≡ false)
  pub queued : (n : ℕ) (x : Flying) → get S.flight n ≡ Some x → x.stage ≡ stage.Queued → is_in_queue S n ≡ true
  pub running : (n : ℕ) (x : Flying) → get S.flight n ≡ Some x → x.stage ≡ stage.Running → IsOnWorker S n
  pub staying : (n : ℕ) (x : Flying) → get S.flight n ≡ Some x → is_gone x ≡ false
  pub queue : (n : ℕ) → is_in_queue S n ≡ true → IsReadyToRun S n
  pub workers : (w : ℕ) (b : Busy) → get S.workers w ≡ Some b → IsBusy m ts S w b

-- every run leaves such a state
abbrev pub StagesLaw : Type 0
StagesLaw = OverTasks HasStages
