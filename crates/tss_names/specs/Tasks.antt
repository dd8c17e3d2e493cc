-- The tasks of a run from their spawn on: their numbers, the gateway, the slots, and the order of decodes.
use Rattle.std.specs.Prelude.{◌≡◌, ℕ, suc, ◌-◌, ◌<◌, ◌≤◌, ◌==◌, true, ◌⊎◌, if◌then◌else◌, List, [], ◌∷◌, map, length}
use Rattle.std.specs.Prelude.{slice_get, All, AllPairs, Any, Option, Some, None}
use Rattle.std.specs.FinMap.{get}
use Rattle.tss_base.specs.declared.operand.OpName.{OpName}
use Rattle.tss_base.specs.declared.operand.Operand.{Operand}
use Rattle.tss_base.specs.declared.operand.Task.{Task}
use Rattle.tss_base.specs.declared.machine.Machine.{Machine}
use Rattle.tss_base.specs.declared.event.Event.{Event}
use Rattle.tss_base.specs.declared.event.Event.TheVariants as event
use Rattle.tss_base.specs.Image.{ImageState}
use Rattle.tss_model.specs.Access.{operands_of}
use Rattle.tss_model.specs.MainStep.{Call, main_call}
use Rattle.tss_protocol.specs.Names.{bank_of}
use Rattle.tss_protocol.specs.State.{State, Flying, initial_state}
use Rattle.tss_protocol.specs.Stations.{tasks_in}
use Rattle.tss_protocol.specs.Needs.{is_in_inbox}
use Rattle.tss_protocol.specs.MainEvent.{call_next}
use Rattle.tss_protocol.specs.UnitMachine.{after_event}
use Rattle.tss_protocol.specs.Run.{OverRuns}

-- ---- the tasks that a run spawns, the newest first

-- with one more, where there is one
abbrev pub with_spawned : List Task → Option Task → List Task
with_spawned ts None = ts
with_spawned ts (Some t) = t ∷ ts

-- after main's event, by its call
abbrev pub spawned_by_main : Machine → State → List Task → Option Call → List Task
spawned_by_main m S ts None = ts
spawned_by_main m S ts (Some call) = with_spawned ts (main_call m.limits S.home S.main call).1

-- only main spawns
abbrev pub spawned_after_event : Machine → State → List Task → Event → List Task
spawned_after_event m S ts event.Main = spawned_by_main m S ts (call_next m S)
spawned_after_event m S ts e = ts

-- after events, where these were spawned before
unfoldable pub spawned_after : Machine → State → List Task → List Event → List Task
spawned_after m S ts [] = ts
spawned_after m S ts (e ∷ es) = spawned_after m (after_event m S e) (spawned_after_event m S ts e) es

-- the tasks that a run spawns
abbrev pub spawned_tasks : Machine → ImageState → List Event → List Task
spawned_tasks m i es = spawned_after m (initial_state i) [] es

-- the task of a number, the oldest having 1
abbrev pub task_at : List Task → ℕ → Option Task
task_at [] n = None
task_at (t ∷ ts) n = if n == suc (length ts) then Some t else task_at ts n

-- a fact of the machine, of the tasks spawned so far and of the state
abbrev pub TasksFact : Type 1
TasksFact = Machine → List Task → State → Type 0

-- it holds after every run, of the tasks that the run spawns
abbrev pub OverTasks : TasksFact → Type 0
OverTasks P = OverRuns (λ m i es S. P m (spawned_tasks m i es) S)

-- ---- numbers

-- how many tasks were taken: those spawned, less the one in the inbox
abbrev pub taken_by : Option Task → ℕ → ℕ
taken_by None spawned = spawned
taken_by (Some t) spawned = spawned - 1

-- the same of a state. Tasks are taken in order, so it is the last number taken
abbrev pub last_taken : State → ℕ
last_taken S = taken_by S.inbox S.main.spawned

-- the task of this number was taken
abbrev pub IsTaken : State → ℕ → Type 0
IsTaken S n = (1 ≤ n) × (n ≤ last_taken S)

-- a spawned task: its number is its place among those spawned, and it has no more operands than a task may have
pub record IsSpawned (m : Machine) (n : ℕ) (t : Task) : Type 0 where
  pub number : t.number ≡ n
  pub operands : length (operands_of t) ≤ m.limits.max_operands

-- the last spawned task
pub record IsNewest (ts : List Task) (S : State) (t : Task) : Type 0 where
  pub number : t.number ≡ S.main.spawned
  pub task : task_at ts t.number ≡ Some t

-- a task in flight: it stands under its number, was taken, and has a record for each of its operands, in order
pub record IsInFlight (ts : List Task) (S : State) (n : ℕ) (x : Flying) : Type 0 where
  pub number : x.task.number ≡ n
  pub taken : IsTaken S n
  pub task : task_at ts n ≡ Some x.task
  pub operands : map (λ r. r.operand) x.operands ≡ operands_of x.task

-- main counts the tasks that it spawns, the inbox has none but the last of them, and those in flight were taken
pub record HasTaskNumbers (m : Machine) (ts : List Task) (S : State) : Type 0 where
  pub spawned : S.main.spawned ≡ length ts
  pub few : S.main.spawned ≤ m.limits.max_tasks
  pub each : (n : ℕ) (t : Task) → task_at ts n ≡ Some t → IsSpawned m n t
  pub inbox : (t : Task) → S.inbox ≡ Some t → IsNewest ts S t
  pub flight : (n : ℕ) (x : Flying) → get S.flight n ≡ Some x → IsInFlight ts S n x

-- every run does
abbrev pub TaskNumbersLaw : Type 0
TaskNumbersLaw = OverTasks HasTaskNumbers

-- ---- the gateway

-- an operand of a spawned task, by its name
pub record IsOperandOf (ts : List Task) (o : OpName) (operand : Operand) : Type 0 where
  pub task : Task
  pub spawned : task_at ts o.task ≡ Some task
  pub place : slice_get (operands_of task) o.place ≡ Some operand

-- an operand of a task that was taken
abbrev pub IsOfTaken : List Task → State → OpName → Type 0
IsOfTaken ts S o = IsTaken S o.task × (operand : Operand) × IsOperandOf ts o operand

-- an operand of this task is in the gateway
abbrev pub IsInGateway : State → ℕ → Type 0
IsInGateway S n = (o : OpName) × (get S.gateway o ≡ Some tt) × (o.task ≡ n)

-- these are the tasks of the gateway's operands, in order and at most so many
pub record AreGatewayTasks (most : ℕ) (S : State) (ns : List ℕ) : Type 0 where
  pub few : length ns ≤ most
  pub rising : AllPairs (λ n k. n < k) ns
  pub each : All (IsInGateway S) ns
  pub all : (o : OpName) → get S.gateway o ≡ Some tt → Any (λ n. n ≡ o.task) ns

-- an operand of the gateway: its decode is under way, or else its ack
abbrev pub IsAcknowledging : State → OpName → Type 0
IsAcknowledging S o =
    ((operand : Operand) × (get S.mail.decodes o ≡ Some operand)) ⊎ (get S.mail.acks o ≡ Some tt)

-- the gateway has operands of a window of tasks at most, all of them taken. An operand is in it exactly where its
-- decode or its ack is under way, and never are both. A decode has the operand of its name
pub record HasGateway (m : Machine) (ts : List Task) (S : State) : Type 0 where
  pub tasks : (ns : List ℕ) × AreGatewayTasks m.sizes.window S ns
  pub each : (o : OpName) → get S.gateway o ≡ Some tt → IsOfTaken ts S o
  pub held : (o : OpName) → get S.gateway o ≡ Some tt → IsAcknowledging S o
  pub decodes : (o : OpName) (operand : Operand) → get S.mail.decodes o ≡ Some operand
      → (get S.gateway o ≡ Some tt) × (get S.mail.acks o ≡ None) × IsOperandOf ts o operand
  pub acks : (o : OpName) → get S.mail.acks o ≡ Some tt → (get S.gateway o ≡ Some tt) × (get S.mail.decodes o ≡ None)

-- every run leaves such a state
abbrev pub GatewayLaw : Type 0
GatewayLaw = OverTasks HasGateway

-- ---- slots

-- no station has more tasks in flight than slots
abbrev pub StaysWithinSlots : TasksFact
StaysWithinSlots m ts S = (station : ℕ) → tasks_in m.sizes station S.flight ≤ m.sizes.slots

-- none ever has
abbrev pub SlotsLaw : Type 0
SlotsLaw = OverTasks StaysWithinSlots

-- ---- the order of decodes

-- an operand that is still to be decoded: its task is in the inbox, or its decode is under way
abbrev pub IsUndecoded : State → OpName → Operand → Type 0
IsUndecoded S o operand = (is_in_inbox S.inbox o.task ≡ true) ⊎ (get S.mail.decodes o ≡ Some operand)

-- where an operand is still to be decoded, so are those of later tasks on objects of its bank
abbrev pub DecodesInOrder : TasksFact
DecodesInOrder m ts S =
    (o p : OpName) (x y : Operand)
    → IsOperandOf ts o x
    → IsOperandOf ts p y
    → IsUndecoded S o x
    → o.task < p.task
    → bank_of m.sizes x.object ≡ bank_of m.sizes y.object
    → IsUndecoded S p y

-- every run decodes in this order
abbrev pub DecodeOrderLaw : Type 0
DecodeOrderLaw = OverTasks DecodesInOrder
