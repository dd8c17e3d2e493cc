-- What each event of the unit machine concerns: its operand or version, and the task, the objects and the names that go
-- with it.
use Rattle.std.specs.Prelude.{◌≡◌, ℕ, List, ◌∷◌, slice_get, Some, None}
use Rattle.std.specs.FinMap.{get}
use Rattle.tss_base.specs.declared.range.Range.{Range}
use Rattle.tss_base.specs.declared.operand.OpName.{OpName}
use Rattle.tss_base.specs.declared.operand.Operand.{Operand}
use Rattle.tss_base.specs.declared.operand.Task.{Task}
use Rattle.tss_base.specs.declared.machine.Machine.{Machine}
use Rattle.tss_base.specs.declared.event.Event.{Event}
use Rattle.tss_base.specs.declared.event.Event.TheVariants as event
use Rattle.tss_base.specs.Range.{Covers}
use Rattle.tss_model.specs.Access.{operands_of}
use Rattle.tss_model.specs.MainStep.{Call, main_call}
use Rattle.tss_protocol.specs.Names.{operand_name}
use Rattle.tss_protocol.specs.State.{OperandState, Flying, Busy, Entry, CopyState, State}
use Rattle.tss_protocol.specs.Stations.{operand_at}
use Rattle.tss_protocol.specs.MainEvent.{call_next}
use Rattle.tss_locality.specs.Agreement.{operand_in}
use Rattle.tss_locality.specs.Scopes.{Scope, IsOwn, IsInside}

-- a task's operands, with their objects
abbrev pub OperandsIn : Scope → ℕ → List Operand → Type 0
OperandsIn c n os =
    (k : ℕ) (o : Operand) → slice_get os k ≡ Some o → c.names (operand_name n k) × c.objects o.object

-- no object that main has named has the address
abbrev pub IsFree : State → ℕ → Type 0
IsFree S a = (k : ℕ) (x : Range) → slice_get S.main.epoch k ≡ Some x → Covers x a → ⊥

-- a spawned task with the names of its operands
pub record ConcernsTask (c : Scope) (t : Task) : Type 0 where
  pub task : c.tasks t.number
  pub names : (o : OpName) (p : Operand) → operand_in (Some t) o ≡ Some p → c.names o

-- main: the task that its next call spawns, if any, and each address of no named object
pub record ConcernsMain (c : Scope) (m : Machine) (S : State) : Type 0 where
  pub spawned : (x : Call) → call_next m S ≡ Some x → (t : Task) → (main_call m.limits S.home S.main x).1 ≡ Some t →
      ConcernsTask c t
  pub addresses : (a : ℕ) → IsFree S a → IsInside c a

-- a task that is taken, which isn't in flight yet
pub record ConcernsTake (c : Scope) (S : State) (t : Task) : Type 0 where
  pub spawned : ConcernsTask c t
  pub fresh : get S.flight t.number ≡ None

-- a task that starts: it stands under its number, and its operands' objects and storages go with it
pub record ConcernsStart (c : Scope) (t : ℕ) (x : Flying) : Type 0 where
  pub number : x.task.number ≡ t
  pub task : c.tasks t
  pub operands : OperandsIn c t (operands_of x.task)

-- a worker that goes a stretch further, with its task's operands
pub record ConcernsExec (c : Scope) (b : Busy) : Type 0 where
  pub task : c.tasks b.task.number
  pub operands : OperandsIn c b.task.number (operands_of b.task)

-- a worker's task that finishes, with the names of its operands
pub record ConcernsFinish (c : Scope) (S : State) (b : Busy) : Type 0 where
  pub task : c.tasks b.task.number
  pub names : (o : OpName) (r : OperandState) → o.task ≡ b.task.number → operand_at S.flight o ≡ Some r → c.names o

-- the entry that decode finds at the base of its operand's object is of that very object
abbrev pub FindsOwn : State → OpName → Type 0
FindsOwn S o =
    (p : Operand) (e : Entry) → get S.mail.decodes o ≡ Some p → get S.entries p.object.base ≡ Some e →
    e.object ≡ p.object

-- what an event concerns lies in the scope
abbrev pub Concerns : Scope → Machine → State → Event → Type 0
Concerns c m S event.Main = ConcernsMain c m S
Concerns c m S event.Take = (t : Task) → S.inbox ≡ Some t → ConcernsTake c S t
Concerns c m S (event.Decode o) = IsOwn c o × FindsOwn S o
Concerns c m S (event.Ack o) = IsOwn c o
Concerns c m S (event.Open o) = IsOwn c o
Concerns c m S (event.Use o) = IsOwn c o
Concerns c m S (event.Ready o) = IsOwn c o
Concerns c m S (event.Link o) = IsOwn c o
Concerns c m S (event.Start w) =
    (t : ℕ) (ts : List ℕ) (x : Flying) → S.queue ≡ t ∷ ts → get S.flight t ≡ Some x → ConcernsStart c t x
Concerns c m S (event.Exec w) = (b : Busy) → get S.workers w ≡ Some b → ConcernsExec c b
Concerns c m S (event.Finish w) = (b : Busy) → get S.workers w ≡ Some b → ConcernsFinish c S b
Concerns c m S (event.Release o) = IsOwn c o
Concerns c m S (event.Bye o) = IsOwn c o
Concerns c m S (event.Idle v) = c.names v
Concerns c m S (event.Nack v) = c.names v
Concerns c m S (event.Retire v) = c.names v
Concerns c m S (event.Copy b) = (k : CopyState) → get S.copies b ≡ Some k → c.objects k.object
Concerns c m S (event.Gone v) = c.names v
