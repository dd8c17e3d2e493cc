-- What start, exec and finish find of the task on the worker.
use Rattle.std.specs.Prelude.{◌≡◌, ◌≢◌, ℕ, ◌<◌, ◌≤◌, Bool, true, false, not, List, ◌∷◌, length, slice_get, Some}
use Rattle.std.specs.List.{list_all}
use Rattle.std.specs.FinMap.{get}
use Rattle.tss_base.specs.declared.operand.OpName.{OpName}
use Rattle.tss_base.specs.declared.operand.Operand.{Operand}
use Rattle.tss_base.specs.declared.operand.Task.{Task}
use Rattle.tss_base.specs.declared.machine.Machine.{Machine}
use Rattle.tss_base.specs.declared.marks.Stage.TheVariants as stage
use Rattle.tss_base.specs.Image.{ImageState}
use Rattle.tss_base.specs.Range.{meets}
use Rattle.tss_model.specs.Memory.{range_of}
use Rattle.tss_model.specs.Access.{operands_of, reads, writes}
use Rattle.tss_model.specs.Spawn.{is_outside}
use Rattle.tss_protocol.specs.Names.{bank_of}
use Rattle.tss_protocol.specs.Mail.{StorageName, Buffer, Source}
use Rattle.tss_protocol.specs.State.{State, OperandState, Flying, Busy}
use Rattle.tss_protocol.specs.Stations.{is_complete, storages_of}
use Rattle.tss_conditions.specs.Reached.{Reached}
use Rattle.tss_conditions.specs.Taking.{IsProper}

-- ---- a task with storages

-- an operand's object has bytes, no more than an object may have, and lies in one range of home, which can be written
-- where the operand writes
pub record HasFitObject (m : Machine) (S : State) (p : Operand) : Type 0 where
  pub some : 0 < p.object.len
  pub short : p.object.len ≤ m.limits.object_bytes
  pub writable : Bool
  pub within : range_of S.home.ranges p.object ≡ Some writable
  pub written : writes p.mode ≡ true → writable ≡ true

-- a task may run over these storages: it has one for each operand, its objects share no address and fit, a buffer is
-- held in the bank of its operand's object, and no buffer is that of two operands
pub record MayRunOver (m : Machine) (S : State) (t : Task) (ss : List StorageName) : Type 0 where
  pub proper : IsProper m t
  pub storages : length ss ≡ length (operands_of t)
  pub fits : (k : ℕ) (p : Operand) → slice_get (operands_of t) k ≡ Some p → HasFitObject m S p
  pub placed : list_all (λ o. not (is_outside o.mode (range_of S.home.ranges o.object))) (operands_of t) ≡ true
  pub apart : (j k : ℕ) (p q : Operand) → slice_get (operands_of t) j ≡ Some p → slice_get (operands_of t) k ≡ Some q
      → j ≢ k → meets p.object q.object ≡ false
  pub buffers : (k : ℕ) (p : Operand) (b : OpName) → slice_get (operands_of t) k ≡ Some p
      → slice_get ss k ≡ Some (Buffer b) → get S.buffers b ≡ Some (bank_of m.sizes p.object)
  pub single : (j k : ℕ) (b : OpName) → slice_get ss j ≡ Some (Buffer b) → slice_get ss k ≡ Some (Buffer b) → j ≡ k

-- a buffer has contents, with room for any object
abbrev pub IsSet : Machine → State → OpName → Type 0
IsSet m S b = (bytes : List ℕ) × (get S.contents b ≡ Some bytes) × (m.limits.object_bytes ≤ length bytes)

-- ---- start

-- the task at the front of the queue: it is in flight, queued, and each of its operands was told its storage. The
-- buffers of operands that it reads are set
pub record IsStartable (m : Machine) (S : State) (t : ℕ) : Type 0 where
  pub flying : Flying
  pub there : get S.flight t ≡ Some flying
  pub number : flying.task.number ≡ t
  pub queued : flying.stage ≡ stage.Queued
  pub complete : is_complete flying ≡ true
  pub told : (k : ℕ) (x : OperandState) → slice_get flying.operands k ≡ Some x → (s : Source) × (x.source ≡ Some s)
  pub may : MayRunOver m S flying.task (storages_of flying)
  pub set : (k : ℕ) (p : Operand) (b : OpName) → slice_get (operands_of flying.task) k ≡ Some p
      → slice_get (storages_of flying) k ≡ Some (Buffer b) → reads p.mode ≡ true → IsSet m S b

-- in every reached state
abbrev pub StartLaw : Type 0
StartLaw =
    (m : Machine) (i : ImageState) (S : State) (t : ℕ) (ts : List ℕ)
    → Reached m i S
    → S.queue ≡ t ∷ ts
    → IsStartable m S t

-- ---- exec, finish

-- the task of a busy worker: it is in flight and runs, with the storages that it was told, and all its buffers are set.
-- It has completed no more instructions than a task may
pub record IsRunning (m : Machine) (S : State) (w : ℕ) (b : Busy) : Type 0 where
  pub worker : w < m.sizes.workers
  pub flying : Flying
  pub there : get S.flight b.task.number ≡ Some flying
  pub task : flying.task ≡ b.task
  pub runs : flying.stage ≡ stage.Running
  pub storages : b.storages ≡ storages_of flying
  pub may : MayRunOver m S b.task b.storages
  pub set : (k : ℕ) (n : OpName) → slice_get b.storages k ≡ Some (Buffer n) → IsSet m S n
  pub budget : b.registers.done ≤ m.limits.task_budget

-- in every reached state
abbrev pub RunningLaw : Type 0
RunningLaw =
    (m : Machine) (i : ImageState) (S : State) (w : ℕ) (b : Busy)
    → Reached m i S
    → get S.workers w ≡ Some b
    → IsRunning m S w b
