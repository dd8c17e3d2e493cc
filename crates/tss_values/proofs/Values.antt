-- The bytes of program order: what stands in each storage, at home, and on each worker, as far as program order starts
-- the tasks.
use Rattle.std.proofs.Common.{◌≡◌, ◌⊎◌, ℕ, ◌+◌, ◌<◌, ◌≤◌, true, false, List, length, take, Some, None}
use Rattle.std.specs.Prelude.{cond, slice_index, slice_get}
use Rattle.std.specs.FinMap.{get}
use Rattle.tss_base.specs.declared.range.Range.{Range}
use Rattle.tss_base.specs.declared.operand.OpName.{OpName}
use Rattle.tss_base.specs.declared.operand.Mode.TheVariants.{Output, Inout}
use Rattle.tss_base.specs.declared.operand.Operand.{Operand}
use Rattle.tss_base.specs.declared.operand.Task.{Task}
use Rattle.tss_base.specs.declared.ending.Trap.{Trap}
use Rattle.tss_base.specs.declared.marks.Stage.TheVariants as stage
use Rattle.tss_base.specs.declared.machine.Machine.{Machine}
use Rattle.tss_base.specs.Image.{ImageState}
use Rattle.tss_model.specs.Memory.{byte_at, bytes_of}
use Rattle.tss_model.specs.Access.{reads, writes, operands_of}
use Rattle.tss_model.specs.InOrder.{Started, flat_stepped, started_at, end_of_started}
use Rattle.tss_protocol.specs.Mail.{StorageName, Buffer, OpenContents, GoneContents}
use Rattle.tss_protocol.specs.State.{State, Flying, Busy, Version, CopyState, HeldTrap, Entry}
use Rattle.tss_protocol.specs.Stations.{storages_of, has_finished}
use Rattle.tss_protocol.specs.Buffers.{buffer_bytes}
use Rattle.tss_protocol.specs.Workers.{stored_bytes}
use Rattle.tss_protocol.specs.UnitMachine.{stores_of}
use Rattle.tss_locality.specs.Rounds.{IsTaskOf}
use Rattle.tss_phases.specs.Phase.{Told, Ready, Releasing, phase_of, is_decoded}
use Rattle.tss_control.specs.Members.{operand_among, IsMember}
use Rattle.tss_names.specs.Stages.{IsOnWorker}
use Rattle.tss_names.specs.Tasks.{task_at, IsTaken}
use Rattle.tss_program_order.specs.MainInOrder.{steps_taken, flat_beside, IsCutOff}
use Rattle.tss_program_order.proofs.FlatNames.{Has}
use Rattle.tss_program_order.proofs.StoreFollows.{RunsInOrder}

-- ---- tasks of program order

-- program order starts the task of this number, on this memory
abbrev pub Starts : Machine → ImageState → ℕ → Started → Type 0
Starts m i n s = (k : ℕ) × (started_at i m.limits k ≡ Some s) × (s.task.number ≡ n)

-- it runs to its end there
abbrev pub RunsOut : Machine → ImageState → Started → Type 0
RunsOut m i s = (end_of_started i m.limits s).trap ≡ None

-- the bytes of an operand's object right before its task
abbrev pub bytes_before : Started → Operand → List ℕ
bytes_before s p = bytes_of s.memory p.object

-- and right after it. An input stays as it was
abbrev pub bytes_after : Machine → ImageState → Started → Operand → List ℕ
bytes_after m i s p = cond (writes p.mode) (bytes_of (end_of_started i m.limits s).memory p.object) (bytes_before s p)

-- program order says what an operand leaves: its task is started, and runs to its end where the operand writes
abbrev pub IsGood : Machine → ImageState → Started → Operand → Type 0
IsGood m i s p = writes p.mode ≡ true → RunsOut m i s

-- ---- storages

-- an operand on a name that program order says
pub record IsKnown (m : Machine) (i : ImageState) (ts : List Task) (o : OpName) (p : Operand) (s : Started)
    : Type 0 where
  pub operand : operand_among ts o ≡ Some p
  pub starts : Starts m i o.task s

-- the bytes of an object in a storage
abbrev pub content : State → Range → StorageName → List ℕ
content S x storage = stored_bytes (stores_of S) x storage

-- storages have the bytes of program order: of a produced version, of an inout before its task's start, and of a writer
-- that lets go
pub record HasStored (m : Machine) (i : ImageState) (ts : List Task) (S : State) : Type 0 where
  pub produced : (v : OpName) (y : Version) (st : StorageName) (p : Operand) (s : Started) → get S.versions v ≡ Some y
      → y.produced ≡ true → y.storage ≡ Some st → IsKnown m i ts v p s → IsGood m i s p
      → content S y.object st ≡ bytes_after m i s p
  pub awaited : (v : OpName) (y : Version) (st : StorageName) (p : Operand) (s : Started) → get S.versions v ≡ Some y
      → y.storage ≡ Some st → IsKnown m i ts v p s → p.mode ≡ Inout
      → (phase_of S v ≡ Told) ⊎ (phase_of S v ≡ Ready) → (IsOnWorker S v.task → ⊥)
      → content S y.object st ≡ bytes_before s p
  pub releasing : (v : OpName) (y : Version) (st : StorageName) (p : Operand) (s : Started) → get S.versions v ≡ Some y
      → y.storage ≡ Some st → IsKnown m i ts v p s → writes p.mode ≡ true → phase_of S v ≡ Releasing → RunsOut m i s
      → content S y.object st ≡ bytes_after m i s p

-- ---- workers

-- a worker has the task that is in flight under its number with the storages that it was told, and stands where program
-- order has it, if that starts it
pub record HasWorkers (m : Machine) (i : ImageState) (S : State) : Type 0 where
  pub told : (w : ℕ) (b : Busy) → get S.workers w ≡ Some b
      → (x : Flying) × (get S.flight b.task.number ≡ Some x) × (x.task ≡ b.task) × (b.storages ≡ storages_of x)
  pub runs : (w : ℕ) (b : Busy) (s : Started) → get S.workers w ≡ Some b → Starts m i b.task.number s
      → (r : RunsInOrder m i (stores_of S) b) × (s ≡ record { task = b.task; memory = r.memory })

-- ---- home

-- what is copied home, or has come there, is the value of the object's last version. The bytes that a copy has moved
-- are at home
pub record HasReturns (m : Machine) (i : ImageState) (ts : List Task) (S : State) : Type 0 where
  pub copied : (bank : ℕ) (c : CopyState) (p : Operand) (s : Started) → get S.copies bank ≡ Some c
      → IsKnown m i ts c.version p s → IsGood m i s p
      → take c.object.len (buffer_bytes S.contents c.buffer) ≡ bytes_after m i s p
  pub within : (bank : ℕ) (c : CopyState) → get S.copies bank ≡ Some c → c.moved ≤ c.object.len
  pub moved : (bank : ℕ) (c : CopyState) (k : ℕ) → get S.copies bank ≡ Some c → k < c.moved
      → byte_at S.home (c.object.base + k) ≡ slice_index (buffer_bytes S.contents c.buffer) k
  pub gone : (v : OpName) (g : GoneContents) (p : Operand) (s : Started) → get S.mail.gones v ≡ Some g
      → g.retired ≡ true → IsKnown m i ts v p s → IsGood m i s p → bytes_of S.home g.object ≡ bytes_after m i s p

-- an operand on an object is the first of it that isn't decoded
pub record IsFirstAhead (ts : List Task) (S : State) (x : Range) (o : OpName) (p : Operand) : Type 0 where
  pub operand : operand_among ts o ≡ Some p
  pub object : p.object ≡ x
  pub ahead : is_decoded (phase_of S o) ≡ false
  pub first : (q : OpName) (r : Operand) → operand_among ts q ≡ Some r → r.object ≡ x
      → is_decoded (phase_of S q) ≡ false → o.task ≤ q.task

-- an address lies in an object
abbrev pub IsInside : Range → ℕ → Type 0
IsInside x a = (x.base ≤ a) × (a < x.base + x.len)

-- in that of no entry
abbrev pub IsLoose : State → ℕ → Type 0
IsLoose S a = (b : ℕ) (e : Entry) → get S.entries b ≡ Some e → IsInside e.object a → ⊥

-- nobody claims an address: it lies in the object of no entry, of no operand in the inbox, and of none that is to be
-- decoded
pub record IsUnclaimed (S : State) (a : ℕ) : Type 0 where
  pub entered : IsLoose S a
  pub arriving : (t : Task) → S.inbox ≡ Some t → (j : ℕ) (p : Operand) → slice_get (operands_of t) j ≡ Some p
      → IsInside p.object a → ⊥
  pub decoding : (o : OpName) (p : Operand) → get S.mail.decodes o ≡ Some p → IsInside p.object a → ⊥

-- home has the bytes of program order: of an object without an entry right before the first operand that isn't decoded;
-- where nobody claims an address, as main has it; and before an open that follows nothing, where that reads
pub record HasHome (m : Machine) (i : ImageState) (ts : List Task) (S : State) : Type 0 where
  pub ahead : (x : Range) (o : OpName) (p : Operand) (s : Started) → get S.entries x.base ≡ None
      → IsFirstAhead ts S x o p → Starts m i o.task s → bytes_of S.home x ≡ bytes_before s p
  pub beside : (a : ℕ) → S.main ≡ (flat_beside i m.limits S.main).main → IsUnclaimed S a
      → get S.home.bytes a ≡ get (flat_beside i m.limits S.main).memory.bytes a
  pub opening : (o : OpName) (c : OpenContents) (s : Started) → get S.mail.opens o ≡ Some c → c.follows ≡ None
      → (c.operand.mode ≡ Output → ⊥) → Starts m i o.task s
      → bytes_of S.home c.operand.object ≡ bytes_before s c.operand

-- a buffer has room for any object
abbrev pub IsRoomy : Machine → State → OpName → Type 0
IsRoomy m S b = m.limits.object_bytes ≤ length (buffer_bytes S.contents b)

-- a task that was taken has begun: it is in flight no more, or runs or has finished there
abbrev pub HasBegun : State → ℕ → Type 0
HasBegun S n = (x : Flying) → get S.flight n ≡ Some x → (x.stage ≡ stage.Running) ⊎ (x.stage ≡ stage.Finished)

-- the buffer of a version is set: its opener reads it, or has begun
abbrev pub IsSet : List Task → State → OpName → Type 0
IsSet ts S v = ((p : Operand) × (operand_among ts v ≡ Some p) × (reads p.mode ≡ true)) ⊎ HasBegun S v.task

-- buffers that are set have room: those of versions, and those that are copied home
pub record HasRoom (m : Machine) (ts : List Task) (S : State) : Type 0 where
  pub versions : (v : OpName) (y : Version) (b : OpName) → get S.versions v ≡ Some y → y.storage ≡ Some (Buffer b)
      → IsSet ts S v → IsRoomy m S b
  pub copies : (bank : ℕ) (c : CopyState) → get S.copies bank ≡ Some c → IsRoomy m S c.buffer

-- ---- main, and the held trap

-- a task is under way
abbrev pub IsUnfinished : State → ℕ → Type 0
IsUnfinished S n = (x : Flying) × (get S.flight n ≡ Some x) × (has_finished x.stage ≡ false)

-- the trap of no later task is held
abbrev pub HoldsTrapBy : State → ℕ → Type 0
HoldsTrapBy S n = (h : HeldTrap) × (S.trap ≡ Some h) × (h.task ≤ n)

-- main follows program order, or a task that it has spawned traps there. Each task of program order is the one of its
-- number that main has spawned. The held trap is of a spawned task, and that of program order where that starts the
-- task. Once a task has ended that traps in program order, its trap is held, or that of an earlier one
pub record HasMain (m : Machine) (i : ImageState) (all : List Task) (S : State) : Type 0 where
  pub follows : (S.main ≡ (flat_beside i m.limits S.main).main) ⊎ IsCutOff i m.limits S.main
  pub same : (n : ℕ) (t : Task) (s : Started) → task_at all n ≡ Some t → Starts m i n s → s.task ≡ t
  pub held : (h : HeldTrap) → S.trap ≡ Some h → (0 < h.task) × (h.task ≤ S.main.spawned)
  pub trap : (h : HeldTrap) (s : Started) → S.trap ≡ Some h → Starts m i h.task s
      → (end_of_started i m.limits s).trap ≡ Some h.trap
  pub judged : (n : ℕ) (s : Started) (t : Trap) → IsTaken S n → Starts m i n s
      → (end_of_started i m.limits s).trap ≡ Some t → IsUnfinished S n ⊎ HoldsTrapBy S n

-- ---- named objects

-- an operand still acts on its object: it isn't decoded, is a version of the object or is being opened as one, or is
-- the latest of the object's entry
abbrev pub IsLive : State → OpName → Range → Type 0
IsLive S o x =
    (is_decoded (phase_of S o) ≡ false)
    ⊎ (IsMember S x o ⊎ ((e : Entry) × (get S.entries x.base ≡ Some e) × (e.latest ≡ o) × (e.object ≡ x)))

-- the object of a round's operand that still acts on it is named in program order from its task's start up to where
-- main stands, and the round has each spawned task from its oldest on
pub record HasNaming (m : Machine) (i : ImageState) (all ts : List Task) (S : State) : Type 0 where
  pub named : (o : OpName) (p : Operand) (k j : ℕ) (s : Started) → operand_among ts o ≡ Some p
      → IsLive S o p.object → started_at i m.limits k ≡ Some s → s.task.number ≡ o.task → k < j
      → j ≤ steps_taken S.main → Has (flat_stepped i m.limits j).main.epoch p.object
  pub among : (n : ℕ) (t : Task) (o : OpName) (p : Operand) → task_at all n ≡ Some t → operand_among ts o ≡ Some p
      → o.task ≤ n → IsTaskOf ts t

-- ---- the whole

-- all of it
pub record HasValues (m : Machine) (i : ImageState) (all ts : List Task) (S : State) : Type 0 where
  pub stored : HasStored m i ts S
  pub workers : HasWorkers m i S
  pub returns : HasReturns m i ts S
  pub home : HasHome m i ts S
  pub room : HasRoom m ts S
  pub main : HasMain m i all S
  pub naming : HasNaming m i all ts S
