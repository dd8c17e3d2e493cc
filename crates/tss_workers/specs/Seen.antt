-- What a contract sees of the workers, beside the definitions' busy workers, and what their calls make of them.
use Rattle.std.specs.Prelude.{◌≡◌, ℕ, ◌<◌, ◌≤◌, List, Option, Some, None, is_none, is_some, map, take}
use Rattle.std.specs.FinMap.{get, insert}
use Rattle.std.specs.Ordering.{nat_cmp}
use Rattle.tss_base.specs.declared.bounds.TheConstants.{MAX_OPERANDS}
use Rattle.tss_base.specs.declared.operand.Storage.{Storage}
use Rattle.tss_base.specs.declared.operand.Task.{Task}
use Rattle.tss_base.specs.declared.machine.Limits.{Limits}
use Rattle.tss_base.specs.Image.{SegmentState}
use Rattle.tss_base.specs.Names.{Numbered}
use Rattle.tss_maps.specs.Mapped.{mapped}
use Rattle.tss_tables.specs.Table.{TableState}
use Rattle.tss_model.specs.Memory.{Memory, MemoryRange, scratch_range, zeros}
use Rattle.tss_model.specs.Registers.{task_registers}
use Rattle.tss_model.specs.Access.{operands_of}
use Rattle.tss_model.specs.TaskRun.{TaskState}
use Rattle.tss_steps.specs.Placing.{IsGround}
use Rattle.tss_protocol.specs.Mail.{StorageName}
use Rattle.tss_protocol.specs.State.{Busy}
use Rattle.tss_protocol.specs.Workers.{Stores, exec_stretch, outputs_zeroed}
use Rattle.tss_events.specs.Events.{storage_name}
use Rattle.tss_buffers.specs.Contents.{BuffersState}
use Rattle.tss_workers.specs.Seats.{seats_of, placed_by, AreApart, AreSeated, AreSet}
use Rattle.tss_workers.specs.Spots.{stores_of}
use Rattle.tss_workers.specs.Working.{HaveSameSizes}
use Rattle.tss_workers.specs.declared.running.Worker.{Worker}

-- how many workers there are, and under the number of each busy one what it is busy with
abbrev pub WorkersState : Type 0
WorkersState = TableState nat_cmp Worker

-- ---- the definitions' busy worker

-- with these storages
abbrev pub busy_with : List StorageName → Worker → Busy
busy_with storages x = record {
  task = x.task;
  storages = storages;
  registers = x.regs;
  scratch = x.scratch;
  trap = x.trap;
}

-- with the buffers' names
abbrev pub busy_of : Worker → Busy
busy_of x = busy_with (map storage_name (take x.task.count x.storages)) x

-- with their places
abbrev pub seated_of : ℕ → Worker → Busy
seated_of banks x = busy_with (seats_of banks x.task x.storages) x

-- the workers
abbrev pub workers_of : Numbered Worker → Numbered Busy
workers_of workers = mapped busy_of workers

-- ---- what a task with its storages needs

-- its objects lie in memory, beside its scratch, are disjoint, and each is at home or in a buffer of its own
pub record CanWork (ranges : List MemoryRange) (b : BuffersState) (t : Task) (storages : List Storage) : Type 0 where
  pub count : t.count ≤ MAX_OPERANDS
  pub ground : IsGround ranges (operands_of t)
  pub apart : AreApart (placed_by b.banks t storages)
  pub seated : AreSeated b (placed_by b.banks t storages)

-- and the buffers are set
pub record CanGoOn (ranges : List MemoryRange) (b : BuffersState) (x : Worker) : Type 0 where
  pub works : CanWork ranges b x.task x.storages
  pub set : AreSet b.contents (placed_by b.banks x.task x.storages)

-- the same of a worker that is busy
abbrev pub WhereBusy : (Worker → Type 0) → Option Worker → Type 0
WhereBusy P None = Unit {0}
WhereBusy P (Some x) = P x

-- ---- start

-- a worker with a task before its first instruction
abbrev pub new_worker : Task → List Storage → Worker
new_worker t storages = record {
  task = t;
  storages = storages;
  regs = task_registers t;
  scratch = zeros scratch_range.len;
  trap = None;
}

-- home and buffers with zeros at the outputs, under limits with as many bytes to an object
pub record Zeroes (t : Task) (storages : List Storage) (m n : Memory) (b c : BuffersState) : Type 0 where
  pub stores : (limits : Limits) → limits.object_bytes ≡ b.object_bytes
      → stores_of n c ≡ outputs_zeroed limits (stores_of m b) (operands_of t) (seats_of b.banks t storages)
  pub sizes : HaveSameSizes b c
  pub ranges : n.ranges ≡ m.ranges

-- ---- exec

-- a worker after a stretch
abbrev pub worker_after : Worker → TaskState Stores → Worker
worker_after x s = record x { regs = s.registers; scratch = s.scratch; trap = s.trap }

-- a worker, home and the buffers after a stretch of at most a quantum, under limits with this budget
pub record Executes (code : List SegmentState) (budget quantum : ℕ) (x y : Worker) (m n : Memory) (b c : BuffersState) : Type 0 where
  pub worker : (limits : Limits) → limits.task_budget ≡ budget
      → y ≡ worker_after x (exec_stretch code limits quantum (seated_of b.banks x) (stores_of m b))
  pub stores : (limits : Limits) → limits.task_budget ≡ budget
      → stores_of n c ≡ (exec_stretch code limits quantum (seated_of b.banks x) (stores_of m b)).memory
  pub sizes : HaveSameSizes b c
  pub ranges : n.ranges ≡ m.ranges

-- the workers after a stretch of one of them
pub record ExecutesBy (w : ℕ) (code : List SegmentState) (budget quantum : ℕ) (old new : WorkersState) (x : Worker)
    (m n : Memory) (b c : BuffersState) : Type 0 where
  pub left : Worker
  pub executes : Executes code budget quantum x left m n b c
  pub workers : new ≡ record old { entries = insert old.entries w left }

abbrev pub ExecutesIn : ℕ → List SegmentState → ℕ → ℕ → WorkersState → WorkersState → Option Worker
    → Memory → Memory → BuffersState → BuffersState → Type 0
ExecutesIn w code budget quantum old new None m n b c = ⊥
ExecutesIn w code budget quantum old new (Some x) m n b c = ExecutesBy w code budget quantum old new x m n b c

abbrev pub ExecutesAt : ℕ → List SegmentState → ℕ → ℕ → WorkersState → WorkersState
    → Memory → Memory → BuffersState → BuffersState → Type 0
ExecutesAt w code budget quantum old new m n b c =
    ExecutesIn w code budget quantum old new (get old.entries w) m n b c

-- ---- as they are kept. No public clause speaks of it

-- a scratch stands among the idle ones exactly where the worker is idle
pub record HasScratches (t : WorkersState) (idle : TableState nat_cmp (List ℕ)) : Type 0 where
  pub size : idle.size ≡ t.size
  pub each : (w : ℕ) → w < t.size → is_some (get idle.entries w) ≡ is_none (get t.entries w)
