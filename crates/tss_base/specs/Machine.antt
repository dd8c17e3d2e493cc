-- The keys of a machine description with their names and ranges, and what an admissible machine is.
use Rattle.std.specs.Prelude.{◌≡◌, ℕ, ◌≤◌, List, [], ◌∷◌, Option, Some, None, codes}
use Rattle.tss_base.specs.declared.bounds.TheConstants.{MAX_MAIN_BUDGET, MAX_TASK_BUDGET, MAX_TASKS, MAX_OPERANDS, MAX_OBJECT_BYTES, MAX_EPOCH_OBJECTS, MAX_OUTPUT_BYTES, MAX_STATIONS, MAX_SLOTS, MAX_WORKERS, MAX_BANKS, MAX_ENTRIES, MAX_VERSIONS, MAX_BUFFERS, MAX_QUANTUM, MAX_WINDOW}
use Rattle.tss_base.specs.declared.machine.Limits.{Limits}
use Rattle.tss_base.specs.declared.machine.Sizes.{Sizes}
use Rattle.tss_base.specs.declared.machine.Machine.{Machine}
use Rattle.tss_base.specs.declared.machine.Key.{Key}
use Rattle.tss_base.specs.declared.machine.Key.TheVariants.{MainBudget, TaskBudget, MaxTasks, MaxOperands, ObjectBytes, EpochObjects, OutputBytes, Stations, Slots, Workers, Banks, Entries, Versions, Buffers, Quantum, Window}

-- the keys in the order in which they are checked
abbrev pub all_keys : List Key
all_keys =
    MainBudget
    ∷ TaskBudget
    ∷ MaxTasks
    ∷ MaxOperands
    ∷ ObjectBytes
    ∷ EpochObjects
    ∷ OutputBytes
    ∷ Stations
    ∷ Slots
    ∷ Workers
    ∷ Banks
    ∷ Entries
    ∷ Versions
    ∷ Buffers
    ∷ Quantum
    ∷ Window
    ∷ []

-- the key as a description has it
abbrev pub key_name : Key → List ℕ
key_name MainBudget = codes "main_budget"
key_name TaskBudget = codes "task_budget"
key_name MaxTasks = codes "max_tasks"
key_name MaxOperands = codes "max_operands"
key_name ObjectBytes = codes "object_bytes"
key_name EpochObjects = codes "epoch_objects"
key_name OutputBytes = codes "output_bytes"
key_name Stations = codes "stations"
key_name Slots = codes "slots"
key_name Workers = codes "workers"
key_name Banks = codes "banks"
key_name Entries = codes "entries"
key_name Versions = codes "versions"
key_name Buffers = codes "buffers"
key_name Quantum = codes "quantum"
key_name Window = codes "window"

-- the least and the greatest value of a key
abbrev pub key_range : Key → ℕ × ℕ
key_range MainBudget = (1, MAX_MAIN_BUDGET)
key_range TaskBudget = (1, MAX_TASK_BUDGET)
key_range MaxTasks = (1, MAX_TASKS)
key_range MaxOperands = (1, MAX_OPERANDS)
key_range ObjectBytes = (1, MAX_OBJECT_BYTES)
key_range EpochObjects = (1, MAX_EPOCH_OBJECTS)
key_range OutputBytes = (0, MAX_OUTPUT_BYTES)
key_range Stations = (1, MAX_STATIONS)
key_range Slots = (1, MAX_SLOTS)
key_range Workers = (1, MAX_WORKERS)
key_range Banks = (1, MAX_BANKS)
key_range Entries = (1, MAX_ENTRIES)
key_range Versions = (1, MAX_VERSIONS)
key_range Buffers = (1, MAX_BUFFERS)
key_range Quantum = (1, MAX_QUANTUM)
key_range Window = (1, MAX_WINDOW)

abbrev pub IsInRange : Key → ℕ → Type 0
IsInRange k n = ((key_range k).0 ≤ n) × (n ≤ (key_range k).1)

-- the limit of a key, for the seven that are limits
abbrev pub limit_of : Limits → Key → Option ℕ
limit_of l MainBudget = Some l.main_budget
limit_of l TaskBudget = Some l.task_budget
limit_of l MaxTasks = Some l.max_tasks
limit_of l MaxOperands = Some l.max_operands
limit_of l ObjectBytes = Some l.object_bytes
limit_of l EpochObjects = Some l.epoch_objects
limit_of l OutputBytes = Some l.output_bytes
limit_of l k = None

-- the size of a key, for the nine that are sizes
abbrev pub size_of : Sizes → Key → Option ℕ
size_of s Stations = Some s.stations
size_of s Slots = Some s.slots
size_of s Workers = Some s.workers
size_of s Banks = Some s.banks
size_of s Entries = Some s.entries
size_of s Versions = Some s.versions
size_of s Buffers = Some s.buffers
size_of s Quantum = Some s.quantum
size_of s Window = Some s.window
size_of s k = None

-- each limit lies in its range
abbrev pub AreLimits : Limits → Type 0
AreLimits l = (k : Key) (n : ℕ) → limit_of l k ≡ Some n → IsInRange k n

-- each size lies in its range
abbrev pub AreSizes : Sizes → Type 0
AreSizes s = (k : Key) (n : ℕ) → size_of s k ≡ Some n → IsInRange k n

-- a machine that a description may ask for: each table of a bank has room for the operands of one task
pub record IsAdmissible (m : Machine) : Type 0 where
  pub limits : AreLimits m.limits
  pub sizes : AreSizes m.sizes
  pub entries : m.limits.max_operands ≤ m.sizes.entries
  pub versions : m.limits.max_operands ≤ m.sizes.versions
  pub buffers : m.limits.max_operands ≤ m.sizes.buffers
