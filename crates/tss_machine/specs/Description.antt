-- The machine that a description is, or the first check that it fails.
use Rattle.std.specs.Prelude.{◌≡◌, ℕ, nat_lt, if◌then◌else◌, List, [], ◌∷◌, ◌++◌, Option, None, Some, Result, Ok, Err}
use Rattle.std.specs.Str.{is_utf8}
use Rattle.toml.specs.Data.{Members}
use Rattle.toml.specs.Parse.{parse_document}
use Rattle.tss_base.specs.declared.machine.Machine.{Machine}
use Rattle.tss_base.specs.declared.machine.Key.{Key}
use Rattle.tss_base.specs.declared.machine.Key.TheVariants.{MainBudget, TaskBudget, MaxTasks, MaxOperands, ObjectBytes, EpochObjects, OutputBytes, Stations, Slots, Workers, Banks, Entries, Versions, Buffers, Quantum, Window}
use Rattle.tss_machine.specs.declared.fault.MachineFault.{MachineFault}
use Rattle.tss_machine.specs.declared.fault.MachineFault.TheVariants as fault
use Rattle.tss_machine.specs.Table.{key_faults, number_or_zero, unknown_fault}

-- the machine that has these numbers at its keys
abbrev pub machine_with : (Key → ℕ) → Machine
machine_with number = record {
  limits = record {
    main_budget = number MainBudget;
    task_budget = number TaskBudget;
    max_tasks = number MaxTasks;
    max_operands = number MaxOperands;
    object_bytes = number ObjectBytes;
    epoch_objects = number EpochObjects;
    output_bytes = number OutputBytes;
  };
  sizes = record {
    stations = number Stations;
    slots = number Slots;
    workers = number Workers;
    banks = number Banks;
    entries = number Entries;
    versions = number Versions;
    buffers = number Buffers;
    quantum = number Quantum;
    window = number Window;
  };
}

-- a table of a bank that has less room than a task lists operands
abbrev pub size_fault : Key → ℕ → ℕ → Option MachineFault
size_fault k size operands = if nat_lt size operands then Some (fault.TooSmall k) else None

-- the three tables of a bank, in their order
abbrev pub size_faults : Machine → List (Option MachineFault)
size_faults m =
    size_fault Entries m.sizes.entries m.limits.max_operands
    ∷ size_fault Versions m.sizes.versions m.limits.max_operands
    ∷ size_fault Buffers m.sizes.buffers m.limits.max_operands
    ∷ []

-- the machine of a table's numbers
unfoldable pub machine_in : Members → Machine
machine_in table = machine_with (number_or_zero table)

-- the checks of a table in their order, each with its fault where it fails
unfoldable pub checks : Members → List (Option MachineFault)
checks table = key_faults table ++ unknown_fault table ∷ size_faults (machine_in table)

-- the first fault
abbrev pub first_fault : List (Option MachineFault) → Option MachineFault
first_fault [] = None
first_fault (Some e ∷ es) = Some e
first_fault (None ∷ es) = first_fault es

-- the first fault, if there is one, or the machine
abbrev pub answer_with : Machine → Option MachineFault → Result Machine MachineFault
answer_with m (Some e) = Err e
answer_with m None = Ok m

-- the table that the bytes are, if they are a TOML document
unfoldable pub table_of : List ℕ → Option Members
table_of bytes = if is_utf8 bytes then parse_document bytes else None

-- the machine of a table, or its first fault
abbrev pub answer_of : Option Members → Result Machine MachineFault
answer_of None = Err fault.NotToml
answer_of (Some table) = answer_with (machine_in table) (first_fault (checks table))

-- the machine that the bytes describe, or the first check that they fail
unfoldable pub machine_of : List ℕ → Result Machine MachineFault
machine_of bytes = answer_of (table_of bytes)

-- an answer is this one, unless memory ran out
abbrev pub Gives : Result Machine MachineFault → Result Machine MachineFault → Type 0
Gives (Err fault.NoMemory) answer = Unit {0}
Gives result answer = result ≡ answer
