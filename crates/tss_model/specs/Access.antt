-- Where main and a task may load and store.
use Rattle.std.specs.Prelude.{Bool, true, false, ◌&&◌, ◌||◌, not, if◌then◌else◌, List, take, Option, Some, None}
use Rattle.std.specs.List.{list_any}
use Rattle.tss_base.specs.declared.range.Range.{Range}
use Rattle.tss_base.specs.declared.operand.Mode.{Mode}
use Rattle.tss_base.specs.declared.operand.Mode.TheVariants.{Input, Output, Inout}
use Rattle.tss_base.specs.declared.operand.Operand.{Operand}
use Rattle.tss_base.specs.declared.operand.Task.{Task}
use Rattle.tss_base.specs.Range.{meets, contains}
use Rattle.tss_model.specs.Memory.{MemoryRange, range_of, scratch_range}

-- what an access does
pub data Purpose : Type 0 where
  Loads : Purpose
  Stores : Purpose

-- the answer to an access: it is granted, it is denied, or it touches an object that main has named
pub data Access : Type 0 where
  Granted : Access
  Denied : Access
  Touch : Access

-- who accesses: main, with the ranges of memory and the objects that it has named, or a task, with the ranges of
-- memory and its operands. A task has its scratch beside them
pub data Actor : Type 0 where
  MainActor : List MemoryRange → List Range → Actor
  TaskActor : List MemoryRange → List Operand → Actor

-- ---- main

-- main loads in any range of memory, and stores in one that can be written
abbrev pub main_may : Purpose → Option Bool → Bool
main_may Loads (Some writable) = true
main_may Stores (Some writable) = writable
main_may purpose None = false

-- one of the objects shares an address with the range
abbrev pub touches : List Range → Range → Bool
touches named r = list_any (λ object. meets object r) named

-- its answer, by whether the range of memory in which the access lies wholly can be written, and by whether it touches
-- a named object
abbrev pub main_answer : Purpose → Option Bool → Bool → Access
main_answer purpose within touched =
    if main_may purpose within then (if touched then Touch else Granted)
    else Denied

-- an access lies wholly inside one range of memory, which can be written for a store. Such an access touches what main
-- has named, or is granted
abbrev pub main_access : List MemoryRange → List Range → Purpose → Range → Access
main_access ranges named purpose r = main_answer purpose (range_of ranges r) (touches named r)

-- ---- a task

-- the modes in which a task writes its object
abbrev pub writes : Mode → Bool
writes Input = false
writes Output = true
writes Inout = true

-- the modes in which a task has its object's value at its start
abbrev pub reads : Mode → Bool
reads Input = true
reads Output = false
reads Inout = true

-- the operands of a task
abbrev pub operands_of : Task → List Operand
operands_of t = take t.count t.operands

-- memory that can't be written
abbrev pub is_fixed : Option Bool → Bool
is_fixed None = false
is_fixed (Some writable) = not writable

-- a task loads in its scratch, in its operands, and in ranges of memory that can't be written
abbrev pub task_may_load : List Operand → Range → Option Bool → Bool
task_may_load operands r within =
    contains scratch_range r || (list_any (λ o. contains o.object r) operands || is_fixed within)

-- it stores in its scratch and in its operands that are output or inout
abbrev pub task_may_store : List Operand → Range → Bool
task_may_store operands r =
    contains scratch_range r || list_any (λ o. writes o.mode && contains o.object r) operands

-- where a task may access, by whether the range of memory in which the access lies wholly can be written
abbrev pub task_may_within : Purpose → List Operand → Range → Option Bool → Bool
task_may_within Loads operands r within = task_may_load operands r within
task_may_within Stores operands r within = task_may_store operands r

-- its answer
abbrev pub task_answer : Purpose → List Operand → Range → Option Bool → Access
task_answer purpose operands r within = if task_may_within purpose operands r within then Granted else Denied

-- an access lies wholly inside one such place
abbrev pub task_access : List MemoryRange → List Operand → Purpose → Range → Access
task_access ranges operands purpose r = task_answer purpose operands r (range_of ranges r)

-- ---- both

-- the answer to an access of either
abbrev pub access_of : Actor → Purpose → Range → Access
access_of (MainActor ranges named) purpose r = main_access ranges named purpose r
access_of (TaskActor ranges operands) purpose r = task_access ranges operands purpose r
