-- Main's spawn: the objects that are named, the operand list with its checks in their order, the merging of equal
-- operands, and the task.
use Rattle.std.specs.Prelude.{ℕ, zero, suc, ◌+◌, ◌-◌, ◌*◌, ◌%◌, ◌==◌, Bool, true, ◌&&◌, ◌||◌, not, nat_lt, nat_le}
use Rattle.std.specs.Prelude.{if◌then◌else◌, List, [], ◌∷◌, ◌++◌, map, length, filter, replicate, Option, Some, None}
use Rattle.std.specs.Prelude.{is_none, Result, Ok, Err}
use Rattle.std.specs.List.{find, list_any, list_all}
use Rattle.tss_base.specs.declared.bounds.TheConstants.{MAX_OPERANDS}
use Rattle.tss_base.specs.declared.lists.TheConstants.{ENTRY_BYTES, INPUT, OUTPUT, INOUT}
use Rattle.tss_base.specs.declared.range.Range.{Range}
use Rattle.tss_base.specs.declared.operand.Mode.{Mode}
use Rattle.tss_base.specs.declared.operand.Mode.TheVariants.{Input, Output, Inout}
use Rattle.tss_base.specs.declared.operand.Operand.{Operand}
use Rattle.tss_base.specs.declared.operand.Task.{Task}
use Rattle.tss_base.specs.declared.machine.Limits.{Limits}
use Rattle.tss_base.specs.Range.{meets}
use Rattle.tss_model.specs.Memory.{Memory, range_of, byte_at, number_at}
use Rattle.tss_model.specs.Access.{touches, reads, writes}
use Rattle.tss_base.specs.declared.refusals.TheConstants.{TOO_MANY_OPERANDS, LIST_PLACE, MAIN_TOUCH, BAD_MODE}
use Rattle.tss_base.specs.declared.refusals.TheConstants.{BAD_LENGTH, BAD_BASE, OBJECT_OUTSIDE, OVERLAP, EPOCH_FULL}
use Rattle.tss_base.specs.declared.refusals.TheConstants.{TOO_MANY_TASKS}

-- ---- named objects

-- two ranges are equal
abbrev pub same_range : Range → Range → Bool
same_range r s = (r.base == s.base) && (r.len == s.len)

-- the objects with one more, each once, in order of naming
abbrev pub name_object : List Range → Range → List Range
name_object named object = if list_any (same_range object) named then named else named ++ object ∷ []

-- the objects with these as well
abbrev pub name_objects : List Range → List Range → List Range
name_objects named [] = named
name_objects named (object ∷ objects) = name_objects (name_object named object) objects

-- the named object at a base. There is one at most, since no two named objects share an address
abbrev pub named_at : List Range → ℕ → Option Range
named_at named base = find (λ r. r.base == base) named

-- the objects without the one at a base, the others in their order
abbrev pub unnamed : List Range → ℕ → List Range
unnamed named base = filter (λ r. not (r.base == base)) named

-- operands' objects
abbrev pub objects_of : List Operand → List Range
objects_of operands = map (λ o. o.object) operands

-- ---- the operand list

-- what main passes to a spawn: the task's entry, the list's address and number of entries, and the argument word
pub record SpawnCall : Type 0 where
  pub entry : ℕ
  pub list : ℕ
  pub count : ℕ
  pub argument : ℕ

-- an entry of the list, three words
pub record Entry : Type 0 where
  pub object : Range
  pub mode : ℕ

-- the word at an address
abbrev pub word_at : Memory → ℕ → ℕ
word_at m at = number_at (byte_at m) at 4

-- the entry at an address
abbrev pub entry_at : Memory → ℕ → Entry
entry_at m at = record { object = record { base = word_at m at; len = word_at m (at + 4) }; mode = word_at m (at + 8) }

-- so many entries from an address on, one after the other
abbrev pub entries_at : Memory → ℕ → ℕ → List Entry
entries_at m at zero = []
entries_at m at (suc n) = entry_at m at ∷ entries_at m (at + ENTRY_BYTES) n

-- where the list lies
abbrev pub list_range : SpawnCall → Range
list_range call = record { base = call.list; len = ENTRY_BYTES * call.count }

-- a mode by its number, none where no mode has that number
abbrev pub mode_of : ℕ → Option Mode
mode_of n =
    if n == INPUT then Some Input
    else if n == OUTPUT then Some Output
    else if n == INOUT then Some Inout
    else None

-- ---- the checks of one entry

-- no bytes, or more than an object may have
abbrev pub is_bad_length : Limits → Range → Bool
is_bad_length limits object = (object.len == 0) || nat_lt limits.object_bytes object.len

-- by the range of memory in which it lies, and whether that can be written
abbrev pub is_outside : Mode → Option Bool → Bool
is_outside mode None = true
is_outside mode (Some writable) = writes mode && not writable

-- it meets one of the objects and isn't that object
abbrev pub overlaps : List Range → Range → Bool
overlaps named object = list_any (λ n. meets n object && not (same_range n object)) named

-- an entry whose mode is known, with the checks that follow
abbrev pub operand_checked : Limits → Memory → List Range → Range → Mode → Result Operand ℕ
operand_checked limits m named object mode =
    if is_bad_length limits object then Err BAD_LENGTH
    else if not (object.base % 4 == 0) then Err BAD_BASE
    else if is_outside mode (range_of m.ranges object) then Err OBJECT_OUTSIDE
    else if overlaps named object then Err OVERLAP
    else Ok (record { object = object; mode = mode })

-- an entry, by its mode
abbrev pub mode_checked : Limits → Memory → List Range → Range → Option Mode → Result Operand ℕ
mode_checked limits m named object None = Err BAD_MODE
mode_checked limits m named object (Some mode) = operand_checked limits m named object mode

-- the operand of an entry, or the first check that it fails, where these objects are named or come earlier in the list
abbrev pub entry_checked : Limits → Memory → List Range → Entry → Result Operand ℕ
entry_checked limits m named e = mode_checked limits m named e.object (mode_of e.mode)

-- ---- the checks of all entries, one entry after the other

-- an operand before the others, where these are all good
abbrev pub after_first : Operand → Result (List Operand) ℕ → Result (List Operand) ℕ
after_first o (Ok os) = Ok (o ∷ os)
after_first o (Err n) = Err n

-- the entries after a good one
abbrev pub with_rest : Result Operand ℕ → (Operand → Result (List Operand) ℕ) → Result (List Operand) ℕ
with_rest (Ok o) rest = after_first o (rest o)
with_rest (Err n) rest = Err n

-- the operands of a list of entries, or the first check that fails
unfoldable pub entries_checked : Limits → Memory → List Range → List Entry → Result (List Operand) ℕ
entries_checked limits m named [] = Ok []
entries_checked limits m named (e ∷ es) =
    with_rest (entry_checked limits m named e) (λ o. entries_checked limits m (named ++ o.object ∷ []) es)

-- ---- merging

-- it is only read
abbrev pub is_input : Operand → Bool
is_input o = not (writes o.mode)

-- it is only written
abbrev pub is_output : Operand → Bool
is_output o = not (reads o.mode)

-- the mode of operands on one object: all inputs are an input, all outputs an output, and any mixture is an inout
abbrev pub merged_mode : List Operand → Mode
merged_mode os = if list_all is_input os then Input else if list_all is_output os then Output else Inout

-- the listed operands of an object as one
abbrev pub merged_on : List Operand → Range → Operand
merged_on listed object =
    record { object = object; mode = merged_mode (filter (λ o. same_range o.object object) listed) }

-- one operand for each object, in order of first appearance
abbrev pub merged_operands : List Operand → List Operand
merged_operands listed = map (merged_on listed) (name_objects [] (objects_of listed))

-- ---- the task

-- an operand that stands where there is none
abbrev pub no_operand : Operand
no_operand = record { object = record { base = 0; len = 0 }; mode = Input }

-- a list filled up to the most operands of a task
abbrev pub seven : {X : Type 0} → X → List X → List X
seven x xs = xs ++ replicate (MAX_OPERANDS - length xs) x

-- a task of these listed operands and these merged ones
abbrev pub task_of : SpawnCall → ℕ → List Operand → List Operand → Task
task_of call number listed merged = record {
  number = number;
  entry = call.entry;
  argument = call.argument;
  listed = length listed;
  bases = seven 0 (map (λ o. o.object.base) listed);
  count = length merged;
  operands = seven no_operand merged;
}

-- the last two checks, on the objects named and the tasks spawned before
abbrev pub task_checked : Limits → SpawnCall → List Range → ℕ → Result (List Operand) ℕ → Result Task ℕ
task_checked limits call named spawned (Err n) = Err n
task_checked limits call named spawned (Ok listed) =
    if nat_lt limits.epoch_objects (length (name_objects named (objects_of listed))) then Err EPOCH_FULL
    else if nat_le limits.max_tasks spawned then Err TOO_MANY_TASKS
    else Ok (task_of call (suc spawned) listed (merged_operands listed))

-- the list isn't at a multiple of 4, or lies in no range of memory
abbrev pub is_misplaced : Memory → SpawnCall → Bool
is_misplaced m call = not (call.list % 4 == 0) || is_none (range_of m.ranges (list_range call))

-- the task of a spawn, or the number of the first check that fails
unfoldable pub spawn_of : SpawnCall → Memory → List Range → Limits → ℕ → Result Task ℕ
spawn_of call m named limits spawned =
    if nat_lt limits.max_operands call.count then Err TOO_MANY_OPERANDS
    else if nat_lt 0 call.count && is_misplaced m call then Err LIST_PLACE
    else if nat_lt 0 call.count && touches named (list_range call) then Err MAIN_TOUCH
    else task_checked limits call named spawned (entries_checked limits m named (entries_at m call.list call.count))
