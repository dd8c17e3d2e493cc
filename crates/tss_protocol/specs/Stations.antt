-- The reservation stations: tasks in flight with their operands' records, from take until each operand has said
-- farewell.
use Rattle.std.specs.Prelude.{ℕ, suc, ◌==◌, Bool, true, false, ◌&&◌, not, nat_lt, if◌then◌else◌, List, [], ◌∷◌, ◌++◌}
use Rattle.std.specs.Prelude.{map, slice_get, slice_set, Option, Some, None, is_some, option_and_then}
use Rattle.std.specs.List.{list_all}
use Rattle.std.specs.FinMap.{get, insert, remove}
use Rattle.tss_base.specs.declared.operand.OpName.{OpName}
use Rattle.tss_base.specs.declared.operand.Operand.{Operand}
use Rattle.tss_base.specs.declared.operand.Task.{Task}
use Rattle.tss_base.specs.declared.machine.Sizes.{Sizes}
use Rattle.tss_base.specs.declared.marks.Stage.{Stage}
use Rattle.tss_base.specs.declared.marks.Stage.TheVariants as stage
use Rattle.tss_base.specs.declared.marks.LinkState.{LinkState}
use Rattle.tss_base.specs.declared.marks.LinkState.TheVariants as link
use Rattle.tss_base.specs.declared.marks.Farewell.{Farewell}
use Rattle.tss_base.specs.declared.marks.Farewell.TheVariants as farewell
use Rattle.tss_base.specs.Names.{Numbered}
use Rattle.tss_maps.specs.Sums.{count_of}
use Rattle.tss_model.specs.Access.{operands_of, writes}
use Rattle.tss_protocol.specs.Names.{operand_name, station_of}
use Rattle.tss_protocol.specs.Mail.{StorageName, Home, Source, Message, Ready, Release}
use Rattle.tss_protocol.specs.State.{OperandState, Flying, Outcome}

-- ---- reading

-- the record of an operand
abbrev pub operand_at : Numbered Flying → OpName → Option OperandState
operand_at flight o = option_and_then (λ x. slice_get x.operands o.place) (get flight o.task)

-- it was told its version and storage
abbrev pub is_ready : OperandState → Bool
is_ready r = is_some r.source

-- the farewell is done
abbrev pub has_left : Farewell → Bool
has_left farewell.Nothing = false
has_left farewell.Promised = false
has_left farewell.Left = true

-- the task has finished
abbrev pub has_finished : Stage → Bool
has_finished stage.Waiting = false
has_finished stage.Queued = false
has_finished stage.Running = false
has_finished stage.Finished = true

-- ---- leaving

-- a finished task is no longer in flight as soon as each of its operands has left, and one without operands at once
abbrev pub is_gone : Flying → Bool
is_gone x = has_finished x.stage && list_all (λ r. has_left r.farewell) x.operands

-- the tasks in flight where this one was changed
abbrev pub remaining_tasks : Numbered Flying → ℕ → Flying → Numbered Flying
remaining_tasks flight task x = if is_gone x then remove flight task else insert flight task x

-- ---- take: a task enters a slot

-- how many tasks in flight have a station
abbrev pub tasks_in : Sizes → ℕ → Numbered Flying → ℕ
tasks_in sizes station flight = count_of (λ task x. station_of sizes task == station) flight

-- the station of a task has a free slot
abbrev pub has_slot : Sizes → Numbered Flying → ℕ → Bool
has_slot sizes flight task = nat_lt (tasks_in sizes (station_of sizes task) flight) sizes.slots

-- the record of an operand that was told nothing yet
abbrev pub new_operand : Operand → OperandState
new_operand o = record { operand = o; source = None; link = link.Nothing; farewell = farewell.Nothing }

-- it waits for its operands, or is queued where it has none
abbrev pub first_stage : List Operand → Stage
first_stage [] = stage.Queued
first_stage (o ∷ os) = stage.Waiting

-- a task that enters
abbrev pub entered : Task → Flying
entered t = record { task = t; stage = first_stage (operands_of t); operands = map new_operand (operands_of t) }

-- the tasks in flight with one more
abbrev pub flight_after_take : Numbered Flying → Task → Numbered Flying
flight_after_take flight t = insert flight t.number (entered t)

-- ---- ready: an operand is told its version and storage

-- a held link is passed on
abbrev pub link_after_ready : LinkState → LinkState
link_after_ready link.Nothing = link.Nothing
link_after_ready (link.Held next) = link.Passed
link_after_ready link.Passed = link.Passed

-- the record with what it was told
abbrev pub operand_after_ready : OperandState → Source → OperandState
operand_after_ready r source = record r { source = Some source; link = link_after_ready r.link }

-- the next operand of a held link is told the same
abbrev pub sent_by_ready : LinkState → Source → List Message
sent_by_ready link.Nothing source = []
sent_by_ready (link.Held next) source = Ready next source ∷ []
sent_by_ready link.Passed source = []

-- a task with a changed record
abbrev pub with_operand : Flying → ℕ → OperandState → Flying
with_operand x place r = record x { operands = slice_set x.operands place r }

-- each of its operands is ready
abbrev pub is_complete : Flying → Bool
is_complete x = list_all is_ready x.operands

-- it is queued as soon as it is complete
abbrev pub awaited : Flying → Flying
awaited x = if is_complete x then record x { stage = stage.Queued } else x

-- the tasks in flight after a ready, the messages, and whether the task is queued
pub record Woken : Type 0 where
  pub flight : Numbered Flying
  pub sent : List Message
  pub queued : Bool

-- its task
abbrev pub task_after_ready : Flying → ℕ → OperandState → Source → Flying
task_after_ready x place r source = with_operand x place (operand_after_ready r source)

-- what a ready leaves, by the record
abbrev pub woken_by : Numbered Flying → OpName → Source → Flying → Option OperandState → Woken
woken_by flight o source x None = record { flight = flight; sent = []; queued = false }
woken_by flight o source x (Some r) =
    let y = task_after_ready x o.place r source in
    record { flight = insert flight o.task (awaited y); sent = sent_by_ready r.link source; queued = is_complete y }

-- by the task
abbrev pub woken_in : Numbered Flying → OpName → Source → Option Flying → Woken
woken_in flight o source None = record { flight = flight; sent = []; queued = false }
woken_in flight o source (Some x) = woken_by flight o source x (slice_get x.operands o.place)

-- by the operand's name
abbrev pub after_ready : Numbered Flying → OpName → Source → Woken
after_ready flight o source = woken_in flight o source (get flight o.task)

-- ---- link: an operand is told who comes next in its version's chain

-- an operand that is ready passes the link on, and any other holds it
abbrev pub link_after_link : Option Source → OpName → LinkState
link_after_link None next = link.Held next
link_after_link (Some source) next = link.Passed

-- the next operand of a passed link is told what the operand was told
abbrev pub sent_by_link : Option Source → OpName → List Message
sent_by_link None next = []
sent_by_link (Some source) next = Ready next source ∷ []

-- a promised farewell is done
abbrev pub farewell_after_link : Farewell → Farewell
farewell_after_link farewell.Nothing = farewell.Nothing
farewell_after_link farewell.Promised = farewell.Left
farewell_after_link farewell.Left = farewell.Left

-- the record with both
abbrev pub operand_after_link : OperandState → OpName → OperandState
operand_after_link r next =
    record r { link = link_after_link r.source next; farewell = farewell_after_link r.farewell }

-- what a link leaves, by the record
abbrev pub linked_by : Numbered Flying → OpName → OpName → Flying → Option OperandState → Outcome (Numbered Flying)
linked_by flight o next x None = record { part = flight; sent = [] }
linked_by flight o next x (Some r) = record {
  part = remaining_tasks flight o.task (with_operand x o.place (operand_after_link r next));
  sent = sent_by_link r.source next;
}

-- by the task
abbrev pub linked_in : Numbered Flying → OpName → OpName → Option Flying → Outcome (Numbered Flying)
linked_in flight o next None = record { part = flight; sent = [] }
linked_in flight o next (Some x) = linked_by flight o next x (slice_get x.operands o.place)

-- by the operand's name
abbrev pub after_link : Numbered Flying → OpName → OpName → Outcome (Numbered Flying)
after_link flight o next = linked_in flight o next (get flight o.task)

-- ---- start: a queued task runs

-- the tasks in flight where one runs
abbrev pub flight_after_start : Numbered Flying → ℕ → Flying → Numbered Flying
flight_after_start flight task x = insert flight task (record x { stage = stage.Running })

-- the storage that an operand was told. A queued task's operands are all ready
abbrev pub storage_of : Option Source → StorageName
storage_of None = Home
storage_of (Some source) = source.storage

-- the storages of a task's operands
abbrev pub storages_of : Flying → List StorageName
storages_of x = map (λ r. storage_of r.source) x.operands

-- ---- finish: a running task lets its operands go

-- the release of an operand: who writes produced the version that it was told
abbrev pub release_of : OpName → OperandState → Option Source → List Message
release_of o r None = []
release_of o r (Some source) =
    Release o (record { version = source.version; producer = writes r.operand.mode }) ∷ []

-- the releases of a task's operands from a place on
abbrev pub releases_from : ℕ → ℕ → List OperandState → List Message
releases_from task place [] = []
releases_from task place (r ∷ rs) = release_of (operand_name task place) r r.source ++ releases_from task (suc place) rs

-- what a finish leaves, by the task
abbrev pub finished_in : Numbered Flying → ℕ → Option Flying → Outcome (Numbered Flying)
finished_in flight task None = record { part = flight; sent = [] }
finished_in flight task (Some x) = record {
  part = remaining_tasks flight task (record x { stage = stage.Finished });
  sent = releases_from task 0 x.operands;
}

-- by the task's number
abbrev pub flight_after_finish : Numbered Flying → ℕ → Outcome (Numbered Flying)
flight_after_finish flight task = finished_in flight task (get flight task)

-- ---- bye: an operand that has released its version is told whether a link is still to come

-- the link has passed
abbrev pub has_passed : LinkState → Bool
has_passed link.Nothing = false
has_passed (link.Held next) = false
has_passed link.Passed = true

-- it leaves, unless a link is promised and hasn't passed yet
abbrev pub farewell_after_bye : LinkState → Bool → Farewell
farewell_after_bye l promised = if promised && not (has_passed l) then farewell.Promised else farewell.Left

-- the record with it
abbrev pub operand_after_bye : OperandState → Bool → OperandState
operand_after_bye r promised = record r { farewell = farewell_after_bye r.link promised }

-- what a bye leaves, by the record
abbrev pub parted_by : Numbered Flying → OpName → Bool → Flying → Option OperandState → Numbered Flying
parted_by flight o promised x None = flight
parted_by flight o promised x (Some r) =
    remaining_tasks flight o.task (with_operand x o.place (operand_after_bye r promised))

-- by the task
abbrev pub parted_in : Numbered Flying → OpName → Bool → Option Flying → Numbered Flying
parted_in flight o promised None = flight
parted_in flight o promised (Some x) = parted_by flight o promised x (slice_get x.operands o.place)

-- by the operand's name
abbrev pub after_bye : Numbered Flying → OpName → Bool → Numbered Flying
after_bye flight o promised = parted_in flight o promised (get flight o.task)
