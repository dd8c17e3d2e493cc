-- What slots know, and the definitions' tasks in flight.
use Rattle.std.specs.Prelude.{ℕ, Bool, List, map, take, slice_get, slice_set, Option, Some, None, option_and_then}
use Rattle.std.specs.FinMap.{get}
use Rattle.tss_base.specs.declared.operand.OpName.{OpName}
use Rattle.tss_base.specs.declared.operand.Operand.{Operand}
use Rattle.tss_base.specs.declared.operand.Storage.{Storage}
use Rattle.tss_base.specs.declared.operand.Task.{Task}
use Rattle.tss_base.specs.declared.marks.LinkState.TheVariants as link
use Rattle.tss_base.specs.declared.marks.Farewell.TheVariants as farewell
use Rattle.tss_base.specs.Names.{Numbered}
use Rattle.tss_maps.specs.Mapped.{mapped}
use Rattle.tss_model.specs.Access.{operands_of}
use Rattle.tss_protocol.specs.Mail.{Source}
use Rattle.tss_protocol.specs.State.{OperandState, Flying}
use Rattle.tss_protocol.specs.Stations.{first_stage, link_after_ready, link_after_link, farewell_after_link, farewell_after_bye}
use Rattle.tss_events.specs.Events.{source_of}
use Rattle.tss_stations.specs.declared.operand_view.OperandView.{OperandView}
use Rattle.tss_stations.specs.declared.slot.Slot.{Slot}

-- ---- the definitions' records, which know a storage by its name alone

-- the source of a version and a storage that were told
abbrev pub source_by : Option OpName → Option Storage → Option Source
source_by None storage = None
source_by (Some v) None = None
source_by (Some v) (Some storage) = Some (source_of v storage)

-- an operand's record
abbrev pub state_of : OperandView → OperandState
state_of r = record {
  operand = r.operand;
  source = source_by r.version r.storage;
  link = r.link;
  farewell = r.farewell;
}

-- what a slot knows of its task's operands
abbrev pub views_of : Slot → List OperandView
views_of x = take x.task.count x.operands

-- a task in flight
abbrev pub flying_of : Slot → Flying
flying_of x = record { task = x.task; stage = x.stage; operands = map state_of (views_of x) }

-- the tasks in flight
abbrev pub flight_of : Numbered Slot → Numbered Flying
flight_of slots = mapped flying_of slots

-- ---- what is known of an operand

-- of one of a slot's
abbrev pub view_at : ℕ → Slot → Option OperandView
view_at place x = slice_get (views_of x) place

-- by the operand's name
abbrev pub view_in : Numbered Slot → OpName → Option OperandView
view_in slots o = option_and_then (view_at o.place) (get slots o.task)

-- at first
abbrev pub new_view : Operand → OperandView
new_view o = record {
  operand = o;
  version = None;
  storage = None;
  link = link.Nothing;
  farewell = farewell.Nothing;
}

-- after a ready
abbrev pub told_view : OpName → Storage → OperandView → OperandView
told_view v storage r = record r { version = Some v; storage = Some storage; link = link_after_ready r.link }

-- after a link
abbrev pub linked_view : OpName → OperandView → OperandView
linked_view next r = record r {
  link = link_after_link (source_by r.version r.storage) next;
  farewell = farewell_after_link r.farewell;
}

-- after a bye
abbrev pub parted_view : Bool → OperandView → OperandView
parted_view promised r = record r { farewell = farewell_after_bye r.link promised }

-- ---- slots

-- a slot of a task that enters
abbrev pub new_slot : Task → Slot
new_slot t = record { task = t; stage = first_stage (operands_of t); operands = map new_view t.operands }

-- a slot that knows something else of an operand
abbrev pub with_view : Slot → ℕ → OperandView → Slot
with_view x place r = record x { operands = slice_set x.operands place r }
