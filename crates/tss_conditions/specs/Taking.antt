-- What take finds of the task that it takes and of the banks' lines, and how long these get.
use Rattle.std.specs.Prelude.{◌≡◌, ℕ, ◌+◌, ◌*◌, ◌<◌, ◌≤◌, true, length, Some, None}
use Rattle.std.specs.FinMap.{get, len}
use Rattle.tss_base.specs.declared.operand.OpName.{OpName}
use Rattle.tss_base.specs.declared.operand.Operand.{Operand}
use Rattle.tss_base.specs.declared.operand.Task.{Task}
use Rattle.tss_base.specs.declared.bounds.TheConstants.{MAX_OPERANDS}
use Rattle.tss_base.specs.declared.machine.Machine.{Machine}
use Rattle.tss_base.specs.declared.event.Event.TheVariants as event
use Rattle.tss_base.specs.Image.{ImageState}
use Rattle.tss_model.specs.Access.{operands_of}
use Rattle.tss_protocol.specs.State.{State}
use Rattle.tss_protocol.specs.Stations.{entered}
use Rattle.tss_protocol.specs.Renaming.{line_of}
use Rattle.tss_protocol.specs.Counts.{all_slots}
use Rattle.tss_protocol.specs.UnitMachine.{IsEnabled, is_queued}
use Rattle.tss_conditions.specs.Reached.{Reached}

-- a task as spawns make it: its number is one of those that tasks may have, and it has the operands that it counts, no
-- more than a task may have, and lists no more
pub record IsProper (m : Machine) (t : Task) : Type 0 where
  pub first : 1 ≤ t.number
  pub last : t.number ≤ m.limits.max_tasks
  pub count : length (operands_of t) ≡ t.count
  pub few : t.count ≤ m.limits.max_operands
  pub listed : t.listed ≤ m.limits.max_operands

-- the inbox's task: its number is above that of each task of which the gateway holds an operand, and of each operand in
-- a bank's line, and isn't in flight
pub record IsArriving (m : Machine) (S : State) (t : Task) : Type 0 where
  pub proper : IsProper m t
  pub later : (o : OpName) → get S.gateway o ≡ Some tt → o.task < t.number
  pub fresh : get S.flight t.number ≡ None
  pub behind : (o : OpName) (p : Operand) → get S.mail.decodes o ≡ Some p → o.task < t.number
  pub unlined : (bank : ℕ) (o : OpName) → o.task ≡ t.number → get (line_of m.sizes bank S.mail.decodes) o ≡ None
  pub above : (bank : ℕ) (o : OpName) → get (line_of m.sizes bank S.mail.decodes) o ≡ Some tt → o.task < t.number

-- in every reached state
abbrev pub ArrivingLaw : Type 0
ArrivingLaw =
    (m : Machine) (i : ImageState) (S : State) (t : Task)
    → Reached m i S
    → S.inbox ≡ Some t
    → IsArriving m S t

-- where it may be taken, there is room for its decodes, and in the queue where it is queued at once
pub record HasRoomToTake (m : Machine) (S : State) (t : Task) : Type 0 where
  pub decodes : len S.mail.decodes + length (operands_of t) ≤ m.sizes.window * m.limits.max_operands
  pub lines : len S.mail.decodes + length (operands_of t) ≤ m.sizes.window * MAX_OPERANDS
  pub queue : is_queued (entered t).stage ≡ true → length S.queue < all_slots m

-- in every reached state
abbrev pub TakingLaw : Type 0
TakingLaw =
    (m : Machine) (i : ImageState) (S : State) (t : Task)
    → Reached m i S
    → IsEnabled m S event.Take
    → S.inbox ≡ Some t
    → HasRoomToTake m S t

-- no bank's line is longer than all operands that a window of tasks may have
abbrev pub LinesLaw : Type 0
LinesLaw =
    (m : Machine) (i : ImageState) (S : State) (bank : ℕ)
    → Reached m i S
    → (len (line_of m.sizes bank S.mail.decodes) ≤ len S.mail.decodes)
    × (len S.mail.decodes ≤ m.sizes.window * m.limits.max_operands)
