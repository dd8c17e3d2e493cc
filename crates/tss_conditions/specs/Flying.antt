-- What ready, link and bye find in the stations, and what they may add to the queue.
use Rattle.std.specs.Prelude.{◌≡◌, ◌<◌, Bool, true, length, slice_get, Some, None}
use Rattle.std.specs.FinMap.{get}
use Rattle.tss_base.specs.declared.operand.OpName.{OpName}
use Rattle.tss_base.specs.declared.machine.Machine.{Machine}
use Rattle.tss_base.specs.declared.marks.Stage.TheVariants as stage
use Rattle.tss_base.specs.declared.marks.Farewell.TheVariants as farewell
use Rattle.tss_base.specs.Image.{ImageState}
use Rattle.tss_protocol.specs.Mail.{Source}
use Rattle.tss_protocol.specs.State.{State, OperandState, Flying}
use Rattle.tss_protocol.specs.Stations.{after_ready}
use Rattle.tss_protocol.specs.Counts.{all_slots}
use Rattle.tss_conditions.specs.Reached.{Reached}

-- an operand has a record in a task in flight
pub record IsInFlight (S : State) (o : OpName) : Type 0 where
  pub flying : Flying
  pub there : get S.flight o.task ≡ Some flying
  pub number : flying.task.number ≡ o.task
  pub operand : OperandState
  pub place : slice_get flying.operands o.place ≡ Some operand

-- one that is told now: it was told nothing yet and hasn't said farewell, and its task waits. There is room in the
-- queue where its task is queued then
pub record IsTold (m : Machine) (S : State) (o : OpName) (s : Source) : Type 0 where
  pub flies : IsInFlight S o
  pub untold : flies.operand.source ≡ None
  pub stays : flies.operand.farewell ≡ farewell.Nothing
  pub waits : flies.flying.stage ≡ stage.Waiting
  pub queue : (after_ready S.flight o s).queued ≡ true → length S.queue < all_slots m

-- in every reached state
abbrev pub ReadyLaw : Type 0
ReadyLaw =
    (m : Machine) (i : ImageState) (S : State) (o : OpName) (s : Source)
    → Reached m i S
    → get S.mail.readies o ≡ Some s
    → IsTold m S o s

-- one that is told who comes next
abbrev pub LinkLaw : Type 0
LinkLaw =
    (m : Machine) (i : ImageState) (S : State) (o next : OpName)
    → Reached m i S
    → get S.mail.links o ≡ Some next
    → IsInFlight S o

-- one that parts: its task has finished, it was told its version, and hasn't said farewell
pub record IsParting (S : State) (o : OpName) : Type 0 where
  pub flies : IsInFlight S o
  pub finished : flies.flying.stage ≡ stage.Finished
  pub source : Source
  pub told : flies.operand.source ≡ Some source
  pub stays : flies.operand.farewell ≡ farewell.Nothing

-- in every reached state
abbrev pub ByeLaw : Type 0
ByeLaw =
    (m : Machine) (i : ImageState) (S : State) (o : OpName) (promised : Bool)
    → Reached m i S
    → get S.mail.byes o ≡ Some promised
    → IsParting S o
