-- The phase of an operand: how far it has come, as the messages under way for it, its record and its task's number show
-- it.
use Rattle.std.specs.Prelude.{ℕ, ◌==◌, Bool, true, false, ◌||◌, nat_lt, Option, Some, None}
use Rattle.std.specs.FinMap.{get}
use Rattle.tss_base.specs.declared.operand.OpName.{OpName}
use Rattle.tss_base.specs.declared.operand.Operand.{Operand}
use Rattle.tss_base.specs.declared.operand.Task.{Task}
use Rattle.tss_base.specs.declared.marks.Farewell.{Farewell}
use Rattle.tss_base.specs.declared.marks.Farewell.TheVariants as farewell
use Rattle.tss_protocol.specs.Mail.{Source, OpenContents, ReleaseContents}
use Rattle.tss_protocol.specs.State.{OperandState, State}
use Rattle.tss_protocol.specs.Stations.{operand_at}

-- the ten phases, in the order in which an operand goes through them: its task hasn't been taken; its decode is under
-- way; its open or its use is; it waits to be told its version; its ready is under way; it knows its version, and its
-- task hasn't finished; its release is under way; its bye is; it awaits a promised link; it has left
pub data Phase : Type 0 where
  Ahead : Phase
  Decoding : Phase
  Sent : Phase
  Waiting : Phase
  Told : Phase
  Ready : Phase
  Releasing : Phase
  Leaving : Phase
  Promised : Phase
  Left : Phase

-- ---- what is looked up of an operand

-- the messages under way for it of the kinds that tell its phase, its record, and whether its task is still to be taken
pub record LookUps : Type 0 where
  pub decoding : Option Operand
  pub opening : Option OpenContents
  pub using : Option OpName
  pub telling : Option Source
  pub releasing : Option ReleaseContents
  pub leaving : Option Bool
  pub station : Option OperandState
  pub ahead : Bool

-- the inbox has the task of a number
abbrev pub inbox_has : Option Task → ℕ → Bool
inbox_has None task = false
inbox_has (Some t) task = t.number == task

-- the task of a number hasn't been taken: it isn't spawned yet, or is in the inbox
abbrev pub is_ahead : State → ℕ → Bool
is_ahead S task = nat_lt S.main.spawned task || inbox_has S.inbox task

-- what is looked up of an operand in a state
abbrev pub look_ups : State → OpName → LookUps
look_ups S o = record {
  decoding = get S.mail.decodes o;
  opening = get S.mail.opens o;
  using = get S.mail.uses o;
  telling = get S.mail.readies o;
  releasing = get S.mail.releases o;
  leaving = get S.mail.byes o;
  station = operand_at S.flight o;
  ahead = is_ahead S o.task;
}

-- ---- the phase

-- a phase where something is there, and else the rest
abbrev pub where_there : {X : Type 0} → Option X → Phase → Phase → Phase
where_there None p rest = rest
where_there (Some x) p rest = p

-- of an operand without a record
abbrev pub absent_phase : Bool → Phase
absent_phase true = Ahead
absent_phase false = Left

-- of one that hasn't said farewell, by what it was told
abbrev pub told_phase : Option Source → Phase
told_phase None = Waiting
told_phase (Some source) = Ready

-- by its farewell
abbrev pub record_phase : Farewell → Option Source → Phase
record_phase farewell.Nothing source = told_phase source
record_phase farewell.Promised source = Promised
record_phase farewell.Left source = Left

-- by its record
abbrev pub station_phase : Option OperandState → Bool → Phase
station_phase None ahead = absent_phase ahead
station_phase (Some r) ahead = record_phase r.farewell r.source

-- by all that is looked up: the messages come before the record
abbrev pub phase_at : LookUps → Phase
phase_at l =
    where_there l.decoding Decoding
    (where_there l.opening Sent
    (where_there l.using Sent
    (where_there l.telling Told
    (where_there l.releasing Releasing
    (where_there l.leaving Leaving (station_phase l.station l.ahead))))))

-- the phase of an operand
abbrev pub phase_of : State → OpName → Phase
phase_of S o = phase_at (look_ups S o)

-- it has been decoded
abbrev pub is_decoded : Phase → Bool
is_decoded Ahead = false
is_decoded Decoding = false
is_decoded p = true

-- it has released its version
abbrev pub has_released : Phase → Bool
has_released Leaving = true
has_released Promised = true
has_released Left = true
has_released p = false
