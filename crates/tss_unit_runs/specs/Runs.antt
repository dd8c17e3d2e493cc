-- What a run of an image by a schedule comes to, and what is told of its log.
use Rattle.std.specs.Prelude.{◌≡◌, ℕ, ◌+◌, ◌^◌, ◌<◌, Bool, true, false, List, Option, Some, None, Result, Ok, Err, IfOk}
use Rattle.tss_base.specs.declared.event.Event.{Event}
use Rattle.tss_base.specs.declared.machine.Machine.{Machine}
use Rattle.tss_base.specs.Image.{ImageState, IsAccepted}
use Rattle.tss_outside.specs.Outside.{Held, PutsPrefix}
use Rattle.tss_protocol.specs.Counts.{peaks_of}
use Rattle.tss_protocol.specs.State.{initial_state}
use Rattle.tss_protocol.specs.Schedule as judging
use Rattle.tss_protocol.specs.Schedule.{LogFault}
use Rattle.tss_log.specs.Logs.{Stays}
use Rattle.tss_log.specs.FileLogs.{held_under, held_beside}
use Rattle.tss_log.specs.declared.log.Log.{Ghosts}
use Rattle.tss_schedule.specs.declared.driving.ScheduleFault.{ScheduleFault}
use Rattle.tss_schedule.specs.declared.driving.ScheduleFault.TheVariants as schedule
use Rattle.tss_schedule.specs.Picks.{Meaning, Driven, at_first}
use Rattle.tss_schedule.specs.Driving.{Answer, Drives}
use Rattle.tss_unit_runs.specs.Finished.{FinishedRunState}
use Rattle.tss_unit_runs.specs.declared.faults.LineFault.{LineFault}
use Rattle.tss_unit_runs.specs.declared.faults.LineFault.TheVariants as line

-- the run of these events
abbrev pub run_of : Machine → ImageState → List Event → FinishedRunState
run_of m i es = record { machine = m; image = i; peaks = peaks_of m (initial_state i) es }

-- ---- a run by a schedule

-- a run, or why there is none, as its drive answers
abbrev pub answer_of : Result FinishedRunState ScheduleFault → Answer
answer_of (Ok r) = Ok r.peaks
answer_of (Err e) = Err e

-- an accepted image was driven on the machine from its first event; a run that is over has the drive's peaks
pub record Finishes {X L : Type 0} (f : Meaning X) (g : Ghosts L) (m : Machine) (i : ImageState) (first : X)
    (log log_after : L) (result : Result FinishedRunState ScheduleFault) : Type 0 where
  pub accepted : IsAccepted i
  pub last : Driven X
  pub drives : Drives f g (at_first m i first) last log log_after (answer_of result)
  pub ok : IfOk result (λ r. r ≡ record { machine = m; image = i; peaks = r.peaks })

-- ---- faults

-- a pick's fault as one of a line, where so many lines come before the first pick
abbrev pub later_fault : ℕ → ScheduleFault → Option LogFault
later_fault k (schedule.BadLine n) = Some (judging.BadLine (n + k))
later_fault k (schedule.NotEnabled n) = Some (judging.NotEnabled (n + k))
later_fault k (schedule.Short n) = Some (judging.Short (n + k))
later_fault k (schedule.Long n) = Some (judging.Long (n + k))
later_fault k schedule.WriteFault = None

-- it has a number, and the line's is one of 64 bits
abbrev pub IsCounted : ℕ → ScheduleFault → Type 0
IsCounted k (schedule.BadLine n) = n + k < 2 ^ 64
IsCounted k (schedule.NotEnabled n) = n + k < 2 ^ 64
IsCounted k (schedule.Short n) = n + k < 2 ^ 64
IsCounted k (schedule.Long n) = n + k < 2 ^ 64
IsCounted k schedule.WriteFault = ⊥

-- a line's fault, as a judgement has it
abbrev pub fault_of : LineFault → LogFault
fault_of (line.BadLine n) = judging.BadLine n
fault_of (line.NotEnabled n) = judging.NotEnabled n
fault_of (line.Short n) = judging.Short n
fault_of (line.Long n) = judging.Long n

-- the lines just end too early
abbrev pub is_short : LineFault → Bool
is_short (line.BadLine n) = false
is_short (line.NotEnabled n) = false
is_short (line.Short n) = true
is_short (line.Long n) = false

-- a judgement has no fault but that the lines may end too early
abbrev pub IsWholeOrShort : Option LogFault → Type 0
IsWholeOrShort None = Unit {0}
IsWholeOrShort (Some (judging.BadLine n)) = ⊥
IsWholeOrShort (Some (judging.NotEnabled n)) = ⊥
IsWholeOrShort (Some (judging.Short n)) = Unit {0}
IsWholeOrShort (Some (judging.Long n)) = ⊥

-- ---- a log's file

-- a part of the text was put after what the file of the name holds, and no other file has changed, where that is told
pub record PutsPart (old new : Option Held) (name : List ℕ) (text : List ℕ) : Type 0 where
  pub part : PutsPrefix (held_under name old) (held_under name new) text
  pub others : Stays (held_beside name old) (held_beside name new)
