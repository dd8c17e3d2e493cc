-- That what is told of a run is the result of the state of the unit machine that the run's own events leave; and all that
-- is claimed of a call.
use Rattle.std.specs.Prelude.{◌≡◌, ◌<◌, ℕ, List, Some, Ok, IfSome}
use Rattle.tss_base.specs.declared.event.Event.{Event}
use Rattle.tss_base.specs.declared.machine.Machine.{Machine}
use Rattle.tss_base.specs.Image.{ImageState}
use Rattle.tss_machine.specs.SelfMachine.{self_machine}
use Rattle.tss_model.specs.InOrder.{ReferenceState}
use Rattle.tss_model.specs.Memory.{loaded}
use Rattle.tss_outside.specs.Outside.{AppendsWhereTold}
use Rattle.tss_protocol.specs.Counts.{peaks_of, sizes_of}
use Rattle.tss_protocol.specs.Result.{RunResult, result_of}
use Rattle.tss_protocol.specs.Run.{IsRun}
use Rattle.tss_protocol.specs.Schedule.{judged}
use Rattle.tss_protocol.specs.State.{State, initial_state}
use Rattle.tss_report.specs.MemoryDigest.{digest_of}
use Rattle.tss_report.specs.Report.{report_text}
use Rattle.tss_report.specs.SelfReport.{self_text}
use Rattle.tss_self.specs.SelfAnswer.{SelfWork, has_products, self_image, self_events}
use Rattle.tss_command.specs.declared.outcome.Program.{Program}
use Rattle.tss_command.specs.declared.statuses.TheConstants.{BAD_IMAGE}
use Rattle.tss_command.specs.Answer.{ending_status}
use Rattle.tss_command.specs.Call.{Call, IsAnswered, IsComplete, AppendsExpected, AppendsPartly, ChangesNoFile}
use Rattle.tss_command.specs.Outcomes.{FailedToRead}
use Rattle.tss_command.specs.Reading.{Reading, ComesTo}
use Rattle.tss_command.specs.Words.{Command, Names, RunSeeded, RunLogged, RunGiven, StateGiven, InOrder, Workload, Migrate, command_of}
use Rattle.tss_command.specs.Work.{program_reading, schedule_reading, drawn}

-- what a state shows with the result that it has: in the place of memory, home
abbrev pub shown : State → RunResult → ReferenceState
shown S r = record { ending = r.ending; tasks = r.tasks; output = r.output; memory = S.home }

-- the report of the state that a program's events leave, with their peaks
abbrev pub state_report : Program → List Event → State → RunResult → List ℕ
state_report p es S r =
    report_text (shown S r) (loaded p.image) (Some (peaks_of p.machine (initial_state p.image) es)) (sizes_of p.machine)

-- and that of the workload, with the digest of home
abbrev pub workload_report : SelfWork → State → RunResult → List ℕ
workload_report w S r =
    self_text w.n (has_products w.form) r.ending r.tasks r.output (digest_of S.home)
    (peaks_of self_machine (initial_state (self_image w.form w.n)) (self_events w)) (sizes_of self_machine)

-- these events are a run to its end; the status of a call is that of the ending of the state that they leave, and what it
-- told is this text of that state
pub record TellsState (c : Call) (m : Machine) (i : ImageState) (es : List Event) (text : State → RunResult → List ℕ) : Type 0 where
  pub state : State
  pub result : RunResult
  pub run : IsRun m i es state
  pub ends : result_of state ≡ Some result
  pub status : c.status ≡ ending_status result.ending
  pub told : AppendsWhereTold c.before.sink.written c.after.sink.written (text state result)

-- something was found in files, as far as they tell what they hold
abbrev pub WasFound : {T : Type 0} → Call → Reading T → T → Type 0
WasFound c reading x = ComesTo c.before.files.held (FailedToRead c.before.files c.after.files) reading (Ok x)

-- a program was found, and its state after these events is told
abbrev pub TellsRun : Call → Names → Program → List Event → Type 0
TellsRun c names p es =
    WasFound c (program_reading names) p × TellsState c p.machine p.image es (state_report p es)

-- for a run: the events are those that the seed draws, or those of the schedule that was found
abbrev pub TellsItsState : Call → Command → Type 0
TellsItsState c (RunSeeded names seed) = (p : Program) × TellsRun c names p (drawn p seed)
TellsItsState c (RunLogged names seed log) = (p : Program) × TellsRun c names p (drawn p seed)
TellsItsState c (RunGiven names schedule) =
    (p : Program) × (bytes : List ℕ)
    × WasFound c (schedule_reading schedule) bytes
    × TellsRun c names p (judged p.machine p.image bytes).events
TellsItsState c (Workload w) =
    TellsState c self_machine (self_image w.form w.n) (self_events w) (workload_report w)
TellsItsState c (StateGiven names schedule) = Unit {0}
TellsItsState c (InOrder names) = Unit {0}
TellsItsState c (Migrate names) = Unit {0}

-- with a status of a report
abbrev pub IsOfItsState : Call → Type 0
IsOfItsState c = IfSome (command_of c.words) (λ k. c.status < BAD_IMAGE → TellsItsState c k)

-- ---- all that is claimed of a call

-- an outcome that is due to its words is told; where files tell what they hold and nothing fails, it is the outcome of
-- that; what is told of a run is the result of the state that its own events leave; with the status of a report all is
-- appended that should be, with that of a failed write a part of it, and with any other no file is changed
pub record IsProgramCall (c : Call) : Type 0 where
  pub answered : IsAnswered c
  pub complete : IsComplete c
  pub of_state : IsOfItsState c
  pub appended : AppendsExpected c
  pub appended_part : AppendsPartly c
  pub kept : ChangesNoFile c
