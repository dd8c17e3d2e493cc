-- What each command does: the order in which it reads, what it finds, what it appends to a file, and what it reports.
use Rattle.std.specs.Prelude.{◌≡◌, ℕ, List, [], ◌∷◌, length, Option, Some, None, Result, Ok, Err}
use Rattle.tss_base.specs.declared.bounds.TheConstants.{MACHINE_FILE_BYTES, IMAGE_FILE_BYTES, SCHEDULE_FILE_BYTES}
use Rattle.tss_base.specs.declared.machine.Machine.{Machine}
use Rattle.tss_base.specs.Image.{ImageState}
use Rattle.tss_base.specs.Machine.{IsAdmissible}
use Rattle.tss_elf.specs.Elf.{Verdict, Refused, Accepted, image_of}
use Rattle.tss_machine.specs.declared.fault.MachineFault.{MachineFault}
use Rattle.tss_machine.specs.Description.{machine_of}
use Rattle.tss_model.specs.InOrder.{in_order}
use Rattle.tss_model.specs.Memory.{loaded}
use Rattle.tss_base.specs.declared.event.Event.{Event}
use Rattle.tss_protocol.specs.Migration.{migrated}
use Rattle.tss_protocol.specs.Schedule.{LogFault, BadLine, NotEnabled, Short, Long, judged, seeded_events}
use Rattle.tss_protocol.specs.Text.{lines_of, log_text}
use Rattle.tss_protocol.specs.State.{State, initial_state}
use Rattle.tss_protocol.specs.UnitMachine.{after_event}
use Rattle.tss_self.specs.SelfAnswer.{SelfWork, HasWholeRun}
use Rattle.tss_unit_runs.specs.Runs.{run_of}
use Rattle.tss_unit_runs.specs.declared.faults.LineFault.{LineFault}
use Rattle.tss_unit_runs.specs.declared.faults.LineFault.TheVariants as line
use Rattle.tss_command.specs.declared.outcome.Input.TheVariants as input
use Rattle.tss_command.specs.declared.outcome.Refusal.{Refusal}
use Rattle.tss_command.specs.declared.outcome.Refusal.TheVariants as refusal
use Rattle.tss_command.specs.declared.outcome.Report.{Report}
use Rattle.tss_command.specs.declared.outcome.Report.TheVariants as report
use Rattle.tss_command.specs.declared.outcome.Program.{Program}
use Rattle.tss_command.specs.MachineCheck.{BadMachineState, bad_machine_of}
use Rattle.tss_command.specs.Reading.{Reading, Found, with_found, file_reading, within}
use Rattle.tss_command.specs.Words.{Names, Command, RunSeeded, RunLogged, RunGiven, StateGiven, InOrder, Workload, Migrate}

-- ---- what the bytes of a file come to

-- the refusal of a machine
abbrev pub machine_refused : Option BadMachineState → Refusal
machine_refused None = refusal.NoMemory
machine_refused (Some bad) = refusal.Machine bad

-- the machine that bytes describe, or why they are refused
abbrev pub machine_answer : Result Machine MachineFault → Result Machine Refusal
machine_answer (Ok m) = Ok m
machine_answer (Err fault) = Err (machine_refused (bad_machine_of fault))

unfoldable pub described_machine : List ℕ → Result Machine Refusal
described_machine bytes = machine_answer (machine_of bytes)

-- the image that bytes are, or why they are refused
abbrev pub image_answer : Verdict → Result ImageState Refusal
image_answer (Refused n) = Err (refusal.Image n)
image_answer (Accepted image) = Ok image

unfoldable pub accepted_image : List ℕ → Result ImageState Refusal
accepted_image bytes = image_answer (image_of bytes)

-- the machine of a file
abbrev pub machine_reading : List ℕ → Reading Machine
machine_reading name = file_reading input.Machine name (within input.Machine MACHINE_FILE_BYTES described_machine)

-- the image of a file
abbrev pub image_reading : List ℕ → Reading ImageState
image_reading name = file_reading input.Image name (within input.Image IMAGE_FILE_BYTES accepted_image)

-- a schedule's bytes: all that a file holds
abbrev pub all_bytes : List ℕ → Result (List ℕ) Refusal
all_bytes bytes = Ok bytes

abbrev pub schedule_reading : List ℕ → Reading (List ℕ)
schedule_reading name = file_reading input.Schedule name (within input.Schedule SCHEDULE_FILE_BYTES all_bytes)

-- ---- what a command does

-- bytes that are put after what the file of a name holds
pub record Addition : Type 0 where
  pub name : List ℕ
  pub bytes : List ℕ

-- what is done when all is read and nothing was refused: what is appended, if anything, and then this is reported
pub record Deed : Type 0 where
  pub appended : Option Addition
  pub report : Report

-- ---- `inorder`

abbrev pub program_of : Machine → ImageState → Program
program_of m i = record { machine = m; image = i }

-- the machine is read before the image
abbrev pub image_under : List ℕ → Machine → Reading Program
image_under name m = with_found (λ i. Found (Ok (program_of m i))) (image_reading name)

abbrev pub program_reading : Names → Reading Program
program_reading names = with_found (image_under names.image) (machine_reading names.machine)

-- it is run in program order, and nothing is appended
abbrev pub in_order_deed : Program → Deed
in_order_deed p = record {
  appended = None;
  report = report.InOrder (record { machine = p.machine; image = p.image; reference = in_order p.image p.machine.limits });
}

abbrev pub in_order_found : Program → Reading Deed
in_order_found p = Found (Ok (in_order_deed p))

-- ---- `run`

-- the program was run by these events
abbrev pub ran : Program → List Event → Report
ran p es = report.Ran (run_of p.machine p.image es)

-- by those that a seed draws
abbrev pub drawn : Program → ℕ → List Event
drawn p seed = seeded_events p.machine p.image seed

abbrev pub seeded_deed : ℕ → Program → Deed
seeded_deed seed p = record { appended = None; report = ran p (drawn p seed) }

abbrev pub seeded_found : ℕ → Program → Reading Deed
seeded_found seed p = Found (Ok (seeded_deed seed p))

-- and their log is appended
abbrev pub logged_deed : ℕ → List ℕ → Program → Deed
logged_deed seed log p = record {
  appended = Some (record { name = log; bytes = log_text (drawn p seed) });
  report = ran p (drawn p seed);
}

abbrev pub logged_found : ℕ → List ℕ → Program → Reading Deed
logged_found seed log p = Found (Ok (logged_deed seed log p))

-- the fault of a schedule that is given
abbrev pub line_fault : LogFault → LineFault
line_fault (BadLine n) = line.BadLine n
line_fault (NotEnabled n) = line.NotEnabled n
line_fault (Short n) = line.Short n
line_fault (Long n) = line.Long n

-- the events that it gives, unless it has a fault
abbrev pub given_deed : Program → List Event → Deed
given_deed p es = record { appended = None; report = ran p es }

abbrev pub given_answer : Program → List Event → Option LogFault → Result Deed Refusal
given_answer p es None = Ok (given_deed p es)
given_answer p es (Some fault) = Err (refusal.Schedule (line_fault fault))

abbrev pub given_found : Program → List ℕ → Reading Deed
given_found p bytes =
    Found (given_answer p (judged p.machine p.image bytes).events (judged p.machine p.image bytes).fault)

-- the schedule is read after machine and image
abbrev pub given_under : List ℕ → Program → Reading Deed
given_under schedule p = with_found (given_found p) (schedule_reading schedule)

-- ---- `state`

-- the state that events leave one after another
unfoldable pub state_after : Machine → State → List Event → State
state_after m S [] = S
state_after m S (e ∷ es) = state_after m (after_event m S e) es

-- it is told, whether the run is over or not
abbrev pub state_deed : Program → List Event → Deed
state_deed p es = record {
  appended = None;
  report = report.Stopped (record {
    image = p.image;
    pipeline = record { machine = p.machine; state = state_after p.machine (initial_state p.image) es };
  });
}

-- unless the schedule has another fault
abbrev pub state_answer : Program → List Event → Option LogFault → Result Deed Refusal
state_answer p es None = Ok (state_deed p es)
state_answer p es (Some (Short n)) = Ok (state_deed p es)
state_answer p es (Some (BadLine n)) = Err (refusal.Schedule (line.BadLine n))
state_answer p es (Some (NotEnabled n)) = Err (refusal.Schedule (line.NotEnabled n))
state_answer p es (Some (Long n)) = Err (refusal.Schedule (line.Long n))

abbrev pub state_found : Program → List ℕ → Reading Deed
state_found p bytes =
    Found (state_answer p (judged p.machine p.image bytes).events (judged p.machine p.image bytes).fault)

abbrev pub state_under : List ℕ → Program → Reading Deed
state_under schedule p = with_found (state_found p) (schedule_reading schedule)

-- ---- `self`

abbrev pub workload_deed : SelfWork → Deed
workload_deed w = record { appended = None; report = report.Workload w }

-- ---- `migrate`

-- the log in the present format, or the first line that is no event's text
abbrev pub migration_answer : Result (List ℕ) ℕ → Result (List ℕ) Refusal
migration_answer (Ok log) = Ok log
migration_answer (Err n) = Err (refusal.Schedule (line.BadLine n))

unfoldable pub migrated_log : List ℕ → Result (List ℕ) Refusal
migrated_log bytes = migration_answer (migrated bytes)

-- it is appended, and the lines of the old one are counted
abbrev pub migration_deed : List ℕ → List ℕ → List ℕ → Deed
migration_deed new bytes log = record {
  appended = Some (record { name = new; bytes = log });
  report = report.Migrated (length (lines_of bytes));
}

-- all lines are judged before
abbrev pub log_judged : List ℕ → List ℕ → Reading Deed
log_judged new bytes = with_found (λ log. Found (Ok (migration_deed new bytes log))) (Found (migrated_log bytes))

-- ---- any command

abbrev pub work_of : Command → Reading Deed
work_of (RunSeeded names seed) = with_found (seeded_found seed) (program_reading names)
work_of (RunLogged names seed log) = with_found (logged_found seed log) (program_reading names)
work_of (RunGiven names schedule) = with_found (given_under schedule) (program_reading names)
work_of (StateGiven names schedule) = with_found (state_under schedule) (program_reading names)
work_of (Workload w) = Found (Ok (workload_deed w))
work_of (InOrder names) = with_found in_order_found (program_reading names)
work_of (Migrate names) = with_found (log_judged names.new_log) (schedule_reading names.log)

-- ---- what comes of it

-- a report, or why there is none
abbrev pub Outcome : Type 0
Outcome = Result Report Refusal

-- the outcome of what is found, where nothing fails after that
abbrev pub outcome_of : Result Deed Refusal → Outcome
outcome_of (Ok d) = Ok d.report
outcome_of (Err e) = Err e

-- what is appended
abbrev pub appended_by : Result Deed Refusal → Option Addition
appended_by (Ok d) = d.appended
appended_by (Err e) = None

-- what a report is known to be: the machine of a run is one that may run, its memory has the ranges of its image, and the
-- workload was run to its end
abbrev pub IsSoundReport : Report → Type 0
IsSoundReport (report.Ran run) = IsAdmissible run.machine
IsSoundReport (report.Stopped s) = s.pipeline.state.home.ranges ≡ (loaded s.image).ranges
IsSoundReport (report.Workload w) = HasWholeRun w
IsSoundReport (report.InOrder run) = run.reference.memory.ranges ≡ (loaded run.image).ranges
IsSoundReport (report.Migrated lines) = Unit {0}
