-- What the program answers to an outcome: its status and its text.
use Rattle.std.specs.Prelude.{ℕ, List, [], ◌∷◌, Option, Some, None, Ok, Err, codes}
use Rattle.std.specs.Fmt.{decimal}
use Rattle.tss_base.specs.declared.ending.Ending.{Ending}
use Rattle.tss_base.specs.declared.ending.Ending.TheVariants as ending
use Rattle.tss_model.specs.InOrder.{in_order}
use Rattle.tss_model.specs.Memory.{loaded}
use Rattle.tss_protocol.specs.Counts.{sizes_of}
use Rattle.tss_text.specs.Pieces.{joined}
use Rattle.tss_report.specs.Report.{report_text}
use Rattle.tss_command.specs.declared.outcome.Input.{Input}
use Rattle.tss_command.specs.declared.outcome.Input.TheVariants as input
use Rattle.tss_command.specs.declared.outcome.Refusal.{Refusal}
use Rattle.tss_command.specs.declared.outcome.Refusal.TheVariants as refusal
use Rattle.tss_command.specs.declared.outcome.Run.{Run}
use Rattle.tss_command.specs.declared.outcome.Report.{Report}
use Rattle.tss_command.specs.declared.outcome.Report.TheVariants as report
use Rattle.tss_command.specs.declared.statuses.TheConstants.{EXITED, TRAPPED, REFUSED, BAD_IMAGE, BAD_MACHINE, BAD_SCHEDULE, BAD_WORDS, READ_FAILED, WRITE_FAILED, NO_MEMORY}
use Rattle.tss_command.specs.Work.{Outcome}
use Rattle.tss_self.specs.SelfAnswer.{self_result, self_report}
use Rattle.tss_state_text.specs.StateText.{state_text}
use Rattle.tss_unit_runs.specs.Finished.{FinishedRunState}
use Rattle.tss_unit_runs.specs.declared.faults.LineFault.{LineFault}
use Rattle.tss_unit_runs.specs.declared.faults.LineFault.TheVariants as line

-- ---- statuses

-- the status of an ending
abbrev pub ending_status : Ending → ℕ
ending_status (ending.Exit status) = EXITED
ending_status (ending.MainTrap trap) = TRAPPED
ending_status (ending.TaskTrap task trap) = TRAPPED
ending_status (ending.Refused n pc) = REFUSED

-- the status of a report, and of a refusal
abbrev pub report_status : Report → ℕ
report_status (report.Ran run) = ending_status (in_order run.image run.machine.limits).ending
report_status (report.Stopped s) = EXITED
report_status (report.Workload w) = ending_status (self_result w).ending
report_status (report.InOrder run) = ending_status run.reference.ending
report_status (report.Migrated lines) = EXITED

abbrev pub refusal_status : Refusal → ℕ
refusal_status (refusal.Image n) = BAD_IMAGE
refusal_status (refusal.Machine bad) = BAD_MACHINE
refusal_status (refusal.Schedule fault) = BAD_SCHEDULE
refusal_status refusal.WriteLog = WRITE_FAILED
refusal_status refusal.Usage = BAD_WORDS
refusal_status (refusal.ReadFault which) = READ_FAILED
refusal_status (refusal.TooLong which) = READ_FAILED
refusal_status refusal.NoMemory = NO_MEMORY

-- the status of an outcome
abbrev pub status_of : Outcome → ℕ
status_of (Ok r) = report_status r
status_of (Err e) = refusal_status e

-- ---- texts

-- what a file is called
abbrev pub input_name : Input → List ℕ
input_name input.Machine = codes "machine"
input_name input.Image = codes "image"
input_name input.Schedule = codes "schedule"

-- the line of a machine that is refused, by its check and the key that fails it
abbrev pub machine_line : ℕ → Option (List ℕ) → List ℕ
machine_line n None = joined (codes "machine " ∷ decimal n ∷ codes "\n" ∷ [])
machine_line n (Some key) = joined (codes "machine " ∷ decimal n ∷ codes " " ∷ key ∷ codes "\n" ∷ [])

-- what a fault of a schedule is called, and the number of its line
abbrev pub fault_name : LineFault → List ℕ
fault_name (line.BadLine n) = codes "bad-line "
fault_name (line.NotEnabled n) = codes "not-enabled "
fault_name (line.Short n) = codes "short "
fault_name (line.Long n) = codes "long "

abbrev pub fault_line : LineFault → ℕ
fault_line (line.BadLine n) = n
fault_line (line.NotEnabled n) = n
fault_line (line.Short n) = n
fault_line (line.Long n) = n

-- the line of a schedule that is refused, by its first fault
abbrev pub schedule_line : LineFault → List ℕ
schedule_line fault =
    joined (codes "schedule " ∷ fault_name fault ∷ decimal (fault_line fault) ∷ codes "\n" ∷ [])

-- the text of a refusal
abbrev pub refusal_text : Refusal → List ℕ
refusal_text refusal.Usage = codes "usage: run IMAGE MACHINE seed N [log FILE] | run IMAGE MACHINE given FILE | state IMAGE MACHINE given FILE | inorder IMAGE MACHINE | self N | migrate FILE NEW | self N mul\n"
refusal_text (refusal.ReadFault which) = joined (codes "read " ∷ input_name which ∷ codes "\n" ∷ [])
refusal_text (refusal.TooLong which) = joined (codes "long " ∷ input_name which ∷ codes "\n" ∷ [])
refusal_text (refusal.Machine bad) = machine_line bad.number bad.key
refusal_text (refusal.Image n) = joined (codes "image " ∷ decimal n ∷ codes "\n" ∷ [])
refusal_text (refusal.Schedule fault) = schedule_line fault
refusal_text refusal.WriteLog = codes "write log\n"
refusal_text refusal.NoMemory = codes "no memory\n"

-- the text of a run in program order: its report without peaks
abbrev pub run_text : Run → List ℕ
run_text run = report_text run.reference (loaded run.image) None (sizes_of run.machine)

-- the text of a run of the unit machine: the report of program order, with the peaks of the events that were done
abbrev pub finished_text : FinishedRunState → List ℕ
finished_text run =
    report_text (in_order run.image run.machine.limits) (loaded run.image) (Some run.peaks) (sizes_of run.machine)

-- the text of a migration, with how many lines the old log has
abbrev pub migrated_text : ℕ → List ℕ
migrated_text lines = joined (codes "migrated " ∷ decimal lines ∷ codes "\n" ∷ [])

-- the text of a report
abbrev pub text_of_report : Report → List ℕ
text_of_report (report.Ran run) = finished_text run
text_of_report (report.Stopped s) = state_text (loaded s.image) s.pipeline.machine s.pipeline.state
text_of_report (report.Workload w) = self_report w
text_of_report (report.InOrder run) = run_text run
text_of_report (report.Migrated lines) = migrated_text lines

-- the text of an outcome
abbrev pub text_of : Outcome → List ℕ
text_of (Ok r) = text_of_report r
text_of (Err e) = refusal_text e
