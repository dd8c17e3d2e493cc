-- The program is read, and then it is run, and its events are appended.
use Rattle.std.proofs.Common.{Ok, Err, inr, refl, ap, ◌∙◌, ◌≤◌, List, ℕ, sym, subst}
use Rattle.tss_base.specs.Machine.{IsAdmissible}
use Rattle.tss_protocol.specs.Text.{log_text}
use Rattle.tss_unit_runs.specs.Finished.{FinishedRunState}
use Rattle.tss_command.specs.declared.outcome.Report.TheVariants as report
use Rattle.tss_command.specs.Outcomes.{files_seen, FailedToRead}
use Rattle.tss_command.specs.Words.{Names, RunLogged}
use Rattle.tss_command.specs.Work.{program_reading, drawn, logged_deed, logged_found, work_of}
use Rattle.tss_command.proofs.ReadingLemmas.{err_is, stops_with, goes_on}
use Rattle.tss_command.proofs.OutcomeLemmas.{same_le, read_before, appends_after, part_after, fault_after, log_part, refused, ran_out_after, does, fails}
use Rattle.tss_command.proofs.runs.report_logged.Goals as goal

pub returns-in_err-program-clause-due : goal.returns-in_err-program-clause-due
returns-in_err-program-clause-due g c =
    let b = files_seen g.F.Files c.args.files.now in
    let a = files_seen g.F.Files c.program_in.new.files in
    let names : Names = record { image = c.args.image.now; machine = c.args.machine.now } in
    let e = c.in_err-program.field-0.0 in
    refused b a (work_of (RunLogged names c.args.seed c.args.log.now)) c.from_residual.result e (err_is c.from_residual.result e c.from_residual.ensures.1)
    (stops_with b.held (FailedToRead b a) (logged_found c.args.seed c.args.log.now) (program_reading names) e c.in_err-program.ensures.exact) c.in_err-program.ensures.only_reads

pub returns-in-Ok : goal.returns-in-Ok
returns-in-Ok g c =
    let b = files_seen g.F.Files c.args.files.now in
    let m = files_seen g.F.Files c.program_in.new.files in
    let a = files_seen g.F.Files c.run_logged.new.files in
    let names : Names = record { image = c.args.image.now; machine = c.args.machine.now } in
    let p = c.in_ok-program.program in
    let log = c.args.log.now in
    let d = logged_deed c.args.seed log p in
    let more : (n : List ℕ) → m.read_faults n ≤ a.read_faults n = λ n. same_le _ _ (c.in-Ok.ensures.read_faults n) in
    record {
      due = does b a (work_of (RunLogged names c.args.seed log)) d _
          (goes_on b.held (FailedToRead b a) (logged_found c.args.seed log) (program_reading names) p (Ok d)
          (read_before b m a (program_reading names) (Ok p) more c.in_ok-program.ensures.exact) (inr refl))
          (ap (λ x. Ok (report.Ran x)) c.in-Ok.ensures.ok)
          (appends_after b m a log (log_text (drawn p c.args.seed)) c.in_ok-program.ensures.only_reads c.in-Ok.ensures.log);
      sound = subst (λ (r : FinishedRunState). IsAdmissible r.machine) (sym c.in-Ok.ensures.ok) c.in_ok-program.ensures.ok;
    }

pub returns-in-Err-NoMemory-clause-due : goal.returns-in-Err-NoMemory-clause-due
returns-in-Err-NoMemory-clause-due g c =
    let b = files_seen g.F.Files c.args.files.now in
    let a = files_seen g.F.Files c.run_logged.new.files in
    let names : Names = record { image = c.args.image.now; machine = c.args.machine.now } in
    ran_out_after b a (work_of (RunLogged names c.args.seed c.args.log.now)) _ refl
    (ap g.F.Files.held (c.run_logged.ensures.no_memory (c.in-Err-NoMemory.is ∙ ap Err c.in-Err-NoMemory.field-0-is)) ∙ c.in_ok-program.ensures.only_reads.held)

pub returns-in-Err-WriteFault-clause-due : goal.returns-in-Err-WriteFault-clause-due
returns-in-Err-WriteFault-clause-due g c =
    let b = files_seen g.F.Files c.args.files.now in
    let m = files_seen g.F.Files c.program_in.new.files in
    let a = files_seen g.F.Files c.run_logged.new.files in
    let names : Names = record { image = c.args.image.now; machine = c.args.machine.now } in
    let p = c.in_ok-program.program in
    let log = c.args.log.now in
    let text = log_text (drawn p c.args.seed) in
    let d = logged_deed c.args.seed log p in
    let more : (n : List ℕ) → m.read_faults n ≤ a.read_faults n = λ n. same_le _ _ (c.run_logged.ensures.read_faults n) in
    let is = c.in-Err-WriteFault.is ∙ ap Err c.in-Err-WriteFault.field-0-is in
    fails b a (work_of (RunLogged names c.args.seed log)) d _
    (goes_on b.held (FailedToRead b a) (logged_found c.args.seed log) (program_reading names) p (Ok d)
    (read_before b m a (program_reading names) (Ok p) more c.in_ok-program.ensures.exact) (inr refl))
    refl
    (fault_after b m a log c.in_ok-program.ensures.only_reads (c.run_logged.ensures.cause is))
    (part_after b m a log text c.in_ok-program.ensures.only_reads (log_part m.held a.held log text (c.run_logged.ensures.write_fault is)))
