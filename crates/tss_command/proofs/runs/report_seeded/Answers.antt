-- The program is read, and then it is run.
use Rattle.std.proofs.Common.{Ok, inr, refl, ap, sym, subst}
use Rattle.tss_base.specs.Machine.{IsAdmissible}
use Rattle.tss_unit_runs.specs.Finished.{FinishedRunState}
use Rattle.tss_command.specs.declared.outcome.Refusal.TheVariants as refusal
use Rattle.tss_command.specs.declared.outcome.Report.TheVariants as report
use Rattle.tss_command.specs.Outcomes.{files_seen, FailedToRead}
use Rattle.tss_command.specs.Words.{Names, RunSeeded}
use Rattle.tss_command.specs.Work.{program_reading, seeded_deed, seeded_found, work_of}
use Rattle.tss_command.proofs.ReadingLemmas.{err_is, stops_with, goes_on}
use Rattle.tss_command.proofs.OutcomeLemmas.{refused, ran_out, does}
use Rattle.tss_command.proofs.runs.report_seeded.Goals as goal

pub returns-in_err-program-clause-due : goal.returns-in_err-program-clause-due
returns-in_err-program-clause-due g c =
    let b = files_seen g.F.Files c.args.files.now in
    let a = files_seen g.F.Files c.program_in.new.files in
    let names : Names = record { image = c.args.image.now; machine = c.args.machine.now } in
    let e = c.in_err-program.field-0.0 in
    refused b a (work_of (RunSeeded names c.args.seed)) c.from_residual.result e (err_is c.from_residual.result e c.from_residual.ensures.1)
    (stops_with b.held (FailedToRead b a) (seeded_found c.args.seed) (program_reading names) e c.in_err-program.ensures.exact) c.in_err-program.ensures.only_reads

pub returns-in_err-run-clause-due : goal.returns-in_err-run-clause-due
returns-in_err-run-clause-due g c =
    let b = files_seen g.F.Files c.args.files.now in
    let a = files_seen g.F.Files c.program_in.new.files in
    let names : Names = record { image = c.args.image.now; machine = c.args.machine.now } in
    let r = c.from_residual-in_err-run.result in
    ran_out b a (work_of (RunSeeded names c.args.seed)) r (err_is r refusal.NoMemory c.from_residual-in_err-run.ensures.1) c.in_ok-program.ensures.only_reads

pub returns : goal.returns
returns g c =
    let b = files_seen g.F.Files c.args.files.now in
    let a = files_seen g.F.Files c.program_in.new.files in
    let names : Names = record { image = c.args.image.now; machine = c.args.machine.now } in
    let p = c.in_ok-program.program in
    let d = seeded_deed c.args.seed p in
    record {
      due = does b a (work_of (RunSeeded names c.args.seed)) d _
          (goes_on b.held (FailedToRead b a) (seeded_found c.args.seed) (program_reading names) p (Ok d) c.in_ok-program.ensures.exact (inr refl))
          (ap (λ x. Ok (report.Ran x)) c.in_ok-run.ensures)
          c.in_ok-program.ensures.only_reads.held;
      sound = subst (λ (r : FinishedRunState). IsAdmissible r.machine) (sym c.in_ok-run.ensures) c.in_ok-program.ensures.ok;
    }
