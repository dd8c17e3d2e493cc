-- The workload is run, and no file is looked at.
use Rattle.std.proofs.Common.{Ok, inr, refl, ap}
use Rattle.tss_command.specs.declared.outcome.Refusal.TheVariants as refusal
use Rattle.tss_command.specs.declared.outcome.Report.TheVariants as report
use Rattle.tss_command.specs.Words.{Workload}
use Rattle.tss_command.specs.Work.{workload_deed, work_of}
use Rattle.tss_command.proofs.ReadingLemmas.{err_is}
use Rattle.tss_command.proofs.OutcomeLemmas.{ran_out_after, does}
use Rattle.tss_self.specs.SelfAnswer.{SelfWork}
use Rattle.tss_command.proofs.runs.report_workload.Goals as goal

pub returns-in_err-run-clause-due : goal.returns-in_err-run-clause-due
returns-in_err-run-clause-due c =
    let w : SelfWork = record { n = c.args.n; form = c.args.form } in
    let r = c.from_residual.result in
    λ s. ran_out_after s s (work_of (Workload w)) r (err_is r refusal.NoMemory c.from_residual.ensures.1) refl

pub returns-clause-due : goal.returns-clause-due
returns-clause-due c =
    let w : SelfWork = record { n = c.args.n; form = c.args.form } in
    λ s. does s s (work_of (Workload w)) (workload_deed w) _ (inr refl) (ap (λ x. Ok (report.Workload x)) c.in_ok-run.ensures.exact) refl
