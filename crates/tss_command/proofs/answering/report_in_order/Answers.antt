-- The program is read, and then it is run.
use Rattle.std.proofs.Common.{Ok, inr, refl, ap}
use Rattle.tss_base.specs.declared.machine.Key.TheVariants.{MaxOperands}
use Rattle.tss_command.specs.declared.outcome.Refusal.TheVariants as refusal
use Rattle.tss_command.specs.declared.outcome.Report.TheVariants as report
use Rattle.tss_command.specs.Outcomes.{files_seen, FailedToRead}
use Rattle.tss_command.specs.Words.{Names, InOrder}
use Rattle.tss_command.specs.Work.{program_reading, in_order_deed, in_order_found, work_of}
use Rattle.tss_command.proofs.ReadingLemmas.{err_is, stops_with, goes_on}
use Rattle.tss_command.proofs.OutcomeLemmas.{refused, ran_out, does}
use Rattle.tss_command.proofs.answering.report_in_order.Goals as goal

pub returns-in_err-program-clause-due : goal.returns-in_err-program-clause-due
returns-in_err-program-clause-due g c =
    let b = files_seen g.F.Files c.args.files.now in
    let a = files_seen g.F.Files c.program_in.new.files in
    let names : Names = record { image = c.args.image.now; machine = c.args.machine.now } in
    let e = c.in_err-program.field-0.0 in
    refused b a (work_of (InOrder names)) c.from_residual.result e (err_is c.from_residual.result e c.from_residual.ensures.1)
    (stops_with b.held (FailedToRead b a) in_order_found (program_reading names) e c.in_err-program.ensures.exact) c.in_err-program.ensures.only_reads

pub run_in_order-requires : goal.run_in_order-requires
run_in_order-requires g c = (c.in_ok-program.ensures.ok.limits MaxOperands c.in_ok-program.program.machine.limits.max_operands refl).1

pub returns-in_err-reference-clause-due : goal.returns-in_err-reference-clause-due
returns-in_err-reference-clause-due g c =
    let b = files_seen g.F.Files c.args.files.now in
    let a = files_seen g.F.Files c.program_in.new.files in
    let names : Names = record { image = c.args.image.now; machine = c.args.machine.now } in
    let r = c.from_residual-in_err-reference.result in
    ran_out b a (work_of (InOrder names)) r (err_is r refusal.NoMemory c.from_residual-in_err-reference.ensures.1) c.in_ok-program.ensures.only_reads

pub returns-clause-due : goal.returns-clause-due
returns-clause-due g c =
    let b = files_seen g.F.Files c.args.files.now in
    let a = files_seen g.F.Files c.program_in.new.files in
    let names : Names = record { image = c.args.image.now; machine = c.args.machine.now } in
    let p = c.in_ok-program.program in
    does b a (work_of (InOrder names)) (in_order_deed p) _
    (goes_on b.held (FailedToRead b a) in_order_found (program_reading names) p (Ok (in_order_deed p)) c.in_ok-program.ensures.exact (inr refl))
    (ap (λ x. Ok (report.InOrder (record { machine = p.machine; image = p.image; reference = x }))) c.in_ok-reference.ensures.exact)
    c.in_ok-program.ensures.only_reads.held
