-- The program is read, then the schedule, and then it is run.
use Rattle.std.proofs.Common.{◌≡◌, Ok, Err, refl, sym, ap, ◌∙◌}
use Rattle.tss_protocol.specs.Schedule.{judged}
use Rattle.tss_protocol.specs.State.{initial_state}
use Rattle.tss_command.specs.declared.outcome.Refusal.TheVariants as refusal
use Rattle.tss_command.specs.declared.outcome.Report.TheVariants as report
use Rattle.tss_command.specs.Outcomes.{files_seen, FailedToRead}
use Rattle.tss_command.specs.Words.{Names, StateGiven}
use Rattle.tss_command.specs.Work.{program_reading, state_deed, state_answer, state_found, state_under, work_of}
use Rattle.tss_command.proofs.StateLemmas.{state_is, state_whole, state_refused}
use Rattle.tss_command.proofs.ReadingLemmas.{err_is, stops_with}
use Rattle.tss_command.proofs.OutcomeLemmas.{only_reads_then, refused, ran_out}
use Rattle.tss_command.proofs.GivenLemmas.{unscheduled, unfollowed, followed}
use Rattle.tss_command.proofs.runs.report_state.Goals as goal

pub returns-in_err-program-clause-due : goal.returns-in_err-program-clause-due
returns-in_err-program-clause-due g c =
    let b = files_seen g.F.Files c.args.files.now in
    let a = files_seen g.F.Files c.program_in.new.files in
    let names : Names = record { image = c.args.image.now; machine = c.args.machine.now } in
    let e = c.in_err-program.field-0.0 in
    refused b a (work_of (StateGiven names c.args.schedule.now)) c.from_residual.result e (err_is c.from_residual.result e c.from_residual.ensures.1)
    (stops_with b.held (FailedToRead b a) (state_under c.args.schedule.now) (program_reading names) e c.in_err-program.ensures.exact) c.in_err-program.ensures.only_reads

pub returns-in_err-bytes-clause-due : goal.returns-in_err-bytes-clause-due
returns-in_err-bytes-clause-due g c =
    let names : Names = record { image = c.args.image.now; machine = c.args.machine.now } in
    let e = c.in_err-bytes.field-0.0 in
    let r = c.from_residual-in_err-bytes.result in
    unscheduled (files_seen g.F.Files c.args.files.now) (files_seen g.F.Files c.program_in.new.files)
    (files_seen g.F.Files c.schedule_in.new.files) names c.args.schedule.now state_found c.in_ok-program.program
    c.in_ok-program.ensures.exact c.in_ok-program.ensures.only_reads c.in_err-bytes.ensures.only_reads r e
    (err_is r e c.from_residual-in_err-bytes.ensures.1) c.in_err-bytes.ensures.exact

pub returns-in-Ok : goal.returns-in-Ok
returns-in-Ok g c =
    let names : Names = record { image = c.args.image.now; machine = c.args.machine.now } in
    let p = c.in_ok-program.program in
    let slice = c.as_slice.result.now in
    let es = (judged p.machine p.image slice).events in
    let state = state_is p.machine (initial_state p.image) es c.in-Ok.pipeline.state c.in-Ok.ensures.state in
    record {
      due = followed (files_seen g.F.Files c.args.files.now) (files_seen g.F.Files c.program_in.new.files)
          (files_seen g.F.Files c.schedule_in.new.files) names c.args.schedule.now state_found p c.in_ok-program.ensures.exact
          c.in_ok-program.ensures.only_reads c.in_ok-bytes.ensures.only_reads slice c.in_ok-bytes.bytes.items
          c.as_slice.ensures.value c.in_ok-bytes.ensures.exact _ (state_deed p es) refl
          (state_whole p es (judged p.machine p.image slice).fault c.in-Ok.ensures.ok)
          (λ i. Ok (report.Stopped (record { image = p.image; pipeline = record { machine = c.in-Ok.ensures.machine i; state = state i } })));
      sound = c.in-Ok.ensures.ranges;
    }

pub returns-in-Err-NoMemory-clause-due : goal.returns-in-Err-NoMemory-clause-due
returns-in-Err-NoMemory-clause-due g c =
    let b = files_seen g.F.Files c.args.files.now in
    let m = files_seen g.F.Files c.program_in.new.files in
    let a = files_seen g.F.Files c.schedule_in.new.files in
    let names : Names = record { image = c.args.image.now; machine = c.args.machine.now } in
    ran_out b a (work_of (StateGiven names c.args.schedule.now)) _ refl
    (only_reads_then b m a c.in_ok-program.ensures.only_reads c.in_ok-bytes.ensures.only_reads)

pub returns-clause-due : goal.returns-clause-due
returns-clause-due g c =
    let names : Names = record { image = c.args.image.now; machine = c.args.machine.now } in
    let p = c.in_ok-program.program in
    let slice = c.as_slice.result.now in
    let es = (judged p.machine p.image slice).events in
    let fault = c.in-Err-Line.fault in
    let fault_is = c.state_given.ensures.line fault (c.in-Err-Line.is ∙ ap Err c.in-Err-Line.field-0-is) in
    let answer : Err (refusal.Schedule fault) ≡ state_answer p es (judged p.machine p.image slice).fault =
    state_refused p es fault fault_is.1 ∙ sym (ap (state_answer p es) fault_is.0) in
    unfollowed (files_seen g.F.Files c.args.files.now) (files_seen g.F.Files c.program_in.new.files)
    (files_seen g.F.Files c.schedule_in.new.files) names c.args.schedule.now state_found p c.in_ok-program.ensures.exact
    c.in_ok-program.ensures.only_reads c.in_ok-bytes.ensures.only_reads slice c.in_ok-bytes.bytes.items
    c.as_slice.ensures.value c.in_ok-bytes.ensures.exact _ (refusal.Schedule fault) refl answer
