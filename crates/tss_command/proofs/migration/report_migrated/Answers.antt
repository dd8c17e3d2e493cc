-- The log is read and judged, and then it is appended.
use Rattle.std.proofs.Common.{Ok, Err, inr, refl, ap, ◌∙◌, ◌≤◌, List, length, ℕ, subst}
use Rattle.tss_outside.specs.Outside.{AppendsTo}
use Rattle.tss_protocol.specs.Text.{lines_of}
use Rattle.tss_command.specs.declared.outcome.Report.TheVariants as report
use Rattle.tss_command.specs.Outcomes.{files_seen, FailedToRead, AppendsPartTo}
use Rattle.tss_command.specs.Reading.{Found, Gives}
use Rattle.tss_command.specs.Words.{Migrate, LogNames}
use Rattle.tss_command.specs.Work.{migrated_log, migration_deed, log_judged, schedule_reading, work_of}
use Rattle.tss_command.proofs.ReadingLemmas.{err_is, stops_with, goes_on}
use Rattle.tss_command.proofs.OutcomeLemmas.{same_le, read_before, appends_after, part_after, fault_after, refused, does, fails}
use Rattle.tss_command.proofs.migration.report_migrated.Goals as goal

pub returns-in_err-old : goal.returns-in_err-old
returns-in_err-old g c =
    let b = files_seen g.F.Files c.args.files.now in
    let a = files_seen g.F.Files c.schedule_in.new.files in
    let names : LogNames = record { log = c.args.log.now; new_log = c.args.new_log.now } in
    let e = c.in_err-old.field-0.0 in
    record {
      due = refused b a (work_of (Migrate names)) c.from_residual.result e (err_is c.from_residual.result e c.from_residual.ensures.1)
          (stops_with b.held (FailedToRead b a) (log_judged names.new_log) (schedule_reading names.log) e c.in_err-old.ensures.exact) c.in_err-old.ensures.only_reads;
    }

pub returns-in_err-new : goal.returns-in_err-new
returns-in_err-new g c =
    let b = files_seen g.F.Files c.args.files.now in
    let a = files_seen g.F.Files c.schedule_in.new.files in
    let names : LogNames = record { log = c.args.log.now; new_log = c.args.new_log.now } in
    let e = c.in_err-new.field-0.0 in
    let old = c.in_ok-old.old.items in
    record {
      due = refused b a (work_of (Migrate names)) c.from_residual-in_err-new.result e (err_is c.from_residual-in_err-new.result e c.from_residual-in_err-new.ensures.1)
          (goes_on b.held (FailedToRead b a) (log_judged names.new_log) (schedule_reading names.log) old (Err e) c.in_ok-old.ensures.exact
          (stops_with b.held (FailedToRead b a) (λ log. Found (Ok (migration_deed names.new_log old log))) (Found (migrated_log old)) e
          (subst (λ bytes. Gives (Err e) (migrated_log bytes)) c.as_slice.ensures.value c.in_err-new.ensures)))
          c.in_ok-old.ensures.only_reads;
    }

pub returns-in_err-append : goal.returns-in_err-append
returns-in_err-append g c =
    let b = files_seen g.F.Files c.args.files.now in
    let m = files_seen g.F.Files c.schedule_in.new.files in
    let a = files_seen g.F.Files c.append.new.files in
    let names : LogNames = record { log = c.args.log.now; new_log = c.args.new_log.now } in
    let e = c.in_err-append.field-0.0 in
    let old = c.in_ok-old.old.items in
    let new = c.in_ok-new.new.items in
    let r = c.from_residual-in_err-append.result in
    let more : (n : List ℕ) → m.read_faults n ≤ a.read_faults n = λ n. same_le _ _ (c.in_err-append.ensures.read_faults n) in
    record {
      due = fails b a (work_of (Migrate names)) (migration_deed names.new_log old new) r
          (goes_on b.held (FailedToRead b a) (log_judged names.new_log) (schedule_reading names.log) old (Ok (migration_deed names.new_log old new))
          (read_before b m a (schedule_reading names.log) (Ok old) more c.in_ok-old.ensures.exact)
          (goes_on b.held (FailedToRead b a) (λ log. Found (Ok (migration_deed names.new_log old log))) (Found (migrated_log old)) new (Ok (migration_deed names.new_log old new))
          (subst (λ bytes. Gives (Ok new) (migrated_log bytes)) c.as_slice.ensures.value c.in_ok-new.ensures) (inr refl)))
          (err_is r e c.from_residual-in_err-append.ensures.1 ∙ ap Err c.in_err-append.ensures.err)
          (fault_after b m a names.new_log c.in_ok-old.ensures.only_reads c.in_err-append.ensures.cause)
          (part_after b m a names.new_log new c.in_ok-old.ensures.only_reads
          (subst (AppendsPartTo m.held a.held names.new_log) c.as_slice-2.ensures.value c.in_err-append.ensures.part));
    }

pub returns : goal.returns
returns g c =
    let b = files_seen g.F.Files c.args.files.now in
    let m = files_seen g.F.Files c.schedule_in.new.files in
    let a = files_seen g.F.Files c.append.new.files in
    let names : LogNames = record { log = c.args.log.now; new_log = c.args.new_log.now } in
    let old = c.in_ok-old.old.items in
    let new = c.in_ok-new.new.items in
    let more : (n : List ℕ) → m.read_faults n ≤ a.read_faults n = λ n. same_le _ _ (c.in_ok-append.ensures.read_faults n) in
    record {
      due = does b a (work_of (Migrate names)) (migration_deed names.new_log old new) _
          (goes_on b.held (FailedToRead b a) (log_judged names.new_log) (schedule_reading names.log) old (Ok (migration_deed names.new_log old new))
          (read_before b m a (schedule_reading names.log) (Ok old) more c.in_ok-old.ensures.exact)
          (goes_on b.held (FailedToRead b a) (λ log. Found (Ok (migration_deed names.new_log old log))) (Found (migrated_log old)) new (Ok (migration_deed names.new_log old new))
          (subst (λ bytes. Gives (Ok new) (migrated_log bytes)) c.as_slice.ensures.value c.in_ok-new.ensures) (inr refl)))
          (ap (λ n. Ok (report.Migrated n)) c.line_count.ensures ∙ ap (λ bytes. Ok (report.Migrated (length (lines_of bytes)))) c.as_slice-3.ensures.value)
          (appends_after b m a names.new_log new c.in_ok-old.ensures.only_reads
          (subst (AppendsTo m.held a.held names.new_log) c.as_slice-2.ensures.value c.in_ok-append.ensures.ok));
    }
