-- What the drive says by picks, by lines.
use Rattle.std.proofs.Common.{Ok, Err, ap, sym, ◌∙◌, subst}
use Rattle.tss_protocol.specs.Schedule.{Judgement}
use Rattle.tss_log.specs.LogLines.{LinesLeft}
use Rattle.tss_log.specs.contracts.log.NoLogLog.TheImpl as no_log
use Rattle.tss_pipeline.specs.Seen.{PipelineState}
use Rattle.tss_schedule.specs.Picks.{at_first}
use Rattle.tss_unit_runs.specs.Runs.{IsCounted}
use Rattle.tss_unit_runs.proofs.LineLemmas.{at_log, log_whole, log_peaks, log_counted, line_judged, line_same, written_by_none}
use Rattle.tss_unit_runs.proofs.running.run_given.Goals as goal

pub line_fault-requires : goal.line_fault-requires
line_fault-requires c =
    let h = c.in-Err.ensures in
    let same = ap (λ (p : PipelineState). p.machine) c.in-Ok.ensures in
    let drives = at_log no_log.ghosts c.args.machine c.args.image c.args.bytes.now h.last (record {}) c.finish.new.log h.accepted
    c.requires (at_first c.in-Ok.pipeline.machine c.args.image c.new-lines.result) (Err c.in-Err.fault)
    (λ i. at_first (same i) c.args.image (c.new-lines.ensures i)) h.drives in
    subst (λ k. IsCounted k c.in-Err.fault)
    (sym (c.offset-offset.ensures ∙ ap (λ (l : LinesLeft). l.offset) c.new-lines.ensures))
    (log_counted no_log.ghosts c.args.machine c.args.image c.args.bytes.now h.last (record {}) c.finish.new.log h.accepted
    c.requires c.in-Err.fault drives (written_by_none c.in-Err.fault drives.kept.cause))

pub returns-in-Err-clause-line : goal.returns-in-Err-clause-line
returns-in-Err-clause-line c f is =
    let h = c.in-Err.ensures in
    let same = ap (λ (p : PipelineState). p.machine) c.in-Ok.ensures in
    let drives = at_log no_log.ghosts c.args.machine c.args.image c.args.bytes.now h.last (record {}) c.finish.new.log h.accepted
    c.requires (at_first c.in-Ok.pipeline.machine c.args.image c.new-lines.result) (Err c.in-Err.fault)
    (λ i. at_first (same i) c.args.image (c.new-lines.ensures i)) h.drives in
    line_judged no_log.ghosts c.args.machine c.args.image c.args.bytes.now h.last (record {}) c.finish.new.log h.accepted
    c.requires c.in-Err.fault c.offset-offset.result c.line_fault.result f drives
    (written_by_none c.in-Err.fault drives.kept.cause)
    (c.offset-offset.ensures ∙ ap (λ (l : LinesLeft). l.offset) c.new-lines.ensures) c.line_fault.ensures
    (line_same c.line_fault.result f is)

pub returns-in-Ok-finish-clause-ok : goal.returns-in-Ok-finish-clause-ok
returns-in-Ok-finish-clause-ok c =
    let h = c.in-Ok-finish.ensures in
    let same = ap (λ (p : PipelineState). p.machine) c.in-Ok.ensures in
    let run = c.in-Ok-finish.over in
    let drives = at_log no_log.ghosts c.args.machine c.args.image c.args.bytes.now h.last (record {}) c.finish.new.log h.accepted
    c.requires (at_first c.in-Ok.pipeline.machine c.args.image c.new-lines.result) (Ok run.peaks)
    (λ i. at_first (same i) c.args.image (c.new-lines.ensures i)) h.drives in
    let peaks = log_peaks no_log.ghosts c.args.machine c.args.image c.args.bytes.now h.last (record {}) c.finish.new.log
    h.accepted c.requires run.peaks drives in
    h.ok ∙ (λ i. record { machine = same i; image = c.args.image; peaks = peaks i })

pub returns-in-Ok-finish-clause-whole : goal.returns-in-Ok-finish-clause-whole
returns-in-Ok-finish-clause-whole c =
    let h = c.in-Ok-finish.ensures in
    let same = ap (λ (p : PipelineState). p.machine) c.in-Ok.ensures in
    let run = c.in-Ok-finish.over in
    let drives = at_log no_log.ghosts c.args.machine c.args.image c.args.bytes.now h.last (record {}) c.finish.new.log h.accepted
    c.requires (at_first c.in-Ok.pipeline.machine c.args.image c.new-lines.result) (Ok run.peaks)
    (λ i. at_first (same i) c.args.image (c.new-lines.ensures i)) h.drives in
    sym (ap (λ (j : Judgement). j.fault)
    (log_whole no_log.ghosts c.args.machine c.args.image c.args.bytes.now h.last (record {}) c.finish.new.log h.accepted
    c.requires run.peaks drives))
