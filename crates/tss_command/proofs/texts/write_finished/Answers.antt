-- The parts of the report are those of the run.
use Rattle.std.proofs.Common.{Some, sym, ◌∙◌, subst}
use Rattle.tss_model.specs.InOrder.{in_order}
use Rattle.tss_model.specs.Memory.{loaded}
use Rattle.tss_protocol.specs.Counts.{sizes_of}
use Rattle.tss_report.specs.Peaks.{HasRanges}
use Rattle.tss_report.specs.Report.{report_text}
use Rattle.tss_text.proofs.PieceLemmas.{same_written}
use Rattle.tss_command.proofs.ReportLemmas.{has_ranges, same_report}
use Rattle.tss_command.proofs.texts.write_finished.Goals as goal

pub returns : goal.returns
returns g c =
    let run = c.args.run.now in
    let r = in_order run.image run.machine.limits in
    same_written
    ((λ i. report_text (record { ending = c.ending.result; tasks = c.tasks.result; output = c.output.result.now; memory = c.space.result.now }) (loaded (c.image.ensures i)) (Some (c.peaks.ensures i)) (sizes_of (c.machine.ensures.exact i)))
    ∙ same_report r c.ending.result c.tasks.result c.output.result.now c.space.result.now (loaded run.image) (Some run.peaks) (sizes_of run.machine)
    c.ending.ensures c.tasks.ensures c.output.ensures c.space.ensures.memory)
    c.write_report.ensures

pub write_report-requires-clause-machine : goal.write_report-requires-clause-machine
write_report-requires-clause-machine g c = λ _. subst HasRanges (sym c.machine.ensures.exact) (has_ranges c.args.run.now.machine c.machine.ensures.admissible)
