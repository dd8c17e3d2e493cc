-- The parts of the report are those of the execution.
use Rattle.std.proofs.Common.{None}
use Rattle.tss_model.specs.Memory.{loaded}
use Rattle.tss_protocol.specs.Counts.{sizes_of}
use Rattle.tss_report.specs.Report.{report_text}
use Rattle.tss_text.proofs.PieceLemmas.{same_written}
use Rattle.tss_command.proofs.texts.write_run.Goals as goal

pub returns : goal.returns
returns g c =
    let run = c.args.run.now in
    same_written
    (λ i. report_text (record { ending = c.ending.ensures i; tasks = c.tasks.ensures i; output = c.output.ensures i; memory = c.space.ensures i }) (loaded run.image) None (sizes_of run.machine))
    c.write_report.ensures
