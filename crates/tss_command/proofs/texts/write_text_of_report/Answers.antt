-- The report is that of its run.
use Rattle.std.proofs.Common.{rules, sym, ap}
use Rattle.tss_text.proofs.PieceLemmas.{same_written}
use Rattle.tss_command.specs.Answer.{text_of_report}
use Rattle.tss_command.proofs.texts.write_text_of_report.Goals as goal

pub returns-in-InOrder : goal.returns-in-InOrder
returns-in-InOrder g c = same_written (search rules) c.write_run.ensures

pub returns-in-Ran : goal.returns-in-Ran
returns-in-Ran g c = same_written (ap text_of_report (sym c.in-Ran.is)) c.write_finished.ensures

pub returns-in-Stopped : goal.returns-in-Stopped
returns-in-Stopped g c = same_written (ap text_of_report (sym c.in-Stopped.is)) c.write_state.ensures

pub returns-in-Workload : goal.returns-in-Workload
returns-in-Workload g c = same_written (ap text_of_report (sym c.in-Workload.is)) c.write.ensures
