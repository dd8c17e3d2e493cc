-- Each part goes out after those before it.
use Rattle.std.proofs.Common.{◌++◌, refl}
use Rattle.tss_report.specs.Report.{ending_text, tasks_text, output_text, summary_text}
use Rattle.tss_text.proofs.PieceLemmas.{none_put, more_put, failed_put, last_put}
use Rattle.tss_report.proofs.report.put_summary.Goals as goal

pub returns-in_err-put_ending : goal.returns-in_err-put_ending
returns-in_err-put_ending g c =
    let a = c.args in
    let text = summary_text a.ending.now a.tasks a.output.now in
    failed_put (none_put g.K.Sink a.to.now text text refl) (ending_text a.ending.now)
    (tasks_text a.tasks ++ output_text a.output.now) refl c.in_err-put_ending.ensures c.from_residual.ensures.0

pub returns-in_err-put_tasks : goal.returns-in_err-put_tasks
returns-in_err-put_tasks g c =
    let a = c.args in
    let text = summary_text a.ending.now a.tasks a.output.now in
    failed_put
    (more_put (none_put g.K.Sink a.to.now text text refl) (ending_text a.ending.now)
    (tasks_text a.tasks ++ output_text a.output.now) refl c.in_ok-put_ending.ensures)
    (tasks_text a.tasks) (output_text a.output.now) refl c.in_err-put_tasks.ensures
    c.from_residual-in_err-put_tasks.ensures.0

pub returns : goal.returns
returns g c =
    let a = c.args in
    let text = summary_text a.ending.now a.tasks a.output.now in
    last_put
    (more_put
    (more_put (none_put g.K.Sink a.to.now text text refl) (ending_text a.ending.now)
    (tasks_text a.tasks ++ output_text a.output.now) refl c.in_ok-put_ending.ensures)
    (tasks_text a.tasks) (output_text a.output.now) refl c.in_ok-put_tasks.ensures)
    c.put_output.ensures
