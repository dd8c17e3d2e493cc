-- Each part goes out after those before it.
use Rattle.std.proofs.Common.{◌++◌, refl}
use Rattle.tss_protocol.specs.Counts.{sizes_of}
use Rattle.tss_report.specs.Peaks.{peaks_text}
use Rattle.tss_report.specs.Report.{summary_text}
use Rattle.tss_report.specs.SelfReport.{words_text, sum_text}
use Rattle.tss_text.proofs.PieceLemmas.{none_put, more_put, failed_put, last_put}
use Rattle.tss_report.proofs.self_report.put_self.Goals as goal

pub returns-in_err-put_words : goal.returns-in_err-put_words
returns-in_err-put_words g c =
    let a = c.args in
    let words = words_text a.n a.mul in
    let summary = summary_text a.ending.now a.tasks a.output.now in
    let sum = sum_text a.ending.now a.sum.now in
    let peaks = peaks_text (sizes_of a.machine.now) a.peaks.now in
    let text = words ++ (summary ++ (sum ++ peaks)) in
    let put = failed_put (none_put g.K.Sink a.to.now text text refl) words (summary ++ (sum ++ peaks)) refl
    c.in_err-put_words.ensures c.from_residual.ensures.0 in
    record { text = put; same_sink = put.same_sink }

pub returns-in_err-put_summary : goal.returns-in_err-put_summary
returns-in_err-put_summary g c =
    let a = c.args in
    let words = words_text a.n a.mul in
    let summary = summary_text a.ending.now a.tasks a.output.now in
    let sum = sum_text a.ending.now a.sum.now in
    let peaks = peaks_text (sizes_of a.machine.now) a.peaks.now in
    let text = words ++ (summary ++ (sum ++ peaks)) in
    let put = failed_put
    (more_put (none_put g.K.Sink a.to.now text text refl) words (summary ++ (sum ++ peaks)) refl c.in_ok-put_words.ensures)
    summary (sum ++ peaks) refl c.in_err-put_summary.ensures c.from_residual-in_err-put_summary.ensures.0 in
    record { text = put; same_sink = put.same_sink }

pub returns-in_err-put_sum : goal.returns-in_err-put_sum
returns-in_err-put_sum g c =
    let a = c.args in
    let words = words_text a.n a.mul in
    let summary = summary_text a.ending.now a.tasks a.output.now in
    let sum = sum_text a.ending.now a.sum.now in
    let peaks = peaks_text (sizes_of a.machine.now) a.peaks.now in
    let text = words ++ (summary ++ (sum ++ peaks)) in
    let put = failed_put
    (more_put
    (more_put (none_put g.K.Sink a.to.now text text refl) words (summary ++ (sum ++ peaks)) refl c.in_ok-put_words.ensures)
    summary (sum ++ peaks) refl c.in_ok-put_summary.ensures)
    sum peaks refl c.in_err-put_sum.ensures c.from_residual-in_err-put_sum.ensures.0 in
    record { text = put; same_sink = put.same_sink }

pub returns : goal.returns
returns g c =
    let a = c.args in
    let words = words_text a.n a.mul in
    let summary = summary_text a.ending.now a.tasks a.output.now in
    let sum = sum_text a.ending.now a.sum.now in
    let peaks = peaks_text (sizes_of a.machine.now) a.peaks.now in
    let text = words ++ (summary ++ (sum ++ peaks)) in
    let put = last_put
    (more_put
    (more_put
    (more_put (none_put g.K.Sink a.to.now text text refl) words (summary ++ (sum ++ peaks)) refl c.in_ok-put_words.ensures)
    summary (sum ++ peaks) refl c.in_ok-put_summary.ensures)
    sum peaks refl c.in_ok-put_sum.ensures)
    c.put_peaks.ensures in
    record { text = put; same_sink = put.same_sink }
