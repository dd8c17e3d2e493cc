-- Each part goes out after those before it.
use Rattle.std.proofs.Common.{◌++◌, refl}
use Rattle.std.specs.Prelude.{option_map}
use Rattle.tss_model.specs.Memory.{loaded}
use Rattle.tss_protocol.specs.Counts.{sizes_of}
use Rattle.tss_report.specs.Report.{summary_text, memory_text, told_peaks}
use Rattle.tss_text.proofs.PieceLemmas.{none_put, more_put, failed_put, last_put}
use Rattle.tss_report.proofs.report.put_report.Goals as goal

pub returns-in_err-put_summary : goal.returns-in_err-put_summary
returns-in_err-put_summary g c =
    let a = c.args in
    let summary = summary_text a.ending.now a.tasks a.output.now in
    let memory = memory_text a.ending.now (loaded a.image.now) a.space.now in
    let peaks = told_peaks (option_map (λ p. p.now) a.peaks) (sizes_of a.machine.now) in
    let text = summary ++ (memory ++ peaks) in
    let put = failed_put (none_put g.K.Sink a.to.now text text refl) summary (memory ++ peaks) refl
    c.in_err-put_summary.ensures c.from_residual.ensures.0 in
    record { text = put; same_sink = put.same_sink }

pub returns-in_err-put_memory : goal.returns-in_err-put_memory
returns-in_err-put_memory g c =
    let a = c.args in
    let summary = summary_text a.ending.now a.tasks a.output.now in
    let memory = memory_text a.ending.now (loaded a.image.now) a.space.now in
    let peaks = told_peaks (option_map (λ p. p.now) a.peaks) (sizes_of a.machine.now) in
    let text = summary ++ (memory ++ peaks) in
    let put = failed_put
    (more_put (none_put g.K.Sink a.to.now text text refl) summary (memory ++ peaks) refl c.in_ok-put_summary.ensures)
    memory peaks refl c.in_err-put_memory.ensures c.from_residual-in_err-put_memory.ensures.0 in
    record { text = put; same_sink = put.same_sink }

pub returns : goal.returns
returns g c =
    let a = c.args in
    let summary = summary_text a.ending.now a.tasks a.output.now in
    let memory = memory_text a.ending.now (loaded a.image.now) a.space.now in
    let peaks = told_peaks (option_map (λ p. p.now) a.peaks) (sizes_of a.machine.now) in
    let text = summary ++ (memory ++ peaks) in
    let put = last_put
    (more_put
    (more_put (none_put g.K.Sink a.to.now text text refl) summary (memory ++ peaks) refl c.in_ok-put_summary.ensures)
    memory peaks refl c.in_ok-put_memory.ensures)
    c.put_told_peaks.ensures in
    record { text = put; same_sink = put.same_sink }
