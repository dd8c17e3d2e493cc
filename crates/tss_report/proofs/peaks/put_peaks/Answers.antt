-- The counts go out after the number of events.
use Rattle.std.proofs.Common.{refl, ap}
use Rattle.tss_protocol.specs.Counts.{sizes_of}
use Rattle.tss_report.specs.Peaks.{events_text, counts_text, peaks_text}
use Rattle.tss_text.proofs.PieceLemmas.{none_put, more_put, failed_put, last_put, same_text}
use Rattle.tss_report.proofs.peaks.put_peaks.Goals as goal

pub returns-in_err-put_events : goal.returns-in_err-put_events
returns-in_err-put_events g c =
    let peaks = c.args.peaks.now in
    let text = peaks_text (sizes_of c.args.machine.now) peaks in
    failed_put (none_put g.K.Sink c.args.to.now text text refl) (events_text peaks.events)
    (counts_text peaks.counts (sizes_of c.args.machine.now)) refl c.in_err-put_events.ensures c.from_residual.ensures.0

pub returns : goal.returns
returns g c =
    let peaks = c.args.peaks.now in
    let text = peaks_text (sizes_of c.args.machine.now) peaks in
    last_put
    (more_put (none_put g.K.Sink c.args.to.now text text refl) (events_text peaks.events)
    (counts_text peaks.counts (sizes_of c.args.machine.now)) refl c.in_ok-put_events.ensures)
    (same_text (ap (counts_text peaks.counts) c.sizes_of.ensures) c.put_counts.ensures)
