-- The peaks go out one after another.
use Rattle.std.proofs.Common.{◌≡◌, ◌+◌, ap, ◌∙◌, arith}
use Rattle.tss_report.specs.Peaks.{peak_text}
use Rattle.tss_text.proofs.PieceLemmas.{none_put, more_put, failed_put, all_put}
use Rattle.tss_report.proofs.PeakLemmas.{counts_from, count_at, all_left, none_left, counts_next}
use Rattle.tss_report.proofs.peaks.put_counts.Goals as goal

pub loop-count-init : goal.loop-count-init
loop-count-init g c = none_put g.K.Sink c.args.to.now _ _ (all_left c.args.peaks.now c.args.sizes.now)

pub returns-in_err-put_peak : goal.returns-in_err-put_peak
returns-in_err-put_peak g c =
    failed_put c.loop-count.invariant
    (peak_text c.args.peaks.now c.args.sizes.now (count_at c.loop-count.count-index))
    (counts_from c.args.peaks.now c.args.sizes.now (c.loop-count.count-index + 1))
    (counts_next c.args.peaks.now c.args.sizes.now c.loop-count.count-index (omega arith))
    c.in_err-put_peak.ensures c.from_residual.ensures.0

pub loop-count-preserved : goal.loop-count-preserved
loop-count-preserved g c =
    more_put c.loop-count.invariant
    (peak_text c.args.peaks.now c.args.sizes.now (count_at c.loop-count.count-index))
    (counts_from c.args.peaks.now c.args.sizes.now (c.loop-count.count-index + 1))
    (counts_next c.args.peaks.now c.args.sizes.now c.loop-count.count-index (omega arith))
    c.in_ok-put_peak.ensures

pub returns : goal.returns
returns g c =
    let end : c.loop-count.count-index ≡ 7 = omega arith in
    all_put c.loop-count.invariant
    (ap (counts_from c.args.peaks.now c.args.sizes.now) end ∙ none_left c.args.peaks.now c.args.sizes.now)
