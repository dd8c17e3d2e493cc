-- The counts before this one were put.
use Rattle.tss_report.specs.Peaks.{counts_text}
use Rattle.tss_text.proofs.PieceLemmas.{HasPut}
use Rattle.tss_report.proofs.PeakLemmas.{counts_from}
use Rattle.tss_report.proofs.peaks.put_counts.Given as goal

abbrev pub invariant-loop-count : goal.invariant-loop-count
invariant-loop-count g l =
    HasPut g.K.Sink l.initial.to l.to (counts_text l.peaks l.sizes) (counts_from l.peaks l.sizes l.count-index)
