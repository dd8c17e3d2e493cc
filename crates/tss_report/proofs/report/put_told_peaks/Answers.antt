-- There are peaks, and they are put.
use Rattle.std.proofs.Common.{sym, ap}
use Rattle.std.specs.Prelude.{option_map}
use Rattle.tss_protocol.specs.Counts.{sizes_of}
use Rattle.tss_report.specs.Report.{told_peaks}
use Rattle.tss_text.proofs.PieceLemmas.{same_text}
use Rattle.tss_report.proofs.report.put_told_peaks.Goals as goal

pub returns-in-Some : goal.returns-in-Some
returns-in-Some g c =
    same_text (ap (λ o. told_peaks (option_map (λ p. p.now) o) (sizes_of c.args.machine.now)) (sym c.in-Some.is))
    c.put_peaks.ensures
