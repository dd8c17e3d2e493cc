-- What the run tells is what the report has.
use Rattle.std.proofs.Common.{sym, subst}
use Rattle.tss_self.specs.SelfAnswer.{SelfWork, self_report}
use Rattle.tss_text.proofs.PieceLemmas.{same_written}
use Rattle.tss_report.specs.Peaks.{HasRanges}
use Rattle.tss_text.specs.Pieces.{Writes}
use Rattle.tss_self.proofs.ReportLemmas.{has_ranges, report_is}
use Rattle.tss_self.proofs.run.SelfRun.write.Goals as goal

pub write_self-requires : goal.write_self-requires
write_self-requires g c =
    subst HasRanges (sym c.machine.ensures.exact) (has_ranges c.self.inside.run.machine c.machine.ensures.admissible)

pub returns : goal.returns
returns g c =
    let run = c.self.inside.run in
    let work : SelfWork = record { n = c.self.inside.n; form = c.self.inside.form } in
    let text = report_is run work c.has_products.result c.ending.result c.tasks.result c.output.result.now c.digest.result
    c.space.result.now c.peaks.result.now c.machine.result.now c.self.invariant c.has_products.ensures c.ending.ensures
    c.tasks.ensures c.output.ensures c.digest.ensures c.space.ensures.memory c.peaks.ensures c.machine.ensures.exact in
    subst (λ w. Writes g.K.Sink c.args.out.now c.write_self.new.out c.write_self.result (self_report w)) c.self.view_is
    (same_written text c.write_self.ensures)
