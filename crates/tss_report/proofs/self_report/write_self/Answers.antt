-- The report is put into a writer that keeps nothing yet, and then what is kept is written.
use Rattle.std.proofs.Common.{◌≡◌, subst, rules}
use Rattle.tss_protocol.specs.Counts.{sizes_of}
use Rattle.tss_text.specs.Pieces.{Writes}
use Rattle.tss_report.specs.SelfReport.{self_text}
use Rattle.tss_text.proofs.PieceLemmas.{part_put, whole_put}
use Rattle.tss_report.proofs.self_report.write_self.Goals as goal

pub returns-in_err-put_self : goal.returns-in_err-put_self
returns-in_err-put_self g c =
    let a = c.args in
    let text = self_text a.n a.mul a.ending.now a.tasks a.output.now a.sum.now a.peaks.now (sizes_of a.machine.now) in
    let last : c.put_self.new.to.out.now ≡ c.in_err-put_self.out-1-own.given.0 = search rules in
    subst (λ out. Writes g.K.Sink c.args.out.now out c.from_residual.result text) last
    (part_put text c.new-to.ensures.sink c.new-to.ensures.kept c.in_err-put_self.ensures.text c.from_residual.ensures.0)

pub returns : goal.returns
returns g c =
    let a = c.args in
    let text = self_text a.n a.mul a.ending.now a.tasks a.output.now a.sum.now a.peaks.now (sizes_of a.machine.now) in
    let last : c.flush.new.self.out.now ≡ c.out-2-1.given.0 = search rules in
    subst (λ out. Writes g.K.Sink c.args.out.now out c.flush.result text) last
    (whole_put text c.new-to.ensures.sink c.new-to.ensures.kept c.in_ok-put_self.ensures.text c.flush.ensures.nothing_put
    c.flush.ensures.nothing_kept)
