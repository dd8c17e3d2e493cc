-- The report is put into a writer that keeps nothing yet, and then what is kept is written.
use Rattle.std.proofs.Common.{◌≡◌, subst, rules}
use Rattle.std.specs.Prelude.{option_map}
use Rattle.tss_model.specs.Memory.{loaded}
use Rattle.tss_protocol.specs.Counts.{sizes_of}
use Rattle.tss_text.specs.Pieces.{Writes}
use Rattle.tss_report.specs.Report.{report_text}
use Rattle.tss_text.proofs.PieceLemmas.{part_put, whole_put}
use Rattle.tss_report.proofs.report.write_report.Goals as goal

pub returns-in_err-put_report : goal.returns-in_err-put_report
returns-in_err-put_report g c =
    let a = c.args in
    let text = report_text (record { ending = a.ending.now; tasks = a.tasks; output = a.output.now; memory = a.space.now })
    (loaded a.image.now) (option_map (λ p. p.now) a.peaks) (sizes_of a.machine.now) in
    let last : c.put_report.new.to.out.now ≡ c.in_err-put_report.out-1-own.given.0 = search rules in
    subst (λ out. Writes g.K.Sink c.args.out.now out c.from_residual.result text) last
    (part_put text c.new-to.ensures.sink c.new-to.ensures.kept c.in_err-put_report.ensures.text c.from_residual.ensures.0)

pub returns : goal.returns
returns g c =
    let a = c.args in
    let text = report_text (record { ending = a.ending.now; tasks = a.tasks; output = a.output.now; memory = a.space.now })
    (loaded a.image.now) (option_map (λ p. p.now) a.peaks) (sizes_of a.machine.now) in
    let last : c.flush.new.self.out.now ≡ c.out-2-1.given.0 = search rules in
    subst (λ out. Writes g.K.Sink c.args.out.now out c.flush.result text) last
    (whole_put text c.new-to.ensures.sink c.new-to.ensures.kept c.in_ok-put_report.ensures.text c.flush.ensures.nothing_put
    c.flush.ensures.nothing_kept)
