-- What the parts of the line would write, and the one spelling.
use Rattle.std.proofs.Common.{false, sym, ap, ◌∙◌}
use Rattle.std.specs.Prelude.{bytes_eq}
use Rattle.tss_protocol.specs.Text.{event_in}
use Rattle.tss_events.proofs.Clipping.{none_read, unfit_read, fit_read, event_of_parts}
use Rattle.tss_events.proofs.text.read_event.Goals as goal

pub returns-in_err-e-clause-exact : goal.returns-in_err-e-clause-exact
returns-in_err-e-clause-exact c =
    c.from_residual.ensures
    ∙ sym (event_of_parts c.args.line.now c.cut_at.result.0.now c.cut_at.result.1.now c.cut_at.ensures.before c.cut_at.ensures.after
    ∙ none_read c.args.line.now (event_in c.cut_at.result.0.now c.cut_at.result.1.now) (sym c.event_in.ensures ∙ c.in_err-e.was))

pub returns-then-not-fits-clause-exact : goal.returns-then-not-fits-clause-exact
returns-then-not-fits-clause-exact c =
    sym (event_of_parts c.args.line.now c.cut_at.result.0.now c.cut_at.result.1.now c.cut_at.ensures.before c.cut_at.ensures.after
    ∙ unfit_read c.args.line.now (event_in c.cut_at.result.0.now c.cut_at.result.1.now) c.in_ok-e.e
    (sym c.event_in.ensures ∙ c.in_ok-e.was) (sym c.if-not-fits.ensures))

pub returns-else-eq-clause-exact : goal.returns-else-eq-clause-exact
returns-else-eq-clause-exact c =
    sym (event_of_parts c.args.line.now c.cut_at.result.0.now c.cut_at.result.1.now c.cut_at.ensures.before c.cut_at.ensures.after
    ∙ fit_read c.args.line.now (event_in c.cut_at.result.0.now c.cut_at.result.1.now) c.in_ok-e.e false
    (sym c.event_in.ensures ∙ c.in_ok-e.was) (sym c.if-not-fits.ensures)
    (ap (λ l. bytes_eq l c.args.line.now) (sym c.event_text-length.ensures.exact) ∙ sym c.if-eq.ensures))
