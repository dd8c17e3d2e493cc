-- Main that has ended stays as it is.
use Rattle.std.proofs.Common.{sym, ap, ◌∙◌}
use Rattle.std.specs.Prelude.{is_some}
use Rattle.tss_steps.specs.Limited.{LimitedMain, flat_of}
use Rattle.tss_steps.proofs.StretchLemmas.{stretch-ended}
use Rattle.tss_steps.proofs.main_state.Main.stretch.Goals as goal

pub returns-then-is_some-clause-exact : goal.returns-then-is_some-clause-exact
returns-then-is_some-clause-exact c =
    sym (stretch-ended c.args.code.now c.args.self.now.limits c.args.most (flat_of c.args.self.now c.args.space.now)
    (ap (λ (m : LimitedMain). is_some (m.main.ending)) (sym c.self.view_is) ∙ sym c.is_some.ensures ∙ c.if-is_some.true))
