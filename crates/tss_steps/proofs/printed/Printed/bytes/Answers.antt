-- The bytes printed are those of the pieces.
use Rattle.std.proofs.Common.{◌≤◌, length, List, ℕ, sym, ap, subst, ◌∙◌}
use Rattle.tss_model.specs.MainStep.{output_of}
use Rattle.tss_steps.specs.Printing.{PrintedState}
use Rattle.tss_steps.proofs.PrintedLemmas.{output_of-pieces}
use Rattle.tss_steps.proofs.printed.Printed.bytes.Goals as goal

pub returns-clause-bytes : goal.returns-clause-bytes
returns-clause-bytes c =
    c.as_slice.ensures.value
    ∙ sym (output_of-pieces c.self.inside.marks.items c.self.inside.bytes.items 0 c.self.invariant.goes_on)
    ∙ ap (λ (p : PrintedState). output_of p.pieces) c.self.view_is

pub returns-clause-few : goal.returns-clause-few
returns-clause-few c =
    subst (λ (p : PrintedState). length (output_of p.pieces) ≤ p.limit) c.self.view_is
    (subst (λ (xs : List ℕ). length xs ≤ c.self.inside.limit)
    (sym (output_of-pieces c.self.inside.marks.items c.self.inside.bytes.items 0 c.self.invariant.goes_on)) c.self.invariant.few)
