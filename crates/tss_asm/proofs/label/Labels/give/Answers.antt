use Rattle.std.proofs.Common.{sym, ap, ◌∙◌, None}
use Rattle.std.specs.FinMap.{get, insert}
use Rattle.tss_asm.proofs.LabelLemmas.{get-labels_of, labels_updated}
use Rattle.tss_asm.proofs.label.Labels.give.Goals as goal

pub returns-clause-fresh : goal.returns-clause-fresh
returns-clause-fresh c =
    ap (λ m. get m c.in_ok-number.number) (sym c.self.view_is)
    ∙ get-labels_of c.self.inside.places c.in_ok-number.number ∙ c.in_ok-number.ensures.was_vacant

pub returns-clause-given : goal.returns-clause-given
returns-clause-given c =
    labels_updated c.self.inside.places c.insert.new.self c.in_ok-number.number None c.in_ok-number.ensures.updates
    ∙ ap (λ m. insert m c.in_ok-number.number None) c.self.view_is
