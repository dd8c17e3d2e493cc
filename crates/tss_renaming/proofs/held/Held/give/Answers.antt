-- The place of a name is given back.
use Rattle.std.proofs.Common.{◌∙◌, ap, sym, subst}
use Rattle.std.specs.FinMap.{get, remove}
use Rattle.tss_renaming.specs.Holding.{AreHeld, HeldState}
use Rattle.tss_renaming.proofs.HoldingLemmas.{held_given}
use Rattle.tss_renaming.proofs.held.Held.give.Goals as goal

pub invariant_of-self : goal.invariant_of-self
invariant_of-self c =
    let names = c.self.inside.names in
    subst (AreHeld c.give.new.self) (sym c.remove.ensures.others)
    (subst (λ pool. AreHeld pool (record names { entries = remove names.entries c.args.name })) (sym c.give.ensures)
    (held_given c.self.inside.pool names c.self.invariant c.args.name c.args.token.place
    (ap (λ (h : HeldState). get h.places c.args.name) c.self.view_is ∙ c.requires.held)))
