-- A free place is taken.
use Rattle.std.proofs.Common.{◌∙◌, ap, sym, subst}
use Rattle.std.specs.FinMap.{get, insert}
use Rattle.tss_renaming.specs.Holding.{AreHeld, HeldState}
use Rattle.tss_renaming.proofs.HoldingLemmas.{held_taken}
use Rattle.tss_renaming.proofs.held.Held.take.Goals as goal

pub invariant_of-self : goal.invariant_of-self
invariant_of-self c =
    let names = c.self.inside.names in
    let took = c.in-Some.ensures.taken in
    subst (AreHeld c.take.new.self)
    (sym (c.add.ensures ∙ ap (λ p. record names { entries = insert names.entries c.args.name p }) c.place.ensures))
    (subst (λ pool. AreHeld pool (record names { entries = insert names.entries c.args.name c.in-Some.token.place }))
    (sym took.out)
    (held_taken c.self.inside.pool names c.self.invariant c.args.name c.in-Some.token.place took.in_range took.was_free
    (ap (λ (h : HeldState). get h.places c.args.name) c.self.view_is ∙ c.requires.fresh)))
