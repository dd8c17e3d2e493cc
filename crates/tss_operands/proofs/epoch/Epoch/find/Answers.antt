-- The first object that ends after the base tells.
use Rattle.std.proofs.Common.{sym, subst, option_copied}
use Rattle.tss_operands.specs.Placed.{IsNeighbour}
use Rattle.tss_operands.proofs.UnnamingLemmas.{named_at_none, named_at_some, named_at_other}
use Rattle.tss_operands.proofs.epoch.Epoch.find.Goals as goal

pub returns-in-Some : goal.returns-in-Some
returns-in-Some c =
    sym (named_at_some c.args.self.now.objects c.args.base c.in-Some.named.now c.in-Some.ensures c.if-named-base.true)

pub returns-in_default : goal.returns-in_default
returns-in_default c =
    sym (named_at_other c.args.self.now.objects c.args.base c.in-Some.named.now c.in-Some.ensures c.if-named-base.false)

pub returns-in_default-2 : goal.returns-in_default-2
returns-in_default-2 c =
    let objects = c.args.self.now.objects in
    sym (named_at_none objects c.args.base
    (subst (λ o. IsNeighbour objects c.args.base (option_copied o)) c.in_default.is c.neighbour.ensures))
