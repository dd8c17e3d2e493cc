-- The place of a name is held by no other.
use Rattle.std.proofs.Common.{IfSome, subst, ◌∙◌}
use Rattle.tss_renaming.specs.Holding.{HeldState, HoldsAlone}
use Rattle.tss_renaming.proofs.HoldingLemmas.{held_alone}
use Rattle.tss_renaming.proofs.held.Held.get.Goals as goal

pub returns-clause-alone : goal.returns-clause-alone
returns-clause-alone c =
    subst (λ (h : HeldState). IfSome c.copied.result (HoldsAlone h.places h.size c.args.name)) c.self.view_is
    (held_alone c.self.inside.pool c.self.inside.names c.self.invariant c.args.name c.copied.result
    (c.copied.ensures ∙ c.get.ensures))
