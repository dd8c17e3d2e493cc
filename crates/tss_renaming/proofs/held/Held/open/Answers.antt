-- No place is held.
use Rattle.std.proofs.Common.{sym, subst}
use Rattle.std.specs.FinMap.{empty}
use Rattle.tss_renaming.specs.Holding.{AreHeld}
use Rattle.tss_renaming.proofs.HoldingLemmas.{held_empty}
use Rattle.tss_renaming.proofs.held.Held.open.Goals as goal

pub invariant_of-result : goal.invariant_of-result
invariant_of-result c =
    subst (AreHeld c.in_ok-open.field-0) (sym c.in_ok-open-2.ensures)
    (subst (λ pool. AreHeld pool (record { size = c.args.size; entries = empty })) (sym c.in_ok-open.ensures)
    (held_empty c.args.number c.args.size))
