-- Program order leaves the ranges of memory.
use Rattle.std.proofs.Common.{ap, ◌∙◌}
use Rattle.tss_model.specs.InOrder.{ReferenceState}
use Rattle.tss_inorder.proofs.OrderLemmas.{in_order-ranges}
use Rattle.tss_inorder.proofs.reference.run_in_order.Goals as goal

pub returns-clause-ranges : goal.returns-clause-ranges
returns-clause-ranges c =
    ap (λ (r : ReferenceState). r.memory.ranges) (c.run-ending.ensures.in_order c.args.image.now c.in_ok-flat.ensures.follows)
    ∙ in_order-ranges c.args.image.now c.run-ending.new.flat.limits
