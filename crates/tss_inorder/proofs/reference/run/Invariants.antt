use Rattle.std.proofs.Common.{◌≡◌, ◌-◌}
use Rattle.tss_base.specs.Image.{ImageState}
use Rattle.tss_inorder.specs.Order.{Follows}
use Rattle.tss_inorder.proofs.reference.run.Given as goal

abbrev pub invariant-loop-ending : goal.invariant-loop-ending
invariant-loop-ending l = record {
  limits : l.flat.limits ≡ l.initial.flat.limits;
  follows : (i : ImageState) → Follows i l.initial.flat → Follows i l.flat;
}

abbrev pub decreases-loop-ending : goal.decreases-loop-ending
decreases-loop-ending l = l.flat.limits.main_budget - l.flat.main.registers.done
