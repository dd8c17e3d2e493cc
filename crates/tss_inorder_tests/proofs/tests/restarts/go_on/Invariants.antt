-- The machine goes on to follow what it followed.
use Rattle.std.proofs.Common.{◌≡◌}
use Rattle.tss_base.specs.Image.{ImageState}
use Rattle.tss_inorder.specs.Order.{Follows}
use Rattle.tss_inorder_tests.proofs.tests.restarts.go_on.Given as goal

abbrev pub invariant-loop : goal.invariant-loop
invariant-loop l = record {
  limits : l.flat.limits ≡ l.initial.flat.limits;
  follows : (i : ImageState) → Follows i l.initial.flat → Follows i l.flat;
}
