use Rattle.std.proofs.Common.{◌≡◌, ◌≤◌, length, drop}
use Rattle.tss_model.specs.TaskRun.{zeroed_outputs}
use Rattle.tss_inorder.proofs.running.zero_outputs.Given as goal

abbrev pub invariant-loop-i : goal.invariant-loop-i
invariant-loop-i l = record {
  within : l.i ≤ length l.operands;
  zeroed : l.space ≡ zeroed_outputs l.initial.space (drop l.i l.operands);
  ranges : l.space.ranges ≡ l.initial.space.ranges;
}

abbrev pub decreases-loop-i : goal.decreases-loop-i
decreases-loop-i l = l.i
