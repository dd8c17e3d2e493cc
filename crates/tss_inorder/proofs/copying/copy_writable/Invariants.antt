-- The ranges before a place have been copied.
use Rattle.std.proofs.Common.{◌≡◌, ◌≤◌, ◌-◌, length, drop}
use Rattle.std.specs.Prelude.{fold}
use Rattle.tss_inorder.specs.Restarts.{with_range, with_bytes_of}
use Rattle.tss_inorder.proofs.copying.copy_writable.Given as goal

abbrev pub invariant-loop-range : goal.invariant-loop-range
invariant-loop-range l = record {
  within : l.i ≤ length l.from.ranges;
  copied : fold (with_range l.from) l.space (drop l.i l.from.ranges) ≡ with_bytes_of l.from l.initial.space;
  ranges : l.space.ranges ≡ l.initial.space.ranges;
}

abbrev pub decreases-loop-range : goal.decreases-loop-range
decreases-loop-range l = length l.from.ranges - l.i
