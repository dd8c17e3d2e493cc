-- No write changes the ranges.
use Rattle.std.proofs.Common.{◌≡◌}
use Rattle.tss_report.proofs.tests.written.Given as goal

abbrev pub invariant-loop-at : goal.invariant-loop-at
invariant-loop-at g l = l.space.ranges ≡ l.initial.space.ranges
