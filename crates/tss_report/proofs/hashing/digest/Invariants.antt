-- The hasher holds the bytes of the ranges before this one.
use Rattle.std.proofs.Common.{◌-◌, length}
use Rattle.tss_report.proofs.DigestLemmas.{HasHashed}
use Rattle.tss_report.proofs.hashing.digest.Given as goal

abbrev pub invariant-loop-range : goal.invariant-loop-range
invariant-loop-range l = HasHashed l.hasher l.space l.i

abbrev pub decreases-loop-range : goal.decreases-loop-range
decreases-loop-range l = length l.space.ranges - l.i
