-- The messages that are left have tokens of the pools that have ended.
use Rattle.tss_versions.specs.Numbers.{AreSentNumbered}
use Rattle.tss_versions.proofs.tests.bench.are_told.Given as goal

abbrev pub invariant-loop-want : goal.invariant-loop-want
invariant-loop-want g l = AreSentNumbered l.places l.buffers l.sent
