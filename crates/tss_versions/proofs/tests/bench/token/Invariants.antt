-- The pool keeps its number.
use Rattle.std.proofs.Common.{◌≡◌}
use Rattle.tss_versions.proofs.tests.bench.token.Given as goal

abbrev pub invariant-loop-k : goal.invariant-loop-k
invariant-loop-k g l = l.pool.number ≡ l.number
