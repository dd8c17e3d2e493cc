-- The segments so far lie side by side.
use Rattle.std.proofs.Common.{◌≡◌, length}
use Rattle.tss_memory_tests.proofs.StripedLemmas.{AreStriped}
use Rattle.tss_memory_tests.proofs.tests.striped.Given as goal

abbrev pub invariant-loop-k : goal.invariant-loop-k
invariant-loop-k g l = record { count : length l.segments.items ≡ l.k; are : AreStriped l.segments.items l.at }
