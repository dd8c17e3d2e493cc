-- The versions so far are settled between their neighbours.
use Rattle.std.proofs.Common.{◌≡◌, ◌<◌, ℕ, Some}
use Rattle.tss_base.specs.declared.operand.OpName.{OpName}
use Rattle.tss_maps.specs.Ordered.{key_at}
use Rattle.tss_versions.specs.Known.{versions_of}
use Rattle.tss_versions.specs.Conditions.{IsChainedAt}
use Rattle.tss_versions.proofs.tests.checks.is_chained.Given as goal

abbrev pub invariant-loop-i : goal.invariant-loop-i
invariant-loop-i l =
    (j : ℕ) (v : OpName) → j < l.i → key_at l.bank.versions j ≡ Some v → IsChainedAt (versions_of l.bank.versions) v
