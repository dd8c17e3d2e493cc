-- The pools have their numbers, and no version has a token.
use Rattle.std.proofs.Common.{ap, ◌∙◌}
use Rattle.tss_versions.specs.Known.{VersionsState}
use Rattle.tss_versions.proofs.EmptyLemmas.{none_numbered}
use Rattle.tss_versions.proofs.tests.bench.Bench.open.Goals as goal

pub invariant_of-result : goal.invariant_of-result
invariant_of-result g c = (
  c.end.ensures ∙ c.pool.ensures,
  (
    c.end-in-Ok.ensures ∙ c.pool-in-Ok.ensures,
    none_numbered c.in-Ok.bank.versions (ap (λ (s : VersionsState). s.versions) c.in-Ok.ensures) 0 1,
  ),
)
