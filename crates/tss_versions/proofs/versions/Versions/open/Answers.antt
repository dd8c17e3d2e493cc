-- No version is registered.
use Rattle.std.proofs.Common.{ap, subst, sym, ◌∙◌}
use Rattle.std.specs.FinMap.{empty}
use Rattle.tss_versions.specs.Places.{AreVersions, versions_at}
use Rattle.tss_versions.proofs.PlacesLemmas.{are_none, versions_none}
use Rattle.tss_versions.proofs.versions.Versions.open.Goals as goal

pub invariant_of-result : goal.invariant_of-result
invariant_of-result c =
    subst (λ s. AreVersions s c.in_ok-index.index) (sym c.in_ok-seats.ensures)
    (subst (AreVersions (record { size = c.args.sizes.now.versions; entries = empty })) (sym c.in_ok-index.ensures)
    (are_none c.args.sizes.now.versions))

pub returns : goal.returns
returns c =
    (λ i. record {
      size = (c.in_ok-seats.ensures i).size;
      versions = versions_at (c.in_ok-seats.ensures i).entries (c.in_ok-index.ensures i).entries;
    })
    ∙ ap (λ m. record { size = c.args.sizes.now.versions; versions = m }) (versions_none empty)
