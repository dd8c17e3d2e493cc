-- The names with places are those of the versions.
use Rattle.std.proofs.Common.{sym, ap, ◌∙◌}
use Rattle.tss_base.specs.Names.{name_cmp}
use Rattle.tss_maps.specs.Ordered.{least_above}
use Rattle.tss_versions.proofs.PlacesLemmas.{least_above-versions_at}
use Rattle.tss_versions.proofs.versions.Versions.name_after.Goals as goal

pub returns : goal.returns
returns c =
    c.next_after.ensures
    ∙ sym (least_above-versions_at c.self.inside.seats.entries c.self.inside.index.entries c.args.v)
    ∙ ap (λ s. least_above name_cmp s.versions c.args.v) c.self.view_is
