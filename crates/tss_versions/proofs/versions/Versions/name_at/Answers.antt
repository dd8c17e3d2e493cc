-- The names with places are those of the versions.
use Rattle.std.proofs.Common.{sym, ap, ◌∙◌}
use Rattle.tss_maps.specs.Ordered.{key_at}
use Rattle.tss_versions.proofs.PlacesLemmas.{key_at-versions_at}
use Rattle.tss_versions.proofs.versions.Versions.name_at.Goals as goal

pub returns : goal.returns
returns c =
    c.key_at.ensures
    ∙ sym (key_at-versions_at c.self.inside.seats.entries c.self.inside.index.entries c.args.i)
    ∙ ap (λ s. key_at s.versions c.args.i) c.self.view_is
