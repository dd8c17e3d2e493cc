-- A version is registered where its name has a place.
use Rattle.std.proofs.Common.{sym, ap, ◌∙◌}
use Rattle.std.specs.Prelude.{is_some}
use Rattle.std.specs.FinMap.{get}
use Rattle.tss_versions.proofs.PlacesLemmas.{has-versions_at}
use Rattle.tss_versions.proofs.versions.Versions.has.Goals as goal

pub returns : goal.returns
returns c =
    c.has.ensures
    ∙ sym (has-versions_at c.self.inside.seats.entries c.self.inside.index.entries c.args.v)
    ∙ ap (λ s. is_some (get s.versions c.args.v)) c.self.view_is
