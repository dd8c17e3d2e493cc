-- A name with a place is that of the version there.
use Rattle.std.proofs.Common.{sym, ap, ◌∙◌, option_map}
use Rattle.std.specs.FinMap.{get}
use Rattle.tss_versions.specs.Known.{site_of}
use Rattle.tss_versions.proofs.PlacesLemmas.{found_none, found_some}
use Rattle.tss_versions.proofs.versions.Versions.find.Goals as goal

pub returns-in_err-place : goal.returns-in_err-place
returns-in_err-place c =
    c.from_residual.ensures
    ∙ sym (ap (λ s. option_map (site_of c.args.v) (get s.versions c.args.v)) (sym c.self.view_is)
    ∙ ap (option_map (site_of c.args.v)) (found_none c.self.inside.seats c.self.inside.index c.args.v
    c.get.result c.get.ensures (sym c.copied.ensures ∙ c.in_err-place.was)))

pub returns : goal.returns
returns c =
    sym (ap (λ s. option_map (site_of c.args.v) (get s.versions c.args.v)) (sym c.self.view_is)
    ∙ found_some c.self.inside.seats c.self.inside.index c.self.invariant c.args.v c.in_ok-place.place
    c.get.result c.get.ensures (sym c.copied.ensures ∙ c.in_ok-place.was))
