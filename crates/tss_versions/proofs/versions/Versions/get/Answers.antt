-- The version stands at its site.
use Rattle.std.proofs.Common.{sym, ap, subst, ◌∙◌}
use Rattle.std.specs.FinMap.{get}
use Rattle.std.proofs.lemmas.Option.{none-some}
use Rattle.tss_versions.specs.Known.{IsAt, HaveSites}
use Rattle.tss_versions.proofs.PlacesLemmas.{at_site, site_read}
use Rattle.tss_versions.proofs.versions.Versions.get.Goals as goal

pub unreachable-requires : goal.unreachable-requires
unreachable-requires c =
    let at = subst (λ s. IsAt s.versions c.args.at) (sym c.self.view_is) c.requires in
    none-some _ (c.in-None.ensures ∙ at_site c.self.inside.seats c.self.inside.index c.self.invariant c.args.at at)

pub returns-clause-exact : goal.returns-clause-exact
returns-clause-exact c =
    let at = subst (λ s. IsAt s.versions c.args.at) (sym c.self.view_is) c.requires in
    ap (λ s. get s.versions c.args.at.name) (sym c.self.view_is)
    ∙ site_read c.self.inside.seats c.self.inside.index c.self.invariant c.args.at c.in-Some.seat.now at (sym (c.in-Some.ensures))

pub returns-clause-sites : goal.returns-clause-sites
returns-clause-sites c =
    let at = subst (λ s. IsAt s.versions c.args.at) (sym c.self.view_is) c.requires in
    subst (λ s. HaveSites s.versions c.in-Some.seat.now.kept.status) c.self.view_is
    (c.self.invariant.sites c.args.at.name c.in-Some.seat.now.kept
    (site_read c.self.inside.seats c.self.inside.index c.self.invariant c.args.at c.in-Some.seat.now at (sym (c.in-Some.ensures))))
