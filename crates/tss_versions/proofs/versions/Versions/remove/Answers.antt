-- A version less.
use Rattle.std.proofs.Common.{sym, ap, subst, ◌∙◌}
use Rattle.std.specs.FinMap.{get, remove}
use Rattle.std.proofs.lemmas.Option.{none-some}
use Rattle.tss_tables.specs.Table.{TableState}
use Rattle.tss_versions.specs.Known.{VersionsState, IsAt}
use Rattle.tss_versions.specs.Places.{AreVersions, versions_at}
use Rattle.tss_versions.proofs.PlacesLemmas.{at_site, site_read, site_within, are_removed, versions_removed, with_places}
use Rattle.tss_versions.proofs.versions.Versions.remove.Goals as goal

pub remove-requires-2 : goal.remove-requires-2
remove-requires-2 c =
    let at = subst (λ s. IsAt s.versions c.args.at) (sym c.self.view_is) c.requires in
    site_within c.self.inside.seats c.self.inside.index c.self.invariant c.args.at at

pub unreachable-requires : goal.unreachable-requires
unreachable-requires c =
    let at = subst (λ s. IsAt s.versions c.args.at) (sym c.self.view_is) c.requires in
    none-some _ (c.in-None.ensures.exact ∙ at_site c.self.inside.seats c.self.inside.index c.self.invariant c.args.at at)

pub invariant_of-self : goal.invariant_of-self
invariant_of-self c =
    let at = subst (λ s. IsAt s.versions c.args.at) (sym c.self.view_is) c.requires in
    subst (AreVersions c.remove-2.new.self) (sym c.remove.ensures.others)
    (subst (λ (t : TableState _ _). AreVersions t (with_places c.self.inside.index (remove c.self.inside.index.entries c.args.at.name)))
    (sym c.remove-2.ensures.others)
    (are_removed c.self.inside.seats c.self.inside.index c.self.invariant c.args.at c.in-Some.seat at (sym c.in-Some.ensures.exact)))

pub returns-clause-exact : goal.returns-clause-exact
returns-clause-exact c =
    let at = subst (λ s. IsAt s.versions c.args.at) (sym c.self.view_is) c.requires in
    ap (λ s. get s.versions c.args.at.name) (sym c.self.view_is)
    ∙ site_read c.self.inside.seats c.self.inside.index c.self.invariant c.args.at c.in-Some.seat at (sym c.in-Some.ensures.exact)

pub returns-clause-others : goal.returns-clause-others
returns-clause-others c =
    let at = subst (λ s. IsAt s.versions c.args.at) (sym c.self.view_is) c.requires in
    (λ i. record {
      size = (c.remove-2.ensures.others i).size;
      versions = versions_at (c.remove-2.ensures.others i).entries (c.remove.ensures.others i).entries;
    })
    ∙ ap (λ m. record { size = c.self.inside.seats.size; versions = m })
    (versions_removed c.self.inside.seats c.self.inside.index c.self.invariant c.args.at c.in-Some.seat at (sym c.in-Some.ensures.exact))
    ∙ ap (λ (s : VersionsState). record s { versions = remove s.versions c.args.at.name }) c.self.view_is
