-- A version known as something else, at the same place.
use Rattle.std.proofs.Common.{◌≡◌, refl, sym, ap, subst, ◌∙◌}
use Rattle.std.specs.FinMap.{get, insert}
use Rattle.std.proofs.lemmas.Option.{none-some, same_Some}
use Rattle.tss_versions.specs.Known.{VersionsState, IsAt, HaveSites}
use Rattle.tss_versions.specs.Rows.{with_status}
use Rattle.tss_versions.proofs.PlacesLemmas.{at_site, site_read, are_written, versions_written}
use Rattle.tss_versions.proofs.versions.Versions.write.Goals as goal

pub unreachable-requires : goal.unreachable-requires
unreachable-requires c =
    let at = subst (λ s. IsAt s.versions c.args.at) (sym c.self.view_is) c.requires.at in
    none-some _ (c.in-None.ensures.value ∙ at_site c.self.inside.seats c.self.inside.index c.self.invariant c.args.at at)

pub invariant_of-self : goal.invariant_of-self
invariant_of-self c =
    let at = subst (λ s. IsAt s.versions c.args.at) (sym c.self.view_is) c.requires.at in
    are_written c.self.inside.seats c.self.inside.index c.self.invariant c.args.at c.in-Some.seat.now at
    (sym c.in-Some.ensures.value) (with_status c.in-Some.seat.now.kept c.args.status) refl
    (subst (λ s. HaveSites s.versions c.args.status) (sym c.self.view_is) c.requires.sites)

pub returns : goal.returns
returns c = λ x ex.
    let at = subst (λ s. IsAt s.versions c.args.at) (sym c.self.view_is) c.requires.at in
    let there = site_read c.self.inside.seats c.self.inside.index c.self.invariant c.args.at c.in-Some.seat.now at (sym c.in-Some.ensures.value) in
    let same : c.in-Some.seat.now.kept ≡ x = same_Some _ _ (sym there ∙ ap (λ s. get s.versions c.args.at.name) c.self.view_is ∙ ex) in
    ap (λ m. record { size = c.self.inside.seats.size; versions = m })
    (versions_written c.self.inside.seats c.self.inside.index c.self.invariant c.args.at c.in-Some.seat.now at
    (sym c.in-Some.ensures.value) (with_status c.in-Some.seat.now.kept c.args.status) refl)
    ∙ ap (λ (s : VersionsState). record s { versions = insert s.versions c.args.at.name (with_status c.in-Some.seat.now.kept c.args.status) }) c.self.view_is
    ∙ ap (λ k. record (c.args.self.now) { versions = insert c.args.self.now.versions c.args.at.name (with_status k c.args.status) }) same
