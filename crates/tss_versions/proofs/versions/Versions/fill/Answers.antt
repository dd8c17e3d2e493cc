-- A version with a store, at the same place.
use Rattle.std.proofs.Common.{◌≡◌, refl, sym, ap, subst, ◌∙◌}
use Rattle.std.specs.FinMap.{get, insert}
use Rattle.std.proofs.lemmas.Option.{none-some, same_Some}
use Rattle.tss_versions.specs.Known.{VersionsState, IsAt}
use Rattle.tss_versions.proofs.PlacesLemmas.{at_site, site_read, are_written, versions_written, with_store}
use Rattle.tss_versions.proofs.versions.Versions.fill.Goals as goal

pub unreachable-requires : goal.unreachable-requires
unreachable-requires c =
    let at = subst (λ s. IsAt s.versions c.args.at) (sym c.self.view_is) c.requires.at in
    let there = site_read c.self.inside.seats c.self.inside.index c.self.invariant c.args.at c.in-Some.seat.now at (sym c.in-Some.ensures.value) in
    let bare = c.requires.bare c.in-Some.seat.now.kept (ap (λ s. get s.versions c.args.at.name) (sym c.self.view_is) ∙ there) in
    none-some _ (sym bare ∙ sym c.replace.ensures.value ∙ c.in-Some-replace.is)

pub unreachable-requires-in-None : goal.unreachable-requires-in-None
unreachable-requires-in-None c =
    let at = subst (λ s. IsAt s.versions c.args.at) (sym c.self.view_is) c.requires.at in
    none-some _ (c.in-None.ensures.value ∙ at_site c.self.inside.seats c.self.inside.index c.self.invariant c.args.at at)

pub invariant_of-self : goal.invariant_of-self
invariant_of-self c =
    let at = subst (λ s. IsAt s.versions c.args.at) (sym c.self.view_is) c.requires.at in
    let there = site_read c.self.inside.seats c.self.inside.index c.self.invariant c.args.at c.in-Some.seat.now at (sym c.in-Some.ensures.value) in
    are_written c.self.inside.seats c.self.inside.index c.self.invariant c.args.at c.in-Some.seat.now at
    (sym c.in-Some.ensures.value) (with_store c.in-Some.seat.now.kept c.replace.new.dest) refl
    (c.self.invariant.sites c.args.at.name c.in-Some.seat.now.kept there)

pub returns : goal.returns
returns c = λ x ex.
    let at = subst (λ s. IsAt s.versions c.args.at) (sym c.self.view_is) c.requires.at in
    let there = site_read c.self.inside.seats c.self.inside.index c.self.invariant c.args.at c.in-Some.seat.now at (sym c.in-Some.ensures.value) in
    let same : c.in-Some.seat.now.kept ≡ x = same_Some _ _ (sym there ∙ ap (λ s. get s.versions c.args.at.name) c.self.view_is ∙ ex) in
    ap (λ m. record { size = c.self.inside.seats.size; versions = m })
    (versions_written c.self.inside.seats c.self.inside.index c.self.invariant c.args.at c.in-Some.seat.now at
    (sym c.in-Some.ensures.value) (with_store c.in-Some.seat.now.kept c.replace.new.dest) refl)
    ∙ ap (λ (s : VersionsState). record s { versions = insert s.versions c.args.at.name (with_store c.in-Some.seat.now.kept c.replace.new.dest) }) c.self.view_is
    ∙ (λ i. record (c.args.self.now) { versions = insert c.args.self.now.versions c.args.at.name (with_store (same i) (c.replace.ensures.after i)) })
