-- A version more, at its place.
use Rattle.std.proofs.Common.{◌<◌, sym, ap, subst, ◌∙◌}
use Rattle.std.specs.FinMap.{get, insert}
use Rattle.tss_tables.specs.Table.{TableState}
use Rattle.tss_versions.specs.Known.{VersionsState, HaveSites}
use Rattle.tss_versions.specs.Places.{versions_at, AreVersions}
use Rattle.tss_versions.specs.Conditions.{IsFree, IsUnnamed}
use Rattle.tss_versions.proofs.PlacesLemmas.{seat_free, name_free, versions_added, are_added, index_room, with_places}
use Rattle.tss_versions.proofs.versions.Versions.add.Goals as goal

pub add-requires-clause-room : goal.add-requires-clause-room
add-requires-clause-room c =
    let v = sym c.self.view_is in
    index_room c.self.inside.seats c.self.inside.index c.self.invariant c.args.v c.args.kept
    (ap (λ s. get s.versions c.args.v) c.self.view_is ∙ c.requires.fresh)
    (subst (λ s. IsFree s.versions c.args.kept.place.place) v c.requires.free)
    (subst (λ s. c.args.kept.place.place < s.size) v c.requires.within)

pub add-requires-clause-fresh : goal.add-requires-clause-fresh
add-requires-clause-fresh c =
    name_free c.self.inside.seats c.self.inside.index c.self.invariant c.args.v c.args.kept
    (ap (λ s. get s.versions c.args.v) c.self.view_is ∙ c.requires.fresh)
    (subst (λ s. IsFree s.versions c.args.kept.place.place) (sym c.self.view_is) c.requires.free)

pub add-requires-2-clause-within : goal.add-requires-2-clause-within
add-requires-2-clause-within c =
    subst (λ p. p < c.self.inside.seats.size) (sym c.place-place.ensures)
    (subst (λ s. c.args.kept.place.place < s.size) (sym c.self.view_is) c.requires.within)

pub add-requires-2-clause-free : goal.add-requires-2-clause-free
add-requires-2-clause-free c =
    ap (get c.self.inside.seats.entries) c.place-place.ensures
    ∙ seat_free c.self.inside.seats c.self.inside.index c.self.invariant c.args.v c.args.kept
    (ap (λ s. get s.versions c.args.v) c.self.view_is ∙ c.requires.fresh)
    (subst (λ s. IsFree s.versions c.args.kept.place.place) (sym c.self.view_is) c.requires.free)

pub invariant_of-self : goal.invariant_of-self
invariant_of-self c =
    let v = sym c.self.view_is in
    let p = sym c.place-place.ensures in
    subst (AreVersions c.add-2.new.self) (ap (λ p. with_places c.self.inside.index (insert c.self.inside.index.entries c.args.v p)) p ∙ sym c.add.ensures)
    (subst (λ (t : TableState _ _). AreVersions t (with_places c.self.inside.index (insert c.self.inside.index.entries c.args.v c.args.kept.place.place)))
    (ap (λ p. with_places c.self.inside.seats (insert c.self.inside.seats.entries p (record { name = c.args.v; kept = c.args.kept }))) p ∙ sym c.add-2.ensures)
    (are_added c.self.inside.seats c.self.inside.index c.self.invariant c.args.v c.args.kept
    (ap (λ s. get s.versions c.args.v) c.self.view_is ∙ c.requires.fresh)
    (subst (λ s. IsFree s.versions c.args.kept.place.place) v c.requires.free)
    (subst (λ s. c.args.kept.place.place < s.size) v c.requires.within)
    (subst (λ s. IsUnnamed s.versions c.args.v) v c.requires.unnamed)
    (subst (λ s. HaveSites (insert s.versions c.args.v c.args.kept) c.args.kept.status) v c.requires.sites)))

pub returns : goal.returns
returns c =
    let p = c.place-place.ensures in
    let seats = c.add-2.ensures ∙ ap (λ p. with_places c.self.inside.seats (insert c.self.inside.seats.entries p (record { name = c.args.v; kept = c.args.kept }))) p in
    let index = c.add.ensures ∙ ap (λ p. with_places c.self.inside.index (insert c.self.inside.index.entries c.args.v p)) p in
    (λ i. record { size = (seats i).size; versions = versions_at (seats i).entries (index i).entries })
    ∙ ap (λ m. record { size = c.self.inside.seats.size; versions = m })
    (versions_added c.self.inside.seats c.self.inside.index c.self.invariant c.args.v c.args.kept
    (ap (λ s. get s.versions c.args.v) c.self.view_is ∙ c.requires.fresh)
    (subst (λ s. IsFree s.versions c.args.kept.place.place) (sym c.self.view_is) c.requires.free))
    ∙ ap (λ (s : VersionsState). record s { versions = insert s.versions c.args.v c.args.kept }) c.self.view_is
