-- The last of the free places takes the value, and its row is put.
use Rattle.std.proofs.Common.{ℕ, sym, ◌∙◌, arith, subst}
use Rattle.std.specs.Ordering.{nat_cmp}
use Rattle.tss_tables.specs.Rows.{RowsState}
use Rattle.tss_tables.specs.Table.{TableState}
use Rattle.tss_tables.specs.Store.{AreFree, AreStored, stored_of}
use Rattle.tss_tables.proofs.FreeLemmas.{AreFree-pop}
use Rattle.tss_tables.proofs.StoreLemmas.{size-seen, length-seen, sorted-seen, fresh-seen, AreStored-added, added-seen}
use Rattle.tss_tables.proofs.store.Store.add.Goals as goal

pub unreachable-requires : goal.unreachable-requires
unreachable-requires g c =
    let rows = length-seen c.self.inside.index c.self.inside.seats _ c.self.view_is c.self.invariant.held in
    let size = size-seen c.self.inside.index c.self.inside.seats _ c.self.view_is c.self.invariant.held in
    omega (arith, rows, size, c.requires.room, c.self.invariant.count, c.in_default.ensures.cases)

pub add-requires-clause-sorted : goal.add-requires-clause-sorted
add-requires-clause-sorted g c =
    sorted-seen c.self.inside.index c.self.inside.seats _ c.self.view_is c.self.invariant.held g.K.Ord.cmp
    c.requires.sorted

pub add-requires-clause-fresh : goal.add-requires-clause-fresh
add-requires-clause-fresh g c =
    fresh-seen c.self.inside.index c.self.inside.seats _ c.self.view_is c.self.invariant.held g.K.Ord.cmp c.args.key
    c.requires.fresh

pub add-requires-2-clause-within : goal.add-requires-2-clause-within
add-requires-2-clause-within g c =
    let popped =
    AreFree-pop c.self.inside.index.size c.self.inside.seats.entries c.pop.new.self.items c.in-Some.place
    (subst (AreFree c.self.inside.index.size c.self.inside.seats.entries) c.in-Some.ensures.items
    c.self.invariant.free)
    in
    omega (arith, popped.1.0, c.self.invariant.size)

pub add-requires-2-clause-free : goal.add-requires-2-clause-free
add-requires-2-clause-free g c =
    let popped =
    AreFree-pop c.self.inside.index.size c.self.inside.seats.entries c.pop.new.self.items c.in-Some.place
    (subst (AreFree c.self.inside.index.size c.self.inside.seats.entries) c.in-Some.ensures.items
    c.self.invariant.free)
    in
    popped.1.1.0

pub invariant_of-self : goal.invariant_of-self
invariant_of-self g c =
    let index = c.self.inside.index in
    let seats = c.self.inside.seats in
    let held = c.self.invariant.held in
    let sorted = sorted-seen index seats _ c.self.view_is held g.K.Ord.cmp c.requires.sorted in
    let fresh = fresh-seen index seats _ c.self.view_is held g.K.Ord.cmp c.args.key c.requires.fresh in
    subst (λ (t : RowsState g.row.K.Denot ℕ × TableState nat_cmp g.row.V.Denot). AreStored t.0 t.1 c.pop.new.self)
    (λ i. (sym c.add.ensures i, sym c.add-2.ensures i))
    (AreStored-added g.met.K.Ord.total index seats c.self.inside.free c.pop.new.self c.self.invariant c.args.key
    c.in-Some.place c.args.value sorted fresh c.in-Some.ensures.items (omega (arith, c.in-Some.ensures.capacity)))

pub returns : goal.returns
returns g c =
    let index = c.self.inside.index in
    let seats = c.self.inside.seats in
    let held = c.self.invariant.held in
    let fresh = fresh-seen index seats _ c.self.view_is held g.K.Ord.cmp c.args.key c.requires.fresh in
    let popped =
    AreFree-pop index.size seats.entries c.pop.new.self.items c.in-Some.place
    (subst (AreFree index.size seats.entries) c.in-Some.ensures.items c.self.invariant.free) in
    (λ i. stored_of (c.add.ensures i) (c.add-2.ensures i))
    ∙ added-seen g.met.K.Ord.total index seats _ c.self.view_is held c.args.key c.in-Some.place c.args.value
    popped.1.1.0 fresh
