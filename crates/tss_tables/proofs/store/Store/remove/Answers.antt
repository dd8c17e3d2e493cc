-- A row taken out with its value, whose place is free.
use Rattle.std.proofs.Common.{ℕ, sym, ap, ◌∙◌, arith, subst}
use Rattle.std.specs.Ordering.{nat_cmp}
use Rattle.tss_tables.specs.Rows.{RowsState}
use Rattle.tss_tables.specs.Table.{TableState}
use Rattle.tss_tables.specs.Store.{AreStored, stored_of}
use Rattle.tss_tables.proofs.PickedLemmas.{at_place, found_there}
use Rattle.tss_tables.proofs.StoreLemmas.{sorted-seen, find-seen, AreStored-removed, removed-seen, without_none, gone-seen}
use Rattle.tss_tables.proofs.store.Store.remove.Goals as goal

pub remove-requires : goal.remove-requires
remove-requires g c =
    sorted-seen c.self.inside.index c.self.inside.seats _ c.self.view_is c.self.invariant.held g.K.Ord.cmp c.requires

pub remove-requires-in-Some : goal.remove-requires-in-Some
remove-requires-in-Some g c =
    let there =
    found_there c.self.inside.seats.entries g.K.Ord.cmp c.args.key.now c.self.inside.index.entries c.in-Some.place
    c.self.invariant.held (sym c.remove.ensures.value ∙ c.in-Some.is) in
    c.self.invariant.within c.in-Some.place there.0 there.1

pub invariant_of-self : goal.invariant_of-self
invariant_of-self g c =
    let index = c.self.inside.index in
    let seats = c.self.inside.seats in
    let sorted = sorted-seen index seats _ c.self.view_is c.self.invariant.held g.K.Ord.cmp c.requires in
    subst (λ (t : RowsState g.row.K.Denot ℕ × TableState nat_cmp g.row.V.Denot). AreStored t.0 t.1 c.push.new.self)
    (λ i. (sym c.remove.ensures.rest i, sym c.remove-in-Some.ensures.others i))
    (AreStored-removed g.met.K.Ord.total index seats c.self.inside.free c.push.new.self c.self.invariant c.args.key.now
    c.in-Some.place sorted (sym c.remove.ensures.value ∙ c.in-Some.is) c.in-Ok.ensures.items
    (omega (arith, c.in-Ok.ensures.capacity)))

pub invariant_of-self-in-None : goal.invariant_of-self-in-None
invariant_of-self-in-None g c =
    let none = sym c.remove.ensures.value ∙ c.in-None.is in
    subst (λ index. AreStored index c.self.inside.seats c.self.inside.free)
    (sym (c.remove.ensures.rest ∙ without_none g.K.Ord.cmp c.self.inside.index c.args.key.now none)) c.self.invariant

pub returns-in-Ok-clause-value : goal.returns-in-Ok-clause-value
returns-in-Ok-clause-value g c =
    c.remove-in-Some.ensures.exact
    ∙ ap (at_place c.self.inside.seats.entries) (sym c.in-Some.is ∙ c.remove.ensures.value)
    ∙ find-seen c.self.inside.index c.self.inside.seats _ c.self.view_is c.self.invariant.held g.K.Ord.cmp
    c.args.key.now

pub returns-in-Ok-clause-rest : goal.returns-in-Ok-clause-rest
returns-in-Ok-clause-rest g c =
    (λ i. stored_of (c.remove.ensures.rest i) (c.remove-in-Some.ensures.others i))
    ∙ removed-seen g.met.K.Ord.total c.self.inside.index c.self.inside.seats _ c.self.view_is c.self.invariant.held
    c.args.key.now c.in-Some.place c.self.invariant.apart (sym c.remove.ensures.value ∙ c.in-Some.is)

pub returns-in-None-clause-value : goal.returns-in-None-clause-value
returns-in-None-clause-value g c =
    ap (at_place c.self.inside.seats.entries) (sym c.in-None.is ∙ c.remove.ensures.value)
    ∙ find-seen c.self.inside.index c.self.inside.seats _ c.self.view_is c.self.invariant.held g.K.Ord.cmp
    c.args.key.now

pub returns-in-None-clause-rest : goal.returns-in-None-clause-rest
returns-in-None-clause-rest g c =
    (λ i. stored_of (c.remove.ensures.rest i) c.self.inside.seats)
    ∙ gone-seen g.met.K.Ord.total c.self.inside.index c.self.inside.seats _ c.self.view_is c.self.invariant.held
    c.args.key.now
