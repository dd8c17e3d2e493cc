-- A value written at the place of its key.
use Rattle.std.proofs.Common.{sym, ap, ◌∙◌, subst}
use Rattle.std.specs.Prelude.{is_some, IsSome}
use Rattle.tss_tables.specs.Store.{AreStored, stored_of}
use Rattle.tss_tables.proofs.PickedLemmas.{at_place}
use Rattle.tss_tables.proofs.StoreLemmas.{sorted-seen, find-seen, AreStored-written, written-seen}
use Rattle.tss_tables.proofs.store.Store.replace.Goals as goal

pub get-requires : goal.get-requires
get-requires g c =
    sorted-seen c.self.inside.index c.self.inside.seats _ c.self.view_is c.self.invariant.held g.K.Ord.cmp
    c.requires.sorted

pub replace-requires : goal.replace-requires
replace-requires g c =
    let found = ap (at_place c.self.inside.seats.entries) (sym c.in-Some.is ∙ c.get.ensures)
    ∙ find-seen c.self.inside.index c.self.inside.seats _ c.self.view_is c.self.invariant.held g.K.Ord.cmp
    c.args.key.now in
    subst IsSome (sym found) c.requires.there

pub invariant_of-self : goal.invariant_of-self
invariant_of-self g c =
    subst (λ seats. AreStored c.self.inside.index seats c.self.inside.free) (sym c.replace.ensures.written)
    (AreStored-written g.met.K.Ord.total c.self.inside.index c.self.inside.seats c.self.inside.free c.self.invariant
    c.args.key.now c.in-Some.place c.args.value (sym c.get.ensures ∙ c.in-Some.is))

pub unreachable-requires : goal.unreachable-requires
unreachable-requires g c =
    let none = ap (at_place c.self.inside.seats.entries) (sym c.in-None.is ∙ c.get.ensures)
    ∙ find-seen c.self.inside.index c.self.inside.seats _ c.self.view_is c.self.invariant.held g.K.Ord.cmp
    c.args.key.now in
    let there = c.requires.there in
    let no = ap is_some none in
    cc

pub returns-clause-old : goal.returns-clause-old
returns-clause-old g c =
    sym (ap (at_place c.self.inside.seats.entries) (sym c.in-Some.is ∙ c.get.ensures)
    ∙ find-seen c.self.inside.index c.self.inside.seats _ c.self.view_is c.self.invariant.held g.K.Ord.cmp
    c.args.key.now)
    ∙ c.replace.ensures.handed_back

pub returns-clause-new : goal.returns-clause-new
returns-clause-new g c =
    let index = c.self.inside.index in
    let seats = c.self.inside.seats in
    let held = c.self.invariant.held in
    let sorted = sorted-seen index seats _ c.self.view_is held g.K.Ord.cmp c.requires.sorted in
    ap (stored_of index) c.replace.ensures.written
    ∙ written-seen g.met.K.Ord.total index seats _ c.self.view_is held c.args.key.now c.in-Some.place c.args.value
    c.self.invariant.apart sorted (sym c.get.ensures ∙ c.in-Some.is)
