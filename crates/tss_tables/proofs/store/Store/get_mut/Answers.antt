-- What stands at the place of a row, lent.
use Rattle.std.proofs.Common.{inr, ap, ◌∙◌, sym}
use Rattle.std.specs.FinMap.{insert}
use Rattle.tss_tables.specs.Store.{stored_of}
use Rattle.tss_tables.proofs.RowsLemmas.{lends_alike}
use Rattle.tss_tables.proofs.PickedLemmas.{at_place}
use Rattle.tss_tables.proofs.StoreLemmas.{sorted-seen, find-seen, AreStored-written, written-seen}
use Rattle.tss_tables.proofs.store.Store.get_mut.Goals as goal

pub get-requires : goal.get-requires
get-requires g c =
    sorted-seen c.self.inside.index c.self.inside.seats _ c.self.view_is c.self.invariant.held g.K.Ord.cmp c.requires

pub invariant_of-self-lent : goal.invariant_of-self-lent
invariant_of-self-lent g c w = (
  λ v. AreStored-written g.met.K.Ord.total c.self.inside.index c.self.inside.seats c.self.inside.free c.self.invariant
      c.args.key.now c.in-Some.place v (sym c.get.ensures ∙ c.in-Some.is),
  c.self.invariant,
)

pub returns-in-Some : goal.returns-in-Some
returns-in-Some g c =
    let index = c.self.inside.index in
    let seats = c.self.inside.seats in
    let held = c.self.invariant.held in
    let sorted = sorted-seen index seats _ c.self.view_is held g.K.Ord.cmp c.requires in
    let place = c.in-Some.place in
    let value = c.get_mut.ensures.value ∙ ap (at_place seats.entries) (sym c.in-Some.is ∙ c.get.ensures)
    ∙ find-seen index seats _ c.self.view_is held g.K.Ord.cmp c.args.key.now in (
      lends_alike c.get_mut.result
          (λ w. stored_of index (record { size = seats.size; entries = insert seats.entries place w })) _ _ _
          (λ some w. written-seen g.met.K.Ord.total index seats _ c.self.view_is held c.args.key.now place w
          c.self.invariant.apart sorted (sym c.get.ensures ∙ c.in-Some.is))
          c.self.view_is,
      record { writes_back = tt; value = value },
    )

pub returns-in-None : goal.returns-in-None
returns-in-None g c =
    let none = ap (at_place c.self.inside.seats.entries) (sym c.in-None.is ∙ c.get.ensures)
    ∙ find-seen c.self.inside.index c.self.inside.seats _ c.self.view_is c.self.invariant.held g.K.Ord.cmp
    c.args.key.now in
    (ap inr c.self.view_is, record { writes_back = tt; value = none })
