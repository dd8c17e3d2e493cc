-- What stands at the place of a row.
use Rattle.std.proofs.Common.{ap, ◌∙◌, sym}
use Rattle.tss_tables.proofs.PickedLemmas.{at_place}
use Rattle.tss_tables.proofs.StoreLemmas.{sorted-seen, find-seen}
use Rattle.tss_tables.proofs.store.Store.get.Goals as goal

pub get-requires : goal.get-requires
get-requires g c =
    sorted-seen c.self.inside.index c.self.inside.seats _ c.self.view_is c.self.invariant.held g.K.Ord.cmp c.requires

pub returns-in-Some : goal.returns-in-Some
returns-in-Some g c =
    c.get-in-Some.ensures
    ∙ ap (at_place c.self.inside.seats.entries) (sym c.in-Some.is ∙ c.get.ensures)
    ∙ find-seen c.self.inside.index c.self.inside.seats _ c.self.view_is c.self.invariant.held g.K.Ord.cmp
    c.args.key.now

pub returns-in-None : goal.returns-in-None
returns-in-None g c =
    ap (at_place c.self.inside.seats.entries) (sym c.in-None.is ∙ c.get.ensures)
    ∙ find-seen c.self.inside.index c.self.inside.seats _ c.self.view_is c.self.invariant.held g.K.Ord.cmp
    c.args.key.now
