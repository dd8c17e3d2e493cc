-- A task that has finished, and the slot freed where it has left.
use Rattle.std.proofs.Common.{ap, sym, ◌∙◌}
use Rattle.std.specs.FinMap.{get}
use Rattle.tss_stations.specs.Views.{flight_of}
use Rattle.tss_stations.specs.Slots.{StationsState, slots_after_finish}
use Rattle.tss_stations.proofs.RowLemmas.{finish_flight}
use Rattle.tss_stations.proofs.StateLemmas.{slot_there, slot_absent, finish_state, finish_absent}
use Rattle.tss_stations.proofs.stations.Stations.finish.Goals as goal

pub returns-then-is_some-clause-exact : goal.returns-then-is_some-clause-exact
returns-then-is_some-clause-exact c =
    let f = slot_there c.get.result (get c.self.inside.slots.slots c.args.task) c.get.ensures (sym c.is_some.ensures ∙ c.if-is_some.true) in
    finish_state c.self.inside.slots c.advance.new.self c.settle.new.self c.args.task f.0 f.1 c.advance.ensures c.settle.ensures
    ∙ ap (λ (s : StationsState). record s { slots = slots_after_finish s.slots c.args.task }) c.self.view_is

pub returns-then-is_some-clause-flight : goal.returns-then-is_some-clause-flight
returns-then-is_some-clause-flight c =
    ap (λ s. flight_of s.slots) (returns-then-is_some-clause-exact c) ∙ finish_flight c.args.self.now.slots c.args.task

pub returns-else-is_some-clause-exact : goal.returns-else-is_some-clause-exact
returns-else-is_some-clause-exact c =
    let e = slot_absent c.get.result (get c.self.inside.slots.slots c.args.task) c.get.ensures (sym c.is_some.ensures ∙ c.if-is_some.false) in
    sym c.self.view_is ∙ finish_absent c.self.inside.slots c.self.inside.slots c.args.task e
    ∙ ap (λ (s : StationsState). record s { slots = slots_after_finish s.slots c.args.task }) c.self.view_is

pub returns-else-is_some-clause-flight : goal.returns-else-is_some-clause-flight
returns-else-is_some-clause-flight c =
    ap (λ s. flight_of s.slots) (returns-else-is_some-clause-exact c) ∙ finish_flight c.args.self.now.slots c.args.task
