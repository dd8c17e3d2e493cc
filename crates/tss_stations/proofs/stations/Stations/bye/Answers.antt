-- An operand's farewell, and the slot freed where its task has left.
use Rattle.std.proofs.Common.{ap, sym, ◌∙◌}
use Rattle.tss_stations.specs.Views.{flight_of, view_in}
use Rattle.tss_stations.specs.Slots.{StationsState, slots_after_bye}
use Rattle.tss_stations.proofs.RowLemmas.{bye_flight}
use Rattle.tss_stations.proofs.StateLemmas.{bye_state}
use Rattle.tss_stations.proofs.stations.Stations.bye.Goals as goal

pub returns-clause-exact : goal.returns-clause-exact
returns-clause-exact c =
    let known = ap (λ s. view_in s.slots c.args.o) c.self.view_is ∙ sym c.operand.ensures.exact ∙ c.in-Some.is in
    bye_state c.self.inside.slots c.write.new.self c.settle.new.self c.args.o c.in-Some.operand c.parted.result known c.write.ensures
    c.args.promised c.parted.ensures c.settle.ensures
    ∙ ap (λ (s : StationsState). record s { slots = slots_after_bye s.slots c.args.o c.args.promised }) c.self.view_is

pub returns-clause-flight : goal.returns-clause-flight
returns-clause-flight c =
    ap (λ s. flight_of s.slots) (returns-clause-exact c) ∙ bye_flight c.args.self.now.slots c.args.o c.args.promised
