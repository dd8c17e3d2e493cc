-- The slot of a task has as many.
use Rattle.std.proofs.Common.{Some, length, option_map, sym, ap, ◌∙◌}
use Rattle.std.specs.FinMap.{get}
use Rattle.tss_stations.specs.declared.slot.Slot.{Slot}
use Rattle.tss_stations.specs.Views.{views_of}
use Rattle.tss_stations.proofs.StateLemmas.{operands-flight_of}
use Rattle.tss_stations.proofs.stations.Stations.operand_count.Goals as goal

pub returns-in-Some : goal.returns-in-Some
returns-in-Some c =
    ap Some c.count.ensures
    ∙ ap (option_map (λ (x : Slot). length (views_of x)))
    (c.in-Some.ensures ∙ ap (λ s. get s.slots c.args.task) c.self.view_is)
    ∙ sym (operands-flight_of c.args.self.now.slots c.args.task)

pub returns-in-None : goal.returns-in-None
returns-in-None c =
    ap (option_map (λ (x : Slot). length (views_of x)))
    (c.in-None.ensures ∙ ap (λ s. get s.slots c.args.task) c.self.view_is)
    ∙ sym (operands-flight_of c.args.self.now.slots c.args.task)
