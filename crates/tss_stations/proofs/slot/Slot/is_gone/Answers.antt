-- What is known of each operand says that it has left.
use Rattle.std.proofs.Common.{sym, ap, ◌∙◌}
use Rattle.std.specs.Prelude.{map, ◌&&◌}
use Rattle.std.specs.List.{list_all}
use Rattle.std.proofs.lemmas.List.Folds.{list_all-map}
use Rattle.tss_protocol.specs.State.{OperandState}
use Rattle.tss_protocol.specs.Stations.{has_left, has_finished}
use Rattle.tss_stations.specs.Views.{state_of, views_of}
use Rattle.tss_stations.proofs.slot.Slot.is_gone.Goals as goal

pub returns-in-Finished : goal.returns-in-Finished
returns-in-Finished c =
    c.all_left.ensures
    ∙ ap (list_all (λ r. has_left r.farewell)) c.known.ensures
    ∙ sym (list_all-map (λ (r : OperandState). has_left r.farewell) state_of (views_of c.args.self.now))
    ∙ sym (ap (λ s. has_finished s && list_all (λ (r : OperandState). has_left r.farewell) (map state_of (views_of c.args.self.now))) c.in-Finished.is)
