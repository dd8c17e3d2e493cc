-- What is known of each operand says that it is ready.
use Rattle.std.proofs.Common.{sym, ap, ◌∙◌}
use Rattle.std.specs.List.{list_all}
use Rattle.std.proofs.lemmas.List.Folds.{list_all-map}
use Rattle.tss_protocol.specs.Stations.{is_ready}
use Rattle.tss_stations.specs.Views.{state_of, views_of}
use Rattle.tss_stations.proofs.slot.Slot.is_complete.Goals as goal

pub returns : goal.returns
returns c =
    c.all_ready.ensures
    ∙ ap (list_all (λ r. is_ready (state_of r))) c.known.ensures
    ∙ sym (list_all-map is_ready state_of (views_of c.args.self.now))
