-- A task is in flight where it has a slot.
use Rattle.std.proofs.Common.{sym, ap, ◌∙◌}
use Rattle.std.specs.Prelude.{is_some}
use Rattle.std.specs.FinMap.{get}
use Rattle.tss_stations.proofs.StateLemmas.{has-flight_of, seen_some}
use Rattle.tss_stations.proofs.stations.Stations.has.Goals as goal

pub returns : goal.returns
returns c =
    c.is_some.ensures
    ∙ sym (seen_some c.get.result)
    ∙ ap is_some (c.get.ensures ∙ ap (λ s. get s.slots c.args.task) c.self.view_is)
    ∙ sym (has-flight_of c.args.self.now.slots c.args.task)
