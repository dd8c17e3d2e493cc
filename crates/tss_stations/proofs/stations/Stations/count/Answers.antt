-- There is a slot for each task in flight.
use Rattle.std.proofs.Common.{sym, ap, ◌∙◌}
use Rattle.std.specs.FinMap.{len}
use Rattle.tss_maps.proofs.MappedLemmas.{len-mapped}
use Rattle.tss_stations.specs.Views.{flight_of, flying_of}
use Rattle.tss_stations.proofs.stations.Stations.count.Goals as goal

pub returns : goal.returns
returns c =
    c.len.ensures ∙ sym (len-mapped flying_of c.self.inside.slots.slots) ∙ ap (λ v. len (flight_of v.slots)) c.self.view_is
