-- The most of the stations so far.
use Rattle.std.proofs.Common.{◌≡◌}
use Rattle.tss_protocol.specs.Counts.{greatest}
use Rattle.tss_protocol.specs.Stations.{tasks_in}
use Rattle.tss_stations.specs.Views.{flight_of}
use Rattle.tss_pipeline.proofs.units.Units.most_slots.Given as goal

abbrev pub invariant-loop-station : goal.invariant-loop-station
invariant-loop-station l =
    l.most ≡ greatest (λ s. tasks_in l.self.machine.sizes s (flight_of l.self.stations.slots)) l.station
