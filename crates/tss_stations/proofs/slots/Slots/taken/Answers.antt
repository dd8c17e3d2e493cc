-- The count of a station is that of its tasks in flight.
use Rattle.std.proofs.Common.{◌<◌, sym, ap, ◌∙◌, arith}
use Rattle.tss_base.specs.declared.bounds.TheConstants.{MAX_STATIONS}
use Rattle.tss_protocol.specs.Stations.{tasks_in}
use Rattle.tss_stations.specs.Views.{flight_of}
use Rattle.tss_stations.proofs.ViewLemmas.{tasks_in-flight_of}
use Rattle.tss_stations.proofs.slots.Slots.taken.Goals as goal

pub returns : goal.returns
returns c =
    let s = c.self.inside.sizes in
    let same = ap (λ v. v.sizes.stations) c.self.view_is in
    let low : c.args.station < MAX_STATIONS = omega (arith, c.requires, same, c.self.invariant.few_stations) in
    c.self.invariant.counted c.args.station low
    ∙ sym (tasks_in-flight_of c.self.inside.table.entries s c.args.station)
    ∙ ap (λ v. tasks_in v.sizes c.args.station (flight_of v.slots)) c.self.view_is
