-- The count of the task's station is that of its tasks in flight.
use Rattle.std.proofs.Common.{sym, ap, ◌∙◌, get_or}
use Rattle.std.specs.Prelude.{nat_lt}
use Rattle.tss_protocol.specs.Names.{station_of}
use Rattle.tss_protocol.specs.Stations.{has_slot}
use Rattle.tss_stations.specs.Views.{flight_of}
use Rattle.tss_stations.proofs.ViewLemmas.{tasks_in-flight_of}
use Rattle.tss_stations.proofs.KeptLemmas.{count_read}
use Rattle.tss_stations.proofs.slots.Slots.room.Goals as goal

pub returns : goal.returns
returns c =
    let s = c.self.inside.sizes in
    ap (λ k. nat_lt (get_or c.self.inside.counts k 0) s.slots) c.station_of.ensures.exact
    ∙ ap (λ n. nat_lt n s.slots) (count_read s c.self.inside.counts c.self.inside.table c.self.invariant c.args.task 0
    ∙ sym (tasks_in-flight_of c.self.inside.table.entries s (station_of s c.args.task)))
    ∙ ap (λ v. has_slot v.sizes (flight_of v.slots) c.args.task) c.self.view_is
