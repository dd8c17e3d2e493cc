-- A slot more.
use Rattle.std.proofs.Common.{◌+◌, sym, ap, subst, ◌∙◌, get_or, set}
use Rattle.std.specs.Prelude.{nat_lt, IsTrue}
use Rattle.std.specs.FinMap.{get, insert}
use Rattle.tss_protocol.specs.Names.{station_of}
use Rattle.tss_protocol.specs.Stations.{has_slot}
use Rattle.tss_stations.specs.Views.{flight_of}
use Rattle.tss_stations.specs.Slots.{AreSlots}
use Rattle.tss_stations.proofs.ViewLemmas.{tasks_in-flight_of}
use Rattle.tss_stations.proofs.KeptLemmas.{count_read, room_read, kept_added, room_added}
use Rattle.tss_stations.proofs.slots.Slots.add.Goals as goal

pub add-requires-clause-room : goal.add-requires-clause-room
add-requires-clause-room c =
    let s = c.self.inside.sizes in
    let t = c.args.slot.task.number in
    let room = subst (λ n. IsTrue (nat_lt n s.slots)) (tasks_in-flight_of c.self.inside.table.entries s (station_of s t))
    (subst (λ v. IsTrue (has_slot v.sizes (flight_of v.slots) t)) (sym c.self.view_is) c.requires.room) in
    room_added s c.self.inside.counts c.self.inside.table c.self.invariant t c.args.slot
    (ap (λ v. get v.slots t) c.self.view_is ∙ c.requires.fresh)
    (get_or c.self.inside.counts (station_of s t) 0)
    (count_read s c.self.inside.counts c.self.inside.table c.self.invariant t 0)
    (room_read s c.self.inside.counts c.self.inside.table c.self.invariant t 0 room)

pub invariant_of-self : goal.invariant_of-self
invariant_of-self c =
    let s = c.self.inside.sizes in
    let t = c.args.slot.task.number in
    let room = subst (λ n. IsTrue (nat_lt n s.slots)) (tasks_in-flight_of c.self.inside.table.entries s (station_of s t))
    (subst (λ v. IsTrue (has_slot v.sizes (flight_of v.slots) t)) (sym c.self.view_is) c.requires.room) in
    subst (λ table. AreSlots s (set c.self.inside.counts c.station_of.result (get_or c.self.inside.counts c.station_of.result 0 + 1)) table)
    (sym c.add.ensures)
    (subst (λ k. AreSlots s (set c.self.inside.counts k (get_or c.self.inside.counts k 0 + 1))
    (record (c.self.inside.table) { entries = insert c.self.inside.table.entries t c.args.slot })) (sym c.station_of.ensures.exact)
    (kept_added s c.self.inside.counts c.self.inside.table c.self.invariant t c.args.slot
    (ap (λ v. get v.slots t) c.self.view_is ∙ c.requires.fresh)
    (get_or c.self.inside.counts (station_of s t) 0)
    (count_read s c.self.inside.counts c.self.inside.table c.self.invariant t 0)
    (room_read s c.self.inside.counts c.self.inside.table c.self.invariant t 0 room)))
