-- The slot of a task that enters is its first record.
use Rattle.std.proofs.Common.{ap, ◌∙◌}
use Rattle.std.specs.FinMap.{get, insert}
use Rattle.tss_maps.proofs.Keys.{nat_order}
use Rattle.tss_maps.proofs.MappedLemmas.{mapped-insert}
use Rattle.tss_stations.specs.Views.{flying_of, flight_of, new_slot}
use Rattle.tss_stations.proofs.StateLemmas.{flying-new_slot, slot_free}
use Rattle.tss_stations.proofs.stations.Stations.enter.Goals as goal

pub add-requires-clause-fresh : goal.add-requires-clause-fresh
add-requires-clause-fresh c =
    ap (λ x. get c.self.inside.slots.slots x.task.number) c.new.ensures
    ∙ ap (λ s. get s.slots c.args.task.now.number) c.self.view_is
    ∙ slot_free c.args.self.now.slots c.args.task.now.number c.requires.fresh

pub returns-clause-flight : goal.returns-clause-flight
returns-clause-flight c =
    ap (λ s. flight_of s.slots) c.add.ensures
    ∙ ap (λ x. flight_of (insert c.self.inside.slots.slots x.task.number x)) c.new.ensures
    ∙ ap (λ s. flight_of (insert s.slots c.args.task.now.number (new_slot c.args.task.now))) c.self.view_is
    ∙ mapped-insert nat_order flying_of c.args.self.now.slots c.args.task.now.number (new_slot c.args.task.now)
    ∙ ap (insert (flight_of c.args.self.now.slots) c.args.task.now.number) (flying-new_slot c.args.task.now)
