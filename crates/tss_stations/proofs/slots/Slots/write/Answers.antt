-- As many slots of each station are taken.
use Rattle.std.proofs.Common.{sym}
use Rattle.tss_stations.specs.Views.{with_view}
use Rattle.tss_stations.proofs.KeptLemmas.{kept_written}
use Rattle.tss_stations.proofs.slots.Slots.write.Goals as goal

pub invariant_of-self : goal.invariant_of-self
invariant_of-self c = kept_written c.self.inside.sizes c.self.inside.counts c.self.inside.table c.self.invariant c.args.o.task c.in-Some.slot.now
    (with_view c.in-Some.slot.now c.args.o.place c.args.operand) (sym c.in-Some.ensures.value)
