-- As many slots of each station are taken.
use Rattle.std.proofs.Common.{sym}
use Rattle.tss_stations.proofs.KeptLemmas.{kept_written}
use Rattle.tss_stations.proofs.slots.Slots.advance.Goals as goal

pub invariant_of-self : goal.invariant_of-self
invariant_of-self c = kept_written c.self.inside.sizes c.self.inside.counts c.self.inside.table c.self.invariant c.args.task c.in-Some.slot.now
    (record (c.in-Some.slot.now) { stage = c.args.stage }) (sym c.in-Some.ensures.value)
