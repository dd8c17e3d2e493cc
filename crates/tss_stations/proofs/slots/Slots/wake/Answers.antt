-- As many slots of each station are taken.
use Rattle.std.proofs.Common.{sym, subst}
use Rattle.tss_base.specs.declared.marks.Stage.TheVariants as stage
use Rattle.tss_stations.specs.Slots.{AreSlots}
use Rattle.tss_stations.proofs.KeptLemmas.{kept_written}
use Rattle.tss_stations.proofs.slots.Slots.wake.Goals as goal
use Rattle.tss_stations.proofs.slots.Slots.wake.Goals.{then-complete, else-complete}

pub invariant_of-self : goal.invariant_of-self
invariant_of-self c = elim c.if-complete.branch [
  | then-complete w ↦
      subst (λ s. AreSlots s.sizes s.counts s.table) (sym w.self-inside-is)
      (kept_written c.self.inside.sizes c.self.inside.counts c.self.inside.table c.self.invariant c.args.task c.in-Some.slot.now
      (record (c.in-Some.slot.now) { stage = stage.Queued }) (sym c.in-Some.ensures.value))
  | else-complete w ↦
      subst (λ s. AreSlots s.sizes s.counts s.table) (sym w.self-inside-is)
      (kept_written c.self.inside.sizes c.self.inside.counts c.self.inside.table c.self.invariant c.args.task c.in-Some.slot.now
      c.in-Some.slot.now (sym c.in-Some.ensures.value))
]
