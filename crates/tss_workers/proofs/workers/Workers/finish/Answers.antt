-- A busy worker becomes idle.
use Rattle.tss_workers.proofs.ScratchLemmas.{HasScratches-ended, has_scratches}
use Rattle.tss_workers.proofs.workers.Workers.finish.Goals as goal

pub invariant_of-self : goal.invariant_of-self
invariant_of-self c =
    has_scratches _ _ c.remove.new.self c.add.new.self c.remove.ensures.others c.add.ensures
    (HasScratches-ended c.self.inside.busy c.self.inside.idle c.self.invariant c.args.w c.in-Some.worker.scratch)
