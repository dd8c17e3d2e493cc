-- An idle worker becomes busy.
use Rattle.tss_workers.proofs.ScratchLemmas.{HasScratches-begun, has_scratches}
use Rattle.tss_workers.proofs.workers.Workers.start.Goals as goal

pub invariant_of-self : goal.invariant_of-self
invariant_of-self c =
    has_scratches _ _ c.add.new.self c.remove.new.self c.add.ensures c.remove.ensures.others
    (HasScratches-begun c.self.inside.busy c.self.inside.idle c.self.invariant c.args.w _)
