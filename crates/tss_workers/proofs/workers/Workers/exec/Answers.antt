-- The workers after a stretch of one of them.
use Rattle.tss_workers.proofs.ScratchLemmas.{HasScratches-executed}
use Rattle.tss_workers.proofs.workers.Workers.exec.Goals as goal

pub invariant_of-self : goal.invariant_of-self
invariant_of-self c =
    HasScratches-executed c.args.w c.args.code.now c.args.budget c.args.quantum c.self.inside.busy c.run_in.new.busy
    c.args.space.now c.run_in.new.space c.args.buffers.now c.run_in.new.buffers c.self.inside.idle c.run_in.ensures c.self.invariant
