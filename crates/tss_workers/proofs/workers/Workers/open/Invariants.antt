-- The first workers have their scratches.
use Rattle.tss_workers.proofs.ScratchLemmas.{HasFirst}
use Rattle.tss_workers.proofs.workers.Workers.open.Given as goal

abbrev pub invariant-loop-w : goal.invariant-loop-w
invariant-loop-w l = HasFirst l.sizes.workers l.w l.idle
