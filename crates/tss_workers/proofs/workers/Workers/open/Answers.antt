-- Each worker has its scratch.
use Rattle.std.proofs.Common.{◌≡◌, arith}
use Rattle.tss_workers.proofs.ScratchLemmas.{HasFirst-none, HasFirst-more, HasScratches-open}
use Rattle.tss_workers.proofs.workers.Workers.open.Goals as goal

pub loop-w-init : goal.loop-w-init
loop-w-init c = HasFirst-none c.args.sizes.now.workers c.in_ok-idle.idle c.in_ok-idle.ensures

pub loop-w-preserved : goal.loop-w-preserved
loop-w-preserved c =
    HasFirst-more c.args.sizes.now.workers c.loop-w.w c.loop-w.idle c.add.new.self c.in_ok-open.field-0 c.loop-w.invariant c.add.ensures

pub invariant_of-result : goal.invariant_of-result
invariant_of-result c =
    let all : c.loop-w.w ≡ c.args.sizes.now.workers = omega arith in
    HasScratches-open c.args.sizes.now.workers c.loop-w.w c.loop-w.idle c.in_ok-open-2.field-0 c.loop-w.invariant all c.in_ok-open-2.ensures
