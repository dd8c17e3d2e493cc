use Rattle.tss_steps.specs.Left.{IsSameMain}
use Rattle.tss_steps.specs.Mains.{LeftOfMain}
use Rattle.tss_steps.proofs.mains.stretch_main.Given as goal

abbrev pub invariant-loop-left : goal.invariant-loop-left
invariant-loop-left l = record {
  same : IsSameMain l.initial.view l.view;
  left : LeftOfMain l.initial.view.code.now l.limits l.initial.view.epoch.now.objects l.left l.regs l.view.space.now l.most
      l.initial.regs l.initial.view.space.now;
}

abbrev pub decreases-loop-left : goal.decreases-loop-left
decreases-loop-left l = l.left
