-- The steps of a stretch of main are those of the definition.
use Rattle.std.proofs.Common.{Bool, arith, subst}
use Rattle.tss_steps.specs.Mains.{StepsMain, main_turn, Further, Rests}
use Rattle.tss_steps.proofs.StretchLemmas.{same_main, step_of_same, main_further, main_rests, main_stretched}
use Rattle.tss_steps.proofs.mains.stretch_main.Goals as goal

pub loop-left-preserved : goal.loop-left-preserved
loop-left-preserved c = record {
  same = same_main c.args.view.now c.loop-left.view c.step_main.new.view c.loop-left.invariant.same c.step_main.ensures.same;
  left =
      main_further c.args.view.now.code.now c.args.limits.now c.args.view.now.epoch.now.objects c.loop-left.left c.args.most
      c.loop-left.regs c.args.regs.now c.loop-left.view.space.now c.args.view.now.space.now c.loop-left.invariant.left
      (omega (arith, c.loop-left-test.true)) c.step_main.new.regs c.step_main.new.view.space.now
      (step_of_same c.args.limits.now c.args.view.now c.loop-left.view c.loop-left.invariant.same c.loop-left.regs
      c.step_main.new.regs c.loop-left.view.space.now c.step_main.new.view.space.now Further
      (subst (λ (b : Bool). StepsMain c.loop-left.view.code.now c.args.limits.now c.loop-left.view.epoch.now.objects c.loop-left.regs
      c.loop-left.view.space.now c.step_main.new.regs c.step_main.new.view.space.now (main_turn b c.step_main.new.ending))
      c.if-not-step_main.false c.step_main.ensures.exact));
}

pub returns-then-not-step_main-clause-exact : goal.returns-then-not-step_main-clause-exact
returns-then-not-step_main-clause-exact c =
    main_rests c.args.view.now.code.now c.args.limits.now c.args.view.now.epoch.now.objects c.loop-left.left c.args.most
    c.loop-left.regs c.args.regs.now c.loop-left.view.space.now c.args.view.now.space.now c.loop-left.invariant.left
    (omega (arith, c.loop-left-test.true)) c.step_main.new.regs c.step_main.new.view.space.now c.step_main.new.ending
    (step_of_same c.args.limits.now c.args.view.now c.loop-left.view c.loop-left.invariant.same c.loop-left.regs
    c.step_main.new.regs c.loop-left.view.space.now c.step_main.new.view.space.now (Rests c.step_main.new.ending)
    (subst (λ (b : Bool). StepsMain c.loop-left.view.code.now c.args.limits.now c.loop-left.view.epoch.now.objects c.loop-left.regs
    c.loop-left.view.space.now c.step_main.new.regs c.step_main.new.view.space.now (main_turn b c.step_main.new.ending))
    c.if-not-step_main.true c.step_main.ensures.exact))

pub returns-clause-exact : goal.returns-clause-exact
returns-clause-exact c =
    main_stretched c.args.view.now.code.now c.args.limits.now c.args.view.now.epoch.now.objects c.loop-left.left c.args.most
    c.loop-left.regs c.args.regs.now c.loop-left.view.space.now c.args.view.now.space.now c.loop-left.invariant.left
    (omega (arith, c.loop-left-test.false))
