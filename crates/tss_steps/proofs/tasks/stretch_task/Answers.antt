-- The steps of a stretch of a task are those of the definition.
use Rattle.std.proofs.Common.{Bool, None, refl, subst, ◌∙◌, arith}
use Rattle.tss_steps.specs.Tasks.{Turns, step_by, task_now, turn}
use Rattle.tss_steps.proofs.StretchLemmas.{task_further, task_over, task_stretched}
use Rattle.tss_steps.proofs.tasks.stretch_task.Goals as goal

pub loop-left-init : goal.loop-left-init
loop-left-init g c = record { terms = refl; keeps = λ first k. k; left = refl }

pub loop-left-preserved : goal.loop-left-preserved
loop-left-preserved g c = record {
  terms = c.step_task.ensures.terms ∙ c.loop-left.invariant.terms;
  keeps = λ first k. c.step_task.ensures.keeps first (c.loop-left.invariant.keeps first k);
  left =
      task_further (g.V.TaskView.terms c.args.view.now) (g.V.TaskView.terms c.loop-left.view) c.loop-left.invariant.terms
      c.args.budget c.loop-left.left c.args.most c.loop-left.regs c.args.regs.now (g.V.TaskView.scratch c.loop-left.view)
      (g.V.TaskView.scratch c.args.view.now) (g.V.TaskView.beyond c.loop-left.view) (g.V.TaskView.beyond c.args.view.now)
      c.loop-left.invariant.left (omega (arith, c.loop-left-test.true)) c.step_task.new.regs (g.V.TaskView.scratch c.step_task.new.view)
      (g.V.TaskView.beyond c.step_task.new.view) (subst (λ (b : Bool). Turns (step_by (g.V.TaskView.terms c.loop-left.view) c.args.budget)
      (task_now c.loop-left.regs (g.V.TaskView.scratch c.loop-left.view) (g.V.TaskView.beyond c.loop-left.view) None) c.step_task.new.regs
      (g.V.TaskView.scratch c.step_task.new.view) (g.V.TaskView.beyond c.step_task.new.view) (turn b c.step_task.new.trap))
      c.if-not-step_task.false c.step_task.ensures.exact);
}

pub returns-then-not-step_task-clause-exact : goal.returns-then-not-step_task-clause-exact
returns-then-not-step_task-clause-exact g c =
    task_over (g.V.TaskView.terms c.args.view.now) (g.V.TaskView.terms c.loop-left.view) c.loop-left.invariant.terms
    c.args.budget c.loop-left.left c.args.most c.loop-left.regs c.args.regs.now (g.V.TaskView.scratch c.loop-left.view)
    (g.V.TaskView.scratch c.args.view.now) (g.V.TaskView.beyond c.loop-left.view) (g.V.TaskView.beyond c.args.view.now)
    c.loop-left.invariant.left (omega (arith, c.loop-left-test.true)) c.step_task.new.regs (g.V.TaskView.scratch c.step_task.new.view)
    (g.V.TaskView.beyond c.step_task.new.view) c.step_task.new.trap
    (subst (λ (b : Bool). Turns (step_by (g.V.TaskView.terms c.loop-left.view) c.args.budget)
    (task_now c.loop-left.regs (g.V.TaskView.scratch c.loop-left.view) (g.V.TaskView.beyond c.loop-left.view) None) c.step_task.new.regs
    (g.V.TaskView.scratch c.step_task.new.view) (g.V.TaskView.beyond c.step_task.new.view) (turn b c.step_task.new.trap))
    c.if-not-step_task.true c.step_task.ensures.exact)

pub returns-then-not-step_task-clause-terms : goal.returns-then-not-step_task-clause-terms
returns-then-not-step_task-clause-terms g c = c.step_task.ensures.terms ∙ c.loop-left.invariant.terms

pub returns-then-not-step_task-clause-keeps : goal.returns-then-not-step_task-clause-keeps
returns-then-not-step_task-clause-keeps g c first k = c.step_task.ensures.keeps first (c.loop-left.invariant.keeps first k)

pub returns-clause-exact : goal.returns-clause-exact
returns-clause-exact g c =
    task_stretched (g.V.TaskView.terms c.args.view.now) (g.V.TaskView.terms c.loop-left.view) c.loop-left.invariant.terms
    c.args.budget c.loop-left.left c.args.most c.loop-left.regs c.args.regs.now (g.V.TaskView.scratch c.loop-left.view)
    (g.V.TaskView.scratch c.args.view.now) (g.V.TaskView.beyond c.loop-left.view) (g.V.TaskView.beyond c.args.view.now)
    c.loop-left.invariant.left (omega (arith, c.loop-left-test.false))
