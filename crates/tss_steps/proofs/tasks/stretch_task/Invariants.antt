use Rattle.std.proofs.Common.{◌≡◌}
use Rattle.tss_steps.specs.Tasks.{LeftOfTask}
use Rattle.tss_steps.proofs.tasks.stretch_task.Given as goal

abbrev pub invariant-loop-left : goal.invariant-loop-left
invariant-loop-left g l = record {
  terms : g.V.TaskView.terms l.view ≡ g.V.TaskView.terms l.initial.view;
  keeps : (first : _) → g.V.TaskView.Keeps first l.initial.view → g.V.TaskView.Keeps first l.view;
  left : LeftOfTask (g.V.TaskView.terms l.initial.view) l.budget l.left l.regs (g.V.TaskView.scratch l.view)
      (g.V.TaskView.beyond l.view) l.most l.initial.regs (g.V.TaskView.scratch l.initial.view) (g.V.TaskView.beyond l.initial.view);
}

abbrev pub decreases-loop-left : goal.decreases-loop-left
decreases-loop-left g l = l.left
