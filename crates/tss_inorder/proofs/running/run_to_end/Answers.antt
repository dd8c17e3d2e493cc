-- Its budget's steps and one more are the task's end.
use Rattle.tss_inorder.specs.Home.{home_terms}
use Rattle.tss_inorder.proofs.RunLemmas.{run-trapped, run-last, same_task}
use Rattle.tss_inorder.proofs.running.run_to_end.Goals as goal

pub returns-in-Some : goal.returns-in-Some
returns-in-Some c =
    let v = c.args.view.now in
    let w = c.stretch_task.new.view in
    let t = home_terms v.code.now v.space.now.ranges v.operands.now in
    record {
      end =
          run-trapped t c.args.budget c.args.regs.now c.stretch_task.new.regs v.scratch.now w.scratch.now v.space.now w.space.now
          c.in-Some.trap c.in-Some.ensures.exact;
      same = c.in-Some.ensures.keeps v (same_task v);
    }

pub returns-in-None : goal.returns-in-None
returns-in-None c =
    let v = c.args.view.now in
    let w = c.stretch_task.new.view in
    let x = c.stretch_task-in-None.new.view in
    let t = home_terms v.code.now v.space.now.ranges v.operands.now in
    let u = home_terms w.code.now w.space.now.ranges w.operands.now in
    record {
      end =
          run-last t u c.stretch_task.ensures.terms c.args.budget c.args.regs.now c.stretch_task.new.regs v.scratch.now w.scratch.now v.space.now w.space.now
          c.stretch_task-in-None.new.regs x.scratch.now x.space.now c.stretch_task-in-None.result c.in-None.ensures.exact
          c.stretch_task-in-None.ensures.exact;
      same = c.stretch_task-in-None.ensures.keeps v (c.stretch_task.ensures.keeps v (same_task v));
    }
