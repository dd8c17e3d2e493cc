-- One step of a task is one of the definition's.
use Rattle.std.proofs.Common.{◌≡◌, Bool, true, false, Some, None, sym, ap, subst, ◌∙◌, arith}
use Rattle.std.proofs.lemmas.Bool.{eq-eqb, ne_eqb, le-leb, lt-leb}
use Rattle.tss_core.specs.Views.{Sight}
use Rattle.tss_core.specs.Steps.{step_of, write_of}
use Rattle.tss_steps.specs.Seen.{task_sight}
use Rattle.tss_steps.specs.Tasks.{Turn, Turns, step_by, task_now, trap_by, turn}
use Rattle.tss_steps.proofs.TaskLemmas.{turns-over, turns-spent, turns-stepped, turn_by}
use Rattle.tss_steps.proofs.tasks.step_task.Goals as goal

pub returns-then-pc-eq-END_PC-clause-exact : goal.returns-then-pc-eq-END_PC-clause-exact
returns-then-pc-eq-END_PC-clause-exact g c =
    turns-over (g.V.TaskView.terms c.args.view.now) c.args.budget c.args.regs.now (g.V.TaskView.scratch c.args.view.now)
    (g.V.TaskView.beyond c.args.view.now) (eq-eqb c.args.regs.now.pc 4294967280 (sym c.pc.ensures ∙ c.if-pc-eq-END_PC.true))

pub returns-then-done-budget-clause-exact : goal.returns-then-done-budget-clause-exact
returns-then-done-budget-clause-exact g c n =
    turns-spent (g.V.TaskView.terms c.args.view.now) c.args.budget c.args.regs.now (g.V.TaskView.scratch c.args.view.now)
    (g.V.TaskView.beyond c.args.view.now) (ne_eqb c.args.regs.now.pc 4294967280 (λ e. c.if-pc-eq-END_PC.false (c.pc.ensures ∙ e)))
    (le-leb c.args.budget c.args.regs.now.done (omega arith)) n
    ∙ (λ i. task_now c.args.regs.now (g.V.TaskView.scratch c.args.view.now) (g.V.TaskView.beyond c.args.view.now) (Some (sym c.trap_of.ensures i)))

pub returns-then-advance-clause-exact : goal.returns-then-advance-clause-exact
returns-then-advance-clause-exact g c =
    let v = c.args.view.now in
    let w = c.advance.new.view in
    let q = c.advance.new.regs in
    let seen = task_sight (g.V.TaskView.terms v) (g.V.TaskView.scratch v) (g.V.TaskView.beyond v) in
    let same : step_of (g.V.View.sight v) c.args.regs.now ≡ step_of seen c.args.regs.now = ap (λ (s : Sight). step_of s c.args.regs.now) (g.met.V.TaskView.sees v) in
    let left = g.met.V.TaskView.left v w (write_of (step_of (g.V.View.sight v) c.args.regs.now)) c.advance.ensures.leaves in
    let is : turn c.advance.result (trap_by q c.advance.new.stop) ≡ turn true (trap_by q c.advance.new.stop) =
    ap (λ (b : Bool). turn b (trap_by q c.advance.new.stop)) c.if-advance.true in
    subst (λ (u : Turn). Turns (step_by (g.V.TaskView.terms v) c.args.budget) (task_now c.args.regs.now (g.V.TaskView.scratch v) (g.V.TaskView.beyond v) None)
    q (g.V.TaskView.scratch w) (g.V.TaskView.beyond w) u) (turn_by q c.advance.result c.advance.new.stop ∙ is)
    (turns-stepped (g.V.TaskView.terms v) c.args.budget c.args.regs.now (g.V.TaskView.scratch v) (g.V.TaskView.beyond v)
    (ne_eqb c.args.regs.now.pc 4294967280 (λ e. c.if-pc-eq-END_PC.false (c.pc.ensures ∙ e)))
    (lt-leb c.args.budget c.args.regs.now.done (omega arith))
    (g.V.TaskView.scratch w) (g.V.TaskView.beyond w) q _ (step_of (g.V.View.sight v) c.args.regs.now) same
    c.advance.ensures.exact c.advance.ensures.registers left.scratch left.beyond)

pub returns-then-advance-clause-terms : goal.returns-then-advance-clause-terms
returns-then-advance-clause-terms g c =
    (g.met.V.TaskView.left c.args.view.now c.advance.new.view (write_of (step_of (g.V.View.sight c.args.view.now) c.args.regs.now)) c.advance.ensures.leaves).terms

pub returns-then-advance-clause-keeps : goal.returns-then-advance-clause-keeps
returns-then-advance-clause-keeps g c first =
    g.met.V.TaskView.kept first c.args.view.now c.advance.new.view (write_of (step_of (g.V.View.sight c.args.view.now) c.args.regs.now)) c.advance.ensures.leaves

pub returns-clause-exact : goal.returns-clause-exact
returns-clause-exact g c =
    let v = c.args.view.now in
    let w = c.advance.new.view in
    let q = c.advance.new.regs in
    let seen = task_sight (g.V.TaskView.terms v) (g.V.TaskView.scratch v) (g.V.TaskView.beyond v) in
    let same : step_of (g.V.View.sight v) c.args.regs.now ≡ step_of seen c.args.regs.now = ap (λ (s : Sight). step_of s c.args.regs.now) (g.met.V.TaskView.sees v) in
    let left = g.met.V.TaskView.left v w (write_of (step_of (g.V.View.sight v) c.args.regs.now)) c.advance.ensures.leaves in
    let is : turn c.advance.result (trap_by q c.advance.new.stop) ≡ turn false c.trap_by.result =
    (λ i. turn (c.if-advance.false i) (sym c.trap_by.ensures i)) in
    subst (λ (u : Turn). Turns (step_by (g.V.TaskView.terms v) c.args.budget) (task_now c.args.regs.now (g.V.TaskView.scratch v) (g.V.TaskView.beyond v) None)
    q (g.V.TaskView.scratch w) (g.V.TaskView.beyond w) u) (turn_by q c.advance.result c.advance.new.stop ∙ is)
    (turns-stepped (g.V.TaskView.terms v) c.args.budget c.args.regs.now (g.V.TaskView.scratch v) (g.V.TaskView.beyond v)
    (ne_eqb c.args.regs.now.pc 4294967280 (λ e. c.if-pc-eq-END_PC.false (c.pc.ensures ∙ e)))
    (lt-leb c.args.budget c.args.regs.now.done (omega arith))
    (g.V.TaskView.scratch w) (g.V.TaskView.beyond w) q _ (step_of (g.V.View.sight v) c.args.regs.now) same
    c.advance.ensures.exact c.advance.ensures.registers left.scratch left.beyond)

pub returns-clause-terms : goal.returns-clause-terms
returns-clause-terms g c =
    (g.met.V.TaskView.left c.args.view.now c.advance.new.view (write_of (step_of (g.V.View.sight c.args.view.now) c.args.regs.now)) c.advance.ensures.leaves).terms

pub returns-clause-keeps : goal.returns-clause-keeps
returns-clause-keeps g c first =
    g.met.V.TaskView.kept first c.args.view.now c.advance.new.view (write_of (step_of (g.V.View.sight c.args.view.now) c.args.regs.now)) c.advance.ensures.leaves
