-- The operands go out after their task.
use Rattle.std.specs.FinMap.{get}
use Rattle.tss_text.proofs.PieceLemmas.{same_text}
use Rattle.tss_state_lines.specs.Lines.{task_line}
use Rattle.tss_state_text.specs.StateText.{operands_text, text_if}
use Rattle.tss_state_lines.proofs.Sequences.{then_put, first_failed}
use Rattle.tss_state_text.proofs.TaskLemmas.{flying_text}
use Rattle.tss_state_text.proofs.tasks.put_flying.Goals as goal

pub returns-in_err-put_task : goal.returns-in_err-put_task
returns-in_err-put_task g c =
    let flight = c.args.p.now.state.flight in
    let task = c.args.task.now in
    let rest = text_if (λ x. operands_text task.number 0 x.operands) (get flight task.number) in
    same_text (flying_text flight task c.args.stage c.requires)
    (first_failed (task_line task c.args.stage) rest c.in_err-put_task.ensures c.from_residual.ensures.0)

pub returns : goal.returns
returns g c =
    let flight = c.args.p.now.state.flight in
    let task = c.args.task.now in
    let rest = text_if (λ x. operands_text task.number 0 x.operands) (get flight task.number) in
    same_text (flying_text flight task c.args.stage c.requires)
    (then_put (task_line task c.args.stage) rest c.in_ok-put_task.ensures c.put_operands.ensures)
