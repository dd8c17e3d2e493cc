-- The operands go out one after another.
use Rattle.std.proofs.Common.{◌+◌, sym, ◌∙◌, arith}
use Rattle.tss_text.proofs.PieceLemmas.{none_put, more_put, failed_put, all_put}
use Rattle.tss_state_lines.proofs.Ranges.{texts_from, no_texts, texts_next}
use Rattle.tss_state_text.proofs.TaskLemmas.{operand_text, operands_placed}
use Rattle.tss_state_text.proofs.tasks.put_operands.Goals as goal

pub loop-place-init : goal.loop-place-init
loop-place-init g c =
    none_put g.K.Sink c.args.to.now _ _
    (operands_placed c.args.p.now.state.flight c.args.task c.in-Some.count (sym c.in-Some.is ∙ c.operand_count.ensures))

pub returns-in_err-put_operand_at : goal.returns-in_err-put_operand_at
returns-in_err-put_operand_at g c =
    let operand = operand_text c.args.p.now.state.flight c.args.task in
    let count = c.in-Some.count in
    let place = c.loop-place.place in
    failed_put c.loop-place.invariant (operand place) (texts_from operand count (place + 1))
    (texts_next operand count place (omega arith)) c.in_err-put_operand_at.ensures c.from_residual.ensures.0

pub loop-place-preserved : goal.loop-place-preserved
loop-place-preserved g c =
    let operand = operand_text c.args.p.now.state.flight c.args.task in
    let count = c.in-Some.count in
    let place = c.loop-place.place in
    more_put c.loop-place.invariant (operand place) (texts_from operand count (place + 1))
    (texts_next operand count place (omega arith)) c.in_ok-put_operand_at.ensures

pub returns : goal.returns
returns g c =
    all_put c.loop-place.invariant
    (no_texts (operand_text c.args.p.now.state.flight c.args.task) c.in-Some.count c.loop-place.place (omega arith))
