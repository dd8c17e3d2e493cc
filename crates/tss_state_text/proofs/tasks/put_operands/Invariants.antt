-- The operands before this one were put.
use Rattle.std.specs.FinMap.{get}
use Rattle.tss_text.proofs.PieceLemmas.{HasPut}
use Rattle.tss_state_text.specs.StateText.{operands_text, text_if}
use Rattle.tss_state_lines.proofs.Ranges.{texts_from}
use Rattle.tss_state_text.proofs.TaskLemmas.{operand_text}
use Rattle.tss_state_text.proofs.tasks.put_operands.Given as goal

abbrev pub invariant-loop-place : goal.invariant-loop-place
invariant-loop-place g l =
    HasPut g.K.Sink l.initial.to l.to (text_if (λ x. operands_text l.task 0 x.operands) (get l.p.state.flight l.task))
    (texts_from (operand_text l.p.state.flight l.task) l.count l.place)
