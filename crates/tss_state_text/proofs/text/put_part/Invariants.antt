-- The items before this one were put.
use Rattle.tss_model.specs.Memory.{loaded}
use Rattle.tss_text.proofs.PieceLemmas.{HasPut}
use Rattle.tss_state_text.specs.StateText.{part_text}
use Rattle.tss_state_lines.proofs.Ranges.{texts_from}
use Rattle.tss_state_text.specs.Items.{item_count, item_text}
use Rattle.tss_state_text.proofs.text.put_part.Given as goal

abbrev pub invariant-loop-i : goal.invariant-loop-i
invariant-loop-i g l =
    HasPut g.K.Sink l.initial.to l.to (part_text (loaded l.image) l.p.machine l.p.state l.part)
    (texts_from (item_text (loaded l.image) l.p.machine l.p.state l.part) (item_count l.p.machine l.p.state l.part) l.i)
