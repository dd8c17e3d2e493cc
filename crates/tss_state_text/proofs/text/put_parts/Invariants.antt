-- The parts before this one were put.
use Rattle.tss_model.specs.Memory.{loaded}
use Rattle.tss_text.proofs.PieceLemmas.{HasPut}
use Rattle.tss_state_text.specs.StateText.{state_text}
use Rattle.tss_state_text.proofs.ItemLemmas.{parts_from}
use Rattle.tss_state_text.proofs.text.put_parts.Given as goal

abbrev pub invariant-loop-part : goal.invariant-loop-part
invariant-loop-part g l =
    HasPut g.K.Sink l.initial.to l.to (state_text (loaded l.image) l.p.machine l.p.state)
    (parts_from (loaded l.image) l.p.machine l.p.state l.part-index)
