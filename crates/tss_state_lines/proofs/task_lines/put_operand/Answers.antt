-- The words are those of the operand.
use Rattle.std.proofs.Common.{◌++◌, [], ◌∷◌, ap, ◌∙◌}
use Rattle.std.specs.Prelude.{codes, decimal}
use Rattle.tss_text.proofs.PieceLemmas.{same_text}
use Rattle.tss_state_lines.specs.Words.{line}
use Rattle.tss_state_lines.proofs.task_lines.put_operand.Goals as goal

pub returns : goal.returns
returns g c =
    let len = c.number.ensures ∙ ap decimal c.from.ensures in
    same_text (λ i.
    line (codes "operand")
    (c.name.ensures.text i
    ∷ c.hex.ensures i
    ∷ len i
    ∷ c.mode_word.ensures i
    ∷ (c.source_words-version.ensures i ++ c.link_word.ensures i ∷ c.farewell_word.ensures i ∷ []))) c.put_line.ensures
