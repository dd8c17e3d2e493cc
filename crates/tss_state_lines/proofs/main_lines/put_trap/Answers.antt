-- The words are those of the trap.
use Rattle.std.proofs.Common.{[], ◌∷◌, ap, ◌∙◌}
use Rattle.std.specs.Prelude.{codes, decimal}
use Rattle.tss_text.proofs.PieceLemmas.{same_text}
use Rattle.tss_state_lines.specs.Words.{line}
use Rattle.tss_state_lines.proofs.main_lines.put_trap.Goals as goal

pub returns : goal.returns
returns g c =
    let task = c.number.ensures ∙ ap decimal c.from.ensures in
    let cause = c.number-2.ensures ∙ ap decimal c.from-2.ensures in
    same_text (λ i. line (codes "trap") (task i ∷ c.hex.ensures i ∷ cause i ∷ c.hex-2.ensures i ∷ []))
    c.put_line.ensures
