-- The registers are the worker's.
use Rattle.std.proofs.Common.{◌∷◌, ap, ◌∙◌}
use Rattle.std.specs.Prelude.{codes, decimal}
use Rattle.tss_text.proofs.PieceLemmas.{same_text}
use Rattle.tss_state_lines.specs.Words.{line, register_words}
use Rattle.tss_state_lines.proofs.worker_lines.put_worker_registers.Goals as goal

pub returns : goal.returns
returns g c =
    let owner = c.number.ensures ∙ ap decimal c.from.ensures in
    same_text (λ i. line (codes "regs") (owner i ∷ register_words c.args.regs.now)) c.put_registers.ensures
