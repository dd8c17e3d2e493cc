-- The registers are main's.
use Rattle.std.proofs.Common.{◌∷◌}
use Rattle.std.specs.Prelude.{codes}
use Rattle.tss_text.proofs.PieceLemmas.{same_text}
use Rattle.tss_state_lines.specs.Words.{line, register_words}
use Rattle.tss_state_lines.proofs.main_lines.put_main_registers.Goals as goal

pub returns : goal.returns
returns g c =
    same_text (λ i. line (codes "regs") (c.of.ensures i ∷ register_words c.args.regs.now)) c.put_registers.ensures
