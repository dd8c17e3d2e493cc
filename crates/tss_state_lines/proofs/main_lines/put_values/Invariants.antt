-- The registers before this one were put.
use Rattle.std.specs.Prelude.{codes, ◌++◌}
use Rattle.tss_model.specs.Registers.{register_at}
use Rattle.tss_text.specs.Digits.{hex_word}
use Rattle.tss_text.proofs.PieceLemmas.{HasPut}
use Rattle.tss_state_lines.specs.Words.{spaced, register_words}
use Rattle.tss_state_lines.proofs.Ranges.{texts_from}
use Rattle.tss_state_lines.proofs.main_lines.put_values.Given as goal

abbrev pub invariant-loop-n : goal.invariant-loop-n
invariant-loop-n g l =
    HasPut g.K.Sink l.initial.to l.to (spaced (register_words l.regs))
    (texts_from (λ n. codes " " ++ hex_word (register_at l.regs n)) 32 l.n)
