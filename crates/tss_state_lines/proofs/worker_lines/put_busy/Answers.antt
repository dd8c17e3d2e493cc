-- The words are those of the worker.
use Rattle.std.proofs.Common.{[], ◌∷◌, ap, ◌∙◌}
use Rattle.std.specs.Prelude.{codes, decimal}
use Rattle.tss_text.specs.Digits.{hex_word}
use Rattle.tss_text.proofs.PieceLemmas.{same_text}
use Rattle.tss_state_lines.specs.Words.{line}
use Rattle.tss_state_lines.specs.Lines as lines
use Rattle.tss_state_lines.proofs.worker_lines.put_busy.Goals as goal

pub returns : goal.returns
returns g c =
    let worker = c.number.ensures ∙ ap decimal c.from.ensures in
    let task = c.number-2.ensures ∙ ap decimal c.from-2.ensures in
    let done = c.number-3.ensures ∙ ap decimal c.done.ensures in
    let pc = c.hex.ensures ∙ ap hex_word c.pc.ensures in
    let stands = c.running_word.ensures ∙ ap (λ pc. lines.running_word pc c.args.trapped) c.pc-2.ensures in
    same_text (λ i. line (codes "worker") (worker i ∷ task i ∷ done i ∷ pc i ∷ stands i ∷ [])) c.put_line.ensures
