-- Each part of the line goes out after those before it.
use Rattle.std.proofs.Common.{◌++◌, [], ◌∷◌}
use Rattle.std.specs.Prelude.{codes}
use Rattle.tss_text.proofs.PieceLemmas.{same_text}
use Rattle.tss_state_lines.specs.Words.{spaced, register_words}
use Rattle.tss_state_lines.proofs.Sequences.{then_put, first_failed}
use Rattle.tss_state_lines.proofs.WordLemmas.{line_from}
use Rattle.tss_state_lines.proofs.main_lines.put_registers.Goals as goal

pub returns-in_err-put : goal.returns-in_err-put
returns-in_err-put g c =
    let owner = spaced (c.args.owner ∷ []) in
    let end = spaced (register_words c.args.regs.now) ++ codes "\n" in
    same_text (line_from (codes "regs") c.args.owner (register_words c.args.regs.now))
    (first_failed (codes "regs") (owner ++ end) c.in_err-put.ensures c.from_residual.ensures.0)

pub returns-in_err-put_words : goal.returns-in_err-put_words
returns-in_err-put_words g c =
    let owner = spaced (c.args.owner ∷ []) in
    let end = spaced (register_words c.args.regs.now) ++ codes "\n" in
    same_text (line_from (codes "regs") c.args.owner (register_words c.args.regs.now))
    (then_put (codes "regs") (owner ++ end) c.in_ok-put.ensures
    (first_failed owner end c.in_err-put_words.ensures c.from_residual-in_err-put_words.ensures.0))

pub returns-in_err-put_values : goal.returns-in_err-put_values
returns-in_err-put_values g c =
    let owner = spaced (c.args.owner ∷ []) in
    let end = spaced (register_words c.args.regs.now) ++ codes "\n" in
    same_text (line_from (codes "regs") c.args.owner (register_words c.args.regs.now))
    (then_put (codes "regs") (owner ++ end) c.in_ok-put.ensures
    (then_put owner end c.in_ok-put_words.ensures
    (first_failed (spaced (register_words c.args.regs.now)) (codes "\n") c.in_err-put_values.ensures
    c.from_residual-in_err-put_values.ensures.0)))

pub returns : goal.returns
returns g c =
    let owner = spaced (c.args.owner ∷ []) in
    let end = spaced (register_words c.args.regs.now) ++ codes "\n" in
    same_text (line_from (codes "regs") c.args.owner (register_words c.args.regs.now))
    (then_put (codes "regs") (owner ++ end) c.in_ok-put.ensures
    (then_put owner end c.in_ok-put_words.ensures
    (then_put (spaced (register_words c.args.regs.now)) (codes "\n") c.in_ok-put_values.ensures c.put-2.ensures)))
