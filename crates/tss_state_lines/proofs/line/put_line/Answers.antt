-- Each part of the line goes out after those before it.
use Rattle.std.proofs.Common.{◌++◌}
use Rattle.std.specs.Prelude.{codes}
use Rattle.tss_state_lines.specs.Words.{spaced}
use Rattle.tss_state_lines.proofs.Sequences.{then_put, first_failed}
use Rattle.tss_state_lines.proofs.line.put_line.Goals as goal

pub returns-in_err-put : goal.returns-in_err-put
returns-in_err-put g c =
    first_failed c.args.first.now (spaced c.args.others.now ++ codes "\n") c.in_err-put.ensures c.from_residual.ensures.0

pub returns-in_err-put_words : goal.returns-in_err-put_words
returns-in_err-put_words g c =
    then_put c.args.first.now (spaced c.args.others.now ++ codes "\n") c.in_ok-put.ensures
    (first_failed (spaced c.args.others.now) (codes "\n") c.in_err-put_words.ensures
    c.from_residual-in_err-put_words.ensures.0)

pub returns : goal.returns
returns g c =
    then_put c.args.first.now (spaced c.args.others.now ++ codes "\n") c.in_ok-put.ensures
    (then_put (spaced c.args.others.now) (codes "\n") c.in_ok-put_words.ensures c.put-2.ensures)
