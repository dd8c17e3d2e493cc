-- Each part of the line goes out after those before it.
use Rattle.std.proofs.Common.{◌++◌}
use Rattle.std.specs.Prelude.{codes}
use Rattle.hex.specs.Hex.{encode_lower}
use Rattle.tss_text.proofs.PieceLemmas.{same_text}
use Rattle.tss_state_lines.specs.Words.{spaced}
use Rattle.tss_state_lines.proofs.Sequences.{then_put, first_failed}
use Rattle.tss_state_lines.proofs.WordLemmas.{line_with}
use Rattle.tss_state_lines.proofs.bytes.put_hex_line.Goals as goal

pub returns-in_err-put : goal.returns-in_err-put
returns-in_err-put g c =
    let a = c.args in
    let end = encode_lower a.bytes.now ++ codes "\n" in
    same_text (line_with a.first.now a.others.now (encode_lower a.bytes.now))
    (first_failed a.first.now (spaced a.others.now ++ (codes " " ++ end)) c.in_err-put.ensures c.from_residual.ensures.0)

pub returns-in_err-put_words : goal.returns-in_err-put_words
returns-in_err-put_words g c =
    let a = c.args in
    let end = encode_lower a.bytes.now ++ codes "\n" in
    same_text (line_with a.first.now a.others.now (encode_lower a.bytes.now))
    (then_put a.first.now (spaced a.others.now ++ (codes " " ++ end)) c.in_ok-put.ensures
    (first_failed (spaced a.others.now) (codes " " ++ end) c.in_err-put_words.ensures
    c.from_residual-in_err-put_words.ensures.0))

pub returns-in_err-put-2 : goal.returns-in_err-put-2
returns-in_err-put-2 g c =
    let a = c.args in
    let end = encode_lower a.bytes.now ++ codes "\n" in
    same_text (line_with a.first.now a.others.now (encode_lower a.bytes.now))
    (then_put a.first.now (spaced a.others.now ++ (codes " " ++ end)) c.in_ok-put.ensures
    (then_put (spaced a.others.now) (codes " " ++ end) c.in_ok-put_words.ensures
    (first_failed (codes " ") end c.in_err-put-2.ensures c.from_residual-in_err-put-2.ensures.0)))

pub returns-in_err-put_hex : goal.returns-in_err-put_hex
returns-in_err-put_hex g c =
    let a = c.args in
    let end = encode_lower a.bytes.now ++ codes "\n" in
    same_text (line_with a.first.now a.others.now (encode_lower a.bytes.now))
    (then_put a.first.now (spaced a.others.now ++ (codes " " ++ end)) c.in_ok-put.ensures
    (then_put (spaced a.others.now) (codes " " ++ end) c.in_ok-put_words.ensures
    (then_put (codes " ") end c.in_ok-put-2.ensures
    (first_failed (encode_lower a.bytes.now) (codes "\n") c.in_err-put_hex.ensures
    c.from_residual-in_err-put_hex.ensures.0))))

pub returns : goal.returns
returns g c =
    let a = c.args in
    let end = encode_lower a.bytes.now ++ codes "\n" in
    same_text (line_with a.first.now a.others.now (encode_lower a.bytes.now))
    (then_put a.first.now (spaced a.others.now ++ (codes " " ++ end)) c.in_ok-put.ensures
    (then_put (spaced a.others.now) (codes " " ++ end) c.in_ok-put_words.ensures
    (then_put (codes " ") end c.in_ok-put-2.ensures
    (then_put (encode_lower a.bytes.now) (codes "\n") c.in_ok-put_hex.ensures c.put-3.ensures))))
