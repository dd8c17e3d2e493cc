-- The words go out one after another.
use Rattle.std.proofs.Common.{[], ◌∷◌, refl, ◌∙◌}
use Rattle.std.specs.Prelude.{codes}
use Rattle.tss_text.specs.Pieces.{joined}
use Rattle.tss_text.proofs.PieceLemmas.{none_put, more_put, failed_put, same_text}
use Rattle.tss_state_lines.proofs.WordLemmas.{spaced_from}
use Rattle.tss_state_lines.proofs.line.put_words.Goals as goal

pub loop-word-init : goal.loop-word-init
loop-word-init g c = none_put g.K.Sink c.args.to.now _ _ refl

pub returns-in_err-put_all : goal.returns-in_err-put_all
returns-in_err-put_all g c =
    let word = c.bytes.ensures ∙ c.word-item.is in
    failed_put c.loop-word.invariant _ _
    (spaced_from c.args.words.now c.loop-word.word-index c.word-item.result c.loop-word-test.true)
    (same_text (λ i. joined (codes " " ∷ word i ∷ [])) c.in_err-put_all.ensures) c.from_residual.ensures.0

pub loop-word-preserved : goal.loop-word-preserved
loop-word-preserved g c =
    let word = c.bytes.ensures ∙ c.word-item.is in
    more_put c.loop-word.invariant _ _
    (spaced_from c.args.words.now c.loop-word.word-index c.word-item.result c.loop-word-test.true)
    (same_text (λ i. joined (codes " " ∷ word i ∷ [])) c.in_ok-put_all.ensures)
