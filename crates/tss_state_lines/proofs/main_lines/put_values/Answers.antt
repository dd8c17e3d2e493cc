-- The registers go out one after another.
use Rattle.std.proofs.Common.{ℕ, List, ◌++◌, ◌+◌, ap, ◌∙◌, append-nil, arith}
use Rattle.std.specs.Prelude.{codes}
use Rattle.tss_model.specs.Registers.{Registers, register_at}
use Rattle.tss_text.specs.Digits.{hex_word}
use Rattle.tss_text.proofs.PieceLemmas.{none_put, more_put, failed_put, all_put, same_text}
use Rattle.tss_state_lines.proofs.Ranges.{texts_from, all_texts, no_texts, texts_next}
use Rattle.tss_state_lines.proofs.WordLemmas.{registers_spaced}
use Rattle.tss_state_lines.proofs.main_lines.put_values.Goals as goal

-- a register's word after its space
abbrev register_word : Registers → ℕ → List ℕ
register_word r n = codes " " ++ hex_word (register_at r n)

pub loop-n-init : goal.loop-n-init
loop-n-init g c =
    let word = register_word c.args.regs.now in
    none_put g.K.Sink c.args.to.now _ _ (registers_spaced c.args.regs.now ∙ all_texts word 1 31 32 (omega arith))

pub returns-in_err-put_words : goal.returns-in_err-put_words
returns-in_err-put_words g c =
    let word = register_word c.args.regs.now in
    let n = c.loop-n.n in
    failed_put c.loop-n.invariant (word n) (texts_from word 32 (n + 1)) (texts_next word 32 n (omega arith))
    (same_text (append-nil (codes " " ++ c.hex.result) ∙ ap (λ w. codes " " ++ w) (c.hex.ensures ∙ ap hex_word c.get.ensures))
    c.in_err-put_words.ensures) c.from_residual.ensures.0

pub loop-n-preserved : goal.loop-n-preserved
loop-n-preserved g c =
    let word = register_word c.args.regs.now in
    let n = c.loop-n.n in
    more_put c.loop-n.invariant (word n) (texts_from word 32 (n + 1)) (texts_next word 32 n (omega arith))
    (same_text (append-nil (codes " " ++ c.hex.result) ∙ ap (λ w. codes " " ++ w) (c.hex.ensures ∙ ap hex_word c.get.ensures))
    c.in_ok-put_words.ensures)

pub returns : goal.returns
returns g c =
    let word = register_word c.args.regs.now in
    all_put c.loop-n.invariant (no_texts word 32 c.loop-n.n (omega arith))
