use Rattle.std.proofs.Common.{◌++◌, ap, ◌∙◌, arith}
use Rattle.tss_asm.specs.Words.{content, content_word}
use Rattle.tss_asm.specs.Faults.{is_far, has_fit_fields}
use Rattle.tss_asm.proofs.ItemLemmas.{any_none, fields_fit, words_more}
use Rattle.tss_asm.proofs.writing.put_text.Goals as goal

pub word-word-requires-clause-near : goal.word-word-requires-clause-near
word-word-requires-clause-near c =
    let far = is_far c.args.labels.now in
    ap (far c.loop-at.at) c.index-text-at.is
    ∙ any_none far c.args.text.now c.loop-at.at c.index-text-at.result (omega arith) c.requires.near

pub word-word-requires-clause-fit : goal.word-word-requires-clause-fit
word-word-requires-clause-fit c =
    ap has_fit_fields c.index-text-at.is
    ∙ fields_fit c.args.text_at c.args.labels.now c.args.text.now c.loop-at.at c.index-text-at.result (omega arith)
    c.requires.near c.requires.fit

pub loop-at-preserved : goal.loop-at-preserved
loop-at-preserved c =
    let old = c.loop-at.out.items in
    words_more c.args.text_at c.args.labels.now c.args.text.now c.loop-at.at c.index-text-at.result c.word-word.result
    c.args.out.now.items old c.extend_from_slice.new.self.items (omega arith)
    (c.word-word.ensures ∙ ap (λ x. content_word (content c.args.text_at c.args.labels.now c.loop-at.at x)) c.index-text-at.is)
    c.loop-at.invariant (c.in_ok-extend_from_slice.ensures.items ∙ ap (λ bs. old ++ bs) c.to_le_bytes.ensures)
