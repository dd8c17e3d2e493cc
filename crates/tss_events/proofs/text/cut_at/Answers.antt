-- The first mark, or the end.
use Rattle.std.proofs.Common.{◌≡◌, ◌+◌, get_or, [], drop, sym, ◌∙◌, arith}
use Rattle.std.proofs.Math.ListN.{drop_of_length-le}
use Rattle.std.proofs.lemmas.List.{take_all}
use Rattle.tss_events.proofs.Bytes.{is_mark, before_mark, after_mark, after_cut}
use Rattle.tss_events.proofs.text.cut_at.Goals as goal

pub returns-then-line-at-clause-before : goal.returns-then-line-at-clause-before
returns-then-line-at-clause-before c =
    before_mark c.args.mark c.args.line.now c.loop-at.at (let h = c.loop-at-test.true in omega (arith, h)) c.loop-at.invariant (λ h. is_mark (get_or c.args.line.now c.loop-at.at 0) c.args.mark c.if-line-at.true)

pub returns-then-line-at-clause-after : goal.returns-then-line-at-clause-after
returns-then-line-at-clause-after c =
    after_cut c.args.mark c.args.line.now c.loop-at.at
    ∙ after_mark c.args.mark c.args.line.now c.loop-at.at (let h = c.loop-at-test.true in omega (arith, h)) c.loop-at.invariant (λ h. is_mark (get_or c.args.line.now c.loop-at.at 0) c.args.mark c.if-line-at.true)

pub returns-clause-before : goal.returns-clause-before
returns-clause-before c =
    let f = c.loop-at-test.false in
    let e = c.loop-at.auto.at-end in
    sym (take_all c.loop-at.at c.args.line.now (omega (arith, f, e)))
    ∙ before_mark c.args.mark c.args.line.now c.loop-at.at (omega (arith, f, e)) c.loop-at.invariant (λ h. absurd (omega (arith, h, f)))

pub returns-clause-after : goal.returns-clause-after
returns-clause-after c =
    let f = c.loop-at-test.false in
    let e = c.loop-at.auto.at-end in
    let past : drop (c.loop-at.at + 1) c.args.line.now ≡ [] = drop_of_length-le c.args.line.now (omega (arith, f, e)) in
    sym past
    ∙ after_mark c.args.mark c.args.line.now c.loop-at.at (omega (arith, f, e)) c.loop-at.invariant (λ h. absurd (omega (arith, h, f)))
