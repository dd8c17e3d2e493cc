-- Twelve empty tables.
use Rattle.std.proofs.Common.{◌≡◌, sym, ap, subst, ◌∙◌, arith, get_or}
use Rattle.std.proofs.Math.ListN.{replicate}
use Rattle.std.specs.FinMap.{len}
use Rattle.tss_mail.specs.Kept.{AreLetters, letters_of}
use Rattle.tss_mail.proofs.KeptLemmas.{new_table, len_new, kept_new, seen_new}
use Rattle.tss_mail.proofs.mail.Mail.open.Goals as goal

pub close_all-requires : goal.close_all-requires
close_all-requires c = λ k d h.
    let n = c.loop.invariant.turns in
    ap (λ ts. len (get_or ts k d).entries) c.loop.invariant.empty ∙ len_new c.args.size c.loop.counter k d (omega (arith, n, h))

pub invariant_of-result : goal.invariant_of-result
invariant_of-result c =
    let n : c.loop.counter ≡ 12 = omega (arith, c.loop-test.false, c.loop.auto.counter-end) in
    subst (AreLetters c.args.size 0) (sym (c.loop.invariant.empty ∙ ap (λ m. replicate m (new_table c.args.size)) n)) (kept_new c.args.size c.ranges.size.fits)

pub returns : goal.returns
returns c =
    let n : c.loop.counter ≡ 12 = omega (arith, c.loop-test.false, c.loop.auto.counter-end) in
    ap (letters_of c.args.size) (c.loop.invariant.empty ∙ ap (λ m. replicate m (new_table c.args.size)) n) ∙ seen_new c.args.size
