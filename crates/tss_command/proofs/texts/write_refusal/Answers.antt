-- The text is put into a writer that keeps nothing yet, and then what is kept is written.
use Rattle.std.proofs.Common.{◌≡◌, subst, rules}
use Rattle.tss_text.specs.Pieces.{Writes}
use Rattle.tss_text.proofs.PieceLemmas.{part_put, whole_put}
use Rattle.tss_command.specs.Answer.{refusal_text}
use Rattle.tss_command.proofs.texts.write_refusal.Goals as goal

pub returns-in_err-put_refusal : goal.returns-in_err-put_refusal
returns-in_err-put_refusal g c =
    let last : c.put_refusal.new.to.out.now ≡ c.in_err-put_refusal.out-1-own.given.0 = search rules in
    subst (λ out. Writes g.K.Sink c.args.out.now out c.from_residual.result (refusal_text c.args.refusal.now)) last
    (part_put (refusal_text c.args.refusal.now) c.new-to.ensures.sink c.new-to.ensures.kept c.in_err-put_refusal.ensures.text c.from_residual.ensures.0)

pub returns : goal.returns
returns g c =
    let last : c.flush.new.self.out.now ≡ c.out-2-1.given.0 = search rules in
    subst (λ out. Writes g.K.Sink c.args.out.now out c.flush.result (refusal_text c.args.refusal.now)) last
    (whole_put (refusal_text c.args.refusal.now) c.new-to.ensures.sink c.new-to.ensures.kept c.in_ok-put_refusal.ensures.text c.flush.ensures.nothing_put
    c.flush.ensures.nothing_kept)
