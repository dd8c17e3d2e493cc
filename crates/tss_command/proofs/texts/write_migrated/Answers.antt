-- The text is put into a writer that keeps nothing yet, and then what is kept is written.
use Rattle.std.proofs.Common.{◌≡◌, subst, rules}
use Rattle.tss_text.specs.Pieces.{Writes}
use Rattle.tss_text.proofs.PieceLemmas.{part_put, whole_put}
use Rattle.tss_command.specs.Answer.{migrated_text}
use Rattle.tss_command.proofs.texts.write_migrated.Goals as goal

pub returns-in_err-put_migrated : goal.returns-in_err-put_migrated
returns-in_err-put_migrated g c =
    let last : c.put_migrated.new.to.out.now ≡ c.in_err-put_migrated.out-1-own.given.0 = search rules in
    subst (λ out. Writes g.K.Sink c.args.out.now out c.from_residual.result (migrated_text c.args.lines)) last
    (part_put (migrated_text c.args.lines) c.new-to.ensures.sink c.new-to.ensures.kept c.in_err-put_migrated.ensures c.from_residual.ensures.0)

pub returns : goal.returns
returns g c =
    let last : c.flush.new.self.out.now ≡ c.out-2-1.given.0 = search rules in
    subst (λ out. Writes g.K.Sink c.args.out.now out c.flush.result (migrated_text c.args.lines)) last
    (whole_put (migrated_text c.args.lines) c.new-to.ensures.sink c.new-to.ensures.kept c.in_ok-put_migrated.ensures c.flush.ensures.nothing_put
    c.flush.ensures.nothing_kept)
