-- The text is put into a writer that keeps nothing yet, and then what is kept is written.
use Rattle.std.proofs.Common.{◌≡◌, subst, rules}
use Rattle.tss_model.specs.Memory.{loaded}
use Rattle.tss_text.specs.Pieces.{Writes}
use Rattle.tss_text.proofs.PieceLemmas.{part_put, whole_put}
use Rattle.tss_state_text.specs.StateText.{state_text}
use Rattle.tss_state_text.proofs.text.write_state.Goals as goal

pub returns-in_err-put_parts : goal.returns-in_err-put_parts
returns-in_err-put_parts g c =
    let text = state_text (loaded c.args.image.now) c.args.p.now.machine c.args.p.now.state in
    let last : c.put_parts.new.to.out.now ≡ c.in_err-put_parts.out-1-own.given.0 = search rules in
    subst (λ out. Writes g.K.Sink c.args.out.now out c.from_residual.result text) last
    (part_put text c.new-to.ensures.sink c.new-to.ensures.kept c.in_err-put_parts.ensures.text c.from_residual.ensures.0)

pub returns : goal.returns
returns g c =
    let text = state_text (loaded c.args.image.now) c.args.p.now.machine c.args.p.now.state in
    let last : c.flush.new.self.out.now ≡ c.out-2-1.given.0 = search rules in
    subst (λ out. Writes g.K.Sink c.args.out.now out c.flush.result text) last
    (whole_put text c.new-to.ensures.sink c.new-to.ensures.kept c.in_ok-put_parts.ensures.text c.flush.ensures.nothing_put
    c.flush.ensures.nothing_kept)
