-- A row of zeros is left out.
use Rattle.std.proofs.Common.{◌++◌, [], ◌∷◌, refl, sym, ap, ◌∙◌}
use Rattle.std.specs.Prelude.{cond, codes, decimal}
use Rattle.hex.specs.Hex.{encode_lower}
use Rattle.tss_text.proofs.PieceLemmas.{none_put, all_put, same_text}
use Rattle.tss_state_lines.specs.Words.{line}
use Rattle.tss_state_lines.specs.Lines.{scratch_line}
use Rattle.tss_state_lines.proofs.worker_lines.put_scratch_row.Goals as goal

pub returns-then-are_zeros : goal.returns-then-are_zeros
returns-then-are_zeros g c =
    let zeros = sym c.are_zeros.ensures ∙ c.if-are_zeros.true in
    same_text (sym (ap (λ z. cond z [] (scratch_line c.args.w c.args.at c.args.bytes.now)) zeros))
    (all_put (none_put g.K.Sink c.args.to.now [] [] refl) refl)

pub returns : goal.returns
returns g c =
    let some = sym c.are_zeros.ensures ∙ c.if-are_zeros.false in
    let worker = c.number.ensures ∙ ap decimal c.from.ensures in
    same_text ((λ i. line (codes "scratch") ((worker i ∷ c.hex.ensures i ∷ []) ++ encode_lower c.args.bytes.now ∷ []))
    ∙ sym (ap (λ z. cond z [] (scratch_line c.args.w c.args.at c.args.bytes.now)) some)) c.put_hex_line.ensures
