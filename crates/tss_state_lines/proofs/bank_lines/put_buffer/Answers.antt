-- The words are those of the buffer.
use Rattle.std.proofs.Common.{◌++◌, [], ◌∷◌, sym, ap, ◌∙◌}
use Rattle.std.specs.Prelude.{codes, decimal, option_map}
use Rattle.hex.specs.Hex.{encode_lower}
use Rattle.tss_text.proofs.PieceLemmas.{same_text}
use Rattle.tss_state_lines.specs.Words.{line}
use Rattle.tss_state_lines.specs.Lines.{buffer_line}
use Rattle.tss_state_lines.proofs.bank_lines.put_buffer.Goals as goal

pub returns-in-None : goal.returns-in-None
returns-in-None g c =
    let bank = c.number.ensures ∙ ap decimal c.from.ensures in
    same_text ((λ i. line (codes "buffer") (bank i ∷ c.name.ensures.text i ∷ c.of.ensures i ∷ []))
    ∙ ap (λ b. buffer_line c.args.bank c.args.name (option_map (λ x. x.now) b)) (sym c.in-None.is)) c.put_line.ensures

pub returns-in-Some : goal.returns-in-Some
returns-in-Some g c =
    let bank = c.number-in-Some.ensures ∙ ap decimal c.from-in-Some.ensures in
    same_text ((λ i. line (codes "buffer")
    ((bank i ∷ c.name-in-Some.ensures.text i ∷ []) ++ encode_lower c.in-Some.bytes.now ∷ []))
    ∙ ap (λ b. buffer_line c.args.bank c.args.name (option_map (λ x. x.now) b)) (sym c.in-Some.is)) c.put_hex_line.ensures
