-- A machine's check with its key.
use Rattle.std.proofs.Common.{[], ◌∷◌, codes, option_map, sym, ◌∙◌}
use Rattle.tss_text.specs.Pieces.{joined}
use Rattle.tss_text.proofs.PieceLemmas.{same_text}
use Rattle.tss_command.specs.Answer.{machine_line}
use Rattle.tss_command.proofs.texts.put_machine.Goals as goal

pub returns-in-Some : goal.returns-in-Some
returns-in-Some g c =
    let digits = c.as_bytes-number.ensures.value ∙ c.format.ensures.text in
    same_text
    ((λ i. joined (codes "machine " ∷ digits i ∷ codes " " ∷ c.in-Some.key.now ∷ codes "\n" ∷ []))
    ∙ (λ i. machine_line c.args.number (option_map (λ k. k.now) (sym c.in-Some.is i))))
    c.put_all-in-Some.ensures
