-- The words are those of the version.
use Rattle.std.proofs.Common.{[], ◌∷◌, ap, ◌∙◌}
use Rattle.std.specs.Prelude.{codes, decimal}
use Rattle.tss_text.proofs.PieceLemmas.{same_text}
use Rattle.tss_state_lines.specs.Words.{line}
use Rattle.tss_state_lines.proofs.bank_lines.put_version.Goals as goal

pub returns : goal.returns
returns g c =
    let len = c.number.ensures ∙ ap decimal c.from.ensures in
    let registered = c.number-2.ensures ∙ ap decimal c.from-2.ensures in
    let released = c.number-3.ensures ∙ ap decimal c.from-3.ensures in
    same_text (λ i.
    line (codes "version")
    (c.name.ensures.text i
    ∷ c.hex.ensures i
    ∷ len i
    ∷ c.optional_storage.ensures i
    ∷ c.produced_word.ensures i
    ∷ registered i
    ∷ released i
    ∷ c.optional_name.ensures i
    ∷ c.optional_name-2.ensures i
    ∷ c.optional_name-3.ensures i
    ∷ c.followed_word.ensures i
    ∷ c.how_word.ensures i
    ∷ c.final_word.ensures i
    ∷ c.optional_number.ensures i
    ∷ c.optional_number-2.ensures i
    ∷ [])) c.put_line.ensures
