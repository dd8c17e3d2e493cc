-- Each text is that of its refusal.
use Rattle.std.proofs.Common.{[], ◌∷◌, sym, ap, ◌∙◌}
use Rattle.std.specs.Prelude.{codes}
use Rattle.tss_text.specs.Pieces.{joined}
use Rattle.tss_text.proofs.PieceLemmas.{same_text}
use Rattle.tss_command.specs.Answer.{refusal_text}
use Rattle.tss_command.proofs.texts.put_refusal.Goals as goal

pub returns-in-Usage-clause-text : goal.returns-in-Usage-clause-text
returns-in-Usage-clause-text g c = same_text (ap refusal_text (sym c.in-Usage.is)) c.put.ensures

pub returns-in-ReadFault-clause-text : goal.returns-in-ReadFault-clause-text
returns-in-ReadFault-clause-text g c =
    same_text
    ((λ i. joined (codes "read " ∷ c.input_name.ensures i ∷ codes "\n" ∷ [])) ∙ ap refusal_text (sym c.in-ReadFault.is))
    c.put_all.ensures

pub returns-in-TooLong-clause-text : goal.returns-in-TooLong-clause-text
returns-in-TooLong-clause-text g c =
    same_text
    ((λ i. joined (codes "long " ∷ c.input_name-in-TooLong.ensures i ∷ codes "\n" ∷ []))
    ∙ ap refusal_text (sym c.in-TooLong.is))
    c.put_all-in-TooLong.ensures

pub returns-in-Image-clause-text : goal.returns-in-Image-clause-text
returns-in-Image-clause-text g c =
    let digits = c.as_bytes.ensures.value ∙ c.format.ensures.text in
    same_text
    ((λ i. joined (codes "image " ∷ digits i ∷ codes "\n" ∷ [])) ∙ ap refusal_text (sym c.in-Image.is))
    c.put_all-in-Image.ensures

pub returns-in-Schedule-clause-text : goal.returns-in-Schedule-clause-text
returns-in-Schedule-clause-text g c = same_text (ap refusal_text (sym c.in-Schedule.is)) c.put_schedule.ensures
