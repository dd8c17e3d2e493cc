-- The parts of the line are those of the ending.
use Rattle.std.proofs.Common.{[], ◌∷◌, sym, ap, ◌∙◌}
use Rattle.std.specs.Prelude.{codes}
use Rattle.tss_text.specs.Pieces.{joined}
use Rattle.tss_report.specs.Report.{ending_text}
use Rattle.tss_text.proofs.PieceLemmas.{same_text}
use Rattle.tss_report.proofs.report.put_ending.Goals as goal

pub returns-in-MainTrap : goal.returns-in-MainTrap
returns-in-MainTrap g c =
    let pc = c.hex_word.ensures in
    let cause = c.as_bytes-in-MainTrap.ensures.value ∙ c.format-in-MainTrap.ensures.text in
    let value = c.hex_word-in-MainTrap.ensures in
    same_text ((λ i. joined (codes "end main-trap " ∷ pc i ∷ codes " " ∷ cause i ∷ codes " " ∷ value i ∷ codes "\n" ∷ []))
    ∙ ap ending_text (sym c.in-MainTrap.is)) c.put_all-in-MainTrap.ensures

pub returns-in-TaskTrap : goal.returns-in-TaskTrap
returns-in-TaskTrap g c =
    let task = c.as_bytes-in-TaskTrap.ensures.value ∙ c.format-in-TaskTrap.ensures.text in
    let pc = c.hex_word-in-TaskTrap.ensures in
    let cause = c.as_bytes-in-TaskTrap-2.ensures.value ∙ c.format-in-TaskTrap-2.ensures.text in
    let value = c.hex_word-in-TaskTrap-2.ensures in
    same_text ((λ i. joined (codes "end task-trap " ∷ task i ∷ codes " " ∷ pc i ∷ codes " " ∷ cause i ∷ codes " " ∷ value i ∷ codes "\n" ∷ []))
    ∙ ap ending_text (sym c.in-TaskTrap.is)) c.put_all-in-TaskTrap.ensures

pub returns-in-Refused : goal.returns-in-Refused
returns-in-Refused g c =
    let number = c.as_bytes-in-Refused.ensures.value ∙ c.format-in-Refused.ensures.text in
    let pc = c.hex_word-in-Refused.ensures in
    same_text ((λ i. joined (codes "end refused " ∷ number i ∷ codes " " ∷ pc i ∷ codes "\n" ∷ []))
    ∙ ap ending_text (sym c.in-Refused.is)) c.put_all-in-Refused.ensures
