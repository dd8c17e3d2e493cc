-- The name is the one that is shown.
use Rattle.std.proofs.Common.{sym, ap, ◌∙◌}
use Rattle.tss_text.proofs.PieceLemmas.{same_text}
use Rattle.tss_state_lines.specs.Lines.{place_line}
use Rattle.tss_state_text.specs.StateText.{text_if}
use Rattle.tss_state_text.proofs.ShownTexts.{name_place, nothing_put}
use Rattle.tss_state_text.proofs.banks.put_place_at.Goals as goal

pub returns-in-Some : goal.returns-in-Some
returns-in-Some g c =
    let a = c.args in
    same_text (ap (text_if (place_line a.bank))
    (sym c.in-Some.is ∙ c.place_at.ensures ∙ name_place a.bank a.p.now.state.places a.i)) c.put_place.ensures

pub returns-in-None : goal.returns-in-None
returns-in-None g c =
    let a = c.args in
    same_text (ap (text_if (place_line a.bank))
    (sym c.in-None.is ∙ c.place_at.ensures ∙ name_place a.bank a.p.now.state.places a.i)) (nothing_put g.K.Sink a.to.now)
