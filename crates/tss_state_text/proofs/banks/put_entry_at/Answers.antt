-- The entry is the one that is shown.
use Rattle.std.proofs.Common.{sym, ap, ◌∙◌}
use Rattle.std.specs.Prelude.{option_map}
use Rattle.tss_renaming.specs.Entries.{entry_of}
use Rattle.tss_text.proofs.PieceLemmas.{same_text}
use Rattle.tss_state_lines.specs.Lines.{entry_line}
use Rattle.tss_state_text.specs.StateText.{text_if}
use Rattle.tss_state_text.proofs.ShownTexts.{entry_text_at, nothing_put}
use Rattle.tss_state_text.proofs.banks.put_entry_at.Goals as goal

pub returns-in-Some : goal.returns-in-Some
returns-in-Some g c =
    let a = c.args in
    same_text (ap (λ r. text_if (entry_line a.bank) (option_map entry_of r)) (sym c.in-Some.is)
    ∙ entry_text_at a.p.now.machine.sizes a.bank a.p.now.state.entries a.i c.entry_at.result c.entry_at.ensures)
    c.put_entry.ensures

pub returns-in-None : goal.returns-in-None
returns-in-None g c =
    let a = c.args in
    same_text (ap (λ r. text_if (entry_line a.bank) (option_map entry_of r)) (sym c.in-None.is)
    ∙ entry_text_at a.p.now.machine.sizes a.bank a.p.now.state.entries a.i c.entry_at.result c.entry_at.ensures)
    (nothing_put g.K.Sink a.to.now)
