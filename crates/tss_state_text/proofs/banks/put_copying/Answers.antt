-- The copy is the one that is shown.
use Rattle.std.proofs.Common.{sym, ap, ◌∙◌}
use Rattle.std.specs.Prelude.{option_map}
use Rattle.tss_pipeline.specs.BankParts.{copy_shown}
use Rattle.tss_text.proofs.PieceLemmas.{same_text}
use Rattle.tss_state_text.proofs.ShownTexts.{copy_line_of}
use Rattle.tss_state_text.proofs.banks.put_copying.Goals as goal

pub returns-in-Some-Some : goal.returns-in-Some-Some
returns-in-Some-Some g c =
    let shown = c.in-Some-Some in
    same_text (copy_line_of c.args.p.now.state.copies c.args.bank shown.v shown.field-0-1-0 shown.field-0-2-0 shown.moved
    (ap (option_map copy_shown) (sym shown.is-0) ∙ c.copy.ensures) (sym shown.is-1 ∙ c.moved.ensures)) c.put_copy.ensures
