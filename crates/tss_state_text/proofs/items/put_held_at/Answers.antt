-- The task is the one that is shown.
use Rattle.std.proofs.Common.{ℕ, sym, ap, ◌∙◌}
use Rattle.std.specs.Prelude.{slice_get}
use Rattle.tss_gateway.specs.Seen.{told}
use Rattle.tss_protocol.specs.Gateway.{held_tasks}
use Rattle.tss_text.proofs.PieceLemmas.{same_text}
use Rattle.tss_state_lines.specs.Lines.{gateway_line}
use Rattle.tss_state_text.specs.StateText.{text_if}
use Rattle.tss_state_text.proofs.ShownTexts.{text_of_map}
use Rattle.tss_state_text.proofs.items.put_held_at.Goals as goal

pub returns-in-Some : goal.returns-in-Some
returns-in-Some g c =
    let at = slice_get (held_tasks c.args.p.now.state.gateway) c.args.i in
    same_text (ap (text_if (λ (p : ℕ × ℕ). gateway_line (record { task = p.0; operands = p.1 }))) (sym c.in-Some.is ∙ c.held_at.ensures)
    ∙ text_of_map (λ (p : ℕ × ℕ). gateway_line (record { task = p.0; operands = p.1 })) told at) c.put_held.ensures
