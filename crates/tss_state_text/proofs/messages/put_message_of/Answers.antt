-- The message is the one that is shown.
use Rattle.std.proofs.Common.{Bor, sym, ap, ◌∙◌}
use Rattle.std.specs.Prelude.{option_map}
use Rattle.tss_events.specs.declared.message.Message.{Message}
use Rattle.tss_events.specs.Events.{message_of}
use Rattle.tss_text.proofs.PieceLemmas.{same_text}
use Rattle.tss_state_lines.specs.Lines.{message_line}
use Rattle.tss_state_text.specs.StateText.{text_if}
use Rattle.tss_state_text.proofs.messages.put_message_of.Goals as goal

pub returns-in-Some : goal.returns-in-Some
returns-in-Some g c =
    same_text (ap (text_if message_line)
    (ap (option_map (λ (m : Bor Message). message_of m.now)) (sym c.in-Some.is) ∙ c.see.ensures)) c.put_message.ensures
