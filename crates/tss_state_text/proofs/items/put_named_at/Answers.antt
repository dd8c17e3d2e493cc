-- The object is the one that is shown.
use Rattle.std.proofs.Common.{sym, ap, ◌∙◌}
use Rattle.tss_text.proofs.PieceLemmas.{same_text}
use Rattle.tss_state_lines.specs.Lines.{epoch_line}
use Rattle.tss_state_text.specs.StateText.{text_if}
use Rattle.tss_state_text.proofs.items.put_named_at.Goals as goal

pub returns-in-Some : goal.returns-in-Some
returns-in-Some g c = same_text (ap (text_if epoch_line) (sym c.in-Some.is ∙ c.epoch_at.ensures)) c.put_named.ensures
