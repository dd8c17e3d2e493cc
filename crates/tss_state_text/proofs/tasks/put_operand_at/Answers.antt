-- The operand is the one that is shown.
use Rattle.std.proofs.Common.{sym, ap, ◌∙◌}
use Rattle.std.specs.Prelude.{option_map}
use Rattle.tss_text.proofs.PieceLemmas.{same_text}
use Rattle.tss_stations.specs.Views.{state_of}
use Rattle.tss_state_lines.specs.Lines.{operand_line}
use Rattle.tss_state_text.specs.StateText.{text_if}
use Rattle.tss_state_text.proofs.tasks.put_operand_at.Goals as goal

pub returns-in-Some : goal.returns-in-Some
returns-in-Some g c =
    same_text (ap (text_if (operand_line c.args.o)) (ap (option_map state_of) (sym c.in-Some.is) ∙ c.operand.ensures))
    c.put_operand.ensures
