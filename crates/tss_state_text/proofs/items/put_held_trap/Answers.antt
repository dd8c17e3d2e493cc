-- The trap is the one that is shown.
use Rattle.std.proofs.Common.{ℕ, sym, ap, ◌∙◌}
use Rattle.std.specs.Prelude.{option_map}
use Rattle.tss_base.specs.declared.ending.Trap.{Trap}
use Rattle.tss_protocol.specs.State.{HeldTrap}
use Rattle.tss_text.proofs.PieceLemmas.{same_text}
use Rattle.tss_state_lines.specs.Lines.{trap_line}
use Rattle.tss_state_text.specs.StateText.{text_if}
use Rattle.tss_state_text.proofs.items.put_held_trap.Goals as goal

-- what is shown, as the definitions have it
abbrev held : ℕ × Trap → HeldTrap
held t = record { task = t.0; trap = t.1 }

pub returns-in-Some : goal.returns-in-Some
returns-in-Some g c =
    same_text (ap (text_if trap_line) (ap (option_map held) (sym c.in-Some.is) ∙ c.trap.ensures)) c.put_trap.ensures
