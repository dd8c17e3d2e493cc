-- What main shows is what the state has.
use Rattle.std.proofs.Common.{sym, ap, ◌∙◌}
use Rattle.std.specs.Prelude.{is_some}
use Rattle.tss_model.specs.Memory.{loaded}
use Rattle.tss_text.proofs.PieceLemmas.{same_text}
use Rattle.tss_state_lines.specs.Lines.{main_line, main_registers_line}
use Rattle.tss_state_text.specs.Items.{item_text}
use Rattle.tss_state_text.proofs.items.put_item.Goals as goal

pub returns-in-Main : goal.returns-in-Main
returns-in-Main g c =
    let a = c.args in
    let ended = c.is_some.ensures ∙ ap is_some c.main_ending.ensures in
    same_text ((λ i. main_line (c.main.ensures i) (c.spawned.ensures i) (ended i))
    ∙ ap (λ q. item_text (loaded a.image.now) a.p.now.machine a.p.now.state q a.i) (sym c.in-Main.is)) c.put_main.ensures

pub returns-in-Registers : goal.returns-in-Registers
returns-in-Registers g c =
    let a = c.args in
    same_text (ap main_registers_line c.main-in-Registers.ensures
    ∙ ap (λ q. item_text (loaded a.image.now) a.p.now.machine a.p.now.state q a.i) (sym c.in-Registers.is))
    c.put_main_registers.ensures
