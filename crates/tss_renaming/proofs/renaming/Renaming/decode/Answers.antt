-- The tables are the definitions', whichever place and buffer are taken.
use Rattle.std.proofs.Common.{ap, ◌∙◌, option_map}
use Rattle.std.specs.FinMap.{insert}
use Rattle.tss_renaming.specs.Entries.{entry_of}
use Rattle.tss_renaming.specs.Bank.{RenamingState, tables_of, renaming_of}
use Rattle.tss_renaming.specs.Decoding.{state_after_decode}
use Rattle.tss_renaming.proofs.BankLemmas.{decoded_tables}
use Rattle.tss_renaming.proofs.renaming.Renaming.decode.Goals as goal

pub returns-clause-tables : goal.returns-clause-tables
returns-clause-tables c =
    let r = c.self.inside in
    let o = c.args.o in
    let operand = c.args.operand.now in
    let opened = c.opened-message.ensures in
    let p = opened.place in
    let b = opened.buffer in
    let written =
    c.put.ensures
    ∙ ap (λ e. record (r.entries) { entries = insert r.entries.entries operand.object.base e }) c.next_entry.ensures in
    ap tables_of (
    (λ i. renaming_of r.bank r.sizes (written i) (opened.places_are i) (opened.buffers_are i)
    (c.remove.ensures.others i))
    ∙ ap (λ (s : RenamingState). state_after_decode s o operand (option_map entry_of c.entry-entry.result) p b)
    c.self.view_is
    ∙ ap (λ e. state_after_decode c.args.self.now o operand e p b) c.entry-entry.ensures)
    ∙ decoded_tables c.args.self.now o operand p b
