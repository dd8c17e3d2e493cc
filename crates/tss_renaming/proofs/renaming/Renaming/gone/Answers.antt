-- The tables are the definitions'.
use Rattle.std.proofs.Common.{true, false, ap, sym, ◌∙◌}
use Rattle.tss_events.specs.Events.{gone_of}
use Rattle.tss_renaming.specs.Bank.{RenamingState, tables_of, renaming_of, state_after_gone}
use Rattle.tss_renaming.proofs.BankLemmas.{gone_tables}
use Rattle.tss_renaming.proofs.renaming.Renaming.gone.Goals as goal

pub returns-then-retired-clause-tables : goal.returns-then-retired-clause-tables
returns-then-retired-clause-tables c =
    let r = c.self.inside in
    let m = c.args.m in
    ap tables_of (
    (λ i. renaming_of r.bank r.sizes (c.remove.ensures i) (c.give.ensures i) (c.give_back.ensures i) r.line)
    ∙ ap (λ (s : RenamingState). state_after_gone s m.version (record (gone_of m) { retired = true })) c.self.view_is
    ∙ ap (λ b. state_after_gone c.args.self.now m.version (record (gone_of m) { retired = b })) (sym c.if-retired.true))
    ∙ gone_tables c.args.self.now m.version (gone_of m)

pub returns-else-retired-clause-tables : goal.returns-else-retired-clause-tables
returns-else-retired-clause-tables c =
    let r = c.self.inside in
    let m = c.args.m in
    ap tables_of (
    (λ i. renaming_of r.bank r.sizes r.entries (c.give.ensures i) (c.give_back.ensures i) r.line)
    ∙ ap (λ (s : RenamingState). state_after_gone s m.version (record (gone_of m) { retired = false })) c.self.view_is
    ∙ ap (λ b. state_after_gone c.args.self.now m.version (record (gone_of m) { retired = b })) (sym c.if-retired.false))
    ∙ gone_tables c.args.self.now m.version (gone_of m)
