-- The entry of the object stands in its bank.
use Rattle.std.proofs.Common.{None, ◌∙◌}
use Rattle.tss_pipeline.proofs.shown.BankFills.{some_bank, entry_read}
use Rattle.tss_pipeline.proofs.units.Units.has_entry.Goals as goal

pub bank_of-bank-requires-clause-some : goal.bank_of-bank-requires-clause-some
bank_of-bank-requires-clause-some c = some_bank c.args.self.now c.requires

pub returns-in-Some : goal.returns-in-Some
returns-in-Some c =
    c.eq.ensures
    ∙ entry_read c.args.self.now.machine.sizes c.args.self.now.banks.items c.requires.placed.tables
    c.bank_of-bank.result c.index.result.now c.bank_of-bank.ensures.within c.index.ensures c.args.object.now
    c.bank_of-bank.ensures.exact _ c.in-Some.ensures

pub returns-in-None : goal.returns-in-None
returns-in-None c =
    entry_read c.args.self.now.machine.sizes c.args.self.now.banks.items c.requires.placed.tables
    c.bank_of-bank.result c.index.result.now c.bank_of-bank.ensures.within c.index.ensures c.args.object.now
    c.bank_of-bank.ensures.exact None c.in-None.ensures
