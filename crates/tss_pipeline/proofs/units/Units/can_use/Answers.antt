-- Whether a reader may be enlisted.
use Rattle.std.proofs.Common.{Some, sym, ap, ◌∙◌}
use Rattle.std.specs.Prelude.{option_map}
use Rattle.tss_pipeline.proofs.version_rows.VersionLookups.{some_banks, read_there, use_seen, no_use_seen, uses_not, user_flies, uses_here}
use Rattle.tss_pipeline.proofs.units.Units.can_use.Goals as goal

pub bank_of_operand-bank-requires-clause-some : goal.bank_of_operand-bank-requires-clause-some
bank_of_operand-bank-requires-clause-some c = some_banks c.args.self.now c.requires

pub bank_of_operand-bank-requires-clause-flies : goal.bank_of_operand-bank-requires-clause-flies
bank_of_operand-bank-requires-clause-flies c =
    let v = c.in-Some-Use.v in
    let seen = ap Some (sym c.in-Some-Use.field-0-is)
    ∙ ap (option_map (λ m. m.now)) (sym c.in-Some-Use.is)
    ∙ c.see.ensures.exact in
    user_flies c.args.self.now c.requires c.args.o v (use_seen c.args.o _ v _ seen)

pub returns-in-Some-Use : goal.returns-in-Some-Use
returns-in-Some-Use c =
    let u = c.args.self.now in
    let v = c.in-Some-Use.v in
    let seen = ap Some (sym c.in-Some-Use.field-0-is)
    ∙ ap (option_map (λ m. m.now)) (sym c.in-Some-Use.is)
    ∙ c.see.ensures.exact in
    let b = c.index.result.now in
    c.has.ensures
    ∙ uses_here u c.requires c.args.o v (use_seen c.args.o _ v _ seen) c.bank_of_operand-bank.result b
    c.bank_of_operand-bank.ensures.exact
    (read_there u.banks.items c.bank_of_operand-bank.result b c.bank_of_operand-bank.ensures.within c.index.ensures)

pub returns-in_default-2 : goal.returns-in_default-2
returns-in_default-2 c =
    uses_not c.args.self.now c.requires c.args.o
    (no_use_seen c.args.o _ (ap (option_map (λ m. m.now)) (sym c.in_default.is) ∙ c.see.ensures.exact))
