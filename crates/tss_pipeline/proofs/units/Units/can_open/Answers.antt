-- Whether a version may be opened.
use Rattle.std.proofs.Common.{◌≡◌, Some, sym, ap, ◌∙◌, subst}
use Rattle.std.specs.Prelude.{slice_get, option_map}
use Rattle.tss_pipeline.proofs.version_rows.VersionLookups.{some_banks, read_there, opening_seen, no_opening_seen, opens_not, opens_first, opens_behind}
use Rattle.tss_pipeline.proofs.units.Units.can_open.Goals as goal

pub bank_of-bank-requires-clause-some : goal.bank_of-bank-requires-clause-some
bank_of-bank-requires-clause-some c = some_banks c.args.self.now c.requires

pub returns-in-Some : goal.returns-in-Some
returns-in-Some c =
    let u = c.args.self.now in
    let x = c.in-Some-Open.opening in
    let seen = ap Some (sym c.in-Some-Open.field-0-is)
    ∙ ap (option_map (λ m. m.now)) (sym c.in-Some-Open.is)
    ∙ c.see.ensures.exact in
    let b = c.index.result.now in
    c.has.ensures
    ∙ opens_behind u c.requires c.args.o x (opening_seen _ x seen) c.in-Some.follow b c.in-Some.is
    (subst (λ n. slice_get u.banks.items n ≡ Some b) c.bank_of-bank.ensures.exact
    (read_there u.banks.items c.bank_of-bank.result b c.bank_of-bank.ensures.within c.index.ensures))

pub returns-in-None : goal.returns-in-None
returns-in-None c =
    let x = c.in-Some-Open.opening in
    let seen = ap Some (sym c.in-Some-Open.field-0-is)
    ∙ ap (option_map (λ m. m.now)) (sym c.in-Some-Open.is)
    ∙ c.see.ensures.exact in
    opens_first c.args.self.now c.requires c.args.o x (opening_seen _ x seen) c.in-None.is

pub returns-in_default-2 : goal.returns-in_default-2
returns-in_default-2 c =
    opens_not c.args.self.now c.requires c.args.o
    (no_opening_seen _ (ap (option_map (λ m. m.now)) (sym c.in_default.is) ∙ c.see.ensures.exact))
