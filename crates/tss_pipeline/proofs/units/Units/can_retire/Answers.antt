-- Whether a version may be removed.
use Rattle.std.proofs.Common.{sym, ◌∙◌, arith}
use Rattle.std.specs.FinMap.{get}
use Rattle.std.proofs.lemmas.Option.{slice_get_within}
use Rattle.tss_pipeline.proofs.version_rows.VersionLookups.{in_read, is_some-mapped}
use Rattle.tss_pipeline.proofs.version_rows.VersionEvents.{something}
use Rattle.tss_pipeline.proofs.version_rows.VersionRetiring.{none_told, retires_not, retires_nowhere, retires_home, retires_away}
use Rattle.tss_pipeline.proofs.units.Units.can_retire.Goals as goal

pub returns-then-not-has : goal.returns-then-not-has
returns-then-not-has c =
    retires_not c.args.self.now c.requires c.args.v
    (sym (is_some-mapped _ (get c.args.self.now.mail.retires c.args.v)) ∙ sym c.has.ensures ∙ c.if-not-has.true)

pub returns-in_default : goal.returns-in_default
returns-in_default c =
    retires_nowhere c.args.self.now c.requires c.args.v
    (sym (is_some-mapped _ (get c.args.self.now.mail.retires c.args.v)) ∙ sym c.has.ensures ∙ c.if-not-has.false)
    c.in_default.ensures

pub index-bank-requires : goal.index-bank-requires
index-bank-requires c =
    let i = c.in-Some.ensures in
    let within = slice_get_within c.args.self.now.banks.items c.in-Some.bank i.bank i.there in
    omega (arith, within)

pub returns-then-is_home : goal.returns-then-is_home
returns-then-is_home c =
    let u = c.args.self.now in
    let b = c.index-bank.result.now in
    let t = in_read u.banks.items c.args.v c.in-Some.bank b c.in-Some.ensures c.index-bank.ensures in
    let k = something (get b.versions.versions c.args.v) t.1 in
    c.if-is_home.true
    ∙ retires_home u c.requires c.args.v
    (sym (is_some-mapped _ (get u.mail.retires c.args.v)) ∙ sym c.has.ensures ∙ c.if-not-has.false)
    c.in-Some.bank b t.0 k.0 k.1
    (sym c.is_home.ensures ∙ c.if-is_home.true)

pub returns-else-is_home : goal.returns-else-is_home
returns-else-is_home c =
    let u = c.args.self.now in
    let b = c.index-bank.result.now in
    let t = in_read u.banks.items c.args.v c.in-Some.bank b c.in-Some.ensures c.index-bank.ensures in
    let k = something (get b.versions.versions c.args.v) t.1 in
    none_told b.job c.is_none.result c.is_none.ensures
    ∙ retires_away u c.requires c.args.v
    (sym (is_some-mapped _ (get u.mail.retires c.args.v)) ∙ sym c.has.ensures ∙ c.if-not-has.false)
    c.in-Some.bank b t.0 k.0 k.1
    (sym c.is_home.ensures ∙ c.if-is_home.false)
