-- A version that isn't registered has no neighbours, and each check is a part of what is asked of one that is.
use Rattle.std.proofs.Common.{sym, ap, ◌∙◌}
use Rattle.std.specs.FinMap.{get}
use Rattle.tss_versions.proofs.StepLemmas.{absent_site, found_site}
use Rattle.tss_versions.proofs.CheckLemmas.{chained_absent, chained_here}
use Rattle.tss_versions.proofs.tests.checks.is_chained_at.Goals as goal

pub returns-in_default : goal.returns-in_default
returns-in_default c = λ t.
    let vs = c.args.bank.now.versions in
    chained_absent vs c.args.v (absent_site vs c.args.v (sym c.find.ensures ∙ c.in_default.is))

pub returns : goal.returns
returns c = λ t.
    let vs = c.args.bank.now.versions in
    let f = found_site vs c.args.v c.in-Some.at (sym c.find.ensures ∙ c.in-Some.is) in
    chained_here vs c.args.v c.get.result.now (ap (get vs) (sym f.name) ∙ c.get.ensures.exact)
    (c.is_settled.ensures c.if-not-is_settled.false)
    (c.has_older.ensures c.if-not-has_older.false)
    (c.has_younger.ensures t)
