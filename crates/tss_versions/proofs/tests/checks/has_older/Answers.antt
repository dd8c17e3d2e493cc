-- The version before is registered, and older.
use Rattle.std.proofs.Common.{sym, subst, ◌∙◌}
use Rattle.std.proofs.lemmas.Option.{same_Some}
use Rattle.tss_versions.specs.declared.status.Site.{Site}
use Rattle.tss_versions.specs.Known.{versions_of}
use Rattle.tss_versions.specs.Conditions.{IsBefore}
use Rattle.tss_versions.proofs.CheckLemmas.{below, older_there}
use Rattle.tss_versions.proofs.tests.checks.has_older.Goals as goal

pub returns-then-has : goal.returns-then-has
returns-then-has c = λ t s e.
    let vs = c.args.bank.now.versions in
    let site = c.in-Some.site in
    subst (λ (s : Site). IsBefore (versions_of vs) c.args.v s.name) (same_Some site s (sym c.in-Some.is ∙ e))
    (older_there vs c.args.v site.name (sym c.has.ensures ∙ c.if-has.true) (below site.name.task c.args.v.task t))
