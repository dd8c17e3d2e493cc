-- Each version is at a place of the names in order.
use Rattle.std.proofs.Common.{sym, subst, ◌∙◌, arith}
use Rattle.std.proofs.lemmas.Option.{none-some, same_Some}
use Rattle.tss_versions.specs.Known.{versions_of}
use Rattle.tss_versions.specs.Conditions.{IsChainedAt}
use Rattle.tss_versions.proofs.CheckLemmas.{chained_each, one_more}
use Rattle.tss_versions.proofs.tests.checks.is_chained.Goals.{in-Some+else-not-is_chained_at, in_default}
use Rattle.tss_versions.proofs.tests.checks.is_chained.Goals as goal

pub loop-i-preserved : goal.loop-i-preserved
loop-i-preserved c =
    let vs = c.args.bank.now.versions in
    one_more vs (IsChainedAt (versions_of vs)) c.loop-i.i c.loop-i.invariant
    (elim c.match-name_at.branch [
      | in-Some+else-not-is_chained_at w ↦ λ v at.
          subst (IsChainedAt (versions_of vs)) (same_Some _ _ (sym w.in-Some.is ∙ c.name_at.ensures ∙ at))
          (w.is_chained_at.ensures w.if-not-is_chained_at.false)
      | in_default w ↦ λ v at. absurd (none-some v (sym w.in_default.is ∙ c.name_at.ensures ∙ at))
    ])

pub returns : goal.returns
returns c = λ t.
    chained_each c.args.bank.now.versions
    (λ i v less at.
    let many = c.count-i-end.ensures in
    let past = c.loop-i-test.false in
    c.loop-i.invariant i v (omega (arith, less, many, past)) at)
