-- The next version was found, and is younger.
use Rattle.std.proofs.Common.{◌<◌, sym, ap, subst, ◌∙◌, arith}
use Rattle.std.specs.FinMap.{get}
use Rattle.std.proofs.lemmas.Option.{same_Some}
use Rattle.tss_versions.specs.declared.status.Next.{Next}
use Rattle.tss_versions.specs.Known.{versions_of, follow_of}
use Rattle.tss_versions.specs.Conditions.{IsNext}
use Rattle.tss_versions.proofs.StepLemmas.{found_site}
use Rattle.tss_versions.proofs.CheckLemmas.{unset, younger_there}
use Rattle.tss_versions.proofs.tests.checks.has_younger.Goals as goal

pub returns-in-Beside : goal.returns-in-Beside
returns-in-Beside c = λ t n e.
    let vs = c.args.bank.now.versions in
    let next = c.in-Some.next in
    let f = found_site vs next.site.name c.in-Some-find.at (sym c.find.ensures ∙ c.in-Some-find.is) in
    let far = c.if-next-v.false in
    let younger : c.args.v.task < next.site.name.task = omega (arith, far) in
    let how = c.in-Beside.is in
    subst (λ (n : Next). IsNext (versions_of vs) c.args.v (follow_of n)) (same_Some next n (sym c.in-Some.is ∙ e))
    (younger_there vs c.args.v next f.kept f.there younger (λ over. absurd (cc)))

pub returns-in-Over : goal.returns-in-Over
returns-in-Over c = λ t n e.
    let vs = c.args.bank.now.versions in
    let next = c.in-Some.next in
    let f = found_site vs next.site.name c.in-Some-find.at (sym c.find.ensures ∙ c.in-Some-find.is) in
    let far = c.if-next-v.false in
    let younger : c.args.v.task < next.site.name.task = omega (arith, far) in
    let x = c.get.result.now in
    subst (λ (n : Next). IsNext (versions_of vs) c.args.v (follow_of n)) (same_Some next n (sym c.in-Some.is ∙ e))
    (younger_there vs c.args.v next x (ap (get vs) (sym f.name) ∙ c.get.ensures.exact) younger
    (λ over. unset x.store c.is_none.result c.is_none.ensures t))
