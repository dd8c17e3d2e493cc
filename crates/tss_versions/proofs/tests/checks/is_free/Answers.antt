-- Each version is at a place of the names in order.
use Rattle.std.proofs.Common.{◌≡◌, ◌≢◌, Some, arith}
use Rattle.std.specs.FinMap.{get}
use Rattle.tss_base.specs.declared.operand.OpName.{OpName}
use Rattle.tss_versions.specs.declared.kept.Kept.{Kept}
use Rattle.tss_versions.proofs.CheckLemmas.{each_name}
use Rattle.tss_versions.proofs.tests.checks.is_free.Goals as goal

pub returns : goal.returns
returns c = λ t w x there.
    let vs = c.args.bank.now.versions in
    each_name vs (λ (v : OpName). (x : Kept) → get vs v ≡ Some x → x.place.place ≢ c.args.place)
    (λ i v less at.
    let many = c.count-i-end.ensures in
    let past = c.loop-i-test.false in
    c.loop-i.invariant i v (omega (arith, less, many, past)) at)
    w x there x there
