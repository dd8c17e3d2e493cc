-- A version that gives way stands between its neighbours.
use Rattle.tss_versions.proofs.ConditionLemmas.{stands_between, next_unstored}
use Rattle.tss_versions.proofs.versions.Versions.settle.Goals as goal

pub pass_by-requires-clause-between : goal.pass_by-requires-clause-between
pass_by-requires-clause-between c =
    stands_between c.args.self.now.versions c.args.v c.requires.at c.requires.links c.get.result.now c.get.ensures.exact
    c.get.ensures.sites c.in-Some.next c.in-Some.is

pub take_over-requires-clause-between : goal.take_over-requires-clause-between
take_over-requires-clause-between c =
    stands_between c.args.self.now.versions c.args.v c.requires.at c.requires.links c.get.result.now c.get.ensures.exact
    c.get.ensures.sites c.in-Some.next c.in-Some.is

pub take_over-requires-clause-bare : goal.take_over-requires-clause-bare
take_over-requires-clause-bare c =
    next_unstored c.args.self.now.versions c.args.v c.requires.at c.requires.links c.get.result.now c.get.ensures.exact
    c.get.ensures.sites c.in-Some.next c.in-Some.is c.in-Over.is
