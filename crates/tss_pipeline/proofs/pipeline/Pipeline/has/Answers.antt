-- The version stands in the bank.
use Rattle.std.proofs.Common.{ap, is_some, ◌∙◌}
use Rattle.std.specs.FinMap.{get}
use Rattle.tss_pipeline.proofs.shown.SeenBanks.{version_there, seen_versions, seen_no_version}
use Rattle.tss_pipeline.proofs.pipeline.Pipeline.has.Goals as goal

pub returns-in-Some : goal.returns-in-Some
returns-in-Some c =
    c.has.ensures
    ∙ version_there c.in-Some.bank.now.versions.versions c.args.v
    ∙ ap (λ m. is_some (get m c.args.v))
    (seen_versions c.self.inside.units c.self.invariant.fit c.args.self.now c.self.view_is
    c.deref.result.now c.deref.ensures.value c.args.bank c.in-Some.bank.now c.in-Some.ensures)

pub returns-in-None : goal.returns-in-None
returns-in-None c =
    ap is_some (seen_no_version c.self.inside.units c.self.invariant.fit c.args.self.now c.self.view_is
    c.deref.result.now c.deref.ensures.value c.args.bank c.in-None.ensures c.args.v)
