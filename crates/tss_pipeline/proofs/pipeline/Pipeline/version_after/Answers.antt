-- The version stands in the bank.
use Rattle.std.proofs.Common.{◌∙◌}
use Rattle.tss_pipeline.proofs.shown.SeenBanks.{seen_version_after, seen_no_version_after}
use Rattle.tss_pipeline.proofs.pipeline.Pipeline.version_after.Goals as goal

pub returns-in-Some : goal.returns-in-Some
returns-in-Some c =
    c.name_after.ensures
    ∙ seen_version_after c.self.inside.units c.self.invariant.fit c.args.self.now c.self.view_is
    c.deref.result.now c.deref.ensures.value c.args.bank c.in-Some.bank.now c.in-Some.ensures c.args.v

pub returns-in-None : goal.returns-in-None
returns-in-None c =
    seen_no_version_after c.self.inside.units c.self.invariant.fit c.args.self.now c.self.view_is
    c.deref.result.now c.deref.ensures.value c.args.bank c.in-None.ensures c.args.v
