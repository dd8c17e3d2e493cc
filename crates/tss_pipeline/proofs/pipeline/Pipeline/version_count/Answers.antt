-- The bank counts as many.
use Rattle.std.proofs.Common.{◌∙◌}
use Rattle.tss_pipeline.proofs.shown.SeenBanks.{seen_version_count, seen_zero_versions}
use Rattle.tss_pipeline.proofs.pipeline.Pipeline.version_count.Goals as goal

pub returns-in-Some : goal.returns-in-Some
returns-in-Some c =
    c.count.ensures
    ∙ seen_version_count c.self.inside.units c.self.invariant.fit c.args.self.now c.self.view_is
    c.deref.result.now c.deref.ensures.value c.args.bank c.in-Some.bank.now c.in-Some.ensures

pub returns-in-None : goal.returns-in-None
returns-in-None c =
    seen_zero_versions c.self.inside.units c.self.invariant.fit c.args.self.now c.self.view_is
    c.deref.result.now c.deref.ensures.value c.args.bank c.in-None.ensures
