-- An event that leaves a kind alone leaves as many that may happen.
use Rattle.std.proofs.Common.{sym, ◌∙◌}
use Rattle.tss_pipeline.proofs.listed.KeptKinds.{kept_count}
use Rattle.tss_pipeline.proofs.units.Units.enabled_after.Goals as goal

pub returns-else-touches : goal.returns-else-touches
returns-else-touches c =
    kept_count c.args.e.now c.args.self.now c.args.source c.args.before c.requires.before
    (sym c.touches.ensures ∙ c.if-touches.false)
