-- What the event leaves alone is counted as before.
use Rattle.std.proofs.Common.{sym, ap, ◌∙◌}
use Rattle.tss_pipeline.specs.declared.changing.Parts.{Parts}
use Rattle.tss_pipeline.proofs.shown.KeptCounts.{kept_buffers}
use Rattle.tss_pipeline.proofs.units.Units.buffers_after.Goals as goal

pub returns-else-changes : goal.returns-else-changes
returns-else-changes c =
    kept_buffers c.args.e.now c.args.self.now c.args.before.now c.requires
    (sym (ap (λ (p : Parts). p.buffers) c.changes.ensures) ∙ c.if-changes.false)
