-- What the event leaves alone is counted as before.
use Rattle.std.proofs.Common.{sym, ap, ◌∙◌}
use Rattle.tss_pipeline.specs.declared.changing.Parts.{Parts}
use Rattle.tss_pipeline.proofs.shown.KeptCounts.{kept_slots}
use Rattle.tss_pipeline.proofs.units.Units.slots_after.Goals as goal

pub returns-else-changes : goal.returns-else-changes
returns-else-changes c =
    kept_slots c.args.e.now c.args.self.now c.args.before.now c.requires
    (sym (ap (λ (p : Parts). p.flight) c.changes.ensures) ∙ c.if-changes.false)
