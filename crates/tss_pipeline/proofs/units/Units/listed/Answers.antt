-- An empty list has no name without a message.
use Rattle.std.proofs.Common.{ap, ◌∙◌}
use Rattle.tss_pipeline.specs.Listing.{Names}
use Rattle.tss_pipeline.proofs.listed.ListedNames.{empty_fits}
use Rattle.tss_pipeline.proofs.units.Units.listed.Goals as goal

pub list_anew-requires-clause-fits : goal.list_anew-requires-clause-fits
list_anew-requires-clause-fits c =
    empty_fits c.args.self.now c.args.kind c.in-Ok.opened
    (ap (λ (t : Names). t.size) c.in-Ok.ensures ∙ c.message_limit.ensures)
    (ap (λ (t : Names). t.entries) c.in-Ok.ensures)
