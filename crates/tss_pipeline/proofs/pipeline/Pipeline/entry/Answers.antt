-- The entry stands in the bank.
use Rattle.std.proofs.Common.{ap, ◌∙◌}
use Rattle.std.specs.FinMap.{get}
use Rattle.tss_pipeline.proofs.shown.SeenBanks.{seen_entries, seen_no_entry}
use Rattle.tss_pipeline.proofs.pipeline.Pipeline.entry.Goals as goal

pub returns-in-Some : goal.returns-in-Some
returns-in-Some c =
    c.entry.ensures
    ∙ ap (λ m. get m c.args.base)
    (seen_entries c.self.inside.units c.self.invariant.fit c.args.self.now c.self.view_is
    c.deref.result.now c.deref.ensures.value c.args.bank c.in-Some.bank.now c.in-Some.ensures)

pub returns-in-None : goal.returns-in-None
returns-in-None c =
    seen_no_entry c.self.inside.units c.self.invariant.fit c.args.self.now c.self.view_is
    c.deref.result.now c.deref.ensures.value c.args.bank c.in-None.ensures c.args.base
