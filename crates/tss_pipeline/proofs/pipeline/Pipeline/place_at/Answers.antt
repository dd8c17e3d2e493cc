-- The name stands at its place in the bank.
use Rattle.std.proofs.Common.{◌∙◌}
use Rattle.tss_pipeline.proofs.shown.SeenBanks.{seen_places, seen_no_place}
use Rattle.tss_pipeline.proofs.pipeline.Pipeline.place_at.Goals as goal

pub returns-in-Some : goal.returns-in-Some
returns-in-Some c =
    c.place_at.ensures
    ∙ seen_places c.self.inside.units c.self.invariant.fit c.args.self.now c.self.view_is
    c.deref.result.now c.deref.ensures.value c.args.bank c.in-Some.bank.now c.in-Some.ensures c.args.i

pub returns-in-None : goal.returns-in-None
returns-in-None c =
    seen_no_place c.self.inside.units c.self.invariant.fit c.args.self.now c.self.view_is
    c.deref.result.now c.deref.ensures.value c.args.bank c.in-None.ensures c.args.i
