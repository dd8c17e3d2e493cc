-- The engine has moved as many.
use Rattle.std.proofs.Common.{ap, option_map, ◌∙◌}
use Rattle.tss_protocol.specs.State.{CopyState}
use Rattle.tss_pipeline.proofs.shown.SeenBanks.{seen_moved, seen_no_copy}
use Rattle.tss_pipeline.proofs.pipeline.Pipeline.moved.Goals as goal

pub returns-in-Some : goal.returns-in-Some
returns-in-Some c =
    c.moved.ensures
    ∙ seen_moved c.self.inside.units c.self.invariant.fit c.args.self.now c.self.view_is
    c.deref.result.now c.deref.ensures.value c.args.bank c.in-Some.bank.now c.in-Some.ensures

pub returns-in-None : goal.returns-in-None
returns-in-None c =
    ap (option_map (λ (c : CopyState). c.moved))
    (seen_no_copy c.self.inside.units c.self.invariant.fit c.args.self.now c.self.view_is
    c.deref.result.now c.deref.ensures.value c.args.bank c.in-None.ensures)
