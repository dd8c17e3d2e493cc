-- The first object that ends after the base tells.
use Rattle.std.proofs.Common.{sym, ◌∙◌}
use Rattle.tss_operands.proofs.PlacedLemmas.{touches_none, touches_some}
use Rattle.tss_operands.proofs.epoch.Epoch.touches.Goals as goal

pub returns-in-Some : goal.returns-in-Some
returns-in-Some c =
    c.meets.ensures.exact ∙ sym (touches_some c.args.self.now.objects c.args.r.now c.in-Some.named.now c.in-Some.ensures)

pub returns-in-None : goal.returns-in-None
returns-in-None c = sym (touches_none c.args.self.now.objects c.args.r.now c.in-None.ensures)
