-- The first object that ends after the base tells.
use Rattle.std.proofs.Common.{◌≡◌, sym, ◌∙◌}
use Rattle.tss_model.specs.Spawn.{same_range}
use Rattle.tss_operands.proofs.PlacedLemmas.{named_none, named_some}
use Rattle.tss_operands.proofs.epoch.Epoch.has.Goals as goal

pub returns-in-Some : goal.returns-in-Some
returns-in-Some c =
    let r = c.args.object.now in
    let n = c.in-Some.named.now in
    let tested : c.eq.result ≡ same_range r n = c.eq.ensures in
    tested ∙ sym (named_some c.args.self.now.objects r n c.in-Some.ensures)

pub returns-in-None : goal.returns-in-None
returns-in-None c = sym (named_none c.args.self.now.objects c.args.object.now c.in-None.ensures)
