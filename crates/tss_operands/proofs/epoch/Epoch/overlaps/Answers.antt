-- The first object that ends after the base tells.
use Rattle.std.proofs.Common.{◌≡◌, ap, sym, ◌∙◌, true, false, ◌&&◌, not}
use Rattle.tss_base.specs.Range.{meets}
use Rattle.tss_model.specs.Spawn.{same_range}
use Rattle.tss_operands.proofs.PlacedLemmas.{overlaps_none, overlaps_some}
use Rattle.tss_operands.proofs.epoch.Epoch.overlaps.Goals as goal

pub returns-then-meets : goal.returns-then-meets
returns-then-meets c =
    let r = c.args.object.now in
    let n = c.in-Some.named.now in
    let hits : meets n r ≡ true = sym c.meets.ensures.exact ∙ c.if-meets.true in
    let other : c.ne.result ≡ not (same_range n r) = c.ne.ensures in
    other ∙ ap (λ b. b && not (same_range n r)) (sym hits) ∙ sym (overlaps_some c.args.self.now.objects r n c.in-Some.ensures)

pub returns-else-meets : goal.returns-else-meets
returns-else-meets c =
    let r = c.args.object.now in
    let n = c.in-Some.named.now in
    let misses : meets n r ≡ false = sym c.meets.ensures.exact ∙ c.if-meets.false in
    c.if-meets.false ∙ ap (λ b. b && not (same_range n r)) (sym misses)
    ∙ sym (overlaps_some c.args.self.now.objects r n c.in-Some.ensures)

pub returns-in-None : goal.returns-in-None
returns-in-None c = sym (overlaps_none c.args.self.now.objects c.args.object.now c.in-None.ensures)
