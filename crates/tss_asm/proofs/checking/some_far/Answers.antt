use Rattle.std.proofs.Common.{arith}
use Rattle.tss_asm.proofs.ItemLemmas.{far_found, far_more}
use Rattle.tss_asm.proofs.checking.some_far.Goals as goal

pub returns-then-is_far : goal.returns-then-is_far
returns-then-is_far c =
    far_found c.args.labels.now c.args.text.now c.loop-at.at c.index-text-at.result c.is_far.result (omega arith)
    c.index-text-at.is c.is_far.ensures c.if-is_far.true

pub loop-at-preserved : goal.loop-at-preserved
loop-at-preserved c =
    far_more c.args.labels.now c.args.text.now c.loop-at.at c.index-text-at.result c.is_far.result (omega arith)
    c.index-text-at.is c.is_far.ensures c.if-is_far.false c.loop-at.invariant
