-- One more segment is one more block, and all of them are in address order.
use Rattle.std.proofs.Common.{List, [], ◌∷◌, ◌++◌, ◌∙◌, map, ap, sym, rules}
use Rattle.std.proofs.lemmas.List.{take_all}
use Rattle.tss_base.specs.Image.{SegmentState}
use Rattle.tss_memory.specs.Blocks.{BlockState, block_of, stack_block}
use Rattle.tss_memory.proofs.LoadLemmas.{block_more, loaded_blocks}
use Rattle.tss_memory.proofs.block.blocks_of.Goals as goal

pub loop-i-preserved : goal.loop-i-preserved
loop-i-preserved c =
    c.in_ok-push.ensures.items
    ∙ ap (λ (bs : List BlockState). bs ++ c.in_ok-of_segment.field-0 ∷ []) c.loop-i.invariant
    ∙ sym (block_more c.args.image.now.segments c.loop-i.i c.segment.result.now c.in_ok-of_segment.field-0
    c.segment.ensures c.in_ok-of_segment.ensures)

pub returns-clause-placed : goal.returns-clause-placed
returns-clause-placed c =
    let all = take_all c.loop-i.i c.args.image.now.segments (search rules) in
    loaded_blocks c.args.image.now c.count-count.ensures.accepted c.push-2.new.self.items
    (c.in_ok-push-2.ensures.items ∙ (λ t. c.loop-i.invariant t ++ c.in_ok-stack.ensures t ∷ [])
    ∙ ap (λ (xs : List SegmentState). map block_of xs ++ stack_block ∷ []) all)
