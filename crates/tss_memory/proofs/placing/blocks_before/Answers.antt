-- The ends of the blocks rise, so the search by halves finds where they reach the address.
use Rattle.std.proofs.Common.{rules}
use Rattle.std.specs.Prelude.{nat_lt}
use Rattle.std.proofs.lemmas.Bool.{ltb-true, ltb-false}
use Rattle.std.proofs.lemmas.List.Sorted.{IsPartitionPoint-from_clause, IsPartitionedBy-ltb}
use Rattle.tss_memory.specs.Blocks.{block_end, block_range}
use Rattle.tss_memory.proofs.PlaceLemmas.{blocks_apart, ends_rise}
use Rattle.tss_memory.proofs.placing.blocks_before.Goals as goal

pub returns : goal.returns
returns c =
    let rise = ends_rise block_range c.args.blocks.now (blocks_apart c.args.blocks.now c.requires) in
    let parted = IsPartitionedBy-ltb block_end c.args.blocks.now c.args.end rise in
    let point =
    IsPartitionPoint-from_clause (λ b. nat_lt (block_end b) c.args.end) _ _ c.partition_point.ensures.partitioned
    parted (λ a r q k. search rules) in (
      λ k d low h. ltb-true _ _ (point.0 k d low h),
      λ k d low h. ltb-false _ _ (point.1 k d low h),
    )
