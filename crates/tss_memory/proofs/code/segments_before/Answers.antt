-- The ends of the segments rise, so the search by halves finds where they reach the address.
use Rattle.std.proofs.Common.{rules}
use Rattle.std.specs.Prelude.{nat_lt}
use Rattle.std.proofs.lemmas.Bool.{ltb-true, ltb-false}
use Rattle.std.proofs.lemmas.List.Sorted.{IsPartitionPoint-from_clause, IsPartitionedBy-ltb}
use Rattle.tss_base.specs.Image.{segment_end}
use Rattle.tss_model.specs.Memory.{segment_range}
use Rattle.tss_memory.proofs.PlaceLemmas.{ends_rise}
use Rattle.tss_memory.proofs.code.segments_before.Goals as goal

pub returns : goal.returns
returns c =
    let rise = ends_rise segment_range c.args.segments.now c.requires in
    let parted = IsPartitionedBy-ltb segment_end c.args.segments.now c.args.end rise in
    let point =
    IsPartitionPoint-from_clause (λ s. nat_lt (segment_end s) c.args.end) _ _ c.partition_point.ensures.partitioned
    parted (λ a r q k. search rules) in (
      λ k d low h. ltb-true _ _ (point.0 k d low h),
      λ k d low h. ltb-false _ _ (point.1 k d low h),
    )
