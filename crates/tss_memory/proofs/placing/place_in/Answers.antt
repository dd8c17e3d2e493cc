-- The first block that ends no sooner than the range is the first that contains it, or none does.
use Rattle.std.proofs.Common.{ℕ, ◌<◌, ◌≤◌, None, subst, arith, rules}
use Rattle.std.specs.Prelude.{slice_get}
use Rattle.std.specs.List.Sorted.{IsPartitionPoint}
use Rattle.std.proofs.lemmas.Option.{slice_get_within}
use Rattle.tss_memory.specs.Blocks.{block_end, block_range}
use Rattle.tss_memory.proofs.PlaceLemmas.{blocks_apart, fails_read, holds_read, point_found, point_none, range_found}
use Rattle.tss_memory.proofs.placing.place_in.Goals as goal
use Rattle.tss_memory.proofs.placing.place_in.Goals.{else-i-blocks-via-then-i-blocks+else-contains, else-i-blocks-via-else-i-blocks}

pub returns-then-contains-clause-first : goal.returns-then-contains-clause-first
returns-then-contains-clause-first c =
    let blocks = c.args.blocks.now in
    let r = c.args.r.now in
    let i = c.blocks_before-i.result in
    let point = subst (λ (n : ℕ). IsPartitionPoint (λ b. block_end b < n)
    (λ b. n ≤ block_end b) blocks i) c.end.ensures c.blocks_before-i.ensures in
    range_found blocks r (slice_get blocks i)
    (point_found block_range blocks (blocks_apart blocks c.requires) r i point
    (holds_read block_range blocks r i c.index-blocks-i.result (search rules) c.index-blocks-i.is (search rules)))

pub returns-else-i-blocks-clause-none : goal.returns-else-i-blocks-clause-none
returns-else-i-blocks-clause-none c e =
    let blocks = c.args.blocks.now in
    let r = c.args.r.now in
    let i = c.blocks_before-i.result in
    let point = subst (λ (n : ℕ). IsPartitionPoint (λ b. block_end b < n)
    (λ b. n ≤ block_end b) blocks i) c.end.ensures c.blocks_before-i.ensures in
    range_found blocks r None
    (point_none block_range blocks (blocks_apart blocks c.requires) r i point
    (λ b there. elim c.else-i-blocks.branch [
      | else-i-blocks-via-then-i-blocks+else-contains w ↦ fails_read block_range blocks r i w.index-blocks-i.result
          (search rules) w.index-blocks-i.is (search rules) b there
      | else-i-blocks-via-else-i-blocks w ↦ let within = slice_get_within blocks i b there in absurd (omega arith)
    ]))
