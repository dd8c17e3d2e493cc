-- A range that isn't empty lies in one block at most.
use Rattle.std.proofs.Common.{rules}
use Rattle.std.specs.Prelude.{slice_get}
use Rattle.tss_memory.specs.Blocks.{block_range}
use Rattle.tss_memory.proofs.PlaceLemmas.{blocks_apart, holds_read, only_found, range_found}
use Rattle.tss_memory.proofs.placing.place_near.Goals as goal

pub returns-then-contains-clause-first : goal.returns-then-contains-clause-first
returns-then-contains-clause-first c =
    let blocks = c.args.blocks.now in
    range_found blocks c.args.r.now (slice_get blocks c.args.near)
    (only_found block_range blocks (blocks_apart blocks c.requires.blocks) c.args.r.now c.args.near c.requires.some
    (holds_read block_range blocks c.args.r.now c.args.near c.index-blocks-near.result
    (search rules) c.index-blocks-near.is (search rules)))
