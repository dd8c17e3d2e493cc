-- Bytes that lie in one block are few.
use Rattle.std.proofs.Common.{rules}
use Rattle.tss_memory.specs.Blocks.{ranges_in}
use Rattle.tss_memory.proofs.RangeLemmas.{count_readable}
use Rattle.tss_memory.proofs.placing.range_from.Goals as goal

pub overflow_cast-result : goal.overflow_cast-result
overflow_cast-result c =
    let few = count_readable
    (ranges_in c.args.blocks.now) c.requires.blocks c.args.at c.args.count c.requires.readable in
    search rules
