-- What the block's own write leaves is the write in the whole.
use Rattle.std.proofs.Common.{refl, length}
use Rattle.tss_memory.proofs.WriteLemmas.{written_in}
use Rattle.tss_memory.proofs.placing.put_in.Goals as goal

pub returns : goal.returns
returns c =
    written_in c.args.blocks.now c.requires.blocks c.args.i
    (record { base = c.args.at; len = length c.args.from.now }) c.requires.inside
    c.index-blocks-i.result c.put.new.self c.args.at c.args.from.now c.put.ensures refl refl
