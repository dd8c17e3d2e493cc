-- What the block's own write leaves is the write in the whole.
use Rattle.std.proofs.Common.{refl, sym}
use Rattle.tss_model.specs.Core.{low_bytes}
use Rattle.tss_memory.proofs.PartLemmas.{length-low_bytes}
use Rattle.tss_memory.proofs.WriteLemmas.{written_in}
use Rattle.tss_memory.proofs.placing.put_number_in.Goals as goal

pub returns : goal.returns
returns c =
    written_in c.args.blocks.now c.requires.blocks c.args.i c.args.r.now c.requires.inside
    c.index-blocks-i.result c.put_number.new.self c.args.r.now.base (low_bytes c.args.r.now.len c.args.value) c.put_number.ensures refl
    (sym (length-low_bytes c.args.r.now.len c.args.value))
