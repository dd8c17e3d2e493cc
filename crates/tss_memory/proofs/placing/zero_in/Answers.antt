-- What the block's own write leaves is the write in the whole.
use Rattle.std.proofs.Common.{refl, sym}
use Rattle.tss_model.specs.Memory.{zeros}
use Rattle.tss_memory.proofs.PartLemmas.{length-zeros}
use Rattle.tss_memory.proofs.WriteLemmas.{written_in}
use Rattle.tss_memory.proofs.placing.zero_in.Goals as goal

pub returns : goal.returns
returns c =
    written_in c.args.blocks.now c.requires.blocks c.args.i c.args.r.now c.requires.inside
    c.index-blocks-i.result c.zero.new.self c.args.r.now.base (zeros c.args.r.now.len) c.zero.ensures refl
    (sym (length-zeros c.args.r.now.len))
