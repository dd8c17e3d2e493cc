-- Blocks that are loaded are in address order, and are the memory of the image.
use Rattle.tss_memory.proofs.LoadLemmas.{memory_of-loaded}
use Rattle.tss_memory.proofs.space.Space.load.Goals as goal

pub returns-clause-space : goal.returns-clause-space
returns-clause-space c = memory_of-loaded c.args.image.now c.in_ok-blocks.blocks.items c.in_ok-blocks.ensures.blocks
