-- The blocks so far are those of the segments so far, and there is room for the others and the stack.
use Rattle.std.proofs.Common.{◌≡◌, map, take}
use Rattle.tss_memory.specs.Blocks.{block_of}
use Rattle.tss_memory.proofs.block.blocks_of.Given as goal

abbrev pub invariant-loop-i : goal.invariant-loop-i
invariant-loop-i l = l.blocks.items ≡ map block_of (take l.i l.image.segments)
