-- A range in a block ends where memory does, or before.
use Rattle.std.proofs.Common.{List, subst}
use Rattle.tss_memory.specs.Blocks.{BlockState, IsInBlock}
use Rattle.tss_memory.proofs.PlaceLemmas.{inside_end}
use Rattle.tss_memory.proofs.space.Space.range_of.Goals as goal

pub returns-clause-end : goal.returns-clause-end
returns-clause-end c =
    let P : List BlockState → Type 0 = λ bs. IsInBlock bs c.args.r.now c.in_ok-i.i in
    let inside = subst P c.as_slice.ensures.value c.in_ok-i.ensures.inside in
    inside_end c.self.inside.blocks.items c.self.invariant c.args.r.now c.in_ok-i.i inside
