-- The bytes of the block that has the range are those of memory.
use Rattle.std.proofs.Common.{List, subst, ap, ◌∙◌}
use Rattle.tss_model.specs.Memory.{Memory, bytes_of}
use Rattle.tss_memory.specs.Blocks.{BlockState, IsInBlock}
use Rattle.tss_memory.proofs.ReadLemmas.{bytes_read}
use Rattle.tss_memory.proofs.space.Space.bytes.Goals as goal

pub returns : goal.returns
returns c =
    let blocks = c.self.inside.blocks.items in
    let r = c.args.r.now in
    let i = c.known_place-i.result in
    let P : List BlockState → Type 0 = λ bs. IsInBlock bs r i in
    let inside = subst P c.as_slice.ensures.value c.known_place-i.ensures in
    c.bytes.ensures
    ∙ bytes_read blocks c.self.invariant r i c.index.result.now inside c.index.ensures
    ∙ ap (λ (m : Memory). bytes_of m r) c.self.view_is
