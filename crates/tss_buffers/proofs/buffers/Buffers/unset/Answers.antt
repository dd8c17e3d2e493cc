-- The mark of a buffer is taken away.
use Rattle.tss_buffers.proofs.SeenLemmas.{seen_unset}
use Rattle.tss_buffers.proofs.buffers.Buffers.unset.Goals as goal

pub returns : goal.returns
returns c =
    let b = c.self.inside in
    seen_unset b.banks b.each b.object_bytes b.set.items b.bytes.items c.self.invariant c.args.self.now c.self.view_is
    c.args.bank c.args.place c.requires c.number_of.result c.number_of.ensures
