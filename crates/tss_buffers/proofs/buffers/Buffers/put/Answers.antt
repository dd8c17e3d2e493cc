-- The part of a buffer is written.
use Rattle.std.proofs.Common.{◌≡◌, ◌*◌, ◌++◌, List, ℕ, length, take, drop, ap, sym, ◌∙◌, arith}
use Rattle.std.specs.FinMap.{insert}
use Rattle.tss_model.specs.Memory.{list_put}
use Rattle.tss_model.specs.Core.{low_bytes}
use Rattle.tss_buffers.specs.Contents.{seat}
use Rattle.tss_buffers.specs.Block.{with_part}
use Rattle.tss_buffers.proofs.BlockLemmas.{length-with_part, length-list_put}
use Rattle.tss_buffers.proofs.SeenLemmas.{seen_written, seen_part, seen_long, seen_mark, part_fits, refilled, length-part, seen_block}
use Rattle.tss_buffers.proofs.buffers.Buffers.put.Goals as goal

pub put_in-requires-clause-part : goal.put_in-requires-clause-part
put_in-requires-clause-part c =
    let b = c.self.inside in
    let fits = part_fits b.banks b.each b.object_bytes b.set.items b.bytes.items c.self.invariant c.args.self.now
    c.self.view_is c.args.bank c.args.place c.requires.there c.number_of.result c.number_of.ensures in
    omega (arith, fits, ap (λ (xs : List ℕ). length xs) c.as_mut_slice.ensures.value)

pub returns-clause-exact : goal.returns-clause-exact
returns-clause-exact c =
    let b = c.self.inside in
    let first = c.number_of.result * b.object_bytes in
    let bs = low_bytes c.args.width c.args.value in
    let old = take b.object_bytes (drop first b.bytes.items) in
    let fits = part_fits b.banks b.each b.object_bytes b.set.items b.bytes.items c.self.invariant c.args.self.now
    c.self.view_is c.args.bank c.args.place c.requires.there c.number_of.result c.number_of.ensures in
    let put : c.put_in.new.block ≡ with_part b.bytes.items first (list_put old c.args.at bs) =
    c.put_in.ensures
    ∙ ap (λ xs. with_part xs first (list_put (take b.object_bytes (drop first xs)) c.args.at bs)) c.as_mut_slice.ensures.value in
    let many = length-list_put bs old c.args.at ∙ length-part b.bytes.items first b.object_bytes fits in
    let long = ap (λ (xs : List ℕ). length xs) put
    ∙ length-with_part b.bytes.items first (list_put old c.args.at bs) (omega (arith, fits, many)) in
    let count : length b.bytes.items ≡ b.bytes.len = omega arith in
    let mark = seen_mark b.banks b.each b.object_bytes b.set.items b.bytes.items c.self.invariant c.args.self.now
    c.self.view_is c.args.bank c.args.place c.requires.there c.number_of.result c.number_of.ensures c.requires.set in
    let part = seen_part b.banks b.each b.object_bytes b.set.items b.bytes.items c.self.invariant c.args.self.now
    c.self.view_is c.args.bank c.args.place c.requires.there c.number_of.result c.number_of.ensures c.requires.set in
    ap (λ marks. seen_block b.banks b.each b.object_bytes marks (take b.bytes.len (c.put_in.new.block ++ drop (length c.put_in.new.block) b.bytes.items))) (sym mark)
    ∙ seen_written b.banks b.each b.object_bytes b.set.items b.bytes.items c.self.invariant c.args.self.now c.self.view_is
    c.args.bank c.args.place c.requires.there c.number_of.result c.number_of.ensures (list_put old c.args.at bs) _ many
    (refilled b.bytes.items c.put_in.new.block b.bytes.len count long ∙ put)
    ∙ ap (λ xs. record (c.args.self.now) {
      contents = insert c.args.self.now.contents (seat c.args.bank c.args.place) (list_put xs c.args.at bs);
    }) (sym part)

pub returns-clause-len : goal.returns-clause-len
returns-clause-len c =
    let b = c.self.inside in
    seen_long b.banks b.each b.object_bytes b.set.items b.bytes.items c.self.invariant c.args.self.now
    c.self.view_is c.args.bank c.args.place c.requires.there c.number_of.result c.number_of.ensures c.requires.set
