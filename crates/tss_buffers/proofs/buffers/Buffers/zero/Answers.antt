-- The part of a buffer is cleared, and its mark set.
use Rattle.std.proofs.Common.{◌≡◌, ◌*◌, List, ℕ, length, ap, ◌∙◌, arith}
use Rattle.std.specs.FinMap.{insert}
use Rattle.tss_model.specs.Memory.{zeros}
use Rattle.tss_buffers.specs.Contents.{seat}
use Rattle.tss_buffers.specs.Block.{with_part}
use Rattle.tss_buffers.proofs.BlockLemmas.{length-with_part, length-zeros}
use Rattle.tss_buffers.proofs.SeenLemmas.{seen_written, part_fits, refilled}
use Rattle.tss_buffers.proofs.buffers.Buffers.zero.Goals as goal

pub clear_in-requires : goal.clear_in-requires
clear_in-requires c =
    let b = c.self.inside in
    let fits = part_fits b.banks b.each b.object_bytes b.set.items b.bytes.items c.self.invariant c.args.self.now
    c.self.view_is c.args.bank c.args.place c.requires c.number_of-number.result c.number_of-number.ensures in
    omega (arith, fits, ap (λ (xs : List ℕ). length xs) c.as_mut_slice.ensures.value)

pub returns : goal.returns
returns c =
    let b = c.self.inside in
    let first = c.number_of-number.result * b.object_bytes in
    let fits = part_fits b.banks b.each b.object_bytes b.set.items b.bytes.items c.self.invariant c.args.self.now
    c.self.view_is c.args.bank c.args.place c.requires c.number_of-number.result c.number_of-number.ensures in
    let cleared : c.clear_in.new.block ≡ with_part b.bytes.items first (zeros b.object_bytes) =
    c.clear_in.ensures ∙ ap (λ xs. with_part xs first (zeros b.object_bytes)) c.as_mut_slice.ensures.value in
    let many = length-zeros b.object_bytes in
    let long = ap (λ (xs : List ℕ). length xs) cleared
    ∙ length-with_part b.bytes.items first (zeros b.object_bytes) (omega (arith, fits, many)) in
    let count : length b.bytes.items ≡ b.bytes.len = omega arith in
    seen_written b.banks b.each b.object_bytes b.set.items b.bytes.items c.self.invariant c.args.self.now c.self.view_is
    c.args.bank c.args.place c.requires c.number_of-number.result c.number_of-number.ensures (zeros b.object_bytes) _ many
    (refilled b.bytes.items c.clear_in.new.block b.bytes.len count long ∙ cleared)
    ∙ (λ i. record (c.args.self.now) {
      contents = insert c.args.self.now.contents (seat c.args.bank c.args.place) (zeros ((c.self.view_is i).object_bytes));
    })
