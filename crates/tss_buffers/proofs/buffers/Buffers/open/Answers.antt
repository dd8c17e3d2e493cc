-- No mark is set.
use Rattle.std.proofs.Common.{◌*◌, List, ℕ, Bool, length, false, ap, ◌∙◌}
use Rattle.std.proofs.lemmas.List.{length-replicate}
use Rattle.tss_buffers.specs.Block.{seat_of}
use Rattle.tss_buffers.proofs.BlockLemmas.{unset_parts, length-zeros}
use Rattle.tss_buffers.proofs.SeenLemmas.{seen_block}
use Rattle.tss_buffers.proofs.buffers.Buffers.open.Goals as goal

pub invariant_of-result : goal.invariant_of-result
invariant_of-result c = record {
  few = c.requires.banks;
  fewer = c.requires.each;
  short = c.requires.bytes;
  marks = ap (λ (xs : List Bool). length xs) c.in_ok-no_marks.ensures ∙ length-replicate _ false;
  parts = ap (λ (xs : List ℕ). length xs) c.in_ok-zero_bytes.ensures ∙ length-zeros _;
}

pub returns : goal.returns
returns c =
    let bytes = c.in_ok-zero_bytes.field-0.items in
    ap (λ marks. seen_block c.args.banks c.args.each c.args.object_bytes marks bytes) c.in_ok-no_marks.ensures
    ∙ ap (λ m. record { banks = c.args.banks; each = c.args.each; object_bytes = c.args.object_bytes; contents = m })
    (unset_parts c.args.object_bytes (c.args.banks * c.args.each) bytes (seat_of c.args.each) 0)
