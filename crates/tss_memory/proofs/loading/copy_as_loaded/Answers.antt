-- The bytes are those of the segment at the place, or zeros behind the segments.
use Rattle.std.proofs.Common.{length, sym, ap, ◌∙◌, rules}
use Rattle.tss_model.specs.Memory.{zeros}
use Rattle.tss_memory.proofs.LoadingLemmas.{segment_has_range, segment_bytes, segment_count, stack_bytes}
use Rattle.tss_memory.proofs.loading.copy_as_loaded.Goals as goal

pub part_in-requires : goal.part_in-requires
part_in-requires c =
    segment_has_range c.args.image.now c.count.ensures.accepted c.args.i c.args.r.now c.requires.inside
    c.segment.result.now c.segment.ensures

pub copy_from_slice-requires : goal.copy_from_slice-requires
copy_from_slice-requires c =
    c.requires.len
    ∙ sym (segment_count c.args.image.now c.count.ensures.accepted c.args.i c.args.r.now c.requires.inside
    c.segment.result.now c.segment.ensures)
    ∙ sym (ap length c.part_in.ensures)

pub returns-then-i-count : goal.returns-then-i-count
returns-then-i-count c =
    c.copy_from_slice.ensures.after ∙ c.part_in.ensures
    ∙ segment_bytes c.args.image.now c.count.ensures.accepted c.args.i c.args.r.now c.requires.inside
    c.segment.result.now c.segment.ensures

pub returns-else-i-count : goal.returns-else-i-count
returns-else-i-count c =
    c.clear.ensures ∙ ap zeros c.requires.len
    ∙ stack_bytes c.args.image.now c.count.ensures.accepted c.args.i c.args.r.now c.requires.inside (search rules)
