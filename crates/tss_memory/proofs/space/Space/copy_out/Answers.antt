-- As many bytes are read as there are places for.
use Rattle.std.proofs.Common.{length, sym, ap, ◌∙◌}
use Rattle.std.proofs.lemmas.List.FromFn.{length-map-range_with_len}
use Rattle.tss_base.specs.declared.range.Range.{Range}
use Rattle.tss_model.specs.Memory.{byte_at}
use Rattle.tss_memory.proofs.space.Space.copy_out.Goals as goal

pub copy_from_slice-requires : goal.copy_from_slice-requires
copy_from_slice-requires c =
    sym (ap length c.bytes.ensures
    ∙ length-map-range_with_len (byte_at c.args.self.now) c.range_from-r.result.base c.range_from-r.result.len
    ∙ ap (λ (r : Range). r.len) c.range_from-r.ensures)
