-- A row in which a byte has changed is put.
use Rattle.std.proofs.Common.{sym, ◌∙◌}
use Rattle.tss_memory.proofs.RangeLemmas.{readable_inside}
use Rattle.tss_model.specs.Memory.{loaded}
use Rattle.tss_text.proofs.PieceLemmas.{same_text}
use Rattle.tss_report.proofs.RowLemmas.{row_changed}
use Rattle.tss_report.proofs.rows.put_row.Goals as goal

pub bytes-now-requires : goal.bytes-now-requires
bytes-now-requires g c = readable_inside c.args.space.now.ranges c.args.i c.args.row.now c.requires.inside

pub returns : goal.returns
returns g c =
    same_text
    (row_changed (loaded c.args.image.now) c.args.space.now c.args.row.now c.bytes-now.result.now
    c.copy_as_loaded.new.into c.bytes-now.ensures c.copy_as_loaded.ensures
    (sym c.eq.ensures ∙ c.if-eq.false))
    c.put_line.ensures
