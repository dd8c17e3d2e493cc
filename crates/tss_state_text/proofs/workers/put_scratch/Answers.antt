-- The rows go out one after another.
use Rattle.std.proofs.Common.{◌≡◌, ◌+◌, length, ap, arith}
use Rattle.std.specs.Prelude.{◌/◌, ◌*◌}
use Rattle.tss_model.specs.Memory.{scratch_range}
use Rattle.tss_report.specs.Rows.{row_len}
use Rattle.tss_text.proofs.PieceLemmas.{none_put, more_put, failed_put, all_put, same_text}
use Rattle.tss_state_lines.specs.Lines.{scratch_row}
use Rattle.tss_state_text.specs.StateText.{scratch_row_at}
use Rattle.tss_state_lines.proofs.Ranges.{texts_from, all_texts, no_texts, texts_next}
use Rattle.tss_state_text.proofs.workers.put_scratch.Goals as goal

pub loop-k-init : goal.loop-k-init
loop-k-init g c =
    let rows = length c.args.scratch.now / row_len in
    none_put g.K.Sink c.args.to.now _ _ (all_texts (scratch_row_at c.args.w c.args.scratch.now) 0 rows rows (omega arith))

pub returns-in_err-put_scratch_row : goal.returns-in_err-put_scratch_row
returns-in_err-put_scratch_row g c =
    let row = scratch_row_at c.args.w c.args.scratch.now in
    let rows = length c.args.scratch.now / row_len in
    let k = c.loop-k.k in
    let whole : length c.args.scratch.now ≡ 65536 = c.requires in
    failed_put c.loop-k.invariant (row k) (texts_from row rows (k + 1)) (texts_next row rows k (omega (arith, whole)))
    (same_text (ap (scratch_row c.args.w (scratch_range.base + row_len * k)) c.row_at.ensures)
    c.in_err-put_scratch_row.ensures) c.from_residual.ensures.0

pub loop-k-preserved : goal.loop-k-preserved
loop-k-preserved g c =
    let row = scratch_row_at c.args.w c.args.scratch.now in
    let rows = length c.args.scratch.now / row_len in
    let k = c.loop-k.k in
    let whole : length c.args.scratch.now ≡ 65536 = c.requires in
    more_put c.loop-k.invariant (row k) (texts_from row rows (k + 1)) (texts_next row rows k (omega (arith, whole)))
    (same_text (ap (scratch_row c.args.w (scratch_range.base + row_len * k)) c.row_at.ensures)
    c.in_ok-put_scratch_row.ensures)

pub returns : goal.returns
returns g c =
    let whole : length c.args.scratch.now ≡ 65536 = c.requires in
    all_put c.loop-k.invariant
    (no_texts (scratch_row_at c.args.w c.args.scratch.now) (length c.args.scratch.now / row_len) c.loop-k.k (omega (arith, whole)))
