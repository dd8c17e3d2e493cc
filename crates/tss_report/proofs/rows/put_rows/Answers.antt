-- The rows go out one after another.
use Rattle.std.proofs.Common.{◌+◌, ◌*◌, arith}
use Rattle.tss_model.specs.Memory.{loaded}
use Rattle.tss_report.specs.Rows.{row_len, row_text}
use Rattle.tss_text.proofs.PieceLemmas.{none_put, more_put, failed_put, all_put}
use Rattle.tss_report.proofs.RowLemmas.{rows_from, all_rows, no_rows, rows_next}
use Rattle.tss_report.proofs.rows.put_rows.Goals as goal

pub loop-k-init : goal.loop-k-init
loop-k-init g c =
    none_put g.K.Sink c.args.to.now _ _
    (all_rows (loaded c.args.image.now) c.args.space.now c.args.r.now)

pub returns-in_err-put_row : goal.returns-in_err-put_row
returns-in_err-put_row g c =
    let old = loaded c.args.image.now in
    let new = c.args.space.now in
    let r = c.args.r.now in
    let k = c.loop-k.k in
    failed_put c.loop-k.invariant (row_text old new (record { base = r.base + row_len * k; len = c.min.result }))
    (rows_from old new r (k + 1))
    (rows_next old new r k c.min.result (omega arith) c.min.ensures)
    c.in_err-put_row.ensures c.from_residual.ensures.0

pub loop-k-preserved : goal.loop-k-preserved
loop-k-preserved g c =
    let old = loaded c.args.image.now in
    let new = c.args.space.now in
    let r = c.args.r.now in
    let k = c.loop-k.k in
    more_put c.loop-k.invariant (row_text old new (record { base = r.base + row_len * k; len = c.min.result }))
    (rows_from old new r (k + 1))
    (rows_next old new r k c.min.result (omega arith) c.min.ensures)
    c.in_ok-put_row.ensures

pub returns : goal.returns
returns g c =
    all_put c.loop-k.invariant
    (no_rows (loaded c.args.image.now) c.args.space.now c.args.r.now c.loop-k.k (omega arith))
