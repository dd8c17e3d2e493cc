-- The rows go out one after another.
use Rattle.std.proofs.Common.{◌+◌, ◌∙◌, arith}
use Rattle.tss_text.proofs.PieceLemmas.{none_put, more_put, failed_put, all_put}
use Rattle.tss_state_lines.proofs.Ranges.{texts_from, all_texts, no_texts, texts_next}
use Rattle.tss_state_text.specs.Items.{row_count, row_text}
use Rattle.tss_state_text.proofs.ItemLemmas.{table_rows}
use Rattle.tss_state_text.proofs.banks.put_table.Goals as goal

pub loop-i-init : goal.loop-i-init
loop-i-init g c =
    let m = c.args.p.now.machine in
    let s = c.args.p.now.state in
    let count = row_count m s c.args.table c.args.bank in
    none_put g.K.Sink c.args.to.now _ _
    (table_rows m s c.args.table c.args.bank ∙ all_texts (row_text m s c.args.table c.args.bank) 0 count count (omega arith))

pub returns-in_err-put_row : goal.returns-in_err-put_row
returns-in_err-put_row g c =
    let m = c.args.p.now.machine in
    let s = c.args.p.now.state in
    let row = row_text m s c.args.table c.args.bank in
    let count = row_count m s c.args.table c.args.bank in
    let i = c.loop-i.i in
    let end = c.row_count-i-end.ensures in
    failed_put c.loop-i.invariant (row i) (texts_from row count (i + 1)) (texts_next row count i (omega (arith, end)))
    c.in_err-put_row.ensures c.from_residual.ensures.0

pub loop-i-preserved : goal.loop-i-preserved
loop-i-preserved g c =
    let m = c.args.p.now.machine in
    let s = c.args.p.now.state in
    let row = row_text m s c.args.table c.args.bank in
    let count = row_count m s c.args.table c.args.bank in
    let i = c.loop-i.i in
    let end = c.row_count-i-end.ensures in
    more_put c.loop-i.invariant (row i) (texts_from row count (i + 1)) (texts_next row count i (omega (arith, end)))
    c.in_ok-put_row.ensures

pub returns : goal.returns
returns g c =
    let m = c.args.p.now.machine in
    let s = c.args.p.now.state in
    let end = c.row_count-i-end.ensures in
    all_put c.loop-i.invariant
    (no_texts (row_text m s c.args.table c.args.bank) (row_count m s c.args.table c.args.bank) c.loop-i.i (omega (arith, end)))
