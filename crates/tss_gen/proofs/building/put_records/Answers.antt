use Rattle.std.proofs.Common.{◌++◌}
use Rattle.std.specs.Prelude.{flat_map}
use Rattle.tss_gen.specs.Workload.{diagonal_record, extract_record, column_record, update_row, between}
use Rattle.tss_gen.proofs.ItemLists.{numbers_both, numbers_last}
use Rattle.tss_gen.proofs.building.put_records.Goals as goal

pub returns : goal.returns
returns c =
    let n = c.args.n in
    let k = c.args.k in
    let p = c.args.program.now in
    let one = diagonal_record k in
    let two = extract_record n k in
    let three = flat_map (column_record n k) (between k n) in
    let first = c.in_ok-put_diagonal.ensures in
    let second =
    numbers_both p c.put_diagonal.new.program c.put_extract.new.program one two first c.in_ok-put_extract.ensures in
    let third =
    numbers_both p c.put_extract.new.program c.put_columns.new.program (one ++ two) three second
    c.in_ok-put_columns.ensures in
    numbers_last c.put_rows.result p c.put_columns.new.program c.put_rows.new.program (one ++ two ++ three)
    (flat_map (update_row k) (between k n)) third c.put_rows.ensures
