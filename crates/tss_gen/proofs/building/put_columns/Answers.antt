use Rattle.std.proofs.Common.{◌+◌, arith}
use Rattle.tss_gen.specs.Workload.{column_record}
use Rattle.tss_gen.proofs.ItemLists.{records_more}
use Rattle.tss_gen.proofs.building.put_columns.Goals as goal

pub loop-i-preserved : goal.loop-i-preserved
loop-i-preserved c =
    records_more (column_record c.args.n c.args.k) c.args.program.now c.loop-i.program c.put_column.new.program (c.args.k + 1) c.loop-i.i
    (omega arith) c.loop-i.invariant c.in_ok-put_column.ensures
