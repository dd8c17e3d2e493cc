use Rattle.std.proofs.Common.{arith}
use Rattle.tss_gen.specs.Workload.{records}
use Rattle.tss_gen.proofs.ItemLists.{records_more}
use Rattle.tss_gen.proofs.building.put_table.Goals as goal

pub loop-k-preserved : goal.loop-k-preserved
loop-k-preserved c =
    records_more (records c.args.n) c.args.program.now c.loop-k.program c.put_records.new.program 0 c.loop-k.k
    (omega arith) c.loop-k.invariant c.in_ok-put_records.ensures
