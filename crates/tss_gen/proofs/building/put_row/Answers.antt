use Rattle.std.proofs.Common.{◌+◌, arith}
use Rattle.tss_gen.specs.Workload.{update_record}
use Rattle.tss_gen.proofs.ItemLists.{records_more}
use Rattle.tss_gen.proofs.building.put_row.Goals as goal

pub loop-j-preserved : goal.loop-j-preserved
loop-j-preserved c =
    records_more (update_record c.args.k c.args.i) c.args.program.now c.loop-j.program c.put_update.new.program (c.args.k + 1) c.loop-j.j
    (omega arith) c.loop-j.invariant c.in_ok-put_update.ensures
