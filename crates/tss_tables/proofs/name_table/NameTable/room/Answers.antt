-- As many entries as rows, and the same size.
use Rattle.std.proofs.Common.{arith}
use Rattle.std.proofs.lemmas.Bool.Decides.{nat_tests}
use Rattle.tss_maps.proofs.Keys.{name_order}
use Rattle.tss_tables.proofs.TableLemmas.{len-seen, size-seen}
use Rattle.tss_tables.proofs.name_table.NameTable.room.Goals as goal

pub returns : goal.returns
returns g c =
    let len = len-seen name_order c.self.inside.rows _ c.self.view_is c.self.invariant in
    let size = size-seen name_order c.self.inside.rows _ c.self.view_is c.self.invariant in
    let exact = c.len.ensures.exact in
    grind (arith, nat_tests, len, size, exact)
