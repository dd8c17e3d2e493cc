-- No row is left, so no key and no value.
use Rattle.std.proofs.Common.{arith}
use Rattle.tss_tables.proofs.RowsLemmas.{length-seen}
use Rattle.tss_tables.proofs.rows.Rows.close.Goals as goal

pub destroy_empty-requires : goal.destroy_empty-requires
destroy_empty-requires g c =
    let rows = length-seen _ _ _ _ c.self.view_is c.self.invariant.paired in omega (arith, rows, c.requires)

pub destroy_empty-requires-2 : goal.destroy_empty-requires-2
destroy_empty-requires-2 g c =
    let rows = length-seen _ _ _ _ c.self.view_is c.self.invariant.paired in
    omega (arith, rows, c.requires, c.self.invariant.paired)
