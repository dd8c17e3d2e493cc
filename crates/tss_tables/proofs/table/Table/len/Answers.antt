-- As many entries as rows.
use Rattle.std.proofs.Common.{◌∙◌, arith}
use Rattle.tss_maps.proofs.Keys.{nat_order}
use Rattle.tss_tables.proofs.TableLemmas.{len-seen, size-seen}
use Rattle.tss_tables.proofs.table.Table.len.Goals as goal

pub returns-clause-exact : goal.returns-clause-exact
returns-clause-exact g c = c.len.ensures.exact ∙ len-seen nat_order c.self.inside.rows _ c.self.view_is c.self.invariant

pub returns-clause-within : goal.returns-clause-within
returns-clause-within g c =
    let len = len-seen nat_order c.self.inside.rows _ c.self.view_is c.self.invariant in
    let size = size-seen nat_order c.self.inside.rows _ c.self.view_is c.self.invariant in
    omega (arith, len, size, c.len.ensures.within)
