-- No entry, so no row.
use Rattle.std.proofs.Common.{◌∙◌}
use Rattle.tss_maps.proofs.Keys.{nat_order}
use Rattle.tss_tables.proofs.TableLemmas.{len-seen}
use Rattle.tss_tables.proofs.table.Table.close.Goals as goal

pub close-requires : goal.close-requires
close-requires g c = len-seen nat_order c.self.inside.rows _ c.self.view_is c.self.invariant ∙ c.requires
