-- A row is an entry.
use Rattle.std.proofs.Common.{◌∙◌}
use Rattle.tss_maps.proofs.Keys.{nat_order}
use Rattle.tss_tables.proofs.TableLemmas.{get-seen}
use Rattle.tss_tables.proofs.table.Table.get.Goals as goal

pub returns : goal.returns
returns g c = c.get.ensures ∙ get-seen nat_order c.self.inside.rows _ c.self.view_is c.self.invariant c.args.key
