-- The keys of the rows are the keys.
use Rattle.std.proofs.Common.{◌∙◌}
use Rattle.tss_maps.proofs.Keys.{nat_order}
use Rattle.tss_tables.proofs.TableLemmas.{key_at-seen}
use Rattle.tss_tables.proofs.table.Table.key_at.Goals as goal

pub returns : goal.returns
returns g c = c.key_at.ensures ∙ key_at-seen nat_order c.self.inside.rows _ c.self.view_is c.self.invariant c.args.place
