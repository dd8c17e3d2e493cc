-- The first key of the rows above another is the least.
use Rattle.std.proofs.Common.{◌∙◌}
use Rattle.tss_maps.proofs.Keys.{name_order}
use Rattle.tss_tables.proofs.TableLemmas.{least_above-seen}
use Rattle.tss_tables.proofs.name_table.NameTable.next_after.Goals as goal

pub returns : goal.returns
returns g c =
    c.next_after.ensures ∙ least_above-seen name_order c.self.inside.rows _ c.self.view_is c.self.invariant c.args.key
