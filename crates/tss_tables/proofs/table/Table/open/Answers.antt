-- No rows are the empty map.
use Rattle.std.proofs.Common.{ap, ◌∙◌}
use Rattle.std.specs.Ordering.{nat_cmp}
use Rattle.tss_tables.specs.Table.{table_of}
use Rattle.tss_tables.proofs.TableLemmas.{from_sorted-none}
use Rattle.tss_tables.proofs.table.Table.open.Goals as goal

pub returns : goal.returns
returns g c =
    ap (table_of nat_cmp) c.in_ok-open.ensures
    ∙ (λ i. record { size = c.args.size; entries = from_sorted-none nat_cmp g.row.V.Denot i })
