-- No rows are the empty map.
use Rattle.std.proofs.Common.{ap, ◌∙◌}
use Rattle.tss_base.specs.Names.{name_cmp}
use Rattle.tss_tables.specs.Table.{table_of}
use Rattle.tss_tables.proofs.TableLemmas.{from_sorted-none}
use Rattle.tss_tables.proofs.name_table.NameTable.open.Goals as goal

pub returns : goal.returns
returns g c =
    ap (table_of name_cmp) c.in_ok-open.ensures
    ∙ (λ i. record { size = c.args.size; entries = from_sorted-none name_cmp g.row.V.Denot i })
