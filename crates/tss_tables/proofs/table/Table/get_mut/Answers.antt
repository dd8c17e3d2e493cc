-- A row is an entry, also where its value is written.
use Rattle.std.proofs.Common.{◌∙◌}
use Rattle.std.specs.Ordering.{nat_cmp}
use Rattle.std.specs.Prelude.{ℕ}
use Rattle.std.specs.FinMap.Entries.{put}
use Rattle.tss_maps.proofs.Keys.{nat_order}
use Rattle.tss_tables.specs.Rows.{RowsState}
use Rattle.tss_tables.specs.Table.{table_of}
use Rattle.tss_tables.proofs.RowsLemmas.{lends_alike}
use Rattle.tss_tables.proofs.TableLemmas.{get-seen, insert-seen, sorted_put}
use Rattle.tss_tables.proofs.table.Table.get_mut.Goals as goal

pub invariant_of-self-lent : goal.invariant_of-self-lent
invariant_of-self-lent g c w =
    (λ v. sorted_put nat_order c.args.key v c.self.inside.rows.entries c.self.invariant, c.self.invariant)

pub returns : goal.returns
returns g c =
    let rows = c.self.inside.rows in
    let put_at : g.row.V.Denot → RowsState ℕ g.row.V.Denot =
    λ w. record { size = rows.size; entries = put nat_cmp c.args.key w rows.entries }
    in
    let written = insert-seen nat_order rows _ c.self.view_is c.self.invariant c.args.key in
    let value = c.get_mut.ensures.value ∙ get-seen nat_order rows _ c.self.view_is c.self.invariant c.args.key in (
      lends_alike c.get_mut.result (λ w. table_of nat_cmp (put_at w)) _ _ _ (λ some w. written w) c.self.view_is,
      record { writes_back = tt; value = value },
    )
