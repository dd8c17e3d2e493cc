-- A row is an entry.
use Rattle.std.proofs.Common.{sym, ap, ◌∙◌, arith, subst}
use Rattle.std.specs.Prelude.{T}
use Rattle.std.specs.Ordering.{nat_cmp}
use Rattle.std.specs.FinMap.Entries.{is_sorted}
use Rattle.tss_maps.proofs.Keys.{nat_order}
use Rattle.tss_tables.specs.Table.{table_of}
use Rattle.tss_tables.proofs.TableLemmas.{get-seen, len-seen, size-seen, insert-seen, sorted_put}
use Rattle.tss_tables.proofs.table.Table.add.Goals as goal

pub add-requires-clause-room : goal.add-requires-clause-room
add-requires-clause-room g c =
    let len = len-seen nat_order c.self.inside.rows _ c.self.view_is c.self.invariant in
    let size = size-seen nat_order c.self.inside.rows _ c.self.view_is c.self.invariant in
    omega (arith, len, size, c.requires.room)

pub add-requires-clause-fresh : goal.add-requires-clause-fresh
add-requires-clause-fresh g c =
    get-seen nat_order c.self.inside.rows _ c.self.view_is c.self.invariant c.args.key ∙ c.requires.fresh

pub invariant_of-self : goal.invariant_of-self
invariant_of-self g c =
    let sorted = sorted_put nat_order c.args.key c.args.value c.self.inside.rows.entries c.self.invariant in
    subst (λ rows. T (is_sorted nat_cmp rows.entries)) (sym c.add.ensures) sorted

pub returns : goal.returns
returns g c =
    ap (table_of nat_cmp) c.add.ensures
    ∙ insert-seen nat_order c.self.inside.rows _ c.self.view_is c.self.invariant c.args.key c.args.value
