-- A row is an entry.
use Rattle.std.proofs.Common.{sym, ap, ◌∙◌, subst}
use Rattle.std.specs.Prelude.{T}
use Rattle.std.specs.Ordering.{nat_cmp}
use Rattle.std.specs.FinMap.Entries.{is_sorted}
use Rattle.tss_maps.proofs.Keys.{nat_order}
use Rattle.tss_tables.specs.Table.{table_of}
use Rattle.tss_tables.proofs.TableLemmas.{get-seen, remove-seen, sorted_without}
use Rattle.tss_tables.proofs.table.Table.remove.Goals as goal

pub invariant_of-self : goal.invariant_of-self
invariant_of-self g c =
    let sorted = sorted_without nat_order c.args.key c.self.inside.rows.entries c.self.invariant in
    subst (λ rows. T (is_sorted nat_cmp rows.entries)) (sym c.remove.ensures.rest) sorted

pub returns-clause-exact : goal.returns-clause-exact
returns-clause-exact g c =
    c.remove.ensures.value ∙ get-seen nat_order c.self.inside.rows _ c.self.view_is c.self.invariant c.args.key

pub returns-clause-others : goal.returns-clause-others
returns-clause-others g c =
    ap (table_of nat_cmp) c.remove.ensures.rest
    ∙ remove-seen nat_order c.self.inside.rows _ c.self.view_is c.self.invariant c.args.key
