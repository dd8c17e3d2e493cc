-- A row is an entry.
use Rattle.std.proofs.Common.{sym, ap, ◌∙◌, subst}
use Rattle.std.specs.Prelude.{T, IsSome}
use Rattle.std.specs.Ordering.{nat_cmp}
use Rattle.std.specs.FinMap.Entries.{is_sorted}
use Rattle.tss_maps.proofs.Keys.{nat_order}
use Rattle.tss_tables.specs.Table.{table_of}
use Rattle.tss_tables.proofs.TableLemmas.{get-seen, insert-seen, sorted_put}
use Rattle.tss_tables.proofs.table.Table.replace.Goals as goal

pub replace-requires-clause-there : goal.replace-requires-clause-there
replace-requires-clause-there g c =
    subst IsSome (sym (get-seen nat_order c.self.inside.rows _ c.self.view_is c.self.invariant c.args.key)) c.requires

pub invariant_of-self : goal.invariant_of-self
invariant_of-self g c =
    let sorted = sorted_put nat_order c.args.key c.args.value c.self.inside.rows.entries c.self.invariant in
    subst (λ rows. T (is_sorted nat_cmp rows.entries)) (sym c.replace.ensures.new) sorted

pub returns-clause-handed_back : goal.returns-clause-handed_back
returns-clause-handed_back g c =
    sym (get-seen nat_order c.self.inside.rows _ c.self.view_is c.self.invariant c.args.key) ∙ c.replace.ensures.old

pub returns-clause-written : goal.returns-clause-written
returns-clause-written g c =
    ap (table_of nat_cmp) c.replace.ensures.new
    ∙ insert-seen nat_order c.self.inside.rows _ c.self.view_is c.self.invariant c.args.key c.args.value
