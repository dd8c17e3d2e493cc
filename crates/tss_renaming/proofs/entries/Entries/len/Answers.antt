-- As many as in the table.
use Rattle.std.proofs.Common.{◌≤◌, ap, subst, ◌∙◌, arith}
use Rattle.std.specs.Ordering.{nat_cmp}
use Rattle.std.specs.FinMap.{len}
use Rattle.tss_tables.specs.Table.{TableState}
use Rattle.tss_protocol.specs.State.{Entry}
use Rattle.tss_renaming.proofs.EntryLemmas.{len-entries_of}
use Rattle.tss_renaming.proofs.entries.Entries.len.Goals as goal

pub returns-clause-exact : goal.returns-clause-exact
returns-clause-exact c =
    c.len.ensures.exact ∙ len-entries_of c.self.inside.table
    ∙ ap (λ (t : TableState nat_cmp Entry). len t.entries) c.self.view_is

pub returns-clause-within : goal.returns-clause-within
returns-clause-within c =
    let same = len-entries_of c.self.inside.table in
    let within = c.len.ensures.within in
    subst (λ (t : TableState nat_cmp Entry). len t.entries ≤ t.size) c.self.view_is (omega (arith, same, within))
