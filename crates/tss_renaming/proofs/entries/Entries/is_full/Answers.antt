-- The table is full.
use Rattle.std.proofs.Common.{ap, ◌∙◌}
use Rattle.std.specs.Prelude.{nat_le}
use Rattle.std.specs.Ordering.{nat_cmp}
use Rattle.std.specs.FinMap.{len}
use Rattle.tss_tables.specs.Table.{TableState}
use Rattle.tss_protocol.specs.State.{Entry}
use Rattle.tss_renaming.proofs.EntryLemmas.{len-entries_of}
use Rattle.tss_renaming.proofs.entries.Entries.is_full.Goals as goal

pub returns : goal.returns
returns c =
    (λ i. nat_le (c.size.ensures i) ((c.len.ensures.exact ∙ len-entries_of c.self.inside.table) i))
    ∙ ap (λ (t : TableState nat_cmp Entry). nat_le t.size (len t.entries)) c.self.view_is
