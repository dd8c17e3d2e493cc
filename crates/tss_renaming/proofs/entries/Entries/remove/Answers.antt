-- An entry less.
use Rattle.std.proofs.Common.{ap, ◌∙◌}
use Rattle.std.specs.Ordering.{nat_cmp}
use Rattle.std.specs.FinMap.{remove}
use Rattle.tss_tables.specs.Table.{TableState}
use Rattle.tss_protocol.specs.State.{Entry}
use Rattle.tss_renaming.specs.Entries.{entries_of}
use Rattle.tss_renaming.proofs.EntryLemmas.{entries_of-remove}
use Rattle.tss_renaming.proofs.entries.Entries.remove.Goals as goal

pub returns : goal.returns
returns c =
    ap entries_of c.remove.ensures.others ∙ entries_of-remove c.self.inside.table c.args.base
    ∙ ap (λ (t : TableState nat_cmp Entry). record t { entries = remove t.entries c.args.base }) c.self.view_is
