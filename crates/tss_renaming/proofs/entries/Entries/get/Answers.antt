-- The entry of a base.
use Rattle.std.proofs.Common.{ap, ◌∙◌, option_map}
use Rattle.std.specs.Ordering.{nat_cmp}
use Rattle.std.specs.FinMap.{get}
use Rattle.tss_tables.specs.Table.{TableState}
use Rattle.tss_protocol.specs.State.{Entry}
use Rattle.tss_renaming.specs.Entries.{entry_of}
use Rattle.tss_renaming.proofs.EntryLemmas.{get-entries_of}
use Rattle.tss_renaming.proofs.entries.Entries.get.Goals as goal

pub returns : goal.returns
returns c =
    ap (option_map entry_of) (c.copied.ensures ∙ c.get.ensures) ∙ get-entries_of c.self.inside.table c.args.base
    ∙ ap (λ (t : TableState nat_cmp Entry). get t.entries c.args.base) c.self.view_is
