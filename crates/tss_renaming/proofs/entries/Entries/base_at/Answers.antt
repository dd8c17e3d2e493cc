-- The bases are the same.
use Rattle.std.proofs.Common.{ap, ◌∙◌}
use Rattle.std.specs.Ordering.{nat_cmp}
use Rattle.tss_maps.specs.Ordered.{key_at}
use Rattle.tss_tables.specs.Table.{TableState}
use Rattle.tss_protocol.specs.State.{Entry}
use Rattle.tss_renaming.proofs.EntryLemmas.{key_at-entries_of}
use Rattle.tss_renaming.proofs.entries.Entries.base_at.Goals as goal

pub returns : goal.returns
returns c =
    c.key_at.ensures ∙ key_at-entries_of c.self.inside.table c.args.i
    ∙ ap (λ (t : TableState nat_cmp Entry). key_at t.entries c.args.i) c.self.view_is
