-- The entries of the code and those of the definitions.
use Rattle.std.specs.Ordering.{nat_cmp}
use Rattle.tss_maps.specs.Mapped.{mapped}
use Rattle.tss_tables.specs.Table.{TableState}
use Rattle.tss_protocol.specs.State.{Entry}
use Rattle.tss_renaming.specs.declared.entry_view.EntryView.{EntryView}

-- the definitions' entry
abbrev pub entry_of : EntryView → Entry
entry_of e = record { object = e.object; latest = e.latest; sent = e.sent; retiring = e.retiring }

-- those of a table
abbrev pub entries_of : TableState nat_cmp EntryView → TableState nat_cmp Entry
entries_of table = record { size = table.size; entries = mapped entry_of table.entries }
