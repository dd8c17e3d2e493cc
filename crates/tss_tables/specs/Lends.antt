-- What rows end as, where a `&mut` to a value is returned.
use Rattle.std.specs.Prelude.{Option}
use Rattle.std.specs.Borrow.{LendsIf, Fml, RattleType, MutBor}
use Rattle.std.specs.declared.cmp.Ordering.{Ordering}
use Rattle.std.specs.FinMap.Entries.{put}
use Rattle.tss_tables.specs.Rows.{RowsState}
use Rattle.tss_tables.specs.contracts.store.Store.{the_row}

-- once the borrow r ends, the key's row has the last value written through r, and at `None` the rows stay as they are
abbrev pub lends_value : (K V : RattleType) → (K.Denot → K.Denot → Ordering) → MutBor (RowsState K.Denot V.Denot) →
    K.Denot → Option (MutBor V.Denot) → Fml
lends_value K V R s key r =
    LendsIf (the_row K V) V s r (λ w. record { size = s.now.size; entries = put R key w s.now.entries }) s.now
