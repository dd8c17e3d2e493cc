-- What a table ends as, where a `&mut` to a value is returned.
use Rattle.std.specs.Prelude.{ℕ, Option}
use Rattle.std.specs.Borrow.{LendsIf, Fml, RattleType, MutBor}
use Rattle.std.specs.Ordering.{nat_cmp}
use Rattle.std.specs.FinMap.{insert}
use Rattle.tss_tables.specs.Table.{TableState}
use Rattle.tss_tables.specs.contracts.table.Table as numbers

-- once the borrow r ends, the key has the last value written through r, and at `None` the table stays as it is
abbrev pub lends_entry : (V : RattleType) → MutBor (TableState nat_cmp V.Denot) → ℕ → Option (MutBor V.Denot) → Fml
lends_entry V t key r =
    LendsIf (numbers.the_row V) V t r (λ w. record { size = t.now.size; entries = insert t.now.entries key w }) t.now
