-- What places end as, where a `&mut` to a value is returned.
use Rattle.std.specs.Prelude.{ℕ, Option}
use Rattle.std.specs.Borrow.{Lends, LendsIf, Fml, RattleType, MutBor}
use Rattle.std.specs.Ordering.{nat_cmp}
use Rattle.std.specs.FinMap.{insert}
use Rattle.tss_tables.specs.Table.{TableState}
use Rattle.tss_tables.specs.contracts.seats.Seats as seats

-- once the borrow r ends, the place has the last value written through r, and at `None` the places stay as they are
abbrev pub lends_seat : (V : RattleType) → MutBor (TableState nat_cmp V.Denot) → ℕ → Option (MutBor V.Denot) → Fml
lends_seat V t place r =
    LendsIf (seats.the_row V) V t r (λ w. record { size = t.now.size; entries = insert t.now.entries place w }) t.now

-- the same where something stands there
abbrev pub lends_value : (V : RattleType) → MutBor (TableState nat_cmp V.Denot) → ℕ → MutBor V.Denot → Fml
lends_value V t place r =
    Lends (seats.the_row V) V t r (λ w. record { size = t.now.size; entries = insert t.now.entries place w })
