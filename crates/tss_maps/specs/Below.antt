-- The set of the numbers below another.
use Rattle.std.specs.Prelude.{ℕ, zero, suc}
use Rattle.std.specs.Ordering.{nat_cmp}
use Rattle.std.specs.FinMap.{FinMap, empty, insert}

-- the numbers below n, as a map to nothing
unfoldable pub all_below : ℕ → FinMap nat_cmp (Unit {0})
all_below zero = empty
all_below (suc n) = insert (all_below n) n tt
