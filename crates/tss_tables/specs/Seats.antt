-- A list of seats, each free or taken, as what stands under their numbers.
use Rattle.std.specs.Prelude.{◌≡◌, ℕ, suc, ◌<◌, ◌^◌, List, [], ◌∷◌, length, Option, Some, None}
use Rattle.std.specs.Ordering.{nat_cmp}
use Rattle.std.specs.FinMap.{FinMap, insert, empty, len}
use Rattle.tss_tables.specs.Table.{TableState}

-- what stands in the seats, the first of which has the number i
abbrev pub seats_from : {X : Type 0} → ℕ → List (Option X) → FinMap nat_cmp X
seats_from i [] = empty
seats_from i (None ∷ seats) = seats_from (suc i) seats
seats_from i (Some x ∷ seats) = insert (seats_from (suc i) seats) i x

-- seats as a table
abbrev pub seats_of : {X : Type 0} → List (Option X) → TableState nat_cmp X
seats_of seats = record { size = length seats; entries = seats_from 0 seats }

-- the count of taken seats is right, and there are not too many seats
pub record AreSeats {X : Type 0} (seats : List (Option X)) (taken : ℕ) : Type 0 where
  pub count : taken ≡ len (seats_from 0 seats)
  pub short : length seats < 2 ^ 32
