-- A finite map with a function of each value in the value's place.
use Rattle.std.specs.Prelude.{List, [], ◌∷◌}
use Rattle.std.specs.declared.cmp.Ordering.{Ordering}
use Rattle.std.specs.FinMap.{FinMap, entries, from_sorted}

-- the same of a list's entries
abbrev pub map_entries : {K X Y : Type 0} → (X → Y) → List (K × X) → List (K × Y)
map_entries f [] = []
map_entries f (e ∷ es) = (e.0, f e.1) ∷ map_entries f es

-- the map with the function's values
unfoldable pub mapped : {K X Y : Type 0} {R : K → K → Ordering} → (X → Y) → FinMap R X → FinMap R Y
mapped f m = from_sorted (map_entries f (entries m))
