-- The keys of a finite map in their order.
use Rattle.std.specs.Prelude.{ℕ, Option, slice_get}
use Rattle.std.specs.List.{find}
use Rattle.std.specs.declared.cmp.Ordering.{Ordering}
use Rattle.std.specs.Ordering.{is_lt}
use Rattle.std.specs.FinMap.{FinMap, keys}

-- the key at a place, from 0, of the keys in order
unfoldable pub key_at : {K X : Type 0} {R : K → K → Ordering} → FinMap R X → ℕ → Option K
key_at m i = slice_get (keys m) i

-- the least key
abbrev pub least : {K X : Type 0} {R : K → K → Ordering} → FinMap R X → Option K
least m = key_at m 0

-- the least of the keys above a given one
unfoldable pub least_above : {K X : Type 0} (R : K → K → Ordering) → FinMap R X → K → Option K
least_above R m k = find (λ q. is_lt (R k q)) (keys m)
