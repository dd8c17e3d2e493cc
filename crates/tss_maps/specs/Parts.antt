-- Parts of a finite map.
use Rattle.std.specs.Prelude.{Bool, if◌then◌else◌, List, [], ◌∷◌, Option, Some, None}
use Rattle.std.specs.declared.cmp.Ordering.{Ordering}
use Rattle.std.specs.FinMap.{FinMap, entries, from_entries}

-- the keys of a list's entries that pass the test
abbrev pub keys_in : {K X : Type 0} → (K → X → Bool) → List (K × X) → List (K × Unit {0})
keys_in p [] = []
keys_in p (e ∷ es) = if p e.0 e.1 then (e.0, tt) ∷ keys_in p es else keys_in p es

-- the keys of a map's entries that pass the test, as a map to nothing
unfoldable pub keys_where : {K X : Type 0} {R : K → K → Ordering} → (K → X → Bool) → FinMap R X → FinMap R (Unit {0})
keys_where p m = from_entries (keys_in p (entries m))

-- what stands at a key of it, by what stands there in the map
abbrev pub key_where : {K X : Type 0} → (K → X → Bool) → K → Option X → Option (Unit {0})
key_where p k None = None
key_where p k (Some x) = if p k x then Some tt else None
