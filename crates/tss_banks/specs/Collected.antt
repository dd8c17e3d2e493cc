-- The entries of a finite map for which a test has an answer, with the answers.
use Rattle.std.specs.Prelude.{List, [], ◌∷◌, Option, Some, None}
use Rattle.std.specs.declared.cmp.Ordering.{Ordering}
use Rattle.std.specs.FinMap.{FinMap, empty, insert, remove, entries}

-- a map where this stands at a key, or nothing
abbrev pub with_at : {K Y : Type 0} {R : K → K → Ordering} → FinMap R Y → K → Option Y → FinMap R Y
with_at m k None = remove m k
with_at m k (Some y) = insert m k y

-- the answers for a list's entries, at their keys
abbrev pub answers_in : {K X Y : Type 0} {R : K → K → Ordering} → (K → X → Option Y) → List (K × X) → FinMap R Y
answers_in f [] = empty
answers_in f (e ∷ es) = with_at (answers_in f es) e.0 (f e.0 e.1)

-- the answers for a map's entries
unfoldable pub collected : {K X Y : Type 0} {R : K → K → Ordering} → (K → X → Option Y) → FinMap R X → FinMap R Y
collected f m = answers_in f (entries m)
