-- Sums and counts over the entries of a finite map.
use Rattle.std.specs.Prelude.{ℕ, ◌+◌, Bool, cond, List, [], ◌∷◌, Option, Some, None}
use Rattle.std.specs.declared.cmp.Ordering.{Ordering}
use Rattle.std.specs.FinMap.{FinMap, entries}

-- the sum of the weights of a list's entries
abbrev pub weigh : {K X : Type 0} → (K → X → ℕ) → List (K × X) → ℕ
weigh f [] = 0
weigh f (e ∷ es) = f e.0 e.1 + weigh f es

-- the weight of what stands at a key: none where nothing stands there
abbrev pub weight_at : {K X : Type 0} → (K → X → ℕ) → K → Option X → ℕ
weight_at f k None = 0
weight_at f k (Some x) = f k x

-- the sum of the weights of a map's entries
unfoldable pub sum_of : {K X : Type 0} {R : K → K → Ordering} → (K → X → ℕ) → FinMap R X → ℕ
sum_of f m = weigh f (entries m)

-- one where the test passes
abbrev pub one_if : Bool → ℕ
one_if b = cond {A = ℕ} b 1 0

-- how many entries pass the test: the sum of a one for each
abbrev pub count_of : {K X : Type 0} {R : K → K → Ordering} → (K → X → Bool) → FinMap R X → ℕ
count_of p m = sum_of (λ k x. one_if (p k x)) m
