-- The finite maps of all banks, joined into one.
use Rattle.std.specs.Prelude.{◌≡◌, ◌≢◌, ℕ, List, get_or, Some, None}
use Rattle.std.specs.List.{flat_map}
use Rattle.std.specs.declared.cmp.Ordering.{Ordering}
use Rattle.std.specs.FinMap.{FinMap, empty, get, entries, from_entries}

-- a bank's map: an empty one where there is no such bank
abbrev pub bank : {K X : Type 0} {R : K → K → Ordering} → List (FinMap R X) → ℕ → FinMap R X
bank ms b = get_or ms b empty

-- the map of all that stands in some bank. At a key of two banks it has the value of the first
unfoldable pub joined : {K X : Type 0} {R : K → K → Ordering} → List (FinMap R X) → FinMap R X
joined ms = from_entries (flat_map entries ms)

-- no key is in two banks
abbrev pub AreApart : {K X : Type 0} {R : K → K → Ordering} → List (FinMap R X) → Type 0
AreApart {K} {X} ms =
    (i j : ℕ) (k : K) (x y : X) → get (bank ms i) k ≡ Some x → get (bank ms j) k ≡ Some y → i ≡ j

-- a key is in this bank, or in none
abbrev pub IsInNoOther : {K X : Type 0} {R : K → K → Ordering} → List (FinMap R X) → ℕ → K → Type 0
IsInNoOther ms b k = (i : ℕ) → i ≢ b → get (bank ms i) k ≡ None

-- each bank has a key only where the same bank of others has it
abbrev pub HaveKeysOf : {K X Y : Type 0} {R : K → K → Ordering} → List (FinMap R X) → List (FinMap R Y) → Type 0
HaveKeysOf {K} {X} {Y} ms ns =
    (i : ℕ) (k : K) (x : X) → get (bank ms i) k ≡ Some x → (y : Y) × (get (bank ns i) k ≡ Some y)

-- each value is the number of its bank
abbrev pub AreNumbered : {K : Type 0} {R : K → K → Ordering} → List (FinMap R ℕ) → Type 0
AreNumbered {K} ms = (b : ℕ) (k : K) (n : ℕ) → get (bank ms b) k ≡ Some n → n ≡ b
