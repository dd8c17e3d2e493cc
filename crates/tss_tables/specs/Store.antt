-- Rows of places beside what stands there, as rows.
use Rattle.std.specs.Prelude.{◌≡◌, ◌≢◌, ℕ, ◌+◌, ◌<◌, ◌≤◌, List, [], ◌∷◌, length, Option, Some, None}
use Rattle.std.specs.Global.{Vec}
use Rattle.std.specs.Vec.{vec_capacity}
use Rattle.std.specs.Ordering.{nat_cmp}
use Rattle.std.specs.FinMap.{FinMap, get, len}
use Rattle.tss_tables.specs.Rows.{RowsState}
use Rattle.tss_tables.specs.Table.{TableState}

-- a row before others, where there is a value
abbrev pub row_before : {K X : Type 0} → K → Option X → List (K × X) → List (K × X)
row_before k None es = es
row_before k (Some x) es = (k, x) ∷ es

-- the rows of what stands at the places
abbrev pub picked : {K X : Type 0} → FinMap nat_cmp X → List (K × ℕ) → List (K × X)
picked m [] = []
picked m (e ∷ es) = row_before e.0 (get m e.1) (picked m es)

-- rows of places, and what stands there
abbrev pub stored_of : {K X : Type 0} → RowsState K ℕ → TableState nat_cmp X → RowsState K X
stored_of index seats = record { size = index.size; entries = picked seats.entries index.entries }

-- at each place of a row something stands
abbrev pub AreHeld : {K X : Type 0} → FinMap nat_cmp X → List (K × ℕ) → Type 0
AreHeld m [] = Unit {0}
AreHeld {X = X} m (e ∷ es) = ((x : X) × (get m e.1 ≡ Some x)) × AreHeld m es

-- a place is none of the rows'
abbrev pub IsElsewhere : {K : Type 0} → ℕ → List (K × ℕ) → Type 0
IsElsewhere p [] = Unit {0}
IsElsewhere p (e ∷ es) = (e.1 ≢ p) × IsElsewhere p es

-- no two rows have one place
abbrev pub ArePlacedApart : {K : Type 0} → List (K × ℕ) → Type 0
ArePlacedApart [] = Unit {0}
ArePlacedApart (e ∷ es) = IsElsewhere e.1 es × ArePlacedApart es

-- a place is none of a list
abbrev pub IsNotIn : ℕ → List ℕ → Type 0
IsNotIn p [] = Unit {0}
IsNotIn p (q ∷ qs) = (q ≢ p) × IsNotIn p qs

-- the places of a list are below a size, nothing stands there, and no two are the same
abbrev pub AreFree : {X : Type 0} → ℕ → FinMap nat_cmp X → List ℕ → Type 0
AreFree size m [] = Unit {0}
AreFree size m (p ∷ ps) = (p < size) × ((get m p ≡ None) × (IsNotIn p ps × AreFree size m ps))

-- each row has a place of its own, and all other places are free
pub record AreStored {K X : Type 0} (index : RowsState K ℕ) (seats : TableState nat_cmp X) (places : Vec ℕ) : Type 0 where
  pub size : seats.size ≡ index.size
  pub count : length index.entries + length places.items ≡ index.size
  pub taken : len seats.entries ≡ length index.entries
  pub within : (p : ℕ) (x : X) → get seats.entries p ≡ Some x → p < seats.size
  pub held : AreHeld seats.entries index.entries
  pub apart : ArePlacedApart index.entries
  pub free : AreFree index.size seats.entries places.items
  pub room : index.size ≤ vec_capacity places
