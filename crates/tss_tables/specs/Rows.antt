-- Rows in the order of their keys, as contracts inside this crate see them.
use Rattle.std.specs.Prelude.{◌≡◌, ℕ, ◌<◌, ◌≤◌, ◌^◌, not, List, length, slice_get, Some, Result, MatchResult}
use Rattle.std.specs.Coded.{Coded, code_by, coded×, coded_ℕ, coded_list}
use Rattle.std.specs.List.{zip}
use Rattle.std.specs.Global.{Vec}
use Rattle.std.specs.Vec.{vec_capacity}
use Rattle.std.specs.Ordering.{eq_by_cmp}
use Rattle.std.specs.declared.cmp.Ordering.{Ordering}
use Rattle.std.specs.declared.cmp.Ordering.TheVariants.{Less, Equal, Greater}
use Rattle.std.specs.FinMap.Entries.{where_key}
use Rattle.std.proofs.Common.{refl}

-- how many rows there is room for, and the rows
pub record RowsState (K X : Type 0) : Type 0 where
  pub size : ℕ
  pub entries : List (K × X)

abbrev pub rows_code : {K X : Type 0} → Coded K → Coded X → Coded (RowsState K X)
rows_code {K} {X} k x =
    code_by (ℕ × List (K × X)) (coded× coded_ℕ (coded_list (coded× k x))) (λ r. (r.size, r.entries))
    (λ p. record { size = p.0; entries = p.1 }) (λ _. refl)

-- keys beside values, as rows
abbrev pub rows_of : {K X : Type 0} → ℕ → List K → List X → RowsState K X
rows_of size ks vs = record { size = size; entries = zip ks vs }

-- a value for each key, and room for as many as there may be
pub record AreRows {K X : Type 0} (size : ℕ) (keys : Vec K) (values : Vec X) : Type 0 where
  pub paired : length keys.items ≡ length values.items
  pub within : length keys.items ≤ size
  pub short : size < 2 ^ 32
  pub room : size ≤ vec_capacity keys
  pub value_room : size ≤ vec_capacity values

-- the rows but the one of a key
abbrev pub without : {K X : Type 0} → (K → K → Ordering) → K → List (K × X) → List (K × X)
without R k es = where_key R (λ x. not (eq_by_cmp R k x)) es

-- each key is below the later ones
abbrev pub Rises : {K : Type 0} → (K → K → Ordering) → List K → Type 0
Rises {K} R keys = (i j : ℕ) (x y : K) → i < j → slice_get keys i ≡ Some x → slice_get keys j ≡ Some y → R x y ≡ Less

-- a key stands at place i, or one that ties with it
pub record IsFound {K : Type 0} (R : K → K → Ordering) (keys : List K) (k : K) (i : ℕ) : Type 0 where
  pub there : (x : K) × (slice_get keys i ≡ Some x) × (R k x ≡ Equal)
  pub before : (j : ℕ) (x : K) → j < i → slice_get keys j ≡ Some x → R k x ≡ Greater
  pub after : (j : ℕ) (x : K) → i < j → slice_get keys j ≡ Some x → R k x ≡ Less

-- a key isn't there, and would stand at place i
pub record IsGap {K : Type 0} (R : K → K → Ordering) (keys : List K) (k : K) (i : ℕ) : Type 0 where
  pub within : i ≤ length keys
  pub before : (j : ℕ) (x : K) → j < i → slice_get keys j ≡ Some x → R k x ≡ Greater
  pub after : (j : ℕ) (x : K) → i ≤ j → slice_get keys j ≡ Some x → R k x ≡ Less

-- what a search among keys in order answers
abbrev pub MatchSearch : {K : Type 0} → (K → K → Ordering) → List K → K → Result ℕ ℕ → Type 0
MatchSearch R keys k r = MatchResult r (IsFound R keys k) (IsGap R keys k)
