-- The counts of faults of the machine's files: one for each of the first eight names, and one for all others.
use Rattle.std.specs.Prelude.{◌≡◌, ℕ, ◌+◌, Bool, true, false, cond, not, ◌||◌, List, [], ◌∷◌, length, take, slice_index, replicate}
use Rattle.std.proofs.Common.{refl, sym, ap, ◌∙◌, arith}
use Rattle.std.specs.List.{list_any, position_or_len}
use Rattle.std.specs.Str.{bytes_eq}

-- the names, and the counts of faults
pub record RealFilesState : Type 0 where
  pub names : List (List ℕ)
  pub read_faults : List ℕ
  pub append_faults : List ℕ

-- how often a write to standard output has failed
pub record RealSinkState : Type 0 where
  pub faults : ℕ

-- no faults yet
abbrev pub no_faults : List (List ℕ) → RealFilesState
no_faults names = record { names = names; read_faults = replicate 9 0; append_faults = replicate 9 0 }

-- the names that have counts of their own
abbrev pub counted_names : List (List ℕ) → List (List ℕ)
counted_names names = take 8 names

abbrev pub is_counted : List (List ℕ) → List ℕ → Bool
is_counted names n = list_any (λ w. bytes_eq w n) (counted_names names)

-- where the count of a name stands: that of all others comes after those of the names
abbrev pub count_place : List (List ℕ) → List ℕ → ℕ
count_place names n = position_or_len (λ w. bytes_eq w n) (counted_names names)

abbrev pub count_of : List (List ℕ) → List ℕ → List ℕ → ℕ
count_of names counts n = slice_index counts (count_place names n)

-- past an element that fails the search goes on
goes_on : (b : Bool) (more here len : ℕ) → b || false ≡ false → more ≡ len → cond (not b) (1 + more) here ≡ 1 + len
goes_on true more here len e f = absurd (cc)
goes_on false more here len e f = ap (λ k. 1 + k) f

fails_first : (a b : Bool) → a || b ≡ false → (a || false ≡ false) × (b ≡ false)
fails_first true b e = absurd (cc)
fails_first false b e = (refl, e)

-- the first place of what is nowhere is the length
pub none_passes : {X : Type 0} (p : X → Bool) (xs : List X) → list_any p xs ≡ false → position_or_len p xs ≡ length xs
none_passes p [] e = refl
none_passes p (x ∷ xs) e =
    let parts = fails_first (p x) (list_any p xs) e in
    goes_on (p x) (position_or_len p xs) 0 (length xs) parts.0 (none_passes p xs parts.1)
    ∙ omega arith

pub shared_count : (names : List (List ℕ)) (counts n m : List ℕ) → is_counted names n ≡ false → is_counted names m ≡ false → count_of names counts n ≡ count_of names counts m
shared_count names counts n m e f =
    ap (slice_index counts) (none_passes _ (counted_names names) e ∙ sym (none_passes _ (counted_names names) f))
