-- Places in lists, for the storages of a task's operands.
use Rattle.std.proofs.Common.{◌≡◌, ◌≢◌, ◌⊎◌, ℕ, zero, suc, ◌+◌, ◌<◌, List, [], ◌∷◌, length, take, set, get_or, slice_get, Option, Some, None, refl, sym, arith, true≢false}
use Rattle.std.specs.Prelude.{IsSome}
use Rattle.std.proofs.lemmas.Option.{none-some}
use Rattle.tss_pipeline.proofs.places.BankChanges.{slice_get-set_beside}

-- what stands at a place of the first n
pub taken_there : {X : Type 0} (n : ℕ) (xs : List X) (i : ℕ) (d : X) → i < n → i < length xs
    → slice_get (take n xs) i ≡ Some (get_or xs i d)
taken_there zero xs i d few within = absurd (omega (arith, few))
taken_there (suc n) [] i d few within = absurd (omega (arith, within))
taken_there (suc n) (w ∷ ws) zero d few within = refl
taken_there (suc n) (w ∷ ws) (suc i) d few within = taken_there n ws i d (omega (arith, few)) (omega (arith, within))

-- the last place or one before it
pub last_or_before : (k i : ℕ) → k < i + 1 → (k ≡ i) ⊎ (k < i)
last_or_before k i h = grind (arith, h)

-- nothing isn't there
pub not_there : {X : Type 0} (o : Option X) → None ≡ o → IsSome o → ⊥
not_there None e there = true≢false (sym there)
not_there (Some x) e there = none-some x e

-- a written list
pub written_place : {X : Type 0} (xs : List X) (n : ℕ) (y : X) → n < length xs → slice_get (set xs n y) n ≡ Some y
written_place [] n y within = absurd (omega (arith, within))
written_place (w ∷ ws) zero y within = refl
written_place (w ∷ ws) (suc n) y within = written_place ws n y (omega (arith, within))

pub written_beside : {X : Type 0} (xs : List X) (n i : ℕ) (y : X) → i ≢ n → slice_get (set xs n y) i ≡ slice_get xs i
written_beside xs n i y apart = slice_get-set_beside xs n i y apart

-- an idle worker isn't busy
pub idle_not_busy : {X : Type 0} (o : Option X) → o ≡ None → IsSome o → ⊥
idle_not_busy o e there = not_there o (sym e) there
