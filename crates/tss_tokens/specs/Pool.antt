-- What contracts see of pools and tokens.
use Rattle.std.specs.Prelude.{◌≡◌, ℕ, ◌≤◌, ◌<◌, ◌^◌, List, [], ◌∷◌, None, Some}
use Rattle.std.specs.Global.{Vec}
use Rattle.std.specs.Vec.{vec_capacity}
use Rattle.std.specs.Ordering.{nat_cmp}
use Rattle.std.specs.FinMap.{FinMap, get, insert, remove}
use Rattle.std.specs.FinSet as set
use Rattle.std.specs.Coded.{Coded, code_by, coded×, coded_ℕ}
use Rattle.std.proofs.Common.{refl}
use Rattle.tss_maps.specs.Below.{all_below}

-- a pool: its number, how many places it has, and the places that are out, as a map to nothing
pub record PoolState : Type 0 where
  pub number : ℕ
  pub size : ℕ
  pub out : FinMap nat_cmp (Unit {0})

abbrev pub pool_code : Coded PoolState
pool_code =
    code_by (ℕ × (ℕ × FinMap nat_cmp (Unit {0}))) (coded× coded_ℕ (coded× coded_ℕ (set.code coded_ℕ)))
    (λ p. (p.number, (p.size, p.out))) (λ t. record { number = t.0; size = t.1.0; out = t.1.1 }) (λ _. refl)

-- a token: the number of its pool, and its place
pub record TokenState : Type 0 where
  pub number : ℕ
  pub place : ℕ

-- each place of the pool is out
abbrev pub IsUsedUp : PoolState → Type 0
IsUsedUp p = (place : ℕ) → place < p.size → get p.out place ≡ Some tt

-- the token has the pool's number and a place of it that was free, and that is out now, beside those that were
pub record TakesPlace (old new : PoolState) (token : TokenState) : Type 0 where
  pub number : token.number ≡ old.number
  pub in_range : token.place < old.size
  pub was_free : get old.out token.place ≡ None
  pub is_out : get new.out token.place ≡ Some tt
  pub out : new ≡ record old { out = insert old.out token.place tt }

-- the places that are out, where these are free
abbrev pub places_out : ℕ → List ℕ → FinMap nat_cmp (Unit {0})
places_out size [] = all_below size
places_out size (place ∷ free) = remove (places_out size free) place

-- the free places are places of the pool, and no two are the same
abbrev pub AreFree : ℕ → List ℕ → Type 0
AreFree size [] = Unit {0}
AreFree size (place ∷ free) = (get (places_out size free) place ≡ Some tt) × AreFree size free

-- the list of free places is right and has room for all of them
pub record IsPool (size : ℕ) (places : Vec ℕ) : Type 0 where
  pub free : AreFree size places.items
  pub room : size ≤ vec_capacity places
  pub short : size < 2 ^ 32
