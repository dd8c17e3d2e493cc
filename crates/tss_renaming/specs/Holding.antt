-- What contracts see of places that are held under names.
use Rattle.std.specs.Prelude.{◌≡◌, ◌≢◌, ℕ, ◌<◌, Some, refl}
use Rattle.std.specs.Coded.{Coded, code_by, coded×, coded_ℕ}
use Rattle.std.specs.FinMap.{get, len}
use Rattle.tss_base.specs.declared.operand.OpName.{OpName}
use Rattle.tss_base.specs.Names.{name_cmp, Named}
use Rattle.tss_tables.specs.Table.{TableState}
use Rattle.tss_tokens.specs.Pool.{PoolState}
use Rattle.tss_protocol.specs.Codes.{named}

-- the number of the pool, how many places it has, and the place of each name
pub record HeldState : Type 0 where
  pub number : ℕ
  pub size : ℕ
  pub places : Named ℕ

abbrev pub held_code : Coded HeldState
held_code =
    code_by (ℕ × (ℕ × Named ℕ)) (coded× coded_ℕ (coded× coded_ℕ (named coded_ℕ)))
    (λ h. (h.number, (h.size, h.places))) (λ p. record { number = p.0; size = p.1.0; places = p.1.1 }) (λ _. refl)

-- no two names hold one place
abbrev pub AreApart : Named ℕ → Type 0
AreApart places = (o q : OpName) (p : ℕ) → get places o ≡ Some p → get places q ≡ Some p → o ≡ q

-- it is one of so many places, and no name holds it
pub record IsFree (places : Named ℕ) (size p : ℕ) : Type 0 where
  pub within : p < size
  pub free : (q : OpName) → get places q ≢ Some p

-- it is one of so many places, and no other name holds it
pub record HoldsAlone (places : Named ℕ) (size : ℕ) (name : OpName) (p : ℕ) : Type 0 where
  pub within : p < size
  pub alone : (q : OpName) → get places q ≡ Some p → q ≡ name

-- a pool and the table of its places by name
abbrev pub held_of : PoolState → TableState name_cmp ℕ → HeldState
held_of pool names = record { number = pool.number; size = pool.size; places = names.entries }

-- the places that are out are those that the names hold, each of them one
pub record AreHeld (pool : PoolState) (names : TableState name_cmp ℕ) : Type 0 where
  pub room : names.size ≡ pool.size
  pub count : len pool.out ≡ len names.entries
  pub out : (o : OpName) (p : ℕ) → get names.entries o ≡ Some p → (get pool.out p ≡ Some tt) × (p < pool.size)
  pub held : (p : ℕ) → get pool.out p ≡ Some tt → (o : OpName) × (get names.entries o ≡ Some p)
  pub apart : AreApart names.entries
