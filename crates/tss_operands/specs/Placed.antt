-- Objects in address order, and what an epoch keeps of them. No public clause speaks of these.
use Rattle.std.specs.Prelude.{◌≡◌, ℕ, ◌^◌, ◌<◌, ◌≤◌, ◌⊎◌, List, length, All, AllPairs, Contains, Option, MatchOption}
use Rattle.std.specs.List.{AllWithin}
use Rattle.std.specs.List.Sorted.{IsPermutation}
use Rattle.tss_base.specs.declared.range.Range.{Range}
use Rattle.tss_base.specs.Range.{end_of}

-- objects that aren't empty, each after the end of those before it
pub record ArePlaced (objects : List Range) : Type 0 where
  pub each : All (λ r. 0 < r.len) objects
  pub ordered : AllPairs (λ r s. end_of r ≤ s.base) objects

-- so many objects end at or before an address, and those after them end later
pub record EndsBefore (objects : List Range) (at i : ℕ) : Type 0 where
  pub within : i ≤ length objects
  pub before : AllWithin (λ r. end_of r ≤ at) objects 0 i
  pub after : AllWithin (λ r. at < end_of r) objects i (length objects)

-- seen from an address, an object ends at or before it, is this one, or begins at or after the end of this one
abbrev pub IsBeside : ℕ → Range → Range → Type 0
IsBeside at n r = (end_of r ≤ at) ⊎ ((r ≡ n) ⊎ (end_of n ≤ r.base))

-- among objects that aren't empty, the first in address order that ends after an address
pub record IsFirstAfter (objects : List Range) (at : ℕ) (n : Range) : Type 0 where
  pub there : Contains objects n
  pub later : at < end_of n
  pub each : All (λ r. 0 < r.len) objects
  pub others : All (IsBeside at n) objects

-- each object ends at or before an address, and isn't empty
pub record AllEndBy (objects : List Range) (at : ℕ) : Type 0 where
  pub each : All (λ r. 0 < r.len) objects
  pub before : All (λ r. end_of r ≤ at) objects

-- that first object, or none where each ends at or before the address
abbrev pub IsNeighbour : List Range → ℕ → Option Range → Type 0
IsNeighbour objects at o = MatchOption o (AllEndBy objects at) (IsFirstAfter objects at)

-- the same objects in order of naming and in address order, at most so many, with room for as many in both lists
pub record AreKept (limit : ℕ) (named by_base : List Range) (room base_room : ℕ) : Type 0 where
  pub word : limit < 2 ^ 32
  pub few : length named ≤ limit
  pub fits : limit ≤ room
  pub base_fits : limit ≤ base_room
  pub same : IsPermutation named by_base
  pub placed : ArePlaced by_base
