-- What a scratch keeps. No public clause speaks of it.
use Rattle.std.specs.Prelude.{◌≡◌, ℕ, ◌<◌, ◌≤◌, List, length, slice_index}
use Rattle.tss_model.specs.Memory.{scratch_range}

-- zeros stand in the places before one
abbrev pub AreZero : List ℕ → ℕ → Type 0
AreZero bytes low = (k : ℕ) → k < low → slice_index bytes k ≡ 0

-- bytes of which the first are zeros
pub record IsScratch (bytes : List ℕ) (low : ℕ) : Type 0 where
  pub len : length bytes ≡ scratch_range.len
  pub within : low ≤ length bytes
  pub zero : AreZero bytes low
