-- Files that never fail and hold bytes under every name.
use Rattle.std.specs.Prelude.{ℕ, Bool, List, [], Option, Some, None, unwrap_or, if◌then◌else◌}
use Rattle.tss_outside.specs.Outside.{Held}
use Rattle.tss_outside.specs.MemFiles.{MemFilesState, bytes_of}

-- what was put, and whether it is still told, as it is until something is appended
pub record HonestFilesState : Type 0 where
  pub files : MemFilesState
  pub is_told : Bool

-- the bytes under a name: none where nothing was put
abbrev pub honest_bytes : HonestFilesState → List ℕ → List ℕ
honest_bytes s n = unwrap_or (bytes_of s.files n) []

abbrev pub honest_held : HonestFilesState → Option Held
honest_held s = (if s.is_told then Some (λ n. Some (honest_bytes s n)) else None)
