-- A sink in memory: its bytes, the room that is left, the calls that are to fail, and what a call leaves.
use Rattle.std.specs.Prelude.{◌≡◌, ℕ, ◌-◌, Bool, ◌||◌, ◌==◌, nat_lt, List, ◌++◌, length, Result, MatchResult, IsTrue, IsFalse}
use Rattle.std.specs.List.{list_any}
use Rattle.tss_outside.specs.declared.files.Failed.{Failed}
use Rattle.tss_outside.specs.Outside.{risen}

pub record MemSinkState : Type 0 where
  pub bytes : List ℕ
  pub room : ℕ
  -- the numbers, from 1, of the calls that are to fail, and how many were made
  pub failing : List ℕ
  pub calls : ℕ
  pub faults : ℕ

-- the number is in the list
abbrev pub is_listed : List ℕ → ℕ → Bool
is_listed ns n = list_any (λ m. m == n) ns

-- the next write of so many bytes fails: its number is listed, or there is no room
abbrev pub fails_write : MemSinkState → ℕ → Bool
fails_write s n = is_listed s.failing (risen s.calls) || nat_lt s.room n

-- after a write that fails
abbrev pub after_fault : MemSinkState → MemSinkState
after_fault s = record s { calls = risen s.calls; faults = risen s.faults }

-- after a write that doesn't
abbrev pub after_write : MemSinkState → List ℕ → MemSinkState
after_write s bytes = record s { calls = risen s.calls; bytes = s.bytes ++ bytes; room = s.room - length bytes }

-- a write fails exactly where it is to, and then nothing is put
abbrev pub AfterWrite : MemSinkState → MemSinkState → List ℕ → Result (Unit {0}) Failed → Type 0
AfterWrite old new bytes result =
    MatchResult result
    (λ _. IsFalse (fails_write old (length bytes)) × (new ≡ after_write old bytes))
    (λ _. IsTrue (fails_write old (length bytes)) × (new ≡ after_fault old))
