-- The reading of files by which a command finds what it is about, and what that comes to over files that are held, and
-- over those that may fail.
use Rattle.std.specs.Prelude.{◌≡◌, ◌⊎◌, ℕ, nat_lt, if◌then◌else◌, List, [], ◌∷◌, length, Option, Some, None, IfSome, Result, Ok, Err, true, false}
use Rattle.std.proofs.Common.{Vec, Global}
use Rattle.std.specs.Option.{option_and_then}
use Rattle.tss_outside.specs.Outside.{Held}
use Rattle.tss_command.specs.declared.outcome.Input.{Input}
use Rattle.tss_command.specs.declared.outcome.Refusal.{Refusal}
use Rattle.tss_command.specs.declared.outcome.Refusal.TheVariants as refusal

-- reading that has found something, or why there is none; or a file is read, under this name, and the reading goes on by
-- its bytes
pub data Reading (T : Type 0) : Type 0 where
  Found : Result T Refusal → Reading T
  Read : Input → List ℕ → (List ℕ → Reading T) → Reading T

-- reading that goes on with what was found, unless that was refused
abbrev pub with_found : {T U : Type 0} → (T → Reading U) → Reading T → Reading U
with_found next (Found (Ok x)) = next x
with_found next (Found (Err e)) = Found (Err e)
with_found next (Read which name more) = Read which name (λ bytes. with_found next (more bytes))

-- one file is read, and this is what its bytes come to
abbrev pub file_reading : {T : Type 0} → Input → List ℕ → (List ℕ → Result T Refusal) → Reading T
file_reading which name from = Read which name (λ bytes. Found (from bytes))

-- what is found in bytes of which there may be so many
abbrev pub within : {T : Type 0} → Input → ℕ → (List ℕ → Result T Refusal) → List ℕ → Result T Refusal
within which limit from bytes = if nat_lt limit (length bytes) then Err (refusal.TooLong which) else from bytes

-- ---- over files that are held

-- what is found: none where it comes to a file that isn't held
abbrev pub found_on : {T : Type 0} → Held → Reading T → Option (Result T Refusal)
found_on held (Found r) = Some r
found_on held (Read which name next) = option_and_then (λ bytes. found_on held (next bytes)) (held name)

-- the names that are read after a file's bytes
abbrev pub names_after : (List ℕ → List (List ℕ)) → Option (List ℕ) → List (List ℕ)
names_after names None = []
names_after names (Some bytes) = names bytes

-- the names under which it reads
abbrev pub names_read : {T : Type 0} → Held → Reading T → List (List ℕ)
names_read held (Found r) = []
names_read held (Read which name next) = name ∷ names_after (λ bytes. names_read held (next bytes)) (held name)

-- ---- over files that may fail, and that may be told

-- this is found, over the bytes that are told where any are; or reading a file that it came to has failed
abbrev pub Finds : {T : Type 0} → Option Held → (List ℕ → Type 0) → Reading T → Result T Refusal → Type 0
Finds told failed (Found r) x = x ≡ r
Finds told failed (Read which name next) x =
    ((x ≡ Err (refusal.ReadFault which)) × failed name)
    ⊎ ((bytes : List ℕ) × IfSome told (λ held. held name ≡ Some bytes) × Finds told failed (next bytes) x)

-- or memory ran out
abbrev pub ComesTo : {T : Type 0} → Option Held → (List ℕ → Type 0) → Reading T → Result T Refusal → Type 0
ComesTo told failed reading x = (x ≡ Err refusal.NoMemory) ⊎ Finds told failed reading x

-- ---- answers of the parts

-- the bytes that were read
abbrev pub bytes_found : Result (Vec ℕ Global) Refusal → Result (List ℕ) Refusal
bytes_found (Ok v) = Ok v.items
bytes_found (Err e) = Err e

-- an answer is that one, or memory ran out
abbrev pub Gives : {T : Type 0} → Result T Refusal → Result T Refusal → Type 0
Gives r answer = (r ≡ Err refusal.NoMemory) ⊎ (r ≡ answer)

-- a file was read: its bytes, those that are held where that is told, within the limit; or reading it failed, or it is
-- longer, or memory ran out
abbrev pub IsRead : Option Held → Type 0 → Input → List ℕ → ℕ → Result (Vec ℕ Global) Refusal → Type 0
IsRead told failed which name limit (Ok v) =
    IfSome told (λ held. held name ≡ Some v.items) × (nat_lt limit (length v.items) ≡ false)
IsRead told failed which name limit (Err (refusal.ReadFault other)) = (other ≡ which) × failed
IsRead told failed which name limit (Err refusal.NoMemory) = Unit {0}
IsRead told failed which name limit (Err e) =
    (bytes : List ℕ)
    × IfSome told (λ held. held name ≡ Some bytes)
    × (nat_lt limit (length bytes) ≡ true)
    × (e ≡ refusal.TooLong which)
