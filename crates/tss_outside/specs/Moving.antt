-- What is read of a reader and put into a writer, where they tell their bytes.
use Rattle.std.specs.Prelude.{◌≡◌, ℕ, ◌≤◌, ◌<◌, List, length, Option, IfSome, Result, Ok, Err}
use Rattle.std.proofs.Common.{Vec, Global}
use Rattle.std.specs.Io.KnownBytes.{Appends}
use Rattle.tss_outside.specs.declared.files.Failed.{Failed as Fault}
use Rattle.tss_outside.specs.declared.files.FileFault.{FileFault}
use Rattle.tss_outside.specs.declared.files.FileFault.TheVariants.{Failed, TooLong, NoMemory}
use Rattle.tss_outside.specs.Outside.{IsPrefix}

-- all bytes that the reader had, within the limit; or it had more, of which so many were read; or reading failed, or
-- memory ran out
abbrev pub ReadsAll : Option (List ℕ) → ℕ → Result (Vec ℕ Global) FileFault → Type 0
ReadsAll had limit (Ok v) = IfSome had (λ bytes. v.items ≡ bytes) × (length v.items ≤ limit)
ReadsAll had limit (Err (TooLong n)) = IfSome had (λ bytes. n ≤ length bytes) × (limit < n)
ReadsAll had limit (Err Failed) = Unit {0}
ReadsAll had limit (Err NoMemory) = Unit {0}

-- all bytes stand after what the writer had; or it failed, and a prefix of them does
abbrev pub PutsAll : Option (List ℕ) → Option (List ℕ) → List ℕ → Result (Unit {0}) Fault → Type 0
PutsAll old new bytes (Ok v) = Appends old new bytes
PutsAll old new bytes (Err fault) = (p : List ℕ) × IsPrefix p bytes × Appends old new p
