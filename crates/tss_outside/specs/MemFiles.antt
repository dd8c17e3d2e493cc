-- Files in memory: what each holds and its room, the calls that are to fail, and what calls leave.
use Rattle.std.specs.Prelude.{◌≡◌, ◌≢◌, ℕ, ◌-◌, Bool, true, false, ◌||◌, nat_lt, List, [], ◌++◌, length, Option, Some, None, is_some, is_none, unwrap_or, Result, Ok, Err}
use Rattle.std.specs.List.{find}
use Rattle.std.specs.Option.{option_and_then, option_map_or}
use Rattle.std.specs.Str.{bytes_eq}
use Rattle.std.proofs.Common.{refl, Vec, Global}
use Rattle.tss_outside.specs.declared.files.Failed.{Failed as Fault}
use Rattle.tss_outside.specs.declared.files.FileFault.{FileFault}
use Rattle.tss_outside.specs.declared.files.FileFault.TheVariants.{Failed, TooLong, NoMemory}
use Rattle.tss_outside.specs.Outside.{Held, risen}
use Rattle.tss_outside.specs.MemSink.{is_listed}

-- a known name: what is held under it, if anything, how many bytes may still be appended, and its counts of faults
pub record FileState : Type 0 where
  pub name : List ℕ
  pub bytes : Option (List ℕ)
  pub room : ℕ
  pub read_faults : ℕ
  pub append_faults : ℕ

-- the files; the numbers, from 1, of the reads and appends that are to fail, and how many were made; and the counts
-- that all other names share
pub record MemFilesState : Type 0 where
  pub files : List FileState
  pub failing_reads : List ℕ
  pub failing_appends : List ℕ
  pub reads : ℕ
  pub appends : ℕ
  pub other_read_faults : ℕ
  pub other_append_faults : ℕ

abbrev pub no_files : MemFilesState
no_files =
    record { files = []; failing_reads = []; failing_appends = []; reads = 0; appends = 0; other_read_faults = 0; other_append_faults = 0 }

abbrev pub has_name : List ℕ → FileState → Bool
has_name n f = bytes_eq f.name n

-- what is known under a name
abbrev pub file_of : MemFilesState → List ℕ → Option FileState
file_of s n = find (has_name n) s.files

abbrev pub is_known : MemFilesState → List ℕ → Bool
is_known s n = is_some (file_of s n)

-- what is held under a name
abbrev pub bytes_of : MemFilesState → Held
bytes_of s n = option_and_then (λ f. f.bytes) (file_of s n)

abbrev pub read_faults_of : MemFilesState → List ℕ → ℕ
read_faults_of s n = option_map_or (λ f. f.read_faults) (file_of s n) s.other_read_faults

abbrev pub append_faults_of : MemFilesState → List ℕ → ℕ
append_faults_of s n = option_map_or (λ f. f.append_faults) (file_of s n) s.other_append_faults

-- how many bytes may still be appended
abbrev pub room_of : MemFilesState → List ℕ → ℕ
room_of s n = option_map_or (λ f. f.room) (file_of s n) 0

-- the next read of a name fails: its number is listed, or nothing is held under the name
abbrev pub fails_read : MemFilesState → List ℕ → Bool
fails_read s n = is_listed s.failing_reads (risen s.reads) || is_none (bytes_of s n)

-- the next append of so many bytes fails: its number is listed, or there is no room, as under a name that isn't known
abbrev pub fails_append : MemFilesState → List ℕ → ℕ → Bool
fails_append s n len =
    is_listed s.failing_appends (risen s.appends) || option_map_or (λ f. nat_lt f.room len) (file_of s n) true

-- a name that has just become known
abbrev pub new_file : MemFilesState → List ℕ → FileState
new_file s n =
    record { name = n; bytes = None; room = 0; read_faults = s.other_read_faults; append_faults = s.other_append_faults }

-- what is known under a name, or would be if it were made known
abbrev pub file_or_new : MemFilesState → List ℕ → FileState
file_or_new s n = unwrap_or (file_of s n) (new_file s n)

-- f is known under the name now, and all else is as it was
pub record ChangesFile (old new : MemFilesState) (name : List ℕ) (f : FileState) : Type 0 where
  pub changed : file_of new name ≡ Some f
  pub others : (n : List ℕ) → n ≢ name → file_of new n ≡ file_of old n
  pub rest : new ≡ record old { files = new.files }

-- ---- what calls leave

-- one more read was made, and one more append
abbrev pub read_once : MemFilesState → MemFilesState
read_once s = record s { reads = risen s.reads }

abbrev pub appended_once : MemFilesState → MemFilesState
appended_once s = record s { appends = risen s.appends }

-- a name after a read that failed, after an append that did, and after one that put bytes
abbrev pub with_read_fault : FileState → FileState
with_read_fault f = record f { read_faults = risen f.read_faults }

abbrev pub with_append_fault : FileState → FileState
with_append_fault f = record f { append_faults = risen f.append_faults }

abbrev pub with_bytes : List ℕ → FileState → FileState
with_bytes bytes f = record f { bytes = Some (unwrap_or f.bytes [] ++ bytes); room = f.room - length bytes }

-- the count of the name has risen, or the shared one where the name isn't known, and all else is as it was
abbrev pub CountsReadFault : MemFilesState → MemFilesState → List ℕ → Option FileState → Type 0
CountsReadFault old new name None = new ≡ record old { other_read_faults = risen old.other_read_faults }
CountsReadFault old new name (Some f) = ChangesFile old new name (with_read_fault f)

abbrev pub CountsAppendFault : MemFilesState → MemFilesState → List ℕ → Option FileState → Type 0
CountsAppendFault old new name None = new ≡ record old { other_append_faults = risen old.other_append_faults }
CountsAppendFault old new name (Some f) = ChangesFile old new name (with_append_fault f)

-- a read leaves all as it was but its own number, and a count of faults where it failed
abbrev pub AfterRead : MemFilesState → MemFilesState → List ℕ → Result (Vec ℕ Global) FileFault → Type 0
AfterRead old new name (Err Failed) = CountsReadFault (read_once old) new name (file_of old name)
AfterRead old new name (Err (TooLong n)) = new ≡ read_once old
AfterRead old new name (Err NoMemory) = new ≡ read_once old
AfterRead old new name (Ok v) = new ≡ read_once old

-- an append puts the bytes under a known name, or a count of faults has risen
abbrev pub AfterAppend : MemFilesState → MemFilesState → List ℕ → List ℕ → Result (Unit {0}) Fault → Type 0
AfterAppend old new name bytes (Ok v) =
    (f : FileState) × (file_of old name ≡ Some f) × ChangesFile (appended_once old) new name (with_bytes bytes f)
AfterAppend old new name bytes (Err fault) = CountsAppendFault (appended_once old) new name (file_of old name)

-- a name under which nothing is found has the shared count
shared_part : (part : FileState → ℕ) (o p : Option FileState) (d : ℕ) → is_some o ≡ false → is_some p ≡ false → option_map_or part o d ≡ option_map_or part p d
shared_part part None None d e f = refl
shared_part part None (Some x) d e f = absurd (cc)
shared_part part (Some x) p d e f = absurd (cc)

pub shared_read_faults_of : (s : MemFilesState) (n m : List ℕ) → is_known s n ≡ false → is_known s m ≡ false → read_faults_of s n ≡ read_faults_of s m
shared_read_faults_of s n m = shared_part (λ f. f.read_faults) (file_of s n) (file_of s m) s.other_read_faults

pub shared_append_faults_of : (s : MemFilesState) (n m : List ℕ) → is_known s n ≡ false → is_known s m ≡ false → append_faults_of s n ≡ append_faults_of s m
shared_append_faults_of s n m = shared_part (λ f. f.append_faults) (file_of s n) (file_of s m) s.other_append_faults
