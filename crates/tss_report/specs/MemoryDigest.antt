-- The digest of memory.
use Rattle.std.specs.Prelude.{ℕ, if◌then◌else◌, List, [], flat_map}
use Rattle.sha2.specs.Sha256.{sha256}
use Rattle.tss_model.specs.Memory.{MemoryRange, Memory, bytes_of}

-- what a range adds: its bytes, where it can be written, and else nothing
abbrev pub hashed_bytes : Memory → MemoryRange → List ℕ
hashed_bytes m r = if r.writable then bytes_of m r.range else []

-- the bytes of all ranges that can be written, in address order
abbrev pub writable_bytes : Memory → List ℕ
writable_bytes m = flat_map (hashed_bytes m) m.ranges

-- the SHA-256 of these bytes
abbrev pub digest_of : Memory → List ℕ
digest_of m = sha256 (writable_bytes m)
