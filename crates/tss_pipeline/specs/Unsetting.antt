-- The buffers without the bytes of one of them.
use Rattle.std.specs.Prelude.{ℕ, Option, Some, None}
use Rattle.std.specs.FinMap.{remove}
use Rattle.tss_buffers.specs.Contents.{BuffersState, seat}

-- without the bytes of the buffer at a place of a bank, if there is one
abbrev pub without_bytes : BuffersState → ℕ → Option ℕ → BuffersState
without_bytes s bank None = s
without_bytes s bank (Some place) = record s { contents = remove s.contents (seat bank place) }
