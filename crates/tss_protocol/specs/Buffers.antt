-- The bytes of rename buffers, and the copy engines that bring a retired version's bytes home.
use Rattle.std.specs.Prelude.{ℕ, ◌+◌, ◌-◌, Bool, true, false, nat_le, min, List, [], ◌∷◌, take, drop, Option, Some}
use Rattle.std.specs.Prelude.{None, is_none, unwrap_or}
use Rattle.std.specs.FinMap.{get, insert, remove}
use Rattle.tss_base.specs.declared.bounds.TheConstants.{COPY_BYTES}
use Rattle.tss_base.specs.declared.range.Range.{Range}
use Rattle.tss_base.specs.declared.operand.OpName.{OpName}
use Rattle.tss_base.specs.Names.{Named, Numbered}
use Rattle.tss_model.specs.Memory.{Memory, put_bytes}
use Rattle.tss_protocol.specs.Mail.{StorageName, Home, Buffer, Message, Gone}
use Rattle.tss_protocol.specs.State.{CopyState}
use Rattle.tss_protocol.specs.Versions.{retired}

-- ---- bytes

-- the bytes of a buffer, and no bytes where it isn't set
abbrev pub buffer_bytes : Named (List ℕ) → OpName → List ℕ
buffer_bytes contents n = unwrap_or (get contents n) []

-- a buffer that is free has no contents
abbrev pub contents_after_gone : Named (List ℕ) → Option OpName → Named (List ℕ)
contents_after_gone contents None = contents
contents_after_gone contents (Some n) = remove contents n

-- ---- retire: a version at home is gone at once, and the bytes of one in a buffer are copied home first

-- it lies at home, or its bank copies nothing
abbrev pub can_retire_from : Option StorageName → Option CopyState → Bool
can_retire_from None copy = false
can_retire_from (Some Home) copy = true
can_retire_from (Some (Buffer n)) copy = is_none copy

-- what it leaves: a message that it is gone
abbrev pub sent_by_retire : OpName → Range → Option StorageName → List Message
sent_by_retire v object None = []
sent_by_retire v object (Some Home) = Gone v (retired object None) ∷ []
sent_by_retire v object (Some (Buffer n)) = []

-- or a copy that has moved nothing yet
abbrev pub new_copy : OpName → Range → OpName → CopyState
new_copy v object n = record { version = v; object = object; buffer = n; moved = 0 }

-- the copies where a version retires
abbrev pub copies_after_retire : Numbered CopyState → ℕ → OpName → Range → Option StorageName → Numbered CopyState
copies_after_retire copies bank v object None = copies
copies_after_retire copies bank v object (Some Home) = copies
copies_after_retire copies bank v object (Some (Buffer n)) = insert copies bank (new_copy v object n)

-- ---- copy: the next piece goes home, of so many bytes or the fewer that are left

-- the bytes of the next piece
abbrev pub piece_len : CopyState → ℕ
piece_len c = min COPY_BYTES (c.object.len - c.moved)

-- the next piece of a buffer
abbrev pub piece_of : CopyState → List ℕ → List ℕ
piece_of c bytes = take (piece_len c) (drop c.moved bytes)

-- home with the next piece
abbrev pub home_after_copy : Memory → CopyState → List ℕ → Memory
home_after_copy home c bytes = put_bytes home (c.object.base + c.moved) (piece_of c bytes)

-- these are the last
abbrev pub is_last_piece : CopyState → Bool
is_last_piece c = nat_le c.object.len (c.moved + COPY_BYTES)

-- after the last the bank's copy is idle, and the version is gone with its buffer
abbrev pub copies_after_copy : Numbered CopyState → ℕ → CopyState → Bool → Numbered CopyState
copies_after_copy copies bank c true = remove copies bank
copies_after_copy copies bank c false = insert copies bank (record c { moved = c.moved + piece_len c })

-- the message after the last
abbrev pub sent_by_copy : CopyState → Bool → List Message
sent_by_copy c true = Gone c.version (retired c.object (Some c.buffer)) ∷ []
sent_by_copy c false = []
