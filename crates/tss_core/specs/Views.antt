-- What a view shows, and what its calls answer and leave.
use Rattle.std.specs.Prelude.{◌≡◌, ℕ, ◌+◌, ◌-◌, ◌==◌, Bool, ◌&&◌, ◌||◌, nat_lt, nat_le, if◌then◌else◌, length, slice_index, Option, Some, None, Result, Ok, Err}
use Rattle.tss_model.specs.Memory.{number_at}
use Rattle.tss_model.specs.Access as model
use Rattle.tss_model.specs.Access.{Actor, Purpose, Access, Granted, Loads, Stores, access_of}
use Rattle.tss_model.specs.Core.{Write, low_bytes}
use Rattle.tss_core.specs.declared.access.Deny.{Deny}
use Rattle.tss_core.specs.declared.access.Deny.TheVariants.{Denied, Touch}
use Rattle.tss_core.specs.Rule.{allowed}

-- what a view shows: who accesses, the byte at each address, and the word at each pc
pub record Sight : Type 0 where
  pub actor : Actor
  pub byte : ℕ → ℕ
  pub word : ℕ → Option ℕ

-- a byte, a half or a word
abbrev pub is_width : ℕ → Bool
is_width n = n == 1 || n == 2 || n == 4

-- whether an access of so many bytes at an address is granted
abbrev pub access_at : Sight → Purpose → ℕ → ℕ → Access
access_at s purpose at width = access_of s.actor purpose (record { base = at; len = width })

-- what a load answers: the number in the bytes, the lowest first, or why not
abbrev pub answer_on : Access → ℕ → Result ℕ Deny
answer_on Granted n = Ok n
answer_on model.Denied n = Err Denied
answer_on model.Touch n = Err Touch

abbrev pub load_answer : Sight → ℕ → ℕ → Result ℕ Deny
load_answer s at width = answer_on (access_at s Loads at width) (number_at s.byte at width)

-- what a store answers
abbrev pub store_answer : Sight → ℕ → ℕ → Result (Unit {0}) Deny
store_answer s at width = allowed (access_at s Stores at width)

-- what it writes: the low bytes of the value, where it is granted
abbrev pub write_on : Access → Write → Option Write
write_on Granted w = Some w
write_on a w = None

abbrev pub write_at : ℕ → ℕ → ℕ → Write
write_at at width value = record { at = at; bytes = low_bytes width value }

abbrev pub stored : Sight → ℕ → ℕ → ℕ → Option Write
stored s at width value = write_on (access_at s Stores at width) (write_at at width value)

-- the byte at an address after a write, where there is one
abbrev pub byte_after : (ℕ → ℕ) → Option Write → ℕ → ℕ
byte_after byte None a = byte a
byte_after byte (Some w) a =
    if nat_le w.at a && nat_lt a (w.at + length w.bytes) then slice_index w.bytes (a - w.at) else byte a

-- what is shown after a write, where there is one: its bytes stand at their addresses, and all else is as before
pub record IsAfter (old : Sight) (w : Option Write) (new : Sight) : Type 0 where
  pub actor : new.actor ≡ old.actor
  pub bytes : (a : ℕ) → new.byte a ≡ byte_after old.byte w a
  pub words : (pc : ℕ) → new.word pc ≡ old.word pc
