-- The numbers of the pools of tokens in messages.
use Rattle.std.specs.Prelude.{◌≡◌, ℕ, List, [], ◌∷◌, Some}
use Rattle.tss_tokens.specs.Pool.{TokenState}
use Rattle.tss_events.specs.declared.message.HeldBuffer.{HeldBuffer}
use Rattle.tss_events.specs.declared.message.Opening.{Opening}
use Rattle.tss_events.specs.declared.message.Gone.{Gone}
use Rattle.tss_events.specs.declared.message.Message.{Message}
use Rattle.tss_events.specs.declared.message.Message.TheVariants as message

-- the tokens of an open have the numbers of these pools of places and buffers
pub record OpensNumbered (places buffers : ℕ) (m : Opening) : Type 0 where
  pub place : m.place.number ≡ places
  pub buffer : (token : TokenState) → m.buffer ≡ Some token → token.number ≡ buffers

-- those of a gone have
pub record GoneNumbered (places buffers : ℕ) (m : Gone) : Type 0 where
  pub place : m.place.number ≡ places
  pub buffer : (held : HeldBuffer) → m.buffer ≡ Some held → held.token.number ≡ buffers

-- those of a message that a bank of versions sends, where it has any
abbrev pub IsNumbered : ℕ → ℕ → Message → Type 0
IsNumbered places buffers (message.Gone m) = GoneNumbered places buffers m
IsNumbered places buffers m = Unit {0}

-- those of messages
abbrev pub AreSentNumbered : ℕ → ℕ → List Message → Type 0
AreSentNumbered places buffers [] = Unit {0}
AreSentNumbered places buffers (m ∷ ms) = IsNumbered places buffers m × AreSentNumbered places buffers ms
