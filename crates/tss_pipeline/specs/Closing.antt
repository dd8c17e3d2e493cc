-- Whose pools the tokens are that are under way when the machine is ended.
use Rattle.std.specs.Prelude.{◌≡◌, ℕ, ◌+◌, ◌*◌, ◌-◌, ◌<◌, ◌≤◌, List, length, Some, slice_get}
use Rattle.std.specs.FinMap.{get}
use Rattle.tss_base.specs.declared.machine.Sizes.{Sizes}
use Rattle.tss_base.specs.declared.operand.OpName.{OpName}
use Rattle.tss_tokens.specs.Pool.{TokenState}
use Rattle.tss_protocol.specs.Names.{bank_of}
use Rattle.tss_events.specs.declared.message.Opening.{Opening}
use Rattle.tss_events.specs.declared.message.HeldBuffer.{HeldBuffer}
use Rattle.tss_events.specs.declared.message.Gone.{Gone}
use Rattle.tss_events.specs.declared.message.Message.{Message}
use Rattle.tss_events.specs.declared.message.Message.TheVariants as message
use Rattle.tss_mail.specs.Letters.{MailState}
use Rattle.tss_pipeline.specs.declared.closing.EndedBank.{EndedBank}

-- the tokens of an open message are of the pools of these numbers
pub record IsOpeningOf (places buffers : ℕ) (m : Opening) : Type 0 where
  pub place : m.place.number ≡ places
  pub buffer : (t : TokenState) → m.buffer ≡ Some t → t.number ≡ buffers

-- those of a gone message
pub record IsGoneOf (places buffers : ℕ) (m : Gone) : Type 0 where
  pub place : m.place.number ≡ places
  pub buffer : (h : HeldBuffer) → m.buffer ≡ Some h → h.token.number ≡ buffers

-- those of any message are of the pools of its object's bank
abbrev pub IsOfBank : Sizes → Message → Type 0
IsOfBank sizes (message.Open m) =
    IsOpeningOf (2 * bank_of sizes m.operand.object) (2 * bank_of sizes m.operand.object + 1) m
IsOfBank sizes (message.Gone m) = IsGoneOf (2 * bank_of sizes m.object) (2 * bank_of sizes m.object + 1) m
IsOfBank sizes m = Unit {0}

-- the tokens of all messages are of the pools of their objects' banks
pub record AreOfBanks (sizes : Sizes) (mail : MailState) : Type 0 where
  pub opens : (o : OpName) (m : Opening) → get mail.opens o ≡ Some m
      → IsOpeningOf (2 * bank_of sizes m.operand.object) (2 * bank_of sizes m.operand.object + 1) m
  pub gones : (v : OpName) (m : Gone) → get mail.gones v ≡ Some m
      → IsGoneOf (2 * bank_of sizes m.object) (2 * bank_of sizes m.object + 1) m

-- the pools of a bank that has ended
abbrev pub ended_bank : ℕ → EndedBank
ended_bank n = record { places = Some (2 * n); buffers = Some (2 * n + 1) }

-- those of the banks from a number to below another, the last bank's first
pub record AreEnded (from count : ℕ) (es : List EndedBank) : Type 0 where
  pub so_many : from + length es ≡ count
  pub each : (n : ℕ) → from ≤ n → n < count → slice_get es (count - 1 - n) ≡ Some (ended_bank n)
