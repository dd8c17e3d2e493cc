-- What a decode takes and sends, with the places and their tokens.
use Rattle.std.specs.Prelude.{◌≡◌, ℕ, ◌+◌, ◌*◌, Bool, true, List, [], ◌∷◌, Option, None, Some}
use Rattle.std.specs.FinMap.{get, insert, remove}
use Rattle.tss_base.specs.declared.operand.OpName.{OpName}
use Rattle.tss_base.specs.declared.operand.Mode.{Mode}
use Rattle.tss_base.specs.declared.operand.Mode.TheVariants.{Input, Output, Inout}
use Rattle.tss_base.specs.declared.operand.Operand.{Operand}
use Rattle.tss_base.specs.declared.operand.Storage.TheVariants as storage
use Rattle.tss_base.specs.declared.marks.How.TheVariants.{Beside, Over}
use Rattle.tss_tokens.specs.Pool.{TokenState}
use Rattle.tss_protocol.specs.State.{Entry, Outcome}
use Rattle.tss_protocol.specs.Renaming.{Wait, bank_wait, entry_after_decode, takes_place, takes_buffer, places_after_decode, buffers_after_decode, follows_latest, Tables, decoded_by}
use Rattle.tss_events.specs.declared.message.Opening.{Opening}
use Rattle.tss_events.specs.declared.message.Message.{Message}
use Rattle.tss_events.specs.declared.message.Message.TheVariants as message
use Rattle.tss_renaming.specs.declared.renaming.Decoded.{Decoded}
use Rattle.tss_renaming.specs.declared.renaming.Decoded.TheVariants as decoded
use Rattle.tss_renaming.specs.Holding.{HeldState, IsFree}
use Rattle.tss_renaming.specs.Bank.{RenamingState, tables_of, fill_in}

-- ---- the answer

-- the first wait that holds for an operand in this bank
abbrev pub wait_here : RenamingState → OpName → Operand → Option Wait
wait_here s o operand =
    bank_wait s.sizes (fill_in s) s.line o (get s.entries operand.object.base) operand.mode

-- the number of the wait, if it is one
abbrev pub waited : Decoded → Option ℕ
waited (decoded.Done sent) = None
waited (decoded.Wait n) = Some n

-- what holds where it waits
abbrev pub OnWait : Decoded → Type 0 → Type 0
OnWait (decoded.Done sent) P = Unit {0}
OnWait (decoded.Wait n) P = P

-- what holds of the messages where it is done
abbrev pub IfDone : Decoded → (List Message → Type 0) → Type 0
IfDone (decoded.Done sent) P = P sent
IfDone (decoded.Wait n) P = Unit {0}

-- ---- messages with tokens

-- an object's first version follows nothing and lies at home
abbrev pub first_opening : OpName → Operand → TokenState → Opening
first_opening o operand place = record {
  o = o;
  operand = operand;
  storage = Some storage.Home;
  follows = None;
  place = place;
  buffer = None;
}

-- an inout follows over the latest version, and gets its storage later
abbrev pub over_opening : OpName → Operand → Entry → TokenState → Opening
over_opening o operand e place = record {
  o = o;
  operand = operand;
  storage = None;
  follows = Some (follows_latest e Over);
  place = place;
  buffer = None;
}

-- an output follows beside the latest version, in its own buffer
abbrev pub beside_opening : OpName → Operand → Entry → TokenState → TokenState → Opening
beside_opening o operand e place buffer = record {
  o = o;
  operand = operand;
  storage = Some (storage.Buffer buffer.place o);
  follows = Some (follows_latest e Beside);
  place = place;
  buffer = Some buffer;
}

-- the message to the versioning tables, by the mode
abbrev pub live_letter : OpName → Operand → Entry → TokenState → TokenState → Mode → Message
live_letter o operand e place buffer Input = message.Use o e.latest
live_letter o operand e place buffer Inout = message.Open (over_opening o operand e place)
live_letter o operand e place buffer Output = message.Open (beside_opening o operand e place buffer)

-- by the object's entry
abbrev pub decode_letter : OpName → Operand → Option Entry → TokenState → TokenState → Message
decode_letter o operand None place buffer = message.Open (first_opening o operand place)
decode_letter o operand (Some e) place buffer = live_letter o operand e place buffer operand.mode

-- ---- what is taken

-- the token of a place
abbrev pub token_at : ℕ → ℕ → TokenState
token_at number place = record { number = number; place = place }

-- a name holds a place more, where it takes one
abbrev pub held_after : HeldState → OpName → ℕ → Bool → HeldState
held_after h o place takes = record h { places = places_after_decode h.places o place takes }

-- the message, where a free place and a free buffer are taken as it needs them
pub record IsOpened (places places_new buffers buffers_new : HeldState) (o : OpName) (operand : Operand)
    (entry : Option Entry) (sent : Message) : Type 0 where
  pub place : ℕ
  pub buffer : ℕ
  pub places_are : places_new ≡ held_after places o place (takes_place entry operand.mode)
  pub buffers_are : buffers_new ≡ held_after buffers o buffer (takes_buffer entry operand.mode)
  pub message : sent
      ≡ decode_letter o operand entry (token_at places.number place) (token_at buffers.number buffer)
  pub place_free : takes_place entry operand.mode ≡ true → IsFree places.places places.size place
  pub buffer_free : takes_buffer entry operand.mode ≡ true → IsFree buffers.places buffers.size buffer

-- the bank after a decode that takes this place and this buffer, as far as it takes one
abbrev pub state_after_decode : RenamingState → OpName → Operand → Option Entry → ℕ → ℕ → RenamingState
state_after_decode s o operand entry place buffer = record s {
  entries = insert s.entries operand.object.base (entry_after_decode o operand entry);
  places = places_after_decode s.places o place (takes_place entry operand.mode);
  buffers = buffers_after_decode s.buffers o buffer (takes_buffer entry operand.mode);
  line = remove s.line o;
}

-- the messages that it sends. The tokens have the numbers of the bank's pools
abbrev pub letters_by_decode : ℕ → OpName → Operand → Option Entry → ℕ → ℕ → List Message
letters_by_decode bank o operand entry place buffer =
    decode_letter o operand entry (token_at (2 * bank) place) (token_at (2 * bank + 1) buffer) ∷ message.Ack o ∷ []

-- a decode that is done: the place and the buffer that it takes, as far as it takes one, each held by no name before,
-- the bank after it, and the messages
pub record IsDecoded (old new : RenamingState) (o : OpName) (operand : Operand) (sent : List Message) : Type 0 where
  pub place : ℕ
  pub buffer : ℕ
  pub exact : new ≡ state_after_decode old o operand (get old.entries operand.object.base) place buffer
  pub messages : sent ≡ letters_by_decode old.bank o operand (get old.entries operand.object.base) place buffer
  pub fresh : takes_place (get old.entries operand.object.base) operand.mode ≡ true
      → IsFree old.places old.sizes.versions place
  pub fresh_buffer : takes_buffer (get old.entries operand.object.base) operand.mode ≡ true
      → IsFree old.buffers old.sizes.buffers buffer

-- the definitions' row of it, in this bank
abbrev pub decoded_in : RenamingState → OpName → Operand → Outcome Tables
decoded_in s o operand = decoded_by (tables_of s) o operand s.bank (get s.entries operand.object.base)
