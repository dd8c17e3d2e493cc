-- The storages of a task's operands by the places of their buffers, as workers find them, and what holds of them.
use Rattle.std.specs.Prelude.{◌≡◌, ℕ, ◌/◌, ◌%◌, ◌<◌, ◌≤◌, false, List, [], ◌∷◌, slice_get, Some, IsSome}
use Rattle.std.specs.FinMap.{get}
use Rattle.tss_base.specs.declared.bounds.TheConstants.{BANK_BYTES}
use Rattle.tss_base.specs.declared.operand.OpName.{OpName}
use Rattle.tss_base.specs.declared.operand.Operand.{Operand}
use Rattle.tss_base.specs.declared.operand.Storage.{Storage}
use Rattle.tss_base.specs.declared.operand.Storage.TheVariants as storage
use Rattle.tss_base.specs.declared.operand.Task.{Task}
use Rattle.tss_base.specs.Names.{Named}
use Rattle.tss_base.specs.Range.{meets}
use Rattle.tss_model.specs.Access.{operands_of}
use Rattle.tss_protocol.specs.Mail.{StorageName, Home, Buffer}
use Rattle.tss_protocol.specs.Workers.{Placed, placed_in}
use Rattle.tss_buffers.specs.Contents.{BuffersState, seat}

-- ---- storages by places

-- the bank of an object with this base
abbrev pub bank_in : ℕ → ℕ → ℕ
bank_in banks base = base / BANK_BYTES % banks

-- a storage by the place of its buffer, which stands for the buffer's name
abbrev pub seat_in : ℕ → Operand → Storage → StorageName
seat_in banks o storage.Home = Home
seat_in banks o (storage.Buffer p n) = Buffer (seat (bank_in banks o.object.base) p)

-- those of operands in turn
abbrev pub seats_in : ℕ → List Operand → List Storage → List StorageName
seats_in banks [] ss = []
seats_in banks (o ∷ os) [] = []
seats_in banks (o ∷ os) (s ∷ ss) = seat_in banks o s ∷ seats_in banks os ss

-- those of a task
abbrev pub seats_of : ℕ → Task → List Storage → List StorageName
seats_of banks t storages = seats_in banks (operands_of t) storages

-- its objects with them
abbrev pub placed_by : ℕ → Task → List Storage → List Placed
placed_by banks t storages = placed_in (operands_of t) (seats_of banks t storages)

-- ---- what holds of objects with their storages by places

-- no two objects share an address, and no two lie in one buffer
pub record AreApart (placed : List Placed) : Type 0 where
  pub objects : (i j : ℕ) (p q : Placed) → i < j → slice_get placed i ≡ Some p → slice_get placed j ≡ Some q
      → meets p.object q.object ≡ false
  pub buffers : (i j : ℕ) (p q : Placed) (n : OpName) → i < j → slice_get placed i ≡ Some p → slice_get placed j ≡ Some q
      → p.storage ≡ Buffer n → q.storage ≡ Buffer n → ⊥

-- a buffer is there, and an object in it is no longer than it
pub record FitsIn (b : BuffersState) (n : OpName) (len : ℕ) : Type 0 where
  pub bank : n.task < b.banks
  pub place : n.place < b.each
  pub long : len ≤ b.object_bytes

abbrev pub AreSeated : BuffersState → List Placed → Type 0
AreSeated b placed = (i : ℕ) (p : Placed) (n : OpName) → slice_get placed i ≡ Some p → p.storage ≡ Buffer n
    → FitsIn b n p.object.len

-- each of the buffers is set
abbrev pub AreSet : Named (List ℕ) → List Placed → Type 0
AreSet contents placed = (i : ℕ) (p : Placed) (n : OpName) → slice_get placed i ≡ Some p → p.storage ≡ Buffer n
    → IsSome (get contents n)
