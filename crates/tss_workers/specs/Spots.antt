-- The spots of a task's operands, and what holds of them while it runs. No public clause speaks of them.
use Rattle.std.specs.Prelude.{◌≡◌, ℕ, false, IsTrue, List, [], ◌∷◌, map, slice_get, IsSomeAnd, Some}
use Rattle.tss_base.specs.declared.operand.Operand.{Operand}
use Rattle.tss_base.specs.declared.operand.Storage.{Storage}
use Rattle.tss_base.specs.declared.operand.Storage.TheVariants as storage
use Rattle.tss_base.specs.declared.operand.Task.{Task}
use Rattle.tss_base.specs.declared.range.Range.{Range}
use Rattle.tss_base.specs.Range.{contains}
use Rattle.tss_base.specs.Image.{SegmentState}
use Rattle.tss_model.specs.Memory.{Memory, MemoryRange}
use Rattle.tss_model.specs.Access.{TaskActor, operands_of, reads, writes}
use Rattle.tss_steps.specs.Placing.{IsGround}
use Rattle.tss_steps.specs.Seen.{Terms}
use Rattle.tss_protocol.specs.Mail.{StorageName, Home, Buffer}
use Rattle.tss_protocol.specs.Workers.{Stores, Placed, worker_byte, worker_write}
use Rattle.tss_buffers.specs.Contents.{BuffersState, HasBuffer, seat}
use Rattle.tss_memory.specs.Ranges.{CanWrite}
use Rattle.tss_workers.specs.Seats.{bank_in, placed_by, seats_of, AreApart, AreSeated, AreSet}
use Rattle.tss_workers.specs.declared.spots.Seat.{Seat}
use Rattle.tss_workers.specs.declared.spots.Seat.TheVariants as seats
use Rattle.tss_workers.specs.declared.spots.Spot.{Spot}

-- home and the contents of the buffers
abbrev pub stores_of : Memory → BuffersState → Stores
stores_of home b = record { home = home; contents = b.contents }

-- ---- spots

-- that of an operand with a storage
abbrev pub found_in : ℕ → Range → Storage → Seat
found_in banks object storage.Home = seats.Home
found_in banks object (storage.Buffer p n) = seats.Buffer (bank_in banks object.base) p

abbrev pub spot_at : ℕ → Operand → Storage → Spot
spot_at banks o s = record { object = o.object; mode = o.mode; seat = found_in banks o.object s }

-- its operand
abbrev pub operand_at : Spot → Operand
operand_at s = record { object = s.object; mode = s.mode }

abbrev pub operands_at : List Spot → List Operand
operands_at spots = map operand_at spots

-- its object with the storage by places
abbrev pub storage_at : Seat → StorageName
storage_at seats.Home = Home
storage_at (seats.Buffer bank place) = Buffer (seat bank place)

abbrev pub placed_spot : Spot → Placed
placed_spot s = record { object = s.object; storage = storage_at s.seat }

abbrev pub placed_of : List Spot → List Placed
placed_of spots = map placed_spot spots

abbrev pub storages_at : List Spot → List StorageName
storages_at spots = map (λ (s : Spot). storage_at s.seat) spots

-- the spots of operands with storages
abbrev pub spots_in : ℕ → List Operand → List Storage → List Spot
spots_in banks [] ss = []
spots_in banks (o ∷ os) [] = []
spots_in banks (o ∷ os) (s ∷ ss) = spot_at banks o s ∷ spots_in banks os ss

-- spots are those of a task's operands
pub record AreSpotsOf (banks : ℕ) (t : Task) (storages : List Storage) (spots : List Spot) : Type 0 where
  pub operands : operands_at spots ≡ operands_of t
  pub seats : storages_at spots ≡ seats_of banks t storages
  pub placed : placed_of spots ≡ placed_by banks t storages

-- a range lies in none of the spots
abbrev pub LiesInNone : List Spot → Range → Type 0
LiesInNone spots r = (i : ℕ) (s : Spot) → slice_get spots i ≡ Some s → contains s.object r ≡ false

-- a range lies in the spot at a place
abbrev pub IsInSpot : List Spot → Range → ℕ → Type 0
IsInSpot spots r i = IsSomeAnd (slice_get spots i) (λ s. IsTrue (contains s.object r))

-- which the task writes
abbrev pub IsWritten : List Spot → ℕ → Type 0
IsWritten spots i = IsSomeAnd (slice_get spots i) (λ s. IsTrue (writes s.mode))

-- ---- a task that runs over them

pub record AreWorkable (ranges : List MemoryRange) (b : BuffersState) (spots : List Spot) : Type 0 where
  pub ground : IsGround ranges (operands_at spots)
  pub apart : AreApart (placed_of spots)
  pub seated : AreSeated b (placed_of spots)
  pub set : AreSet b.contents (placed_of spots)

-- how it sees and writes what lies beyond its scratch
abbrev pub spot_terms : List SegmentState → List MemoryRange → List Spot → Terms Stores
spot_terms code ranges spots = record {
  byte = worker_byte (placed_of spots);
  write = worker_write (placed_of spots);
  code = code;
  actor = TaskActor ranges (operands_at spots);
}

-- ---- a spot that is zeroed at the start, where its task doesn't read it

abbrev pub CanZeroAt : List MemoryRange → BuffersState → Range → Seat → Type 0
CanZeroAt ranges b object seats.Home = CanWrite ranges object.base object.len
CanZeroAt ranges b object (seats.Buffer bank place) = HasBuffer b bank place

abbrev pub CanZero : List MemoryRange → BuffersState → Spot → Type 0
CanZero ranges b s = reads s.mode ≡ false → CanZeroAt ranges b s.object s.seat
