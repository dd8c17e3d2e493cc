-- What a worker leaves of the bytes that others have, and what a copy brings home.
use Rattle.std.proofs.Common.{◌≡◌, ℕ, ◌+◌, ◌-◌, ◌<◌, ◌≤◌, inl, inr, true, false, Some, List, length, drop, refl, ap}
use Rattle.std.proofs.Common.{◌∙◌, arith, nat_le, nat_lt}
use Rattle.std.specs.Prelude.{slice_get, slice_index, min}
use Rattle.std.proofs.lemmas.Bool.{le-leb, lt-ltb, and_from, both_ways, cases_lt}
use Rattle.std.proofs.lemmas.List.{get_or-take, get_or-drop, length-take, length-drop}
use Rattle.tss_base.specs.declared.range.Range.{Range}
use Rattle.tss_base.specs.declared.operand.OpName.{OpName}
use Rattle.tss_base.specs.declared.operand.Operand.{Operand}
use Rattle.tss_base.specs.declared.machine.Limits.{Limits}
use Rattle.tss_base.specs.Image.{SegmentState}
use Rattle.tss_base.specs.Range.{end_of}
use Rattle.tss_model.specs.Memory.{Memory, covers, byte_at, zeros}
use Rattle.tss_model.specs.Access.{writes, operands_of}
use Rattle.tss_model.specs.Core.{Write}
use Rattle.tss_protocol.specs.Mail.{StorageName, Home, Buffer}
use Rattle.tss_protocol.specs.State.{Busy, CopyState}
use Rattle.tss_protocol.specs.Buffers.{piece_len, piece_of, home_after_copy}
use Rattle.tss_protocol.specs.Workers.{Stores as WorkerStores, placed_in, storage_byte, storage_write, storage_zeroed}
use Rattle.tss_protocol.specs.Workers.{outputs_zeroed, exec_stretch}
use Rattle.tss_program_order.proofs.StoreBytes.{AreSeparate, LiesIn, beside_write, unwritten_byte, written_byte}
use Rattle.tss_program_order.proofs.StoreBytes.{buffer_beside}
use Rattle.tss_program_order.proofs.StoreStart.{zeroed_beside}
use Rattle.tss_program_order.proofs.StoreViews.{AreUnseen, outputs_zeroed-unseen, exec_stretch-unseen}

-- ---- storages apart

-- an address of another object, in its own storage, isn't one of this object in this storage
pub record IsElsewhere (object : Range) (storage other : StorageName) (a : ℕ) : Type 0 where
  pub home : storage ≡ Home → other ≡ Home → covers object a ≡ false
  pub buffer : (n : OpName) → storage ≡ Buffer n → other ≡ Buffer n → ⊥

-- a write of the object leaves it
storage_write-elsewhere : (s : WorkerStores) (object : Range) (w : Write) → LiesIn object w
    → (storage other : StorageName) (next : Range) (a : ℕ) → IsElsewhere object storage other a
    → storage_byte (storage_write s object storage w) next other a ≡ storage_byte s next other a
storage_write-elsewhere s object w lies Home Home next a apart =
    unwritten_byte s.home w a (beside_write object w a lies (apart.home refl refl))
storage_write-elsewhere s object w lies Home (Buffer k) next a apart = refl
storage_write-elsewhere s object w lies (Buffer n) Home next a apart = refl
storage_write-elsewhere s object w lies (Buffer n) (Buffer k) next a apart =
    ap (λ (xs : List ℕ). slice_index xs (a - next.base))
    (buffer_beside s.contents n k _ (λ same. apart.buffer n refl (ap Buffer same)))

-- and so do its zeros
zeroed_elsewhere : (limits : Limits) (s : WorkerStores) (object : Range) (storage other : StorageName) (next : Range)
    (a : ℕ) → IsElsewhere object storage other a
    → storage_byte (storage_zeroed limits s object storage) next other a ≡ storage_byte s next other a
zeroed_elsewhere limits s object Home Home next a apart = zeroed_beside s.home object a (apart.home refl refl)
zeroed_elsewhere limits s object Home (Buffer k) next a apart = refl
zeroed_elsewhere limits s object (Buffer n) Home next a apart = refl
zeroed_elsewhere limits s object (Buffer n) (Buffer k) next a apart =
    ap (λ (xs : List ℕ). slice_index xs (a - next.base))
    (buffer_beside s.contents n k (zeros limits.object_bytes) (λ same. apart.buffer n refl (ap Buffer same)))

-- an address is elsewhere for each operand that is written, by its place
abbrev pub IsBeside : List Operand → List StorageName → StorageName → ℕ → Type 0
IsBeside operands storages other a =
    (k : ℕ) (o : Operand) (storage : StorageName)
    → slice_get operands k ≡ Some o
    → slice_get storages k ≡ Some storage
    → writes o.mode ≡ true
    → IsElsewhere o.object storage other a

-- ---- a worker

-- none of them is seen there
unseen_beside : (limits : Limits) (next : Range) (other : StorageName) (a : ℕ) (operands : List Operand)
    (storages : List StorageName) → IsBeside operands storages other a
    → AreUnseen limits (λ (s : WorkerStores). storage_byte s next other a) operands storages
unseen_beside limits next other a operands storages beside k o storage at told writer = record {
  written = λ s w lies.
      storage_write-elsewhere s o.object w lies storage other next a (beside k o storage at told writer);
  zeroed = λ s. zeroed_elsewhere limits s o.object storage other next a (beside k o storage at told writer);
}

-- a stretch of a busy worker leaves each byte in a storage beside those that its task writes
pub exec_stretch-left : (code : List SegmentState) (limits : Limits) (quantum : ℕ) (b : Busy) (s : WorkerStores)
    (next : Range) (other : StorageName) (a : ℕ) → AreSeparate (placed_in (operands_of b.task) b.storages)
    → length b.storages ≡ length (operands_of b.task) → IsBeside (operands_of b.task) b.storages other a
    → storage_byte (exec_stretch code limits quantum b s).memory next other a ≡ storage_byte s next other a
exec_stretch-left code limits quantum b s next other a separate count beside =
    exec_stretch-unseen limits (λ (s : WorkerStores). storage_byte s next other a) code quantum b s separate count
    (unseen_beside limits next other a (operands_of b.task) b.storages beside)

-- zeros at its outputs leave such bytes too
pub outputs_zeroed-left : (limits : Limits) (s : WorkerStores) (operands : List Operand) (storages : List StorageName)
    (next : Range) (other : StorageName) (a : ℕ) → IsBeside operands storages other a
    → storage_byte (outputs_zeroed limits s operands storages) next other a ≡ storage_byte s next other a
outputs_zeroed-left limits s operands storages next other a beside =
    outputs_zeroed-unseen limits (λ (s : WorkerStores). storage_byte s next other a) s operands storages
    (unseen_beside limits next other a operands storages beside)

-- ---- copies

-- a piece is as long as its length, or as what is left of the bytes
pub length-piece : (c : CopyState) (bytes : List ℕ)
    → length (piece_of c bytes) ≡ min (piece_len c) (length bytes - c.moved)
length-piece c bytes =
    length-take (piece_len c) (drop c.moved bytes) ∙ ap (min (piece_len c)) (length-drop c.moved bytes)

-- the write of a piece
abbrev piece_write : CopyState → List ℕ → Write
piece_write c bytes = record { at = c.object.base + c.moved; bytes = piece_of c bytes }

-- a copy leaves what lies beside its object
pub copy-beside : (home : Memory) (c : CopyState) (bytes : List ℕ) (a : ℕ) → c.moved ≤ c.object.len
    → covers c.object a ≡ false → byte_at (home_after_copy home c bytes) a ≡ byte_at home a
copy-beside home c bytes a moved out =
    unwritten_byte home (piece_write c bytes) a (λ low high.
    let count = length-piece c bytes in
    both_ways (covers c.object a) out
    (and_from (nat_le c.object.base a) (nat_lt a (end_of c.object))
    (le-leb c.object.base a (omega (arith, low)))
    (lt-ltb a (end_of c.object) (omega (arith, low, high, count, moved)))))

-- and brings home the next bytes behind those that it has moved
pub copy-moved : (home : Memory) (c : CopyState) (bytes : List ℕ) → c.object.len ≤ length bytes
    → ((k : ℕ) → k < c.moved → byte_at home (c.object.base + k) ≡ slice_index bytes k)
    → (k : ℕ) → k < c.moved + piece_len c
    → byte_at (home_after_copy home c bytes) (c.object.base + k) ≡ slice_index bytes k
copy-moved home c bytes room before k small = elim (cases_lt k c.moved) [
  | inl old ↦
      unwritten_byte home (piece_write c bytes) (c.object.base + k) (λ low high. absurd (omega (arith, low, old)))
      ∙ before k old
  | inr new ↦
      let count = length-piece c bytes in
      let back : (c.object.base + k) - (c.object.base + c.moved) ≡ k - c.moved = omega arith in
      let there : c.moved + (k - c.moved) ≡ k = omega arith in
      written_byte home (piece_write c bytes) (c.object.base + k) (omega (arith, new))
      (omega (arith, new, small, count, room))
      ∙ ap (slice_index (piece_of c bytes)) back
      ∙ get_or-take (piece_len c) (drop c.moved bytes) (k - c.moved) 0 (omega (arith, new, small))
      ∙ get_or-drop c.moved bytes (k - c.moved) 0
      ∙ ap (slice_index bytes) there
]
