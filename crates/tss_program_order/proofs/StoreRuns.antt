-- A worker's stretch over the storages of its operands goes as the task's on the flat memory, as long as each operand's
-- bytes in its storage are those of its object.
use Rattle.std.proofs.Common.{◌≡◌, ◌⊎◌, ℕ, suc, ◌+◌, ◌-◌, ◌<◌, ◌≤◌, inl, inr, true, false, Option, Some, None, List, []}
use Rattle.std.proofs.Common.{◌∷◌, length, take, refl, sym, ap, subst, ◌∙◌, arith, nat_le, nat_lt}
use Rattle.std.specs.Prelude.{slice_get, slice_index, ◌&&◌}
use Rattle.std.specs.List.{list_any}
use Rattle.std.proofs.lemmas.Bool.{and_parts, and_from, le-leb, lt-ltb, or_cases, both_ways, cases_Bool}
use Rattle.std.proofs.lemmas.List.{same_lists, get_or_default, length-take-le, get_or-take}
use Rattle.std.proofs.lemmas.List.FromFn.{length-map-range_with_len, get_or-map-range_with_len}
use Rattle.std.proofs.lemmas.Option.{same_Some}
use Rattle.tss_base.specs.declared.range.Range.{Range}
use Rattle.tss_base.specs.declared.operand.OpName.{OpName}
use Rattle.tss_base.specs.declared.operand.Operand.{Operand}
use Rattle.tss_base.specs.declared.machine.Limits.{Limits}
use Rattle.tss_base.specs.Image.{SegmentState}
use Rattle.tss_base.specs.Range.{Covers, contains, end_of}
use Rattle.tss_maps.proofs.Places.{find_there}
use Rattle.tss_model.specs.Memory.{MemoryRange, Memory, range_of, covers, scratch_range, byte_at, bytes_of}
use Rattle.tss_model.specs.Access.{TaskActor, Loads, Granted, writes, operands_of, task_access}
use Rattle.tss_model.specs.Core.{Write}
use Rattle.tss_model.specs.TaskRun.{TaskState, task_stretch, memory_write}
use Rattle.tss_protocol.specs.Mail.{StorageName, Home, Buffer}
use Rattle.tss_protocol.specs.State.{Busy}
use Rattle.tss_protocol.specs.Buffers.{buffer_bytes}
use Rattle.tss_protocol.specs.Workers.{Stores, Placed, placed_in, placed_at, storage_byte, byte_in, worker_byte}
use Rattle.tss_protocol.specs.Workers.{worker_write, storage_write, stored_bytes, exec_stretch, task_state_of}
use Rattle.tss_program_order.proofs.FlatLoads.{same_bytes}
use Rattle.tss_program_order.proofs.FlatTask.{MayWrite, covers_inside}
use Rattle.tss_program_order.proofs.FlatTaskAlike.{RunAlike, task_stretch-alike}
use Rattle.tss_program_order.proofs.FlatTaskRuns.{task_loads}
use Rattle.tss_program_order.proofs.StoreBytes.{unwritten_byte, beside_write, IsPlaced, AreSeparate, HaveRoom, LiesIn}
use Rattle.tss_program_order.proofs.StoreBytes.{worker_byte-there, worker_write-there, storage_write-at}
use Rattle.tss_program_order.proofs.StoreBytes.{storage_write-home, storage_write-other, storage_write-room}

-- ---- the relation

-- the addresses that a task may load beyond its scratch: in its objects, and in memory that can't be written
abbrev pub InScope : List MemoryRange → List Operand → ℕ → Type 0
InScope ranges operands a =
    (list_any (λ o. covers o.object a) operands ≡ true)
    ⊎ ((q : Range) × (range_of ranges q ≡ Some false) × Covers q a)

-- a worker reads at these addresses what stands in the memory, and its buffers are long enough
pub record SameBytes (placed : List Placed) (P : ℕ → Type 0) (s : Stores) (m : Memory) : Type 0 where
  pub room : HaveRoom placed s
  pub bytes : (a : ℕ) → P a → worker_byte placed s a ≡ byte_at m a

-- each object of an operand that is written has a place
abbrev HasPlaces : List Operand → List Placed → Type 0
HasPlaces operands placed =
    (r : Range)
    → list_any (λ o. writes o.mode && contains o.object r) operands ≡ true
    → (k : ℕ) × (p : Placed) × IsPlaced placed k p × (contains p.object r ≡ true)

-- so it is where each operand has a storage
placed_in-places : (operands : List Operand) (storages : List StorageName) → length storages ≡ length operands
    → HasPlaces operands (placed_in operands storages)
placed_in-places [] storages e r stored = absurd (cc)
placed_in-places (o ∷ operands) [] e r stored = absurd (omega (arith, e))
placed_in-places (o ∷ operands) (s ∷ storages) e r stored =
    elim (or_cases (writes o.mode && contains o.object r)
    (list_any (λ o. writes o.mode && contains o.object r) operands) stored) [
      | inl here ↦
          (0, record { object = o.object; storage = s }, refl, (and_parts (writes o.mode) (contains o.object r) here).1)
      | inr later ↦
          let rest = placed_in-places operands storages (omega (arith, e)) r later in
          (suc rest.0, rest.1, rest.2, rest.3)
    ]

-- ---- one write

module _ (placed : List Placed) (separate : AreSeparate placed) (P : ℕ → Type 0) (s : Stores) (m : Memory)
    (same : SameBytes placed P s m) (k : ℕ) (p : Placed) (there : IsPlaced placed k p) (w : Write)
    (lies : LiesIn p.object w) where
  -- an address beside the object reads as before
  written_beside : (a : ℕ) → covers p.object a ≡ false → (o : Option Placed) → placed_at placed a ≡ o
      → byte_in (storage_write s p.object p.storage w) o a ≡ byte_in s o a
  written_beside a out None e = storage_write-home s p.object w lies p.storage a out
  written_beside a out (Some q) e =
      let first = find_there (λ q. covers q.object a) placed q e in
      storage_write-other s p.object w lies p.storage q.storage q.object a
      (λ n mine its.
      let one = separate.buffers k first.0 p q n there first.1 mine its in
      let equal = same_Some p q (sym there ∙ ap (slice_get placed) one ∙ first.1) in
      both_ways (covers p.object a) out (ap (λ (x : Placed). covers x.object a) equal ∙ first.2)) out

  written_bytes : (a : ℕ) → P a
      → worker_byte placed (storage_write s p.object p.storage w) a ≡ byte_at (memory_write m w) a
  written_bytes a scope = elim (cases_Bool (covers p.object a)) [
    | inl inside ↦
        worker_byte-there placed separate k p there (storage_write s p.object p.storage w) a inside
        ∙ storage_write-at s p.object w lies p.storage (λ n e. same.room k p n there e) m a inside
        (sym (worker_byte-there placed separate k p there s a inside) ∙ same.bytes a scope)
    | inr out ↦
        written_beside a out (placed_at placed a) refl
        ∙ same.bytes a scope
        ∙ sym (unwritten_byte m w a (beside_write p.object w a lies out))
  ]

  -- a write of the operand keeps the relation
  written_same : SameBytes placed P (worker_write placed s w) (memory_write m w)
  written_same =
      let first = covers_inside p.object (record { base = w.at; len = length w.bytes }) w.at lies.1
      (omega arith, omega (arith, lies.0)) in
      subst (λ (x : Stores). SameBytes placed P x (memory_write m w))
      (sym (worker_write-there placed separate k p there s w first))
      (record {
        room = λ j q n at e.
            subst (λ (len : ℕ). q.object.len ≤ len) (sym (storage_write-room s p.object w lies p.storage n))
            (same.room j q n at e);
        bytes = written_bytes;
      })

-- ---- stretches

-- the task as a worker runs it beside the task on the flat memory
abbrev pub WorksAlike : List Placed → List MemoryRange → List Operand → TaskState Stores → TaskState Memory → Type 0
WorksAlike placed ranges operands s u = RunAlike (SameBytes placed (InScope ranges operands)) s u

module _ (placed : List Placed) (ranges : List MemoryRange) (operands : List Operand) (separate : AreSeparate placed)
    (places : HasPlaces operands placed) where
  scope_loaded : (q : Range) (a : ℕ) → task_access ranges operands Loads q ≡ Granted → Covers q a
      → covers scratch_range a ≡ false → InScope ranges operands a
  scope_loaded q a granted covered outside =
      elim (task_loads ranges operands q a granted covered outside) [
        | inl owned ↦ inl owned
        | inr fixed ↦ inr (q, fixed, covered)
      ]

  kept_written : (s : Stores) (m : Memory) → SameBytes placed (InScope ranges operands) s m → (w : Write)
      → MayWrite operands w
      → SameBytes placed (InScope ranges operands) (worker_write placed s w) (memory_write m w)
  kept_written s m same w may =
      let place = places (record { base = w.at; len = length w.bytes }) may.1 in
      written_same placed separate (InScope ranges operands) s m same place.0 place.1 place.2 w (may.0, place.3)

  -- a stretch of both
  worker_stretch-alike : (budget : ℕ) (code : List SegmentState) (n : ℕ) (s : TaskState Stores)
      (u : TaskState Memory) → WorksAlike placed ranges operands s u
      → WorksAlike placed ranges operands
      (task_stretch (worker_byte placed) (worker_write placed) budget code (TaskActor ranges operands) n s)
      (task_stretch byte_at memory_write budget code (TaskActor ranges operands) n u)
  worker_stretch-alike budget code n s u alike =
      task_stretch-alike (worker_byte placed) (worker_write placed) byte_at memory_write ranges operands
      (SameBytes placed (InScope ranges operands))
      (λ x y same q a granted covered outside. same.bytes a (scope_loaded q a granted covered outside))
      kept_written budget code n s u alike

-- a stretch of a busy worker, beside as many steps of its task
pub exec_stretch-alike : (code : List SegmentState) (limits : Limits) (quantum : ℕ) (b : Busy) (s : Stores)
    (u : TaskState Memory) → AreSeparate (placed_in (operands_of b.task) b.storages)
    → length b.storages ≡ length (operands_of b.task)
    → WorksAlike (placed_in (operands_of b.task) b.storages) s.home.ranges (operands_of b.task) (task_state_of b s) u
    → WorksAlike (placed_in (operands_of b.task) b.storages) s.home.ranges (operands_of b.task)
    (exec_stretch code limits quantum b s)
    (task_stretch byte_at memory_write limits.task_budget code (TaskActor s.home.ranges (operands_of b.task)) quantum u)
exec_stretch-alike code limits quantum b s u separate count alike =
    worker_stretch-alike (placed_in (operands_of b.task) b.storages) s.home.ranges (operands_of b.task) separate
    (placed_in-places (operands_of b.task) b.storages count) limits.task_budget code quantum (task_state_of b s) u alike

-- ---- the bytes of an operand

-- the bytes of an object in its storage, where that shows each of them
pub stored_by : (s : Stores) (m : Memory) (object : Range) (storage : StorageName)
    → ((n : OpName) → storage ≡ Buffer n → object.len ≤ length (buffer_bytes s.contents n))
    → ((a : ℕ) → object.base ≤ a → a < object.base + object.len → storage_byte s object storage a ≡ byte_at m a)
    → stored_bytes s object storage ≡ bytes_of m object
stored_by s m object Home room each = same_bytes (byte_at s.home) (byte_at m) object.base object.len each
stored_by s m object (Buffer n) room each =
    let bytes = buffer_bytes s.contents n in
    let count = length-take-le object.len bytes (room n refl) in
    same_lists (take object.len bytes) (bytes_of m object)
    (count ∙ sym (length-map-range_with_len (byte_at m) object.base object.len))
    (λ k d h.
    let small : k < object.len = omega (arith, h, count) in
    let back : k ≡ (object.base + k) - object.base = omega arith in
    get_or_default (take object.len bytes) k d 0 h
    ∙ get_or-take object.len bytes k 0 small
    ∙ ap (slice_index bytes) back
    ∙ each (object.base + k) (omega arith) (omega (arith, small))
    ∙ sym (get_or-map-range_with_len (byte_at m) object.base object.len k (object.base + k) d small refl))

-- the bytes of an object in its storage are those of the memory
pub stored_bytes-same : (placed : List Placed) (P : ℕ → Type 0) (s : Stores) (m : Memory) → AreSeparate placed
    → SameBytes placed P s m → (k : ℕ) (p : Placed) → IsPlaced placed k p
    → ((a : ℕ) → covers p.object a ≡ true → P a) → stored_bytes s p.object p.storage ≡ bytes_of m p.object
stored_bytes-same placed P s m separate same k p there scope =
    stored_by s m p.object p.storage (λ n e. same.room k p n there e)
    (λ a low high.
    let inside = and_from (nat_le p.object.base a) (nat_lt a (end_of p.object)) (le-leb p.object.base a low)
    (lt-ltb a (end_of p.object) high) in
    sym (worker_byte-there placed separate k p there s a inside) ∙ same.bytes a (scope a inside))
