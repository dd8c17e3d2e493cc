-- The storages of a worker's operands at its start: outputs are zeros there as on the flat memory.
use Rattle.std.proofs.Common.{◌≡◌, ◌⊎◌, ℕ, zero, suc, ◌+◌, ◌-◌, ◌≤◌, inl, inr, Bool, true, false, Option, Some, None}
use Rattle.std.proofs.Common.{List, [], ◌∷◌, length, refl, sym, ap, subst, ◌∙◌, arith, nat_le, nat_lt}
use Rattle.std.specs.Prelude.{cond, slice_get, slice_index, replicate, not, ◌&&◌, ◌||◌}
use Rattle.std.specs.FinMap.{insert}
use Rattle.std.proofs.lemmas.Bool.{or_cases, both_ways, cases_Bool, and_from, le-leb, lt-ltb}
use Rattle.std.proofs.lemmas.List.{length-replicate}
use Rattle.std.proofs.lemmas.Option.{none-some, same_Some}
use Rattle.tss_base.specs.declared.range.Range.{Range}
use Rattle.tss_base.specs.declared.operand.OpName.{OpName}
use Rattle.tss_base.specs.declared.operand.Operand.{Operand}
use Rattle.tss_base.specs.declared.machine.Limits.{Limits}
use Rattle.tss_base.specs.declared.operand.Task.{Task}
use Rattle.tss_base.specs.Range.{end_of, Covers}
use Rattle.tss_maps.proofs.Keys.{name_order, decide_key}
use Rattle.tss_maps.proofs.Places.{find_there}
use Rattle.tss_model.specs.Memory.{MemoryRange, Memory, range_of, covers, byte_at, zeros, zeroed}
use Rattle.tss_model.specs.Access.{reads, operands_of}
use Rattle.tss_model.specs.TaskRun.{zeroed_outputs, task_start}
use Rattle.tss_protocol.specs.Mail.{StorageName, Home, Buffer}
use Rattle.tss_protocol.specs.Buffers.{buffer_bytes}
use Rattle.tss_protocol.specs.Workers.{Stores, Placed, placed_in, placed_at, storage_byte, byte_in, worker_byte}
use Rattle.tss_protocol.specs.Workers.{storage_zeroed, output_zeroed, outputs_zeroed, busy_with, task_state_of}
use Rattle.tss_program_order.proofs.FlatTaskRuns.{is_read, is_zeroed, read_or_zeroed}
use Rattle.tss_program_order.proofs.StoreRuns.{InScope, WorksAlike}
use Rattle.tss_program_order.proofs.StoreBytes.{IsPlaced, AreSeparate, covers_parts, worker_byte-there, written_byte}
use Rattle.tss_program_order.proofs.StoreBytes.{unwritten_byte, buffer_put, buffer_beside}

-- ---- zeros

replicated_zero : (n k : ℕ) → slice_index (replicate n 0) k ≡ 0
replicated_zero zero k = refl
replicated_zero (suc n) zero = refl
replicated_zero (suc n) (suc k) = replicated_zero n k

zero_at : (n k : ℕ) → slice_index (zeros n) k ≡ 0
unfolding zeros
zero_at n k = replicated_zero n k

-- as many zeros as were asked for
pub length-zeros : (n : ℕ) → length (zeros n) ≡ n
unfolding zeros
length-zeros n = length-replicate {A = ℕ} n 0

zeroed_byte : (m : Memory) (r : Range) (a : ℕ) → covers r a ≡ true → byte_at (zeroed m r) a ≡ 0
zeroed_byte m r a inside =
    let at = covers_parts r a inside in
    written_byte m (record { at = r.base; bytes = zeros r.len }) a at.0 (omega (arith, at.1, length-zeros r.len))
    ∙ zero_at r.len (a - r.base)

-- zeros leave what lies beside them
pub zeroed_beside : (m : Memory) (r : Range) (a : ℕ) → covers r a ≡ false → byte_at (zeroed m r) a ≡ byte_at m a
zeroed_beside m r a out =
    unwritten_byte m (record { at = r.base; bytes = zeros r.len }) a (λ low high.
    both_ways (covers r a) out (and_from (nat_le r.base a) (nat_lt a (end_of r)) (le-leb r.base a low)
    (lt-ltb a (end_of r) (omega (arith, high, length-zeros r.len)))))

-- ---- one output

module _ (limits : Limits) (s : Stores) (object : Range) where
  zeroed_at : (storage : StorageName) (a : ℕ) → covers object a ≡ true
      → storage_byte (storage_zeroed limits s object storage) object storage a ≡ 0
  zeroed_at Home a inside = zeroed_byte s.home object a inside
  zeroed_at (Buffer n) a inside =
      ap (λ (xs : List ℕ). slice_index xs (a - object.base)) (buffer_put s.contents n (zeros limits.object_bytes))
      ∙ zero_at limits.object_bytes (a - object.base)

  zeroed_home : (storage : StorageName) (a : ℕ) → covers object a ≡ false
      → byte_at (storage_zeroed limits s object storage).home a ≡ byte_at s.home a
  zeroed_home Home a out = zeroed_beside s.home object a out
  zeroed_home (Buffer n) a out = refl

  zeroed_other : (storage other : StorageName) (next : Range) (a : ℕ)
      → ((n : OpName) → storage ≡ Buffer n → other ≡ Buffer n → ⊥) → covers object a ≡ false
      → storage_byte (storage_zeroed limits s object storage) next other a ≡ storage_byte s next other a
  zeroed_other storage Home next a apart out = zeroed_home storage a out
  zeroed_other Home (Buffer k) next a apart out = refl
  zeroed_other (Buffer n) (Buffer k) next a apart out =
      ap (λ (xs : List ℕ). slice_index xs (a - next.base))
      (buffer_beside s.contents n k (zeros limits.object_bytes) (λ same. apart n refl (ap Buffer same)))

  -- no buffer becomes shorter than an object may be
  zeroed_room : (storage : StorageName) (k : OpName) (len : ℕ) → len ≤ limits.object_bytes
      → len ≤ length (buffer_bytes s.contents k)
      → len ≤ length (buffer_bytes (storage_zeroed limits s object storage).contents k)
  zeroed_room Home k len short room = room
  zeroed_room (Buffer n) k len short room = elim (decide_key name_order k n) [
    | inl same ↦
        let count = ap (λ (x : OpName). length (buffer_bytes (insert s.contents n (zeros limits.object_bytes)) x)) same
        ∙ ap length (buffer_put s.contents n (zeros limits.object_bytes)) ∙ length-zeros limits.object_bytes in
        omega (arith, count, short)
    | inr apart ↦
        let count = ap length (buffer_beside s.contents n k (zeros limits.object_bytes) apart) in
        omega (arith, count, room)
  ]

  -- and its own has just that room
  zeroed_own : (n : OpName) (len : ℕ) → len ≤ limits.object_bytes
      → len ≤ length (buffer_bytes (storage_zeroed limits s object (Buffer n)).contents n)
  zeroed_own n len short =
      let count = ap length (buffer_put s.contents n (zeros limits.object_bytes)) ∙ length-zeros limits.object_bytes in
      omega (arith, count, short)

module _ (placed : List Placed) (separate : AreSeparate placed) (limits : Limits) (k : ℕ) (p : Placed)
    (there : IsPlaced placed k p) (s : Stores) where
  zeroed_there : (a : ℕ) → covers p.object a ≡ true
      → worker_byte placed (storage_zeroed limits s p.object p.storage) a ≡ 0
  zeroed_there a inside =
      worker_byte-there placed separate k p there (storage_zeroed limits s p.object p.storage) a inside
      ∙ zeroed_at limits s p.object p.storage a inside

  zeroed_apart : (a : ℕ) → covers p.object a ≡ false → (o : Option Placed) → placed_at placed a ≡ o
      → byte_in (storage_zeroed limits s p.object p.storage) o a ≡ byte_in s o a
  zeroed_apart a out None e = zeroed_home limits s p.object p.storage a out
  zeroed_apart a out (Some q) e =
      let first = find_there (λ q. covers q.object a) placed q e in
      zeroed_other limits s p.object p.storage q.storage q.object a
      (λ n mine its.
      let one = separate.buffers k first.0 p q n there first.1 mine its in
      let equal = same_Some p q (sym there ∙ ap (slice_get placed) one ∙ first.1) in
      both_ways (covers p.object a) out (ap (λ (x : Placed). covers x.object a) equal ∙ first.2)) out

-- ---- all outputs

module _ (placed : List Placed) (separate : AreSeparate placed) (limits : Limits) (s : Stores) (m : Memory) where
  -- the list stands in the whole from a place on
  abbrev StandsAt : ℕ → List Placed → Type 0
  StandsAt d ps = (j : ℕ) (p : Placed) → slice_get ps j ≡ Some p → IsPlaced placed (d + j) p

  stands_here : (d : ℕ) (p : Placed) (ps : List Placed) → StandsAt d (p ∷ ps) → IsPlaced placed d p
  stands_here d p ps stands =
      let same : d ≡ d + 0 = omega arith in
      ap (slice_get placed) same ∙ stands 0 p refl

  stands_later : (d : ℕ) (p : Placed) (ps : List Placed) → StandsAt d (p ∷ ps) → StandsAt (suc d) ps
  stands_later d p ps stands j q e =
      let same : suc d + j ≡ d + suc j = omega arith in
      ap (slice_get placed) same ∙ stands (suc j) q e

  -- one operand more, where b says whether it is read and z whether one of the others becomes zeros at the address
  one_started : (d : ℕ) (p : Placed) → IsPlaced placed d p → (b z : Bool) (x : Stores) (y : Memory) (a : ℕ)
      → (P : Type 0) → (P ⊎ (z ≡ true) → worker_byte placed x a ≡ byte_at y a)
      → P ⊎ (((not b && covers p.object a) || z) ≡ true)
      → worker_byte placed (cond b x (storage_zeroed limits x p.object p.storage)) a
      ≡ byte_at (cond b y (zeroed y p.object)) a
  one_started d p there true z x y a P rest agree = rest agree
  one_started d p there false z x y a P rest agree = elim (cases_Bool (covers p.object a)) [
    | inl inside ↦ zeroed_there placed separate limits d p there x a inside ∙ sym (zeroed_byte y p.object a inside)
    | inr out ↦
        zeroed_apart placed separate limits d p there x a out (placed_at placed a) refl
        ∙ rest (later agree out)
        ∙ sym (zeroed_beside y p.object a out)
  ]
    where
      later : P ⊎ ((covers p.object a || z) ≡ true) → covers p.object a ≡ false → P ⊎ (z ≡ true)
      later (inl q) out = inl q
      later (inr h) out = elim (or_cases (covers p.object a) z h) [
        | inl inside ↦ absurd (both_ways (covers p.object a) out inside)
        | inr rest ↦ inr rest
      ]

  outputs_agree : (os : List Operand) (ss : List StorageName) (d : ℕ) → length ss ≡ length os
      → StandsAt d (placed_in os ss) → (a : ℕ)
      → (worker_byte placed s a ≡ byte_at m a) ⊎ (is_zeroed os a ≡ true)
      → worker_byte placed (outputs_zeroed limits s os ss) a ≡ byte_at (zeroed_outputs m os) a
  outputs_agree [] ss d count stands a (inl same) = same
  outputs_agree [] ss d count stands a (inr none) = absurd (cc)
  outputs_agree (o ∷ os) [] d count stands a agree = absurd (omega (arith, count))
  outputs_agree (o ∷ os) (storage ∷ ss) d count stands a agree =
      one_started d (record { object = o.object; storage = storage })
      (stands_here d (record { object = o.object; storage = storage }) (placed_in os ss) stands) (reads o.mode)
      (is_zeroed os a) (outputs_zeroed limits s os ss) (zeroed_outputs m os) a (worker_byte placed s a ≡ byte_at m a)
      (outputs_agree os ss (suc d) (omega (arith, count))
      (stands_later d (record { object = o.object; storage = storage }) (placed_in os ss) stands) a)
      agree

  -- ---- room

  -- a buffer is long enough for the object at a place, before the start where the operand is read
  abbrev RoomAt : Stores → List Operand → List StorageName → Type 0
  RoomAt x os ss =
      (j : ℕ) (o : Operand) (n : OpName)
      → slice_get os j ≡ Some o
      → slice_get ss j ≡ Some (Buffer n)
      → o.object.len ≤ length (buffer_bytes x.contents n)

  -- one operand more keeps the room of the others
  room_more : (b : Bool) (x : Stores) (object : Range) (storage : StorageName) (k : OpName) (len : ℕ)
      → len ≤ limits.object_bytes → len ≤ length (buffer_bytes x.contents k)
      → len ≤ length (buffer_bytes (cond b x (storage_zeroed limits x object storage)).contents k)
  room_more true x object storage k len short room = room
  room_more false x object storage k len short room = zeroed_room limits x object storage k len short room

  -- and has room of its own
  room_own : (b : Bool) (x : Stores) (object : Range) (n : OpName) (len : ℕ) → len ≤ limits.object_bytes
      → (b ≡ true → len ≤ length (buffer_bytes x.contents n))
      → len ≤ length (buffer_bytes (cond b x (storage_zeroed limits x object (Buffer n))).contents n)
  room_own true x object n len short room = room refl
  room_own false x object n len short room = zeroed_own limits x object n len short

  -- room that a buffer has stays
  pub room_stays : (os : List Operand) (ss : List StorageName) (k : OpName) (len : ℕ) → len ≤ limits.object_bytes
      → len ≤ length (buffer_bytes s.contents k)
      → len ≤ length (buffer_bytes (outputs_zeroed limits s os ss).contents k)
  room_stays [] ss k len short room = room
  room_stays (o ∷ os) [] k len short room = room
  room_stays (o ∷ os) (storage ∷ ss) k len short room =
      room_more (reads o.mode) (outputs_zeroed limits s os ss) o.object storage k len short
      (room_stays os ss k len short room)

  outputs_room : (os : List Operand) (ss : List StorageName)
      → ((j : ℕ) (o : Operand) → slice_get os j ≡ Some o → o.object.len ≤ limits.object_bytes)
      → ((j : ℕ) (o : Operand) (n : OpName) → slice_get os j ≡ Some o → slice_get ss j ≡ Some (Buffer n)
      → reads o.mode ≡ true → o.object.len ≤ length (buffer_bytes s.contents n))
      → RoomAt (outputs_zeroed limits s os ss) os ss
  outputs_room [] ss short room j o n at storage = absurd (none-some o at)
  outputs_room (x ∷ os) [] short room j o n at storage = absurd (none-some (Buffer n) storage)
  outputs_room (x ∷ os) (storage ∷ ss) short room zero o n at is =
      let object = same_Some x o at in
      let buffer = same_Some storage (Buffer n) is in
      subst (λ (y : StorageName). o.object.len
      ≤ length (buffer_bytes (output_zeroed limits (outputs_zeroed limits s os ss) x y).contents n)) (sym buffer)
      (room_own (reads x.mode) (outputs_zeroed limits s os ss) x.object n o.object.len (short 0 o at)
      (λ read. room_stays os ss n o.object.len (short 0 o at)
      (room 0 o n at is (ap (λ (y : Operand). reads y.mode) (sym object) ∙ read))))
  outputs_room (x ∷ os) (storage ∷ ss) short room (suc j) o n at is =
      room_more (reads x.mode) (outputs_zeroed limits s os ss) x.object storage n o.object.len (short (suc j) o at)
      (outputs_room os ss (λ i q e. short (suc i) q e) (λ i q k e d r. room (suc i) q k e d r) j o n at is)

-- ---- the start

-- an operand with its storage
pub placed_in-parts : (os : List Operand) (ss : List StorageName) (k : ℕ) (p : Placed) → IsPlaced (placed_in os ss) k p
    → (o : Operand) × (slice_get os k ≡ Some o) × (slice_get ss k ≡ Some p.storage) × (o.object ≡ p.object)
placed_in-parts [] ss k p e = absurd (none-some p e)
placed_in-parts (o ∷ os) [] k p e = absurd (none-some p e)
placed_in-parts (o ∷ os) (s ∷ ss) zero p e =
    let same = same_Some (record { object = o.object; storage = s }) p e in
    (o, refl, ap (λ (x : Placed). Some x.storage) same, ap (λ (x : Placed). x.object) same)
placed_in-parts (o ∷ os) (s ∷ ss) (suc k) p e = placed_in-parts os ss k p e

-- what a worker finds before its start: the value of each operand that the task reads, in a storage with room for it,
-- and memory that can't be written
pub record FindsOperands (limits : Limits) (ranges : List MemoryRange) (operands : List Operand)
    (storages : List StorageName) (s : Stores) (m : Memory) : Type 0 where
  pub separate : AreSeparate (placed_in operands storages)
  pub count : length storages ≡ length operands
  pub short : (j : ℕ) (o : Operand) → slice_get operands j ≡ Some o → o.object.len ≤ limits.object_bytes
  pub room : (j : ℕ) (o : Operand) (n : OpName) → slice_get operands j ≡ Some o
      → slice_get storages j ≡ Some (Buffer n) → reads o.mode ≡ true
      → o.object.len ≤ length (buffer_bytes s.contents n)
  pub read : (a : ℕ) → is_read operands a ≡ true → worker_byte (placed_in operands storages) s a ≡ byte_at m a
  pub fixed : (q : Range) (a : ℕ) → range_of ranges q ≡ Some false → Covers q a
      → worker_byte (placed_in operands storages) s a ≡ byte_at m a

module _ (limits : Limits) (ranges : List MemoryRange) (t : Task) (storages : List StorageName) (s : Stores)
    (m : Memory) (finds : FindsOperands limits ranges (operands_of t) storages s m) where
  found_before : (a : ℕ) → InScope ranges (operands_of t) a
      → (worker_byte (placed_in (operands_of t) storages) s a ≡ byte_at m a) ⊎ (is_zeroed (operands_of t) a ≡ true)
  found_before a (inl owned) = elim (read_or_zeroed (operands_of t) a owned) [
    | inl read ↦ inl (finds.read a read)
    | inr output ↦ inr output
  ]
  found_before a (inr fixed) = inl (finds.fixed fixed.0 a fixed.1 fixed.2)

  -- then it starts as its task does on the flat memory
  pub start-alike : WorksAlike (placed_in (operands_of t) storages) ranges (operands_of t)
      (task_state_of (busy_with t storages) (outputs_zeroed limits s (operands_of t) storages)) (task_start m t)
  start-alike = record {
    registers = refl;
    scratch = refl;
    trap = refl;
    memory = record {
      room = λ k p n at is.
          let parts = placed_in-parts (operands_of t) storages k p at in
          subst (λ (r : Range).
          r.len ≤ length (buffer_bytes (outputs_zeroed limits s (operands_of t) storages).contents n))
          parts.3
          (outputs_room (placed_in (operands_of t) storages) finds.separate limits s m (operands_of t) storages
          finds.short
          finds.room k parts.0 n parts.1 (parts.2 ∙ ap Some is));
      bytes = λ a scope.
          outputs_agree (placed_in (operands_of t) storages) finds.separate limits s m (operands_of t) storages 0
          finds.count
          (λ j p e.
          let same : 0 + j ≡ j = omega arith in ap (slice_get (placed_in (operands_of t) storages)) same ∙ e)
          a (found_before a scope);
    };
  }
