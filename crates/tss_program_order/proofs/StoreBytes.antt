-- The bytes of a task's operands in their storages: what a worker reads after it writes an operand.
use Rattle.std.proofs.Common.{◌≡◌, ◌⊎◌, ℕ, zero, suc, ◌+◌, ◌-◌, ◌<◌, ◌≤◌, inl, inr, true, false, Option, Some, None}
use Rattle.std.proofs.Common.{List, [], ◌∷◌, length, refl, sym, ap, ◌∙◌, arith, nat_le, nat_lt}
use Rattle.std.specs.Prelude.{slice_get, slice_index, slice_set, unwrap_or}
use Rattle.std.specs.FinMap.{get, insert}
use Rattle.std.proofs.lemmas.Bool.{and_parts, both_ways, cases_lt, leb-true, ltb-true, and_from, le-leb, lt-ltb}
use Rattle.std.proofs.lemmas.List.{length-set, get_or-set_same, get_or-set_other}
use Rattle.std.proofs.lemmas.Option.{unwrap_or-slice_get}
use Rattle.tss_base.specs.declared.range.Range.{Range}
use Rattle.tss_base.specs.declared.operand.OpName.{OpName}
use Rattle.tss_base.specs.Range.{end_of, contains}
use Rattle.tss_base.specs.Names.{Named, Numbered}
use Rattle.tss_maps.proofs.Keys.{nat_order, name_order, decide_key}
use Rattle.tss_maps.proofs.Changes.{at_inserted, beside_inserted}
use Rattle.tss_maps.proofs.Places.{find_there, find_nowhere}
use Rattle.tss_model.specs.Memory.{Memory, covers, byte_at, list_put, map_put}
use Rattle.tss_model.specs.Core.{Write}
use Rattle.tss_model.specs.TaskRun.{memory_write}
use Rattle.tss_protocol.specs.Mail.{StorageName, Home, Buffer}
use Rattle.tss_protocol.specs.Buffers.{buffer_bytes}
use Rattle.tss_protocol.specs.Workers.{Stores, Placed, placed_at, byte_in, storage_byte, worker_byte, storage_write}
use Rattle.tss_protocol.specs.Workers.{write_in, worker_write}
use Rattle.tss_program_order.proofs.FlatRanges.{contains_parts}
use Rattle.tss_program_order.proofs.FlatWrites.{map_put-beside}

-- ---- bytes after a write to memory

-- a byte that is written
map_put-there : (m : Numbered ℕ) (at : ℕ) (bs : List ℕ) (j q : ℕ) → at + j ≡ q → j < length bs
    → get (map_put m at bs) q ≡ slice_get bs j
map_put-there m at [] j q e h = absurd (omega arith)
map_put-there m at (b ∷ bs) zero q e h =
    let first : q ≡ at = omega arith in
    ap (get (map_put m at (b ∷ bs))) first ∙ at_inserted nat_order (map_put m (suc at) bs) at b
map_put-there m at (b ∷ bs) (suc j) q e h =
    beside_inserted nat_order (map_put m (suc at) bs) at b q (λ s. absurd (omega arith))
    ∙ map_put-there m (suc at) bs j q (omega arith) (omega arith)

-- the byte at an address of a write
pub written_byte : (m : Memory) (w : Write) (a : ℕ) → w.at ≤ a → a < w.at + length w.bytes
    → byte_at (memory_write m w) a ≡ slice_index w.bytes (a - w.at)
written_byte m w a low high =
    ap (λ (o : Option ℕ). unwrap_or o 0)
    (map_put-there m.bytes w.at w.bytes (a - w.at) a (omega arith) (omega arith))
    ∙ unwrap_or-slice_get w.bytes (a - w.at) 0

-- and beside it, where it stays
pub unwritten_byte : (m : Memory) (w : Write) (a : ℕ) → (w.at ≤ a → a < w.at + length w.bytes → ⊥)
    → byte_at (memory_write m w) a ≡ byte_at m a
unwritten_byte m w a out = ap (λ (o : Option ℕ). unwrap_or o 0) (map_put-beside m.bytes w.at w.bytes a out)

-- ---- bytes after a write to a buffer

-- a put keeps the length
pub length-list_put : (bs xs : List ℕ) (at : ℕ) → length (list_put xs at bs) ≡ length xs
length-list_put [] xs at = refl
length-list_put (b ∷ bs) xs at = length-set (list_put xs (suc at) bs) at b ∙ length-list_put bs xs (suc at)

put_beside : (bs xs : List ℕ) (at k : ℕ) → (at ≤ k → k < at + length bs → ⊥)
    → slice_index (list_put xs at bs) k ≡ slice_index xs k
put_beside [] xs at k out = refl
put_beside (b ∷ bs) xs at k out =
    get_or-set_other (list_put xs (suc at) bs) at k b 0 (λ e. out (omega (arith, e)) (omega (arith, e)))
    ∙ put_beside bs xs (suc at) k (λ low high. out (omega arith) (omega arith))

put_there : (bs xs : List ℕ) (at j k : ℕ) → at + j ≡ k → j < length bs → at + length bs ≤ length xs
    → slice_index (list_put xs at bs) k ≡ slice_index bs j
put_there [] xs at j k e h room = absurd (omega arith)
put_there (b ∷ bs) xs at zero k e h room =
    let within : at < length (list_put xs (suc at) bs) = omega (arith, length-list_put bs xs (suc at)) in
    let same : k ≡ at = omega arith in
    ap (slice_index (slice_set (list_put xs (suc at) bs) at b)) same
    ∙ get_or-set_same (list_put xs (suc at) bs) at b 0 within
put_there (b ∷ bs) xs at (suc j) k e h room =
    get_or-set_other (list_put xs (suc at) bs) at k b 0 (λ s. absurd (omega (arith, s)))
    ∙ put_there bs xs (suc at) j k (omega arith) (omega arith) (omega arith)

-- ---- operands in storages

-- what stands at a place of the list
abbrev pub IsPlaced : List Placed → ℕ → Placed → Type 0
IsPlaced placed k p = slice_get placed k ≡ Some p

-- no address lies in two of the objects, and no buffer is the storage of two
pub record AreSeparate (placed : List Placed) : Type 0 where
  pub objects : (j k : ℕ) (p q : Placed) (a : ℕ) → IsPlaced placed j p → IsPlaced placed k q
      → covers p.object a ≡ true → covers q.object a ≡ true → j ≡ k
  pub buffers : (j k : ℕ) (p q : Placed) (n : OpName) → IsPlaced placed j p → IsPlaced placed k q
      → p.storage ≡ Buffer n → q.storage ≡ Buffer n → j ≡ k

-- each buffer is long enough for its object
abbrev pub HaveRoom : List Placed → Stores → Type 0
HaveRoom placed s =
    (k : ℕ) (p : Placed) (n : OpName)
    → IsPlaced placed k p
    → p.storage ≡ Buffer n
    → p.object.len ≤ length (buffer_bytes s.contents n)

-- an address of a range
pub covers_parts : (r : Range) (a : ℕ) → covers r a ≡ true → (r.base ≤ a) × (a < end_of r)
covers_parts r a inside =
    let parts = and_parts (nat_le r.base a) (nat_lt a (end_of r)) inside in
    (leb-true r.base a parts.0, ltb-true a (end_of r) parts.1)

module _ (placed : List Placed) (separate : AreSeparate placed) (k : ℕ) (p : Placed) (there : IsPlaced placed k p) where
  -- the object in which one of its addresses lies is found
  placed_at-there : (a : ℕ) → covers p.object a ≡ true → placed_at placed a ≡ Some p
  placed_at-there a inside = by (placed_at placed a) refl
    where
      by : (o : Option Placed) → placed_at placed a ≡ o → placed_at placed a ≡ Some p
      by None e =
          absurd (both_ways (covers p.object a) (find_nowhere (λ q. covers q.object a) placed e k p there) inside)
      by (Some q) e =
          let first = find_there (λ q. covers q.object a) placed q e in
          let same = separate.objects first.0 k q p a first.1 there first.2 inside in
          e ∙ sym first.1 ∙ ap (slice_get placed) same ∙ there

  -- a worker reads it in its storage
  pub worker_byte-there : (s : Stores) (a : ℕ) → covers p.object a ≡ true
      → worker_byte placed s a ≡ storage_byte s p.object p.storage a
  worker_byte-there s a inside = ap (λ o. byte_in s o a) (placed_at-there a inside)

  -- and writes it there
  pub worker_write-there : (s : Stores) (w : Write) → covers p.object w.at ≡ true
      → worker_write placed s w ≡ storage_write s p.object p.storage w
  worker_write-there s w inside = ap (λ o. write_in s o w) (placed_at-there w.at inside)

-- ---- a write

-- a write lies in the object
abbrev pub LiesIn : Range → Write → Type 0
LiesIn object w =
    (0 < length w.bytes) × (contains object (record { base = w.at; len = length w.bytes }) ≡ true)

-- an address beside an object is none of the write's
pub beside_write : (object : Range) (w : Write) (a : ℕ) → LiesIn object w → covers object a ≡ false
    → w.at ≤ a → a < w.at + length w.bytes → ⊥
beside_write object w a lies out low high =
    let parts = contains_parts object (record { base = w.at; len = length w.bytes }) lies.1 in
    both_ways (covers object a) out
    (and_from (nat_le object.base a) (nat_lt a (end_of object)) (le-leb object.base a (omega (arith, parts.0, low)))
    (lt-ltb a (end_of object) (omega (arith, parts.1, high))))

-- an address is one of those of a write, or another
in_write : (w : Write) (a : ℕ)
    → ((w.at ≤ a) × (a < w.at + length w.bytes)) ⊎ (w.at ≤ a → a < w.at + length w.bytes → ⊥)
in_write w a = elim (cases_lt a w.at) [
  | inl low ↦ inr (λ from to. absurd (omega arith))
  | inr from ↦ elim (cases_lt a (w.at + length w.bytes)) [
    | inl to ↦ inl (from, to)
    | inr high ↦ inr (λ low to. absurd (omega arith))
  ]
]

-- a buffer that is set
pub buffer_put : (contents : Named (List ℕ)) (n : OpName) (bytes : List ℕ)
    → buffer_bytes (insert contents n bytes) n ≡ bytes
buffer_put contents n bytes = ap (λ (o : Option (List ℕ)). unwrap_or o []) (at_inserted name_order contents n bytes)

-- and another, which stays
pub buffer_beside : (contents : Named (List ℕ)) (n k : OpName) (bytes : List ℕ) → (k ≡ n → ⊥)
    → buffer_bytes (insert contents n bytes) k ≡ buffer_bytes contents k
buffer_beside contents n k bytes apart =
    ap (λ (o : Option (List ℕ)). unwrap_or o []) (beside_inserted name_order contents n bytes k apart)

module _ (s : Stores) (object : Range) (w : Write) (lies : LiesIn object w) where
  -- the byte of the object in its storage is that of a memory with the same write
  pub storage_write-at : (storage : StorageName)
      → ((n : OpName) → storage ≡ Buffer n → object.len ≤ length (buffer_bytes s.contents n))
      → (m : Memory) (a : ℕ) → covers object a ≡ true → storage_byte s object storage a ≡ byte_at m a
      → storage_byte (storage_write s object storage w) object storage a ≡ byte_at (memory_write m w) a
  storage_write-at Home room m a inside same = elim (in_write w a) [
    | inl here ↦ written_byte s.home w a here.0 here.1 ∙ sym (written_byte m w a here.0 here.1)
    | inr out ↦ unwritten_byte s.home w a out ∙ same ∙ sym (unwritten_byte m w a out)
  ]
  storage_write-at (Buffer n) room m a inside same =
      let bytes = buffer_bytes s.contents n in
      let parts = contains_parts object (record { base = w.at; len = length w.bytes }) lies.1 in
      let at = covers_parts object a inside in
      let enough = room n refl in
      ap (λ (xs : List ℕ). slice_index xs (a - object.base))
      (buffer_put s.contents n (list_put bytes (w.at - object.base) w.bytes))
      ∙ elim (in_write w a) [
        | inl here ↦ put_there w.bytes bytes (w.at - object.base) (a - w.at) (a - object.base)
            (omega (arith, parts.0, here.0)) (omega (arith, here.0, here.1))
            (omega (arith, parts.0, parts.1, enough))
            ∙ sym (written_byte m w a here.0 here.1)
        | inr out ↦ put_beside w.bytes bytes (w.at - object.base) (a - object.base)
            (λ low high. out (omega (arith, low, at.0, parts.0)) (omega (arith, high, at.0, parts.0)))
            ∙ same ∙ sym (unwritten_byte m w a out)
      ]

  -- home beside the write
  pub storage_write-home : (storage : StorageName) (a : ℕ) → covers object a ≡ false
      → byte_at (storage_write s object storage w).home a ≡ byte_at s.home a
  storage_write-home Home a out = unwritten_byte s.home w a (beside_write object w a lies out)
  storage_write-home (Buffer n) a out = refl

  -- and the byte of another object in its own storage
  pub storage_write-other : (storage other : StorageName) (next : Range) (a : ℕ)
      → ((n : OpName) → storage ≡ Buffer n → other ≡ Buffer n → ⊥) → covers object a ≡ false
      → storage_byte (storage_write s object storage w) next other a ≡ storage_byte s next other a
  storage_write-other storage Home next a apart out = storage_write-home storage a out
  storage_write-other Home (Buffer k) next a apart out = refl
  storage_write-other (Buffer n) (Buffer k) next a apart out =
      ap (λ (xs : List ℕ). slice_index xs (a - next.base))
      (buffer_beside s.contents n k (list_put (buffer_bytes s.contents n) (w.at - object.base) w.bytes)
      (λ same. apart n refl (ap Buffer same)))

  -- a write shortens no buffer
  pub storage_write-room : (storage : StorageName) (k : OpName)
      → length (buffer_bytes (storage_write s object storage w).contents k) ≡ length (buffer_bytes s.contents k)
  storage_write-room Home k = refl
  storage_write-room (Buffer n) k = elim (decide_key name_order k n) [
    | inl same ↦
        ap (λ (x : OpName). length (buffer_bytes (insert s.contents n
        (list_put (buffer_bytes s.contents n) (w.at - object.base) w.bytes)) x)) same
        ∙ ap length (buffer_put s.contents n (list_put (buffer_bytes s.contents n) (w.at - object.base) w.bytes))
        ∙ length-list_put w.bytes (buffer_bytes s.contents n) (w.at - object.base)
        ∙ ap (λ (x : OpName). length (buffer_bytes s.contents x)) (sym same)
    | inr apart ↦
        ap length (buffer_beside s.contents n k
        (list_put (buffer_bytes s.contents n) (w.at - object.base) w.bytes) apart)
  ]
