-- Where an address lies among the spots of a task, what stands there, and what a write in a spot leaves.
use Rattle.std.proofs.Common.{◌≡◌, ℕ, zero, suc, ◌+◌, ◌-◌, ◌<◌, ◌≤◌, ◌⊎◌, inl, inr, true, false, List, [], length, Option, Some, None, refl, sym, ap, subst, ◌∙◌, arith, nat_le, nat_lt}
use Rattle.std.specs.Prelude.{◌&&◌, cond, option_map, max, min, slice_get, slice_index, unwrap_or, IsSome}
use Rattle.std.specs.Int.{bytes_low_first}
use Rattle.std.specs.FinMap.{get, insert}
use Rattle.std.proofs.lemmas.Bool.{and_parts, and_from, both_ways, leb-true, le-leb, lt-ltb, ltb-true, ltb-false, false_from_ne_true, cases_order}
use Rattle.std.proofs.lemmas.Option.{none-some, same_Some, slice_get-map}
use Rattle.tss_base.specs.declared.operand.OpName.{OpName}
use Rattle.tss_base.specs.declared.range.Range.{Range}
use Rattle.tss_base.specs.Range.{end_of, meets, contains}
use Rattle.tss_base.specs.Names.{Named}
use Rattle.tss_maps.proofs.Keys.{name_order, decide_key}
use Rattle.tss_maps.proofs.Changes.{at_inserted, beside_inserted}
use Rattle.tss_maps.proofs.Places.{find_first, find_there}
use Rattle.tss_model.specs.Memory.{Memory, covers, byte_at, number_at, list_put, put_bytes}
use Rattle.tss_model.specs.Core.{Write, low_bytes}
use Rattle.tss_core.specs.Views.{byte_after}
use Rattle.tss_memory.proofs.RangeLemmas.{contains_parts, find_none}
use Rattle.tss_steps.proofs.ByteLemmas.{place_of, byte_after-inside, byte_after-outside, list_put-inside, list_put-outside, put_bytes-byte, number_at-same}
use Rattle.tss_protocol.specs.Mail.{StorageName, Home, Buffer}
use Rattle.tss_protocol.specs.Buffers.{buffer_bytes}
use Rattle.tss_protocol.specs.Workers.{Stores, Placed, placed_at, storage_byte, byte_in, worker_byte, worker_write, write_in, storage_write}
use Rattle.tss_buffers.specs.Contents.{BuffersState}
use Rattle.tss_workers.specs.Seats.{AreApart, AreSet}
use Rattle.tss_workers.specs.Spots.{placed_spot, placed_of, stores_of, storage_at}
use Rattle.tss_workers.specs.declared.spots.Spot.{Spot}

-- as many bytes as the width
length-bytes_low_first : (i n x : ℕ) → length (bytes_low_first i n x) ≡ n
length-bytes_low_first i zero x = refl
length-bytes_low_first i (suc n) x = ap suc (length-bytes_low_first (suc i) n x)

pub length-low_bytes : (n x : ℕ) → length (low_bytes n x) ≡ n
length-low_bytes n x = length-bytes_low_first 0 n x

-- ---- ranges and addresses

-- an address in a range that lies in another lies in that
covers_inside : (o r : Range) (a : ℕ) → contains o r ≡ true → r.base ≤ a → a < end_of r → covers o a ≡ true
covers_inside o r a inside low high =
    let parts = contains_parts o r inside in
    and_from (nat_le o.base a) (nat_lt a (end_of o)) (le-leb o.base a (omega arith)) (lt-ltb a (end_of o) (omega arith))

covers_parts : (o : Range) (a : ℕ) → covers o a ≡ true → (o.base ≤ a) × (a < end_of o)
covers_parts o a c =
    let parts = and_parts (nat_le o.base a) (nat_lt a (end_of o)) c in
    (leb-true o.base a parts.0, ltb-true a (end_of o) parts.1)

-- ranges that don't meet share no address
apart_addresses : (o r : Range) (a : ℕ) → meets o r ≡ false → covers o a ≡ true → r.base ≤ a → a < end_of r → ⊥
apart_addresses o r a h c low high =
    let parts = covers_parts o a c in
    let none = ltb-false (max o.base r.base) (min (end_of o) (end_of r)) h in
    omega arith

pub not_covered : (o r : Range) (a : ℕ) → meets o r ≡ false → r.base ≤ a → a < end_of r → covers o a ≡ false
not_covered o r a h low high = false_from_ne_true (covers o a) (λ c. apart_addresses o r a h c low high)

-- nor is a byte covered that isn't contained
pub not_contained : (o : Range) (a : ℕ) → contains o (record { base = a; len = 1 }) ≡ false → covers o a ≡ false
not_contained o a h =
    false_from_ne_true (covers o a) (λ c.
    let parts = covers_parts o a c in
    both_ways (contains o (record { base = a; len = 1 })) h
    (and_from (nat_le o.base a) (nat_le (a + 1) (end_of o)) (le-leb o.base a parts.0) (le-leb (a + 1) (end_of o) (omega arith))))

-- the byte after a write depends on that byte alone
byte_after-same : (f g : ℕ → ℕ) (w : Write) (a : ℕ) → f a ≡ g a → byte_after f (Some w) a ≡ byte_after g (Some w) a
byte_after-same f g w a e =
    λ i. cond (nat_le w.at a && nat_lt a (w.at + length w.bytes)) (slice_index w.bytes (a - w.at)) (e i)

-- ---- spots

-- the spot at a place, as the definitions have it
pub placed_there : (spots : List Spot) (i : ℕ) (s : Spot) → slice_get spots i ≡ Some s → slice_get (placed_of spots) i ≡ Some (placed_spot s)
placed_there spots i s e = slice_get-map placed_spot spots i ∙ ap (option_map placed_spot) e

some_spot : (o : Option Spot) (p : Placed) → option_map placed_spot o ≡ Some p → (s : Spot) × (o ≡ Some s) × (placed_spot s ≡ p)
some_spot (Some s) p e = (s, refl, same_Some (placed_spot s) p e)
some_spot None p e = absurd (none-some p e)

-- and the other way round
pub spot_there : (spots : List Spot) (i : ℕ) (p : Placed) → slice_get (placed_of spots) i ≡ Some p
    → (s : Spot) × (slice_get spots i ≡ Some s) × (placed_spot s ≡ p)
spot_there spots i p e = some_spot (slice_get spots i) p (sym (slice_get-map placed_spot spots i) ∙ e)

-- an address in no spot lies nowhere
pub found_nowhere : (spots : List Spot) (a : ℕ) → ((i : ℕ) (s : Spot) → slice_get spots i ≡ Some s → covers s.object a ≡ false)
    → placed_at (placed_of spots) a ≡ None
found_nowhere spots a beside =
    find_none (λ p. covers p.object a) (placed_of spots) (λ i p e.
    let s = spot_there spots i p e in
    ap (λ (p : Placed). covers p.object a) (sym s.2) ∙ beside i s.0 s.1)

module _ (spots : List Spot) (apart : AreApart (placed_of spots)) (i : ℕ) (s : Spot) (there : slice_get spots i ≡ Some s) where
  -- an address of a spot lies there
  pub found_at : (a : ℕ) → covers s.object a ≡ true → placed_at (placed_of spots) a ≡ Some (placed_spot s)
  found_at a c =
      find_first (λ p. covers p.object a) (placed_of spots) i
      (λ j p h e.
      let parts = covers_parts s.object a c in
      not_covered p.object s.object a (apart.objects j i p (placed_spot s) h e (placed_there spots i s there)) parts.0 parts.1)
      (λ p e.
      let same = same_Some p (placed_spot s) (sym e ∙ placed_there spots i s there) in
      ap (λ (p : Placed). covers p.object a) same ∙ c)
      ∙ placed_there spots i s there

  -- what was found with the same buffer is this spot
  same_buffer : (n : OpName) → storage_at s.seat ≡ Buffer n → (a : ℕ) (p : Placed) → placed_at (placed_of spots) a ≡ Some p → p.storage ≡ Buffer n
      → (p ≡ placed_spot s) × (covers p.object a ≡ true)
  same_buffer n mine a p found its =
      let at = find_there (λ p. covers p.object a) (placed_of spots) p found in
      (by at.0 at.1 (cases_order at.0 i), at.2)
    where
      by : (j : ℕ) → slice_get (placed_of spots) j ≡ Some p → (j ≡ i) ⊎ ((j < i) ⊎ (i < j)) → p ≡ placed_spot s
      by j e (inl same) = same_Some p (placed_spot s) (sym e ∙ ap (slice_get (placed_of spots)) same ∙ placed_there spots i s there)
      by j e (inr (inl before)) = absurd (apart.buffers j i p (placed_spot s) n before e (placed_there spots i s there) its mine)
      by j e (inr (inr behind)) = absurd (apart.buffers i j (placed_spot s) p n behind (placed_there spots i s there) e mine its)

  module _ (r : Range) (inside : contains s.object r ≡ true) where
    found_in_range : (a : ℕ) → r.base ≤ a → a < end_of r → placed_at (placed_of spots) a ≡ Some (placed_spot s)
    found_in_range a low high = found_at a (covers_inside s.object r a inside low high)

    -- ---- what is read there

    pub home_number : (m : Memory) (b : BuffersState) → storage_at s.seat ≡ Home
        → number_at (byte_at m) r.base r.len ≡ number_at (worker_byte (placed_of spots) (stores_of m b)) r.base r.len
    home_number m b home =
        number_at-same _ _ r.base r.base r.len (λ k h. sym (
        ap (λ f. byte_in (stores_of m b) f (r.base + k)) (found_in_range (r.base + k) (omega arith) (omega arith))
        ∙ ap (λ x. storage_byte (stores_of m b) s.object x (r.base + k)) home))

    pub buffer_number : (m : Memory) (b : BuffersState) (n : OpName) → storage_at s.seat ≡ Buffer n
        → number_at (slice_index (buffer_bytes b.contents n)) (r.base - s.object.base) r.len
        ≡ number_at (worker_byte (placed_of spots) (stores_of m b)) r.base r.len
    buffer_number m b n mine =
        let parts = contains_parts s.object r inside in
        number_at-same _ _ (r.base - s.object.base) r.base r.len (λ k h.
        let place : (r.base - s.object.base) + k ≡ (r.base + k) - s.object.base = omega arith in
        ap (slice_index (buffer_bytes b.contents n)) place
        ∙ sym (
        ap (λ f. byte_in (stores_of m b) f (r.base + k)) (found_in_range (r.base + k) (omega arith) (omega arith))
        ∙ ap (λ x. storage_byte (stores_of m b) s.object x (r.base + k)) mine))

    -- ---- what is written there

    module _ (some : 0 < r.len) (m : Memory) (b : BuffersState) (bs : List ℕ) where
      abbrev pub wrote : Write
      wrote = record { at = r.base; bytes = bs }

      found_first : placed_at (placed_of spots) r.base ≡ Some (placed_spot s)
      found_first = found_in_range r.base (omega arith) (omega arith)

      pub home_written : storage_at s.seat ≡ Home → (n : Memory) → n ≡ put_bytes m r.base bs
          → stores_of n b ≡ worker_write (placed_of spots) (stores_of m b) (record { at = r.base; bytes = bs })
      home_written home n e =
          ap (λ m. stores_of m b) e
          ∙ sym (
          ap (λ f. write_in (stores_of m b) f (record { at = r.base; bytes = bs })) found_first
          ∙ ap (λ x. storage_write (stores_of m b) s.object x (record { at = r.base; bytes = bs })) home)

      pub buffer_written : (n : OpName) → storage_at s.seat ≡ Buffer n → (c : BuffersState)
          → c ≡ record b { contents = insert b.contents n (list_put (buffer_bytes b.contents n) (r.base - s.object.base) bs) }
          → stores_of m c ≡ worker_write (placed_of spots) (stores_of m b) (record { at = r.base; bytes = bs })
      buffer_written n mine c e =
          ap (stores_of m) e
          ∙ sym (
          ap (λ f. write_in (stores_of m b) f (record { at = r.base; bytes = bs })) found_first
          ∙ ap (λ x. storage_write (stores_of m b) s.object x (record { at = r.base; bytes = bs })) mine)

      module _ (many : length bs ≡ r.len) where
        -- each byte after a write at home
        home_beside : (n : Memory) → n ≡ put_bytes m r.base bs → (a : ℕ) → (a < r.base) ⊎ (r.base + length bs ≤ a)
            → (f : Option Placed) → byte_in (stores_of n b) f a ≡ byte_in (stores_of m b) f a
        home_beside n e a out f = by f
          where
            beside : byte_at n a ≡ byte_at m a
            beside = ap (λ m. byte_at m a) e ∙ put_bytes-byte m r.base bs a ∙ byte_after-outside (byte_at m) r.base bs a out

            stays : (object : Range) (x : StorageName) → storage_byte (stores_of n b) object x a ≡ storage_byte (stores_of m b) object x a
            stays object Home = beside
            stays object (Buffer k) = refl

            by : (f : Option Placed) → byte_in (stores_of n b) f a ≡ byte_in (stores_of m b) f a
            by None = beside
            by (Some p) = stays p.object p.storage

        pub home_bytes : storage_at s.seat ≡ Home → (n : Memory) → n ≡ put_bytes m r.base bs → (a : ℕ)
            → worker_byte (placed_of spots) (stores_of n b) a
            ≡ byte_after (worker_byte (placed_of spots) (stores_of m b)) (Some (record { at = r.base; bytes = bs })) a
        home_bytes home n e a =
            elim (place_of r.base (length bs) a) [
              | inl within ↦
                  ap (λ f. byte_in (stores_of n b) f a) (found_in_range a within.0 (omega (arith, within.1, many)))
                  ∙ ap (λ x. storage_byte (stores_of n b) s.object x a) home
                  ∙ ap (λ m. byte_at m a) e
                  ∙ put_bytes-byte m r.base bs a
                  ∙ byte_after-inside (byte_at m) r.base bs a within.0 within.1
                  ∙ sym (byte_after-inside (worker_byte (placed_of spots) (stores_of m b)) r.base bs a within.0 within.1)
              | inr outside ↦
                  home_beside n e a outside (placed_at (placed_of spots) a)
                  ∙ sym (byte_after-outside (worker_byte (placed_of spots) (stores_of m b)) r.base bs a outside)
            ]

        -- and in a buffer
        module _ (n : OpName) (mine : storage_at s.seat ≡ Buffer n) (long : s.object.len ≤ length (buffer_bytes b.contents n)) where
          abbrev pub after : Named (List ℕ)
          after = insert b.contents n (list_put (buffer_bytes b.contents n) (r.base - s.object.base) bs)

          abbrev pub left : Stores
          left = record { home = m; contents = insert b.contents n (list_put (buffer_bytes b.contents n) (r.base - s.object.base) bs) }

          its_bytes : buffer_bytes (insert b.contents n (list_put (buffer_bytes b.contents n) (r.base - s.object.base) bs)) n
              ≡ list_put (buffer_bytes b.contents n) (r.base - s.object.base) bs
          its_bytes = ap (λ o. unwrap_or o []) (at_inserted name_order b.contents n _)

          beside_buffer : (a : ℕ) → (a < r.base) ⊎ (r.base + length bs ≤ a) → (f : Option Placed) → placed_at (placed_of spots) a ≡ f
              → byte_in left f a ≡ byte_in (stores_of m b) f a
          beside_buffer a out None found = refl
          beside_buffer a out (Some p) found = stays p.storage refl
            where
              mine_there : (k : OpName) → k ≡ n → p.storage ≡ Buffer k → storage_byte left p.object (Buffer k) a ≡ storage_byte (stores_of m b) p.object (Buffer k) a
              mine_there k same its =
                  let it = same_buffer n mine a p found (its ∙ ap Buffer same) in
                  let parts = contains_parts s.object r inside in
                  let base : p.object.base ≡ s.object.base = λ i. (it.0 i).object.base in
                  let low = (covers_parts p.object a it.1).0 in
                  ap (λ k. slice_index (buffer_bytes (insert b.contents n (list_put (buffer_bytes b.contents n) (r.base - s.object.base) bs)) k) (a - p.object.base)) same
                  ∙ ap (λ xs. slice_index xs (a - p.object.base)) its_bytes
                  ∙ list_put-outside bs (buffer_bytes b.contents n) (r.base - s.object.base) (a - p.object.base)
                  (elim out [ inl before ↦ inl (omega (arith, before, base, low, parts.0)) | inr behind ↦ inr (omega (arith, behind, base, low, parts.0)) ])
                  ∙ ap (λ k. slice_index (buffer_bytes b.contents k) (a - p.object.base)) (sym same)

              stays : (x : StorageName) → p.storage ≡ x → storage_byte left p.object x a ≡ storage_byte (stores_of m b) p.object x a
              stays Home its = refl
              stays (Buffer k) its =
                  elim (decide_key name_order k n) [
                    | inl same ↦ mine_there k same its
                    | inr other ↦
                        ap (λ o. slice_index (unwrap_or o []) (a - p.object.base)) (beside_inserted name_order b.contents n _ k other)
                  ]

          pub buffer_bytes-after : (a : ℕ) → worker_byte (placed_of spots) left a
              ≡ byte_after (worker_byte (placed_of spots) (stores_of m b)) (Some (record { at = r.base; bytes = bs })) a
          buffer_bytes-after a =
              let parts = contains_parts s.object r inside in
              elim (place_of r.base (length bs) a) [
                | inl within ↦
                    let place : (a - s.object.base) - (r.base - s.object.base) ≡ a - r.base = omega (arith, within.0, parts.0) in
                    ap (λ f. byte_in left f a) (found_in_range a within.0 (omega (arith, within.1, many)))
                    ∙ ap (λ x. storage_byte left s.object x a) mine
                    ∙ ap (λ xs. slice_index xs (a - s.object.base)) its_bytes
                    ∙ list_put-inside bs (buffer_bytes b.contents n) (r.base - s.object.base) (a - s.object.base)
                    (omega (arith, within.0, parts.0)) (omega (arith, within.1, parts.0)) (omega (arith, many, long, parts.0, parts.1))
                    ∙ ap (slice_index bs) place
                    ∙ sym (byte_after-inside (worker_byte (placed_of spots) (stores_of m b)) r.base bs a within.0 within.1)
                | inr outside ↦
                    beside_buffer a outside (placed_at (placed_of spots) a) refl
                    ∙ sym (byte_after-outside (worker_byte (placed_of spots) (stores_of m b)) r.base bs a outside)
              ]

-- ---- what is read of a range in no spot

pub beside_number : (spots : List Spot) (m : Memory) (b : BuffersState) (r : Range)
    → ((i : ℕ) (s : Spot) (a : ℕ) → slice_get spots i ≡ Some s → r.base ≤ a → a < end_of r → covers s.object a ≡ false)
    → number_at (byte_at m) r.base r.len ≡ number_at (worker_byte (placed_of spots) (stores_of m b)) r.base r.len
beside_number spots m b r beside =
    number_at-same _ _ r.base r.base r.len (λ k h.
    sym (ap (λ f. byte_in (stores_of m b) f (r.base + k))
    (found_nowhere spots (r.base + k) (λ i s e. beside i s (r.base + k) e (omega arith) (omega arith)))))

-- ---- buffers stay set

pub AreSet-written : (contents : Named (List ℕ)) (n : OpName) (bytes : List ℕ) (placed : List Placed) → AreSet contents placed
    → AreSet (insert contents n bytes) placed
AreSet-written contents n bytes placed set i p k e its =
    elim (decide_key name_order k n) [
      | inl same ↦ subst IsSome (sym (ap (get (insert contents n bytes)) same ∙ at_inserted name_order contents n bytes)) refl
      | inr other ↦ subst IsSome (sym (beside_inserted name_order contents n bytes k other)) (set i p k e its)
    ]
