-- Where main may load: the bytes of each access that the rule of access grants it, and that two memories which agree
-- there read alike.
use Rattle.std.proofs.Common.{◌≡◌, ℕ, zero, suc, ◌+◌, ◌*◌, ◌<◌, ◌≤◌, Bool, true, false, Option, Some, None, List, []}
use Rattle.std.proofs.Common.{◌∷◌, map, refl, ap, arith}
use Rattle.std.specs.Prelude.{max, min, slice_get, option_map, find}
use Rattle.std.specs.List.{range_with_len}
use Rattle.std.proofs.lemmas.Bool.{ltb-true, lt-ltb, or_parts, or_from, both_ways, false_from_ne_true}
use Rattle.tss_base.specs.declared.range.Range.{Range}
use Rattle.tss_base.specs.Range.{end_of, Covers, meets, contains}
use Rattle.tss_maps.proofs.Places.{find_there, find_nowhere}
use Rattle.tss_model.specs.Memory.{MemoryRange, range_of, number_at}
use Rattle.tss_model.specs.Access.{Purpose, Loads, Stores, Granted, touches, main_answer, main_access}
use Rattle.tss_program_order.specs.MainInOrder.{MayLoad}
use Rattle.tss_program_order.proofs.FlatRanges.{contains_parts, contains_from, some_mapped}

-- the range of one byte
abbrev pub byte_range : ℕ → Range
byte_range a = record { base = a; len = 1 }

-- ---- a byte of a range

byte_contained : (m r : Range) (a : ℕ) → Covers r a → contains m r ≡ true → contains m (byte_range a) ≡ true
byte_contained m r a covered held =
    let parts = contains_parts m r held in
    contains_from m (byte_range a) (omega (arith, parts.0, covered.0)) (omega (arith, parts.1, covered.1))

-- lies in a range of memory where the range does
range_of-byte : (ranges : List MemoryRange) (r : Range) (a : ℕ) (w : Bool) → range_of ranges r ≡ Some w →
    Covers r a → (v : Bool) × (range_of ranges (byte_range a) ≡ Some v)
range_of-byte ranges r a w placed covered =
    let m = some_mapped (λ m. m.writable) (find (λ m. contains m.range r) ranges) w placed in
    let there = find_there (λ m. contains m.range r) ranges m.0 m.1 in
    let held = byte_contained (m.0).range r a covered there.2 in
    by (find (λ m. contains m.range (byte_range a)) ranges) refl there.0 m.0 there.1 held
  where
    by : (o : Option MemoryRange) → find (λ m. contains m.range (byte_range a)) ranges ≡ o → (i : ℕ) (m : MemoryRange)
        → slice_get ranges i ≡ Some m → contains m.range (byte_range a) ≡ true
        → (v : Bool) × (range_of ranges (byte_range a) ≡ Some v)
    by None e i m at held =
        absurd (both_ways (contains m.range (byte_range a))
        (find_nowhere (λ m. contains m.range (byte_range a)) ranges e i m at) held)
    by (Some n) e i m at held = (n.writable, ap (option_map (λ m. m.writable)) e)

-- and touches no object where the range touches none
apart_byte : (object r : Range) (a : ℕ) → Covers r a → meets object r ≡ false → meets object (byte_range a) ≡ false
apart_byte object r a covered apart =
    false_from_ne_true (meets object (byte_range a)) (λ meet.
    let common : max object.base a < min (end_of object) (a + 1) =
    ltb-true (max object.base a) (min (end_of object) (a + 1)) meet in
    both_ways (meets object r) apart
    (lt-ltb (max object.base r.base) (min (end_of object) (end_of r)) (omega (arith, common, covered.0, covered.1))))

-- the same for all objects
touches-byte : (named : List Range) (r : Range) (a : ℕ) → Covers r a → touches named r ≡ false →
    touches named (byte_range a) ≡ false
touches-byte [] r a covered apart = refl
touches-byte (object ∷ named) r a covered apart =
    let parts = or_parts (meets object r) (touches named r) apart in
    or_from (meets object (byte_range a)) (touches named (byte_range a))
    (apart_byte object r a covered parts.0) (touches-byte named r a covered parts.1)

-- ---- an access of main

-- one that is granted lies in a range of memory and touches no named object
granted_by : (purpose : Purpose) (within : Option Bool) (touched : Bool) →
    main_answer purpose within touched ≡ Granted →
    ((w : Bool) × (within ≡ Some w)) × (touched ≡ false)
granted_by Loads None touched e = absurd (cc)
granted_by Stores None touched e = absurd (cc)
granted_by Loads (Some w) true e = absurd (cc)
granted_by Loads (Some w) false e = ((w, refl), refl)
granted_by Stores (Some true) true e = absurd (cc)
granted_by Stores (Some true) false e = ((true, refl), refl)
granted_by Stores (Some false) touched e = absurd (cc)

-- where such an access lies
pub main_granted : (ranges : List MemoryRange) (named : List Range) (purpose : Purpose) (r : Range) →
    main_access ranges named purpose r ≡ Granted →
    ((w : Bool) × (range_of ranges r ≡ Some w)) × (touches named r ≡ false)
main_granted ranges named purpose r e = granted_by purpose (range_of ranges r) (touches named r) e

-- main may load each byte of a range that lies in memory and touches no named object
pub may_load_readable : (ranges : List MemoryRange) (named : List Range) (r : Range) (a : ℕ) (w : Bool) →
    range_of ranges r ≡ Some w → touches named r ≡ false → Covers r a → MayLoad ranges named a
may_load_readable ranges named r a w placed apart covered =
    let v = range_of-byte ranges r a w placed covered in
    (λ i. main_answer Loads (v.1 i) (touches-byte named r a covered apart i))

-- and so each byte of an access that is granted, also of a store
pub may_load_granted : (ranges : List MemoryRange) (named : List Range) (purpose : Purpose) (r : Range) (a : ℕ) →
    main_access ranges named purpose r ≡ Granted → Covers r a → MayLoad ranges named a
may_load_granted ranges named purpose r a granted covered =
    let parts = main_granted ranges named purpose r granted in
    may_load_readable ranges named r a (parts.0).0 (parts.0).1 parts.1 covered

-- ---- numbers

-- two reads that agree on the bytes of a number give the same number
pub same_number : (f g : ℕ → ℕ) (at n : ℕ) → ((a : ℕ) → at ≤ a → a < at + n → f a ≡ g a) →
    number_at f at n ≡ number_at g at n
same_number f g at zero same = refl
same_number f g at (suc n) same =
    let first = same at (omega arith) (omega arith) in
    let rest = same_number f g (suc at) n (λ a low high. same a (omega arith) (omega arith)) in
    λ t. first t + 256 * rest t

-- and the same bytes
pub same_bytes : (f g : ℕ → ℕ) (at n : ℕ) → ((a : ℕ) → at ≤ a → a < at + n → f a ≡ g a) →
    map f (range_with_len at n) ≡ map g (range_with_len at n)
same_bytes f g at zero same = refl
same_bytes f g at (suc n) same =
    let first = same at (omega arith) (omega arith) in
    let rest = same_bytes f g (at + 1) n (λ a low high. same a (omega arith) (omega arith)) in
    λ t. first t ∷ rest t
