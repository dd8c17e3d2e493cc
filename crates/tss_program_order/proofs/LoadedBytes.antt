-- The memory of an image has a byte at each address of its ranges.
use Rattle.std.proofs.Common.{◌≡◌, inl, inr, ℕ, ◌+◌, ◌<◌, ◌≤◌, Bool, true, false, List, [], ◌∷◌, ◌++◌, length, map}
use Rattle.std.proofs.Common.{Option, Some, None, refl, ap, subst, ◌∙◌, arith}
use Rattle.std.specs.Prelude.{cond, is_some, nat_le, find, flat_map, option_map}
use Rattle.std.specs.List.{enumerate_from}
use Rattle.std.specs.Ordering.{nat_cmp, eq_by_cmp}
use Rattle.std.specs.FinMap.{get, get-from_entries}
use Rattle.std.specs.FinMap.Entries.{find as find_key}
use Rattle.std.proofs.lemmas.Bool.{and_parts, leb-true}
use Rattle.tss_base.specs.declared.range.Range.{Range}
use Rattle.tss_base.specs.Range.{Covers, contains, end_of}
use Rattle.tss_base.specs.Image.{SegmentState, ImageState}
use Rattle.tss_maps.proofs.Keys.{nat_order, decide_key, same_key}
use Rattle.tss_model.specs.Memory.{MemoryRange, Memory, range_of, stack_range, zeros, memory_range, memory_ranges}
use Rattle.tss_model.specs.Memory.{segment_range, loaded_bytes, loaded}
use Rattle.tss_program_order.proofs.StoreStart.{length-zeros}

-- memory has a byte at an address
abbrev pub HasByte : Memory → ℕ → Type 0
HasByte m a = is_some (get m.bytes a) ≡ true

-- ---- entries

-- a list has an entry under an address
abbrev IsKeyed : List (ℕ × ℕ) → ℕ → Type 0
IsKeyed es a = is_some (find_key nat_cmp a es) ≡ true

some_behind : (c : Bool) (x : ℕ) (o : Option ℕ) → is_some o ≡ true → is_some (cond c (Some x) o) ≡ true
some_behind true x o e = refl
some_behind false x o e = e

some_before : (c : Bool) (x : ℕ) (o p : Option ℕ) → is_some (cond c (Some x) o) ≡ true
    → (is_some o ≡ true → is_some p ≡ true) → is_some (cond c (Some x) p) ≡ true
some_before true x o p e more = refl
some_before false x o p e more = more e

keyed_front : (es fs : List (ℕ × ℕ)) (a : ℕ) → IsKeyed es a → IsKeyed (es ++ fs) a
keyed_front [] fs a h = absurd (cc)
keyed_front (e ∷ es) fs a h =
    some_before (eq_by_cmp nat_cmp a e.0) e.1 (find_key nat_cmp a es) (find_key nat_cmp a (es ++ fs)) h
    (keyed_front es fs a)

keyed_behind : (es fs hs : List (ℕ × ℕ)) (a : ℕ) → IsKeyed (fs ++ hs) a → IsKeyed ((es ++ fs) ++ hs) a
keyed_behind [] fs hs a h = h
keyed_behind (e ∷ es) fs hs a h =
    some_behind (eq_by_cmp nat_cmp a e.0) e.1 (find_key nat_cmp a ((es ++ fs) ++ hs)) (keyed_behind es fs hs a h)

-- an enumerated list has all addresses from its first on
keyed_enumerated : (base : ℕ) (bs : List ℕ) (a : ℕ) → base ≤ a → a < base + length bs
    → IsKeyed (enumerate_from base bs) a
keyed_enumerated base [] a low high = absurd (omega (arith, low, high))
keyed_enumerated base (b ∷ bs) a low high = elim (decide_key nat_order a base) [
  | inl same ↦
      ap (λ c. is_some (cond c (Some b) (find_key nat_cmp a (enumerate_from (base + 1) bs))))
      (subst (λ k. eq_by_cmp nat_cmp a k ≡ true) same (same_key nat_order a))
  | inr apart ↦
      some_behind (eq_by_cmp nat_cmp a base) b (find_key nat_cmp a (enumerate_from (base + 1) bs))
      (keyed_enumerated (base + 1) bs a (above low apart) (omega (arith, high)))
]
  where
    above : base ≤ a → (a ≡ base → ⊥) → base + 1 ≤ a
    above low apart = grind (arith, low, apart)

-- ---- ranges

inside_of : (x r : Range) (a : ℕ) → contains x r ≡ true → Covers r a → Covers x a
inside_of x r a within inside =
    let p = and_parts (nat_le x.base r.base) (nat_le (end_of r) (end_of x)) within in
    let low = leb-true x.base r.base p.0 in
    let high = leb-true (end_of r) (end_of x) p.1 in
    (omega (arith, low, inside.0), omega (arith, high, inside.1))

-- the entries of the stack
abbrev stack_entries : List (ℕ × ℕ)
stack_entries = enumerate_from stack_range.base (zeros stack_range.len)

-- its range
abbrev stack_memory : MemoryRange
stack_memory = record { range = stack_range; writable = true }

keyed_stack : (a : ℕ) → Covers stack_range a → IsKeyed stack_entries a
keyed_stack a inside =
    let long = length-zeros stack_range.len in
    keyed_enumerated stack_range.base (zeros stack_range.len) a inside.0 (omega (arith, inside.1, long))

module _ (r : Range) (a : ℕ) (inside : Covers r a) where
  keyed_last : (b : Bool) → contains stack_range r ≡ b → (w : Bool)
      → option_map (λ (x : MemoryRange). x.writable) (cond b (Some stack_memory) None) ≡ Some w
      → IsKeyed stack_entries a
  keyed_last true within w e = keyed_stack a (inside_of stack_range r a within inside)
  keyed_last false beyond w e = absurd (cc)

  keyed_range : (ss : List SegmentState) (w : Bool)
      → range_of (map memory_range ss ++ stack_memory ∷ []) r ≡ Some w
      → IsKeyed (flat_map (λ (s : SegmentState). enumerate_from s.base s.bytes) ss ++ stack_entries) a
  keyed_range [] w e = keyed_last (contains stack_range r) refl w e
  keyed_range (s ∷ ss) w e = by (λ later. keyed_range ss w later) (contains (segment_range s) r) refl e
    where
      by : (range_of (map memory_range ss ++ stack_memory ∷ []) r ≡ Some w
          → IsKeyed (flat_map (λ (s : SegmentState). enumerate_from s.base s.bytes) ss ++ stack_entries) a)
          → (b : Bool) → contains (segment_range s) r ≡ b
          → option_map (λ (x : MemoryRange). x.writable)
          (cond b (Some (memory_range s)) (find (λ x. contains x.range r) (map memory_range ss ++ stack_memory ∷ [])))
          ≡ Some w
          → IsKeyed ((enumerate_from s.base s.bytes
          ++ flat_map (λ (s : SegmentState). enumerate_from s.base s.bytes) ss) ++ stack_entries) a
      by rest true within e =
          let here = inside_of (segment_range s) r a within inside in
          keyed_front (enumerate_from s.base s.bytes
          ++ flat_map (λ (s : SegmentState). enumerate_from s.base s.bytes) ss) stack_entries a
          (keyed_front (enumerate_from s.base s.bytes)
          (flat_map (λ (s : SegmentState). enumerate_from s.base s.bytes) ss) a
          (keyed_enumerated s.base s.bytes a here.0 here.1))
      by rest false beyond e =
          keyed_behind (enumerate_from s.base s.bytes)
          (flat_map (λ (s : SegmentState). enumerate_from s.base s.bytes) ss) stack_entries a (rest e)

-- the loaded memory has the bytes of a range that lies in one of its ranges
pub loaded_covers : (i : ImageState) (r : Range) (w : Bool) (a : ℕ) → range_of (memory_ranges i) r ≡ Some w → Covers r a
    → HasByte (loaded i) a
unfolding loaded loaded_bytes
loaded_covers i r w a placed inside =
    ap is_some (get-from_entries nat_order.total (loaded_bytes i) a) ∙ keyed_range r a inside i.segments w placed
