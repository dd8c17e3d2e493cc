-- What holds of each range of memory, by its place, and that a list has nothing that passes a test.
use Rattle.std.proofs.Common.{◌≡◌, ℕ, ◌<◌, ◌≤◌, Bool, true, false, inl, inr, Option, Some, None, List, length, refl, sym, subst, ◌∙◌, arith, nat_le}
use Rattle.std.specs.Prelude.{IsSome, IsSomeAnd, IsTrue, slice_get, find, option_map}
use Rattle.std.proofs.lemmas.Option.{slice_get_within, slice_get_past, get_or_from_slice_get, same_Some, none-some}
use Rattle.std.proofs.lemmas.Bool.{and_parts, leb-true, lt-leb, and_left, and_right, le-leb, leb-false, and_from, and_cases, both_ways, cases_lt}
use Rattle.tss_base.specs.declared.range.Range.{Range}
use Rattle.tss_base.specs.Range.{end_of, contains}
use Rattle.tss_maps.proofs.Places.{find_first, find_nowhere, find_there}
use Rattle.tss_model.specs.Memory.{MemoryRange, range_of}
use Rattle.tss_memory.specs.Ranges.{AreRanges, CanRead, IsInside, IsPlaced, memory_end}

-- what a test of an option says
pub some_and : {A : Type 0} (o : Option A) (P : A → Type 0) → IsSomeAnd o P → (x : A) × (o ≡ Some x) × P x
some_and (Some x) P h = (x, refl, h)
some_and None P h = absurd h

-- an option that is some
pub some_there : {A : Type 0} (o : Option A) → IsSome o → (x : A) × (o ≡ Some x)
some_there (Some x) h = (x, refl)
some_there None h = absurd (cc)

-- an option whose image is some
pub some_mapped : {A B : Type 0} (f : A → B) (o : Option A) (y : B) → option_map f o ≡ Some y →
    (x : A) × (o ≡ Some x) × (f x ≡ y)
some_mapped f (Some x) y e = (x, refl, same_Some (f x) y e)
some_mapped f None y e = absurd (none-some y e)

-- a list in which nothing passes
pub find_none : {A : Type 0} (p : A → Bool) (xs : List A) →
    ((i : ℕ) (x : A) → slice_get xs i ≡ Some x → p x ≡ false) → find p xs ≡ None
find_none p xs fails =
    find_first p xs (length xs) (λ i x h. fails i x)
    (λ x e. absurd (none-some x (sym (slice_get_past xs (length xs) (omega arith)) ∙ e)))
    ∙ slice_get_past xs (length xs) (omega arith)

-- a range that contains another
pub contains_parts : (r s : Range) → contains r s ≡ true → (r.base ≤ s.base) × (end_of s ≤ end_of r)
contains_parts r s h =
    let p = and_parts (nat_le r.base s.base) (nat_le (end_of s) (end_of r)) h in
    (leb-true r.base s.base p.0, leb-true (end_of s) (end_of r) p.1)

pub contains_from : (r s : Range) → r.base ≤ s.base → end_of s ≤ end_of r → contains r s ≡ true
contains_from r s low high =
    and_from (nat_le r.base s.base) (nat_le (end_of s) (end_of r)) (le-leb r.base s.base low)
    (le-leb (end_of s) (end_of r) high)

-- one that ends before the other's end
pub contains_not_end : (r s : Range) → end_of r < end_of s → contains r s ≡ false
contains_not_end r s h = and_right (nat_le r.base s.base) (nat_le (end_of s) (end_of r))
    (lt-leb (end_of s) (end_of r) h)

-- one that begins after the other's base
pub contains_not_base : (r s : Range) → s.base < r.base → contains r s ≡ false
contains_not_base r s h = and_left (nat_le r.base s.base) (nat_le (end_of s) (end_of r)) (lt-leb r.base s.base h)

-- one that ends in time and still doesn't contain the other begins after it
pub begins_after : (r s : Range) → contains r s ≡ false → end_of s ≤ end_of r → s.base < r.base
begins_after r s h high =
    elim (and_cases (nat_le r.base s.base) (nat_le (end_of s) (end_of r)) h) [
      | inl low ↦ leb-false r.base s.base low
      | inr g ↦ absurd (both_ways (nat_le (end_of s) (end_of r)) g (le-leb (end_of s) (end_of r) high))
    ]

module _ (ranges : List MemoryRange) (are : AreRanges ranges) where
  -- the range at each place
  pub range_placed : (i : ℕ) (m : MemoryRange) → slice_get ranges i ≡ Some m → IsPlaced m
  range_placed i m e = subst IsPlaced (get_or_from_slice_get ranges i m m e)
      (are.each i m (slice_get_within ranges i m e))

  -- where a range lies in one of memory, it ends in time
  pub found_end : (r : Range) (w : Bool) → range_of ranges r ≡ Some w → end_of r ≤ memory_end
  found_end r w e =
      let m = some_mapped (λ m. m.writable) (find (λ m. contains m.range r) ranges) w e in
      let there = find_there (λ m. contains m.range r) ranges m.0 m.1 in
      let parts = contains_parts (m.0).range r there.2 in
      let placed = range_placed there.0 m.0 there.1 in
      omega arith

  -- bytes that can be read are no more than memory has
  pub count_readable : (at count : ℕ) → CanRead ranges at count → count ≤ memory_end
  count_readable at count can =
      elim (cases_lt 0 count) [
        | inl some ↦
            let w = some_there (range_of ranges (record { base = at; len = count })) (can some) in
            let ends = found_end (record { base = at; len = count }) w.0 w.1 in
            omega arith
        | inr none ↦ omega arith
      ]

-- an option that isn't none has an image
mapped_some : {A B : Type 0} (f : A → B) (o : Option A) → (o ≡ None → ⊥) → IsSome (option_map f o)
mapped_some f (Some x) h = refl
mapped_some f None h = absurd (h refl)

-- what lies in the range of memory at a place can be read
pub readable_inside : (ranges : List MemoryRange) (i : ℕ) (r : Range) → IsInside ranges i r →
    CanRead ranges r.base r.len
readable_inside ranges i r inside some =
    let there = some_and (slice_get ranges i) (λ m. IsTrue (contains m.range r)) inside in
    mapped_some (λ m. m.writable) (find (λ m. contains m.range r) ranges)
    (λ none. both_ways (contains (there.0).range r)
    (find_nowhere (λ m. contains m.range r) ranges none i there.0 there.1) there.2)
