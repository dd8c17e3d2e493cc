-- Ranges in address order, of blocks or of segments: where they end, and which is the first that contains another.
use Rattle.std.proofs.Common.{◌≡◌, ℕ, ◌<◌, ◌≤◌, ◌⊎◌, inl, inr, Bool, true, false, cond, Option, Some, None, List, [], ◌∷◌, length, map, refl, sym, ap, subst, ◌∙◌, arith, get_or}
use Rattle.std.specs.Prelude.{slice_get, find, option_map, IsTrue, IsSomeAnd, AllPairs}
use Rattle.std.specs.List.Sorted.{IsNonDecreasingBy, IsPartitionPoint}
use Rattle.std.proofs.lemmas.Option.{slice_get_within, slice_get-get_or, slice_get_read, slice_get-map, get_or_from_slice_get, same_Some}
use Rattle.std.proofs.lemmas.List.{get_or-map, length-map}
use Rattle.std.proofs.lemmas.Bool.{cases_order}
use Rattle.tss_base.specs.declared.range.Range.{Range}
use Rattle.tss_base.specs.Range.{end_of, contains}
use Rattle.tss_maps.proofs.Places.{find_first}
use Rattle.tss_model.specs.Memory.{MemoryRange}
use Rattle.tss_memory.specs.Ranges.{memory_end, range_with}
use Rattle.tss_memory.specs.Blocks.{BlockState, AreBlocks, IsInBlock, block_range, memory_range_of, ranges_in}
use Rattle.tss_memory.proofs.RangeLemmas.{some_and, find_none, contains_parts, contains_not_end, contains_not_base, begins_after, range_placed}

-- the first that passes of a list of images
find_map : {A B : Type 0} (f : A → B) (p : B → Bool) (xs : List A) →
    find p (map f xs) ≡ option_map f (find (λ x. p (f x)) xs)
find_map f p [] = refl
find_map f p (x ∷ xs) = by_test (p (f x)) (find_map f p xs) where
  by_test : (b : Bool) → find p (map f xs) ≡ option_map f (find (λ y. p (f y)) xs) →
      cond b (Some (f x)) (find p (map f xs)) ≡ option_map f (cond b (Some x) (find (λ y. p (f y)) xs))
  by_test true rest = refl
  by_test false rest = rest

module _ {X : Type 0} (range : X → Range) (xs : List X) where
  -- at a place of the list stands one that contains r
  abbrev pub HoldsAtPlace : Range → ℕ → Type 0
  HoldsAtPlace r i = IsSomeAnd (slice_get xs i) (λ x. IsTrue (contains (range x) r))

  -- no later one begins before an earlier one ends
  abbrev pub AreApart : Type 0
  AreApart = AllPairs (λ x y. end_of (range x) ≤ (range y).base) xs

  -- one that was read at its place and contains r
  pub holds_read : (r : Range) (i : ℕ) (x : X) → i < length xs → x ≡ get_or xs i x → contains (range x) r ≡ true →
      HoldsAtPlace r i
  holds_read r i x h e t =
      subst (λ (o : Option X). IsSomeAnd o (λ y. IsTrue (contains (range y) r)))
      (sym (slice_get_read xs (length xs) i x refl h e)) t

  -- one that doesn't
  pub fails_read : (r : Range) (i : ℕ) (x : X) → i < length xs → x ≡ get_or xs i x → contains (range x) r ≡ false →
      (y : X) → slice_get xs i ≡ Some y → contains (range y) r ≡ false
  fails_read r i x h e f y there =
      ap (λ (z : X). contains (range z) r) (same_Some y x (sym there ∙ slice_get_read xs (length xs) i x refl h e)) ∙ f

module _ {X : Type 0} (range : X → Range) (xs : List X) (apart : AreApart range xs) where
  -- two at places in order
  pub in_order : (i j : ℕ) (x y : X) → i < j → slice_get xs i ≡ Some x → slice_get xs j ≡ Some y →
      end_of (range x) ≤ (range y).base
  in_order i j x y h e f =
      let both : end_of (range (get_or xs i x)) ≤ (range (get_or xs j x)).base = apart i j x h
      (slice_get_within xs j y f) in
      let left : end_of (range x) ≤ (range (get_or xs j x)).base =
      subst (λ (z : X). end_of (range z) ≤ (range (get_or xs j x)).base) (get_or_from_slice_get xs i x x e) both in
      subst (λ (z : X). end_of (range x) ≤ (range z).base) (get_or_from_slice_get xs j y x f) left

  -- the ends rise
  pub ends_rise : IsNonDecreasingBy (λ x. end_of (range x)) xs
  ends_rise i j d h within = rise (cases_order i j) where
    at_i : slice_get xs i ≡ Some (get_or xs i d)
    at_i = slice_get-get_or xs i d (omega arith)

    at_j : slice_get xs j ≡ Some (get_or xs j d)
    at_j = slice_get-get_or xs j d within

    rise : (i ≡ j) ⊎ ((i < j) ⊎ (j < i)) → end_of (range (get_or xs i d)) ≤ end_of (range (get_or xs j d))
    rise (inl e) = subst (λ (k : ℕ). end_of (range (get_or xs i d)) ≤ end_of (range (get_or xs k d))) e (omega arith)
    rise (inr (inl l)) =
        let ordered : end_of (range (get_or xs i d)) ≤ (range (get_or xs j d)).base = in_order i j _ _ l at_i at_j in
        omega arith
    rise (inr (inr g)) = absurd (omega arith)

  -- the one at a place, where those before it end before r does
  first_found : (r : Range) (i : ℕ) → ((j : ℕ) (x : X) → j < i → slice_get xs j ≡ Some x →
      end_of (range x) < end_of r) → HoldsAtPlace range xs r i → find (λ x. contains (range x) r) xs ≡ slice_get xs i
  first_found r i before inside =
      let there = some_and (slice_get xs i) (λ x. IsTrue (contains (range x) r)) inside in
      find_first (λ x. contains (range x) r) xs i
      (λ j x h e. contains_not_end (range x) r (before j x h e))
      (λ x e. ap (λ (z : X). contains (range z) r) (same_Some x there.0 (sym e ∙ there.1)) ∙ there.2)

  -- one that isn't empty lies in one at most
  pub only_found : (r : Range) (i : ℕ) → 0 < r.len → HoldsAtPlace range xs r i →
      find (λ x. contains (range x) r) xs ≡ slice_get xs i
  only_found r i some inside =
      let there = some_and (slice_get xs i) (λ x. IsTrue (contains (range x) r)) inside in
      let parts = contains_parts (range there.0) r there.2 in
      first_found r i (λ j x h e. let ordered = in_order j i x there.0 h e there.1 in omega arith) inside

  module _ (r : Range) (i : ℕ) (point : IsPartitionPoint (λ x. end_of (range x) < end_of r)
      (λ x. end_of r ≤ end_of (range x)) xs i) where
    -- those before the place end before r does
    end_before : (j : ℕ) (x : X) → j < i → slice_get xs j ≡ Some x → end_of (range x) < end_of r
    end_before j x h e = subst (λ (z : X). end_of (range z) < end_of r) (get_or_from_slice_get xs j x x e)
        (point.0 j x (omega arith) h)

    -- the first that ends no sooner than r
    pub point_found : HoldsAtPlace range xs r i → find (λ x. contains (range x) r) xs ≡ slice_get xs i
    point_found inside = first_found r i end_before inside

    -- where that one begins too late, or there is none, none contains r
    pub point_none : ((x : X) → slice_get xs i ≡ Some x → contains (range x) r ≡ false) →
        find (λ x. contains (range x) r) xs ≡ None
    point_none outside = find_none (λ x. contains (range x) r) xs (λ j x e. fails j x e (cases_order i j)) where
      later : (j : ℕ) (x : X) → i < j → slice_get xs j ≡ Some x → contains (range x) r ≡ false
      later j x h e =
          let within = slice_get_within xs j x e in
          let there = slice_get-get_or xs i x (omega arith) in
          let ordered = in_order i j (get_or xs i x) x h there e in
          let begins = begins_after (range (get_or xs i x)) r (outside (get_or xs i x) there)
          (point.1 i x (omega arith) (omega arith)) in
          contains_not_base (range x) r (omega arith)

      fails : (j : ℕ) (x : X) → slice_get xs j ≡ Some x → (i ≡ j) ⊎ ((i < j) ⊎ (j < i)) → contains (range x) r ≡ false
      fails j x e (inl s) = outside x (ap (slice_get xs) s ∙ e)
      fails j x e (inr (inl l)) = later j x l e
      fails j x e (inr (inr g)) = contains_not_end (range x) r (end_before j x g e)

-- ---- blocks

-- the range of memory that contains r is that of the block that does
pub range_with-blocks : (blocks : List BlockState) (r : Range) →
    range_with (ranges_in blocks) r ≡ option_map memory_range_of (find (λ b. contains (block_range b) r) blocks)
range_with-blocks blocks r = find_map memory_range_of (λ m. contains m.range r) blocks

module _ (blocks : List BlockState) (are : AreBlocks blocks) where
  -- the blocks are in address order
  pub blocks_apart : AreApart block_range blocks
  blocks_apart i j d h within =
      let e : MemoryRange = memory_range_of d in
      let both : end_of ((get_or (ranges_in blocks) i e).range) ≤ (get_or (ranges_in blocks) j e).range.base =
      are.ordered i j e h (omega (arith, length-map blocks memory_range_of)) in
      let left : end_of (block_range (get_or blocks i d)) ≤ (get_or (ranges_in blocks) j e).range.base =
      subst (λ (m : MemoryRange). end_of (m.range) ≤ (get_or (ranges_in blocks) j e).range.base)
      (get_or-map memory_range_of blocks i d e (omega arith)) both in
      subst (λ (m : MemoryRange). end_of (block_range (get_or blocks i d)) ≤ m.range.base)
      (get_or-map memory_range_of blocks j d e within) left

  -- a range in a block ends where memory does, or before
  pub inside_end : (r : Range) (i : ℕ) → IsInBlock blocks r i → end_of r ≤ memory_end
  inside_end r i inside =
      let there = some_and (slice_get blocks i) (λ b. IsTrue (contains (block_range b) r)) inside in
      let parts = contains_parts (block_range there.0) r there.2 in
      let placed = range_placed (ranges_in blocks) are i (memory_range_of there.0)
      (slice_get-map memory_range_of blocks i ∙ ap (option_map memory_range_of) there.1) in
      omega arith

-- the range of memory at a place is that of the block there, where a search finds that block
pub range_found : (blocks : List BlockState) (r : Range) (o : Option BlockState) →
    find (λ b. contains (block_range b) r) blocks ≡ o → range_with (ranges_in blocks) r ≡ option_map memory_range_of o
range_found blocks r o e = range_with-blocks blocks r ∙ ap (option_map memory_range_of) e
