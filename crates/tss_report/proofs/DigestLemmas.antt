-- The bytes of the ranges that can be written, one range after another, as a hasher takes them.
use Rattle.std.proofs.Common.{◌≡◌, ℕ, ◌+◌, ◌<◌, ◌≤◌, Bool, inl, inr, Option, Some, None, List, [], ◌++◌, length, drop, refl, sym, ap, ◌∙◌, subst, append_assoc, append-nil, arith}
use Rattle.std.specs.Prelude.{IsSomeAnd, IsTrue, flat_map, option_map, slice_get}
use Rattle.std.proofs.Math.ListN.{drop_of_length-le}
use Rattle.std.proofs.lemmas.List.{drop_more}
use Rattle.std.proofs.lemmas.Option.{get_or_from_slice_get, none-some, slice_get_cases, slice_get_within}
use Rattle.sha2.specs.Hashers.{Holds256}
use Rattle.sha2.specs.declared.Sha256.{Sha256}
use Rattle.tss_base.specs.declared.range.Range.{Range}
use Rattle.tss_base.specs.Range.{contains}
use Rattle.tss_memory.specs.Ranges.{CanRead}
use Rattle.tss_memory.proofs.RangeLemmas.{contains_from, readable_inside, some_mapped}
use Rattle.tss_model.specs.Memory.{MemoryRange, Memory}
use Rattle.tss_report.specs.MemoryDigest.{hashed_bytes, writable_bytes}

-- those of the ranges from a place on
unfoldable pub bytes_from : Memory → ℕ → List ℕ
bytes_from m i = flat_map (hashed_bytes m) (drop i m.ranges)

-- the hasher holds those of the ranges before a place
pub record HasHashed (hasher : Sha256) (m : Memory) (i : ℕ) : Type 0 where
  pub done : List ℕ
  pub holds : Holds256 hasher done
  pub parts : writable_bytes m ≡ done ++ bytes_from m i

-- a range and whether it can be written, as a pair, and as what is found
abbrev both : MemoryRange → Range × Bool
both m = (m.range, m.writable)

abbrev told : Range × Bool → Option (Range × Bool)
told p = Some p

-- these are the range of memory at a place, and whether it can be written
pub record IsAt (m : Memory) (i : ℕ) (range : Range) (writable : Bool) : Type 0 where
  pub found : MemoryRange
  pub there : slice_get m.ranges i ≡ Some found
  pub range_is : found.range ≡ range
  pub writable_is : found.writable ≡ writable

module _ (m : Memory) where
  -- what was found at a place
  pub is_at : (i : ℕ) (range : Range) (writable : Bool) → told (range, writable) ≡ option_map both (slice_get m.ranges i) →
      IsAt m i range writable
  is_at i range writable e =
      let p = some_mapped both (slice_get m.ranges i) (range, writable) (sym e) in
      record {
        found = p.0;
        there = p.1;
        range_is = ap (λ (q : Range × Bool). q.0) p.2;
        writable_is = ap (λ (q : Range × Bool). q.1) p.2;
      }

  -- it has a place, and it can be read
  pub within : {i : ℕ} {range : Range} {writable : Bool} → IsAt m i range writable → i < length m.ranges
  within {i = i} at = slice_get_within m.ranges i at.found at.there

  pub readable : {i : ℕ} {range : Range} {writable : Bool} → IsAt m i range writable → CanRead m.ranges range.base range.len
  readable {i = i} {range = range} at =
      readable_inside m.ranges i range
      (subst (λ o. IsSomeAnd o (λ m. IsTrue (contains m.range range))) (sym at.there)
      (subst (λ r. IsTrue (contains r range)) (sym at.range_is) (contains_from range range (omega arith) (omega arith))))

  -- nothing was found, so there are no more
  pub none_at : (i : ℕ) → None ≡ option_map both (slice_get m.ranges i) → length m.ranges ≤ i
  none_at i e =
      elim ((slice_get_cases m.ranges i).1) [
        | inl p ↦ absurd (none-some _ (e ∙ ap (option_map both) p.2))
        | inr p ↦ p.0
      ]

  all_bytes : writable_bytes m ≡ bytes_from m 0
  unfolding bytes_from
  all_bytes = refl

  no_bytes : (i : ℕ) → length m.ranges ≤ i → bytes_from m i ≡ []
  unfolding bytes_from
  no_bytes i h = ap (flat_map (hashed_bytes m)) (drop_of_length-le m.ranges h)

  -- those of a range, and those after it
  bytes_next : (i : ℕ) (r : MemoryRange) → slice_get m.ranges i ≡ Some r →
      bytes_from m i ≡ hashed_bytes m r ++ bytes_from m (i + 1)
  unfolding bytes_from
  bytes_next i r there =
      ap (flat_map (hashed_bytes m)) (drop_more m.ranges i r (slice_get_within m.ranges i r there))
      ∙ ap (λ (x : MemoryRange). hashed_bytes m x ++ flat_map (hashed_bytes m) (drop (i + 1) m.ranges))
      (get_or_from_slice_get m.ranges i r r there)

  -- at first nothing is hashed
  pub nothing_hashed : (h : Sha256) → Holds256 h [] → HasHashed h m 0
  nothing_hashed h empty = record { done = []; holds = empty; parts = all_bytes }

  -- one range more was taken
  pub range_hashed : {old new : Sha256} {i : ℕ} {range : Range} {writable : Bool} (bytes : List ℕ) → HasHashed old m i →
      IsAt m i range writable → bytes ≡ hashed_bytes m (record { range = range; writable = writable }) →
      ((done : List ℕ) → Holds256 old done → Holds256 new (done ++ bytes)) → HasHashed new m (i + 1)
  range_hashed {i = i} bytes has at are took =
      let found : MemoryRange = at.found in
      let same : hashed_bytes m found ≡ bytes =
      (λ i. hashed_bytes m (record { range = at.range_is i; writable = at.writable_is i })) ∙ sym are in
      let next : bytes_from m i ≡ bytes ++ bytes_from m (i + 1) =
      bytes_next i found at.there ∙ ap (λ l. l ++ bytes_from m (i + 1)) same in
      record {
        done = has.done ++ bytes;
        holds = took has.done has.holds;
        parts = has.parts ∙ ap (λ l. has.done ++ l) next ∙ sym (append_assoc has.done bytes (bytes_from m (i + 1)));
      }

  -- in the end all are hashed
  pub all_hashed : (h : Sha256) (i : ℕ) → HasHashed h m i → length m.ranges ≤ i → Holds256 h (writable_bytes m)
  all_hashed h i has end =
      subst (Holds256 h)
      (sym (has.parts ∙ ap (λ l. has.done ++ l) (no_bytes i end) ∙ append-nil has.done)) has.holds
