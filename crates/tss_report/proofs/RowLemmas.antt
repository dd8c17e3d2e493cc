-- The rows of memory one after another.
use Rattle.std.proofs.Common.{◌≡◌, ℕ, suc, ◌+◌, ◌-◌, ◌<◌, ◌≤◌, true, false, cond, Some, List, [], ◌∷◌, ◌++◌, length, map, drop, refl, sym, ap, ◌∙◌, arith, length-append}
use Rattle.std.specs.Prelude.{◌*◌, min, flat_map, bytes_eq, slice_get}
use Rattle.std.specs.List.{range_with_len}
use Rattle.std.proofs.Math.ListN.{drop_of_length-le}
use Rattle.std.proofs.lemmas.List.{drop_more, length-map}
use Rattle.std.proofs.lemmas.Option.{get_or_from_slice_get, slice_get_within}
use Rattle.tss_base.specs.declared.range.Range.{Range}
use Rattle.tss_base.specs.Image.{ImageState}
use Rattle.tss_model.specs.Memory.{MemoryRange, Memory, bytes_of, loaded, memory_range, stack_range}
use Rattle.tss_report.specs.Rows.{row_len, row_at, row_count, row_line, row_text, rows_text, range_text, changed_text}

-- a row in which a byte has changed
pub row_changed : (old new : Memory) (row : Range) (now before : List ℕ) → now ≡ bytes_of new row →
    before ≡ bytes_of old row → bytes_eq now before ≡ false → row_line row.base now ≡ row_text old new row
row_changed old new row now before e f differ =
    ap (row_line row.base) e
    ∙ sym (ap (λ b. cond b [] (row_line row.base (bytes_of new row))) (sym (λ i. bytes_eq (e i) (f i)) ∙ differ))

-- the rows of a range from a place on
unfoldable pub rows_from : Memory → Memory → Range → ℕ → List ℕ
rows_from old new r k = flat_map (λ k. row_text old new (row_at r k)) (range_with_len k (row_count r - k))

module _ (old new : Memory) (r : Range) where
  -- at first all are left
  pub all_rows : rows_text old new r ≡ rows_from old new r 0
  unfolding rows_from
  all_rows =
      let all : row_count r ≡ row_count r - 0 = omega arith in
      ap (λ n. flat_map (λ k. row_text old new (row_at r k)) (range_with_len 0 n)) all

  -- in the end none is
  pub no_rows : (k : ℕ) → row_count r ≤ k → rows_from old new r k ≡ []
  unfolding rows_from
  no_rows k h =
      let none : row_count r - k ≡ 0 = omega arith in
      ap (λ n. flat_map (λ k. row_text old new (row_at r k)) (range_with_len k n)) none

  -- that of a place, whose length is n, and those after it
  pub rows_next : (k n : ℕ) → k < row_count r → n ≡ min row_len (r.len - row_len * k) →
      rows_from old new r k
      ≡ row_text old new (record { base = r.base + row_len * k; len = n }) ++ rows_from old new r (k + 1)
  unfolding rows_from
  rows_next k n h e =
      let one : row_count r - k ≡ suc (row_count r - (k + 1)) = omega arith in
      ap (λ n. flat_map (λ k. row_text old new (row_at r k)) (range_with_len k n)) one
      ∙ ap (λ n. row_text old new (record { base = r.base + row_len * k; len = n }) ++ rows_from old new r (k + 1))
      (sym e)

-- ---- ranges of memory

-- the ranges from a place on
unfoldable pub ranges_from : Memory → Memory → ℕ → List ℕ
ranges_from old new i = flat_map (range_text old new) (drop i new.ranges)

module _ (old new : Memory) where
  pub all_ranges : changed_text old new ≡ ranges_from old new 0
  unfolding ranges_from
  all_ranges = refl

  pub no_ranges : (i : ℕ) → length new.ranges ≤ i → ranges_from old new i ≡ []
  unfolding ranges_from
  no_ranges i h = ap (flat_map (range_text old new)) (drop_of_length-le new.ranges h)

  pub ranges_next : (i : ℕ) (m : MemoryRange) → slice_get new.ranges i ≡ Some m →
      ranges_from old new i ≡ range_text old new m ++ ranges_from old new (i + 1)
  unfolding ranges_from
  ranges_next i m there =
      ap (flat_map (range_text old new)) (drop_more new.ranges i m (slice_get_within new.ranges i m there))
      ∙ ap (λ (x : MemoryRange). range_text old new x ++ flat_map (range_text old new) (drop (i + 1) new.ranges))
      (get_or_from_slice_get new.ranges i m m there)

-- there is one range more than segments
pub range_count : (i : ImageState) → length ((loaded i).ranges) ≡ length i.segments + 1
unfolding loaded
range_count i =
    length-append (map memory_range i.segments) (record { range = stack_range; writable = true } ∷ [])
    ∙ ap (λ n. n + 1) (length-map i.segments memory_range)
