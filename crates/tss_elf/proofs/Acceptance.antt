-- An image that passes every check can be run.
use Rattle.std.proofs.Common.{◌≡◌, ℕ, ◌+◌, ◌%◌, ◌<◌, ◌≤◌, Bool, true, false, ◌&&◌, ◌||◌, not, List, [], ◌∷◌, length}
use Rattle.std.proofs.Common.{get_or, refl, sym, ap, ◌∙◌, subst, arith, None}
use Rattle.std.specs.Prelude.{All, AllPairs, Any, map, filter, flat_map, sum_by, nat_lt, nat_le, nat_eq}
use Rattle.std.specs.List.{list_any}
use Rattle.std.specs.List.Sorted.{IsPermutation}
use Rattle.std.proofs.lemmas.Bool.{and_parts, or_parts, not-false, ltb-true, ltb-false, leb-true, eqb-true, cond_both}
use Rattle.std.proofs.lemmas.Bool.Decides.{nat_tests}
use Rattle.std.proofs.lemmas.List.{length-map, get_or-map}
use Rattle.std.proofs.lemmas.List.Elements.{All-cons, All-head, All-tail, All-nil, All-map}
use Rattle.std.proofs.lemmas.List.Folds.{Any-from_list_any}
use Rattle.std.proofs.lemmas.List.Kept.{AllPairs-cons}
use Rattle.std.proofs.lemmas.List.Sorted.{All-permutation, length_permutation, list_any-IsPermutation}
use Rattle.std.proofs.lemmas.List.Sorted.{sum_by-IsPermutation}
use Rattle.std.proofs.lemmas.List.Sums.{sum_by-cons, length-filter, count_by-le-length}
use Rattle.tss_base.specs.Image.{IsAccepted, IsSegment, HasCodeAt, segment_end}
use Rattle.tss_base.specs.declared.addresses.TheConstants.{SEGMENTS_END}
use Rattle.tss_base.specs.declared.bounds.TheConstants.{MAX_SEGMENTS, MAX_IMAGE_BYTES}
use Rattle.tss_base.specs.Range.{end_of}
use Rattle.tss_elf.specs.declared.header.ProgramHeader.{ProgramHeader}
use Rattle.tss_elf.specs.declared.refusal.Refusal.{Refusal}
use Rattle.tss_elf.specs.declared.refusal.Refusal.TheVariants as check
use Rattle.tss_elf.specs.Fields.{headers, header_count, kept_headers, is_kept, is_loaded, is_code, range_of, entry_of}
use Rattle.tss_elf.specs.Checks.{each_header_checks, file_checks, header_checks, kept_checks, first_failing}
use Rattle.tss_elf.specs.Checks.{has_code_at, is_misplaced}
use Rattle.tss_elf.specs.Checks.{is_oversized, has_bad_header_size}
use Rattle.tss_elf.specs.Elf.{CanLoad, by_address, segment_of, loaded_image}
use Rattle.tss_elf.proofs.Failing.{passed_before, passed_after, length-headers}
use Rattle.tss_elf.proofs.Loading.{length-loaded_bytes}
use Rattle.tss_elf.proofs.Pairs.{AllPairs-head, AllPairs-tail, AllPairs-IsPermutation, AreApart, shares_address-sym}
use Rattle.tss_elf.proofs.Pairs.{apart_from_test}
use Rattle.tss_elf.proofs.Orders.{IsBelow, IsElsewhere, IsPermutation-by_address, rising-by_address}

-- where none fails, each passes
pub all_passed : (cs : List (Refusal × Bool)) → first_failing cs ≡ None → All (λ c. c.1 ≡ false) cs
all_passed [] e = All-nil (λ c. c.1 ≡ false)
all_passed ((check, true) ∷ cs) e = cc
all_passed ((check, false) ∷ cs) e = All-cons (λ c. c.1 ≡ false) (check, false) cs refl (all_passed cs e)

-- the second of two tests fails where both don't pass and the first does
second_false : (a b : Bool) → a ≡ true → (a && b) ≡ false → b ≡ false
second_false true b passes fails = fails
second_false false b passes fails = cc

-- a header that passes and is kept can be loaded
can_load : (file_len : ℕ) (h : ProgramHeader) → first_failing (header_checks file_len h) ≡ None → is_kept h ≡ true
    → CanLoad file_len h
can_load file_len h passed kept =
    let each = all_passed (header_checks file_len h) passed in
    let parts = and_parts (is_loaded h) (nat_lt 0 h.memory_size) kept in
    let some = ltb-true 0 h.memory_size parts.1 in
    let misplaced : is_misplaced file_len h ≡ false = each 1 (check.Dynamic, false) (omega arith) in
    let oversized : is_oversized h ≡ false = each 2 (check.Dynamic, false) (omega arith) in
    let past_file = nat_lt file_len (h.offset + h.file_size) in
    let past_end = nat_lt SEGMENTS_END (end_of (range_of h)) in
    let inside : (past_file ≡ false) × (past_end ≡ false) =
    or_parts past_file past_end (second_false (is_loaded h) (past_file || past_end) parts.0 misplaced) in
    let smaller : nat_lt h.memory_size h.file_size ≡ false =
    second_false (is_loaded h) (nat_lt h.memory_size h.file_size) parts.0 oversized in
    record {
      some = some;
      stored = ltb-false file_len (h.offset + h.file_size) inside.0;
      within = ltb-false h.memory_size h.file_size smaller;
      placed = ltb-false SEGMENTS_END (h.address + h.memory_size) inside.1;
    }

-- so can each kept one, where all headers pass
pub all_can_load : (file_len : ℕ) (hs : List ProgramHeader)
    → first_failing (flat_map (header_checks file_len) hs) ≡ None → All (CanLoad file_len) (filter is_kept hs)
all_can_load file_len [] e = All-nil (CanLoad file_len)
all_can_load file_len (h ∷ hs) e =
    let rest =
    all_can_load file_len hs (passed_after (header_checks file_len h) (flat_map (header_checks file_len) hs) e) in
    let here = passed_before (header_checks file_len h) (flat_map (header_checks file_len) hs) e in
    cond_both (is_kept h) (h ∷ filter is_kept hs) (filter is_kept hs) (All (CanLoad file_len))
    (λ kept. All-cons (CanLoad file_len) h (filter is_kept hs) (can_load file_len h here kept) rest)
    (λ _. rest)

-- a list with an element that passes isn't empty
some_passes : {X : Type 0} (p : X → Bool) (xs : List X) → list_any p xs ≡ true → 0 < length xs
some_passes p [] e = cc
some_passes p (x ∷ xs) e = omega arith

-- what holds of each two images of elements
AllPairs-map : {X Y : Type 0} (f : X → Y) (R : Y → Y → Type 0) (xs : List X) → AllPairs (λ x y. R (f x) (f y)) xs
    → AllPairs R (map f xs)
AllPairs-map f R [] h = λ i j d below within. absurd (omega arith)
AllPairs-map f R (x ∷ xs) h =
    AllPairs-cons R (f x) (map f xs)
    (All-map (R (f x)) f xs (AllPairs-head (λ y z. R (f y) (f z)) x xs h))
    (AllPairs-map f R xs (AllPairs-tail (λ y z. R (f y) (f z)) x xs h))

-- segments that are apart and not empty, the one below the other: it ends before the other begins
ends_before : (g h : ProgramHeader) → AreApart g h → IsBelow g h → 0 < h.memory_size → end_of (range_of g) ≤ h.address
ends_before g h apart below some = grind (arith, nat_tests)

-- segments that are apart and not empty begin at different addresses
begin_elsewhere : (g h : ProgramHeader) → AreApart g h → 0 < g.memory_size → 0 < h.memory_size → IsElsewhere g h
begin_elsewhere g h apart some_g some_h same = grind (arith, nat_tests)

module _ (bytes : List ℕ) where
  -- a header that can be loaded has a segment in its place
  is_segment : (h : ProgramHeader) → CanLoad (length bytes) h → IsSegment (segment_of bytes h)
  is_segment h can =
      let size = length-loaded_bytes bytes h can in (omega (arith, size, can.some), omega (arith, size, can.placed))

  -- the segments have together as many bytes as their headers say
  sum_of_segments : (hs : List ProgramHeader) → All (CanLoad (length bytes)) hs
      → sum_by (λ s. length s.bytes) (map (segment_of bytes) hs) ≡ sum_by (λ h. h.memory_size) hs
  sum_of_segments [] can = refl
  sum_of_segments (h ∷ hs) can =
      let one = length-loaded_bytes bytes h (All-head (CanLoad (length bytes)) h hs can) in
      let others = sum_of_segments hs (All-tail (CanLoad (length bytes)) h hs can) in
      sum_by-cons (λ s. length s.bytes) (segment_of bytes h) (map (segment_of bytes) hs)
      ∙ ap (λ n. n + sum_by (λ s. length s.bytes) (map (segment_of bytes) hs)) one
      ∙ ap (λ n. h.memory_size + n) others
      ∙ sym (sum_by-cons (λ g. g.memory_size) h hs)

  -- a header that has the entry has it in its segment
  has_code : (h : ProgramHeader) → CanLoad (length bytes) h → has_code_at (entry_of bytes) h ≡ true
      → HasCodeAt (entry_of bytes) (segment_of bytes h)
  has_code h can e =
      let size = length-loaded_bytes bytes h can in
      let parts = and_parts (is_code h) _ e in
      let ends =
      and_parts (nat_le h.address (entry_of bytes)) (nat_le (entry_of bytes + 4) (end_of (range_of h))) parts.1 in
      let before = leb-true h.address (entry_of bytes) ends.0 in
      let after = leb-true (entry_of bytes + 4) (end_of (range_of h)) ends.1 in
      (parts.0, before, omega (arith, size, after))

  entered : (hs : List ProgramHeader) → All (CanLoad (length bytes)) hs
      → list_any (has_code_at (entry_of bytes)) hs ≡ true
      → Any (HasCodeAt (entry_of bytes)) (map (segment_of bytes) hs)
  entered hs can e = entered_at (Any-from_list_any (has_code_at (entry_of bytes)) hs e) where
    entered_at : Any (λ h. has_code_at (entry_of bytes) h ≡ true) hs
        → Any (HasCodeAt (entry_of bytes)) (map (segment_of bytes) hs)
    entered_at (k, h, within, is, passes) =
        let here = subst (CanLoad (length bytes)) is (can k h within) in (
          k,
          segment_of bytes h,
          omega (arith, length-map hs (segment_of bytes)),
          get_or-map (segment_of bytes) hs k h
              (segment_of bytes h) within ∙ ap (segment_of bytes) is,
          has_code h here passes,
        )

  -- kept headers can be loaded where all headers pass, and are few where the file header passes
  pub kept_can_load : first_failing (each_header_checks bytes) ≡ None
      → All (CanLoad (length bytes)) (kept_headers bytes)
  kept_can_load each = all_can_load (length bytes) (headers bytes) each

  pub kept_few : first_failing (file_checks bytes) ≡ None → length (kept_headers bytes) ≤ MAX_SEGMENTS
  kept_few file =
      let test : has_bad_header_size bytes ≡ false =
      all_passed (file_checks bytes) file 8 (check.Short, false) (omega arith) in
      let count =
      ltb-false MAX_SEGMENTS (header_count bytes) (or_parts (nat_lt MAX_SEGMENTS (header_count bytes)) _ test).0
      in
      omega (
        arith,
        count,
        length-filter is_kept (headers bytes),
        count_by-le-length is_kept (headers bytes),
        length-headers bytes,
      )

  -- an image whose headers pass, and whose kept segments pass together: no two of them share an address
  module _ (file : first_failing (file_checks bytes) ≡ None)
      (each : first_failing (each_header_checks bytes) ≡ None)
      (together : first_failing (kept_checks (entry_of bytes) (kept_headers bytes)) ≡ None) where
    kept_apart : AllPairs AreApart (kept_headers bytes)
    kept_apart =
        apart_from_test (kept_headers bytes)
        (all_passed (kept_checks (entry_of bytes) (kept_headers bytes)) together 0 (check.Short, false) (omega arith))

    -- the same in the order of the addresses
    moved : IsPermutation (kept_headers bytes) (by_address (kept_headers bytes))
    moved = IsPermutation-by_address (kept_headers bytes)

    can_load_in_order : All (CanLoad (length bytes)) (by_address (kept_headers bytes))
    can_load_in_order =
        All-permutation (CanLoad (length bytes)) (kept_headers bytes) (by_address (kept_headers bytes)) moved
        (kept_can_load each)

    rising : AllPairs IsBelow (by_address (kept_headers bytes))
    rising = rising-by_address (kept_headers bytes) (λ i j d below within.
        begin_elsewhere (get_or (kept_headers bytes) i d) (get_or (kept_headers bytes) j d)
        (kept_apart i j d below within)
        (kept_can_load each i d (omega arith)).some (kept_can_load each j d within).some)

    apart_in_order : AllPairs AreApart (by_address (kept_headers bytes))
    apart_in_order =
        AllPairs-IsPermutation AreApart shares_address-sym (kept_headers bytes) (by_address (kept_headers bytes))
        moved kept_apart

    -- what the checks of the kept segments say
    code_passes : list_any is_code (kept_headers bytes) ≡ true
    code_passes =
        not-false (list_any is_code (kept_headers bytes))
        (all_passed (kept_checks (entry_of bytes) (kept_headers bytes)) together 1 (check.Short, false) (omega arith))

    entry_passes : (nat_eq (entry_of bytes % 4) 0 ≡ true) ×
        (list_any (has_code_at (entry_of bytes)) (kept_headers bytes) ≡ true)
    entry_passes =
        let aligned = nat_eq (entry_of bytes % 4) 0 in
        let placed = list_any (has_code_at (entry_of bytes)) (kept_headers bytes) in
        let test =
        all_passed (kept_checks (entry_of bytes) (kept_headers bytes)) together 2 (check.Short, false)
        (omega arith) in
        let parts = or_parts (not aligned) (not placed) test in
        (not-false aligned parts.0, not-false placed parts.1)

    size_passes : sum_by (λ h. h.memory_size) (kept_headers bytes) ≤ MAX_IMAGE_BYTES
    size_passes =
        ltb-false MAX_IMAGE_BYTES (sum_by (λ h. h.memory_size) (kept_headers bytes))
        (all_passed (kept_checks (entry_of bytes) (kept_headers bytes)) together 3 (check.Short, false) (omega arith))

    -- it can be run
    pub IsAccepted-loaded_image : IsAccepted (loaded_image bytes)
    IsAccepted-loaded_image =
        let kept = kept_headers bytes in
        let hs = by_address kept in
        let count = length-map hs (segment_of bytes) in
        let same = length_permutation kept hs moved in
        let some = some_passes is_code kept code_passes in
        let placed = sym (list_any-IsPermutation (has_code_at (entry_of bytes)) kept hs moved) ∙ entry_passes.1 in
        let bytes_of = sum_of_segments hs can_load_in_order ∙ sum_by-IsPermutation (λ h. h.memory_size) kept hs moved in
        record {
          some = omega (arith, count, same, some);
          few = omega (arith, count, same, kept_few file);
          each =
              All-map IsSegment (segment_of bytes) hs
              (λ k d within. is_segment (get_or hs k d) (can_load_in_order k d within));
          ordered = AllPairs-map (segment_of bytes) (λ s t. segment_end s ≤ t.base) hs (λ i j d below within.
              let can = can_load_in_order i d (omega arith) in
              let size = length-loaded_bytes bytes (get_or hs i d) can in
              let ends =
              ends_before (get_or hs i d) (get_or hs j d) (apart_in_order i j d below within)
              (rising i j d below within) (can_load_in_order j d within).some in
              omega (arith, size, ends));
          small = omega (arith, bytes_of, size_passes);
          aligned = eqb-true (entry_of bytes % 4) 0 entry_passes.0;
          entered = entered hs can_load_in_order placed;
        }
