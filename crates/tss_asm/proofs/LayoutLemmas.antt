-- Where the segments and the entry lie: what the checks of an image ask of them.
use Rattle.std.proofs.Common.{◌≡◌, ℕ, ◌+◌, ◌*◌, ◌%◌, ◌<◌, ◌≤◌, Bool, true, false, ◌||◌, not, cond, refl, sym, ap, ◌∙◌}
use Rattle.std.proofs.Common.{arith, Option, Some, None, List, [], ◌∷◌, length, true≢false}
use Rattle.std.specs.Prelude.{All, filter, is_some, nat_lt, ◌==◌}
use Rattle.std.proofs.lemmas.Bool.{or_parts, ltb-false}
use Rattle.std.proofs.lemmas.Bool.Decides.{nat_tests}
use Rattle.tss_base.specs.declared.addresses.TheConstants.{SEGMENTS_END}
use Rattle.tss_base.specs.declared.bounds.TheConstants.{MAX_IMAGE_BYTES}
use Rattle.tss_base.specs.Range.{meets}
use Rattle.tss_elf.specs.declared.header.ProgramHeader.{ProgramHeader}
use Rattle.tss_elf.specs.declared.refusal.Refusal.TheVariants as check
use Rattle.tss_elf.specs.Fields.{is_kept, range_of}
use Rattle.tss_elf.specs.Checks.{kept_checks, first_failing, is_misplaced}
use Rattle.tss_elf.specs.Checks.{has_overlap, has_no_code, has_misplaced_entry, is_too_large}
use Rattle.tss_elf.proofs.Acceptance.{all_passed}
use Rattle.tss_asm.specs.Labels.{label_place}
use Rattle.tss_asm.specs.Program.{ProgramState}
use Rattle.tss_asm.specs.Words.{address_of}
use Rattle.tss_asm.specs.Image.{text_header, data_header, data_offset, file_len, text_len, data_len}
use Rattle.tss_asm.specs.Faults.{layout_checks, has_bad_layout}

-- the segments are small together, end in time and share no address, and the entry is a word of the text
pub record IsLaidOut (p : ProgramState) (entry : ℕ) : Type 0 where
  pub small : text_len p + (data_len p + p.zeros) ≤ MAX_IMAGE_BYTES
  pub inside : label_place p.labels entry < length p.text
  pub aligned : p.text_at % 4 ≡ 0
  pub text_end : p.text_at + text_len p ≤ SEGMENTS_END
  pub data_end : p.data_at + (data_len p + p.zeros) ≤ SEGMENTS_END
  pub apart : meets (range_of (text_header p)) (range_of (data_header p)) ≡ false

-- none fails exactly where there is no first
pub none_failing : {X : Type 0} (o : Option X) → is_some o ≡ false → o ≡ None
none_failing None e = refl
none_failing (Some x) e = absurd (true≢false e)

pub none_is : {X : Type 0} (o : Option X) → o ≡ None → is_some o ≡ false
none_is o e = ap is_some e

passes : {P : Type 0} (b : Bool) → (b ≡ true → P) → (b ≡ false → P) → P
passes true there otherwise = there refl
passes false there otherwise = otherwise refl

below_false : (a b : ℕ) → b ≤ a → nat_lt a b ≡ false
below_false a b h = grind (arith, nat_tests)

module _ (p : ProgramState) (entry : ℕ) where
  abbrev both : List ProgramHeader
  both = text_header p ∷ data_header p ∷ []

  -- the kept ones, by whether each has a byte
  abbrev pub kept_by : Bool → Bool → List ProgramHeader
  kept_by a b = cond a (text_header p ∷ cond b (data_header p ∷ []) []) (cond b (data_header p ∷ []) [])

  pub kept_is : (a b : Bool) → is_kept (text_header p) ≡ a → is_kept (data_header p) ≡ b → filter is_kept both ≡ kept_by a b
  kept_is a b ea eb = λ i. kept_by (ea i) (eb i)

  -- what each check says
  module _ (sound : has_bad_layout p entry ≡ false) where
    abbrev each : All (λ c. c.1 ≡ false) (layout_checks p entry)
    each = all_passed (layout_checks p entry) (none_failing (first_failing (layout_checks p entry)) sound)

    text_ends : p.text_at + text_len p ≤ SEGMENTS_END
    text_ends =
        let e : (nat_lt (file_len p) (52 + 2 * 32 + text_len p) || nat_lt SEGMENTS_END (p.text_at + text_len p)) ≡ false =
        each 1 (check.Short, false) (omega arith) in
        ltb-false SEGMENTS_END (p.text_at + text_len p) (or_parts _ _ e).1

    data_ends : p.data_at + (data_len p + p.zeros) ≤ SEGMENTS_END
    data_ends =
        let e = each 4 (check.Short, false) (omega arith) in
        ltb-false SEGMENTS_END (p.data_at + (data_len p + p.zeros)) (or_parts _ _ e).1

    overlap : has_overlap (filter is_kept both) ≡ false
    overlap = each 6 (check.Short, false) (omega arith)

    code : has_no_code (filter is_kept both) ≡ false
    code = each 7 (check.Short, false) (omega arith)

    entered : has_misplaced_entry (address_of p entry) (filter is_kept both) ≡ false
    entered = each 8 (check.Short, false) (omega arith)

    large : is_too_large (filter is_kept both) ≡ false
    large = each 9 (check.Short, false) (omega arith)

    laid_by : (a b : Bool) → is_kept (text_header p) ≡ a → is_kept (data_header p) ≡ b → IsLaidOut p entry
    laid_by true true ea eb =
        let e = kept_is true true ea eb in
        let shared = ap has_overlap (sym e) ∙ overlap in
        let at = ap (has_misplaced_entry (address_of p entry)) (sym e) ∙ entered in
        let size = ap is_too_large (sym e) ∙ large in
        record {
          small = grind (arith, nat_tests);
          inside = grind (arith, nat_tests);
          aligned = grind (arith, nat_tests);
          text_end = text_ends;
          data_end = data_ends;
          apart = grind (arith, nat_tests);
        }
    laid_by true false ea eb =
        let e = kept_is true false ea eb in
        let at = ap (has_misplaced_entry (address_of p entry)) (sym e) ∙ entered in
        let size = ap is_too_large (sym e) ∙ large in
        record {
          small = grind (arith, nat_tests);
          inside = grind (arith, nat_tests);
          aligned = grind (arith, nat_tests);
          text_end = text_ends;
          data_end = data_ends;
          apart = grind (arith, nat_tests);
        }
    laid_by false true ea eb = absurd (true≢false (ap has_no_code (sym (kept_is false true ea eb)) ∙ code))
    laid_by false false ea eb = absurd (true≢false (ap has_no_code (sym (kept_is false false ea eb)) ∙ code))

    pub is_laid_out : IsLaidOut p entry
    is_laid_out = laid_by (is_kept (text_header p)) (is_kept (data_header p)) refl refl

  -- and the other way round
  module _ (laid : IsLaidOut p entry) where
    text_kept : is_kept (text_header p) ≡ true
    text_kept = let h = laid.inside in grind (arith, nat_tests)

    kept_pass : (b : Bool) → is_kept (data_header p) ≡ b
        → first_failing (kept_checks (address_of p entry) (kept_by true b)) ≡ None
    kept_pass true eb =
        let inside = laid.inside in
        let aligned = laid.aligned in
        let small = laid.small in
        let apart = laid.apart in
        let e1 : has_overlap both ≡ false = ap (λ m. (m || false) || false) apart in
        let e2 : has_misplaced_entry (address_of p entry) both ≡ false = grind (arith, nat_tests) in
        let e3 : is_too_large both ≡ false = grind (arith, nat_tests) in
        λ i. first_failing ((check.Overlap, e1 i) ∷ (check.NoCode, false) ∷ (check.EntryPlace, e2 i) ∷ (check.TooLarge, e3 i) ∷ [])
    kept_pass false eb =
        let inside = laid.inside in
        let aligned = laid.aligned in
        let small = laid.small in
        let e2 : has_misplaced_entry (address_of p entry) (text_header p ∷ []) ≡ false = grind (arith, nat_tests) in
        let e3 : is_too_large (text_header p ∷ []) ≡ false = grind (arith, nat_tests) in
        λ i. first_failing ((check.Overlap, false) ∷ (check.NoCode, false) ∷ (check.EntryPlace, e2 i) ∷ (check.TooLarge, e3 i) ∷ [])

    text_pass : is_misplaced (file_len p) (text_header p) ≡ false
    text_pass =
        let file = below_false (file_len p) (52 + 2 * 32 + text_len p) (omega arith) in
        let memory = below_false SEGMENTS_END (p.text_at + text_len p) laid.text_end in
        λ i. file i || memory i

    stored_by : (b : Bool) → cond b 0 (52 + 2 * 32 + text_len p) + data_len p ≤ file_len p
    stored_by true = omega arith
    stored_by false = omega arith

    data_pass : is_misplaced (file_len p) (data_header p) ≡ false
    data_pass =
        let file = below_false (file_len p) (data_offset p + data_len p) (stored_by (length p.data_words == 0)) in
        let memory = below_false SEGMENTS_END (p.data_at + (data_len p + p.zeros)) laid.data_end in
        λ i. file i || memory i

    -- none of the checks fails
    pub laid_out_passes : has_bad_layout p entry ≡ false
    laid_out_passes =
        let kept = kept_is true (is_kept (data_header p)) text_kept refl in
        let text_size = below_false (text_len p) (text_len p) (omega arith) in
        let data_size = below_false (data_len p + p.zeros) (data_len p) (omega arith) in
        let headers : first_failing (layout_checks p entry) ≡ first_failing (kept_checks (address_of p entry) (filter is_kept both)) =
        λ i. first_failing (
        (check.Dynamic, false)
        ∷ (check.SegmentPlace, text_pass i)
        ∷ (check.SegmentSize, text_size i)
        ∷ (check.Dynamic, false)
        ∷ (check.SegmentPlace, data_pass i)
        ∷ (check.SegmentSize, data_size i)
        ∷ kept_checks (address_of p entry) (filter is_kept both)) in
        none_is (first_failing (layout_checks p entry)) (headers ∙ ap (λ hs. first_failing (kept_checks (address_of p entry) hs)) kept
        ∙ kept_pass (is_kept (data_header p)) refl)

-- ---- the answers of a test

module _ (p : ProgramState) (entry : ℕ) where
  -- no, where they aren't
  pub not_laid_out : (IsLaidOut p entry → ⊥) → false ≡ not (has_bad_layout p entry)
  not_laid_out wrong =
      passes (has_bad_layout p entry) (λ e. sym (ap not e)) (λ e. absurd (wrong (is_laid_out p entry e)))

  -- by whether they share an address, where all else holds
  pub laid_out_by : (shared : Bool) → shared ≡ meets (range_of (text_header p)) (range_of (data_header p))
      → (shared ≡ false → IsLaidOut p entry) → not shared ≡ not (has_bad_layout p entry)
  laid_out_by true is laid = not_laid_out (λ l. true≢false (is ∙ l.apart))
  laid_out_by false is laid = sym (ap not (laid_out_passes p entry (laid refl)))
