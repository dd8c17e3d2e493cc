-- The verdict on bytes, by the part in which the first check fails, or none.
use Rattle.std.proofs.Common.{◌≡◌, ℕ, ◌%◌, Bool, not, ◌||◌, List, [], ◌∷◌, ◌++◌, length, get_or, take, drop, false}
use Rattle.std.proofs.Common.{arith, ◌<◌, ◌≤◌, refl, sym, ap, ◌∙◌, subst, Option, Some, None, Result, Ok, Err}
use Rattle.std.specs.Prelude.{All, map, IsErrAnd, nat_lt, nat_eq}
use Rattle.std.specs.List.Sorted.{IsPermutation, IsNonDecreasingBy}
use Rattle.std.proofs.lemmas.Bool.Decides.{nat_tests}
use Rattle.std.proofs.lemmas.List.{append-nil, take_all, drop_all}
use Rattle.std.proofs.lemmas.List.Sorted.{All-permutation, length_permutation, list_any-IsPermutation}
use Rattle.std.proofs.lemmas.List.Sorted.{sum_by-IsPermutation}
use Rattle.tss_base.specs.Image.{SegmentState, ImageState, IsAccepted}
use Rattle.tss_elf.specs.declared.header.ProgramHeader.{ProgramHeader}
use Rattle.tss_elf.specs.declared.refusal.ImageFault.{ImageFault}
use Rattle.tss_elf.specs.declared.refusal.ImageFault.TheVariants as fault
use Rattle.tss_elf.specs.declared.refusal.Refusal.{Refusal}
use Rattle.tss_elf.specs.declared.refusal.Refusal.TheVariants as check
use Rattle.tss_elf.specs.Fields.{kept_headers, entry_of, is_code}
use Rattle.tss_elf.specs.Checks.{each_header_checks, checks, file_checks, kept_checks, first_failing}
use Rattle.tss_elf.specs.Checks.{has_code_at}
use Rattle.tss_elf.specs.Elf.{Verdict, Refused, Accepted, CanLoad, number_of, by_address, segment_of, verdict_on}
use Rattle.tss_elf.specs.Elf.{loaded_image, image_of, Passes, Gives, IfAccepted}
use Rattle.tss_elf.proofs.Failing.{failing_before, failing_after, passed_before, passed_after}
use Rattle.tss_elf.proofs.Pairs.{AreApart, apart_from_test, has_overlap-IsPermutation}
use Rattle.tss_elf.proofs.Orders.{IsBelow, by_address_is}
use Rattle.tss_elf.proofs.Acceptance.{IsAccepted-loaded_image, all_passed, kept_can_load, kept_few}
use Rattle.tss_base.specs.declared.bounds.TheConstants.{MAX_SEGMENTS, MAX_IMAGE_BYTES}

-- the checks of the kept segments have one answer in any order of them
pub failing-IsPermutation : (entry : ℕ) (hs gs : List ProgramHeader) → IsPermutation hs gs
    → first_failing (kept_checks entry gs) ≡ first_failing (kept_checks entry hs)
failing-IsPermutation entry hs gs moved =
    let overlap = sym (has_overlap-IsPermutation hs gs moved) in
    let code = sym (list_any-IsPermutation is_code hs gs moved) in
    let at_entry = sym (list_any-IsPermutation (has_code_at entry) hs gs moved) in
    let size = sum_by-IsPermutation (λ h. h.memory_size) hs gs moved in
    λ i. first_failing (
    (check.Overlap, overlap i)
    ∷ (check.NoCode, not (code i))
    ∷ (check.EntryPlace, not (nat_eq (entry % 4) 0) || not (at_entry i))
    ∷ (check.TooLarge, nat_lt MAX_IMAGE_BYTES (size i))
    ∷ [])

module _ (bytes : List ℕ) where
  abbrev all_kept : List (Refusal × Bool)
  all_kept = kept_checks (entry_of bytes) (kept_headers bytes)

  -- the verdict by the first check that fails
  pub verdict_is : (first : Option Refusal) → first_failing (checks bytes) ≡ first
      → image_of bytes ≡ verdict_on bytes first
  unfolding image_of
  verdict_is first e = ap (verdict_on bytes) e

  -- one of the file header
  pub refused_file : (r : Refusal) → first_failing (file_checks bytes) ≡ Some r → image_of bytes ≡ Refused (number_of r)
  unfolding checks
  refused_file r e =
      verdict_is (Some r) (failing_before (file_checks bytes ++ each_header_checks bytes) all_kept r
      (failing_before (file_checks bytes) (each_header_checks bytes) r e))

  module _ (file : first_failing (file_checks bytes) ≡ None) where
    -- one of a program header
    pub refused_header : (r : Refusal) → first_failing (each_header_checks bytes) ≡ Some r
        → image_of bytes ≡ Refused (number_of r)
    unfolding checks
    refused_header r e =
        verdict_is (Some r) (failing_before (file_checks bytes ++ each_header_checks bytes) all_kept r
        (failing_after (file_checks bytes) (each_header_checks bytes) file ∙ e))

    module _ (each : first_failing (each_header_checks bytes) ≡ None) where
      before_kept : first_failing (file_checks bytes ++ each_header_checks bytes) ≡ None
      before_kept = failing_after (file_checks bytes) (each_header_checks bytes) file ∙ each

      -- one of the kept segments together, in any order of them
      pub refused_kept : (r : Refusal) → first_failing (kept_checks (entry_of bytes) (kept_headers bytes)) ≡ Some r
          → image_of bytes ≡ Refused (number_of r)
      unfolding checks
      refused_kept r e =
          verdict_is (Some r) (failing_after (file_checks bytes ++ each_header_checks bytes) all_kept before_kept ∙ e)

      -- none
      pub accepted_all : first_failing (kept_checks (entry_of bytes) (kept_headers bytes)) ≡ None
          → image_of bytes ≡ Accepted (loaded_image bytes)
      unfolding checks
      accepted_all e =
          verdict_is None (failing_after (file_checks bytes ++ each_header_checks bytes) all_kept before_kept ∙ e)

  -- an accepted image can be run
  accepted_on : (first : Option Refusal) → first_failing (checks bytes) ≡ first
      → IfAccepted (verdict_on bytes first) IsAccepted
  unfolding checks
  accepted_on (Some r) e = tt
  accepted_on None e =
      let before = passed_before (file_checks bytes ++ each_header_checks bytes) all_kept e in
      let after = passed_after (file_checks bytes ++ each_header_checks bytes) all_kept e in
      IsAccepted-loaded_image bytes (passed_before (file_checks bytes) (each_header_checks bytes) before)
      (passed_after (file_checks bytes) (each_header_checks bytes) before) after

  pub image_is_accepted : IfAccepted (image_of bytes) IsAccepted
  unfolding image_of
  image_is_accepted = accepted_on (first_failing (checks bytes)) refl

-- an answer by a refusal that is the verdict
pub gives_refused : (result : Result ImageState ImageFault) (bytes : List ℕ) (r : Refusal)
    → image_of bytes ≡ Refused (number_of r) → IsErrAnd result (λ e. e ≡ fault.Check (number_of r))
    → Gives result (image_of bytes)
gives_refused (Ok i) bytes r is h = absurd h
gives_refused (Err e) bytes r is h = subst (λ f. Gives (Err f) (image_of bytes)) (sym h) is

-- an answer that reading the headers gave is the verdict, where it is one
pub headers_failed : (bytes : List ℕ) {X : Type 0} (P : X → Type 0) (e : ImageFault) (first : Option Refusal)
    → first_failing (file_checks bytes) ≡ None
    → first_failing (each_header_checks bytes) ≡ first → Passes (Err e) first P
    → Gives (Err e) (image_of bytes)
headers_failed bytes P fault.NoMemory first file is h = tt
headers_failed bytes P (fault.Check n) (Some r) file is h =
    let same : number_of r ≡ n = cc in refused_header bytes file r is ∙ ap Refused same
headers_failed bytes P (fault.Check n) None file is h = absurd (cc)

-- two headers in the order of their addresses, with segments that are apart and not empty
below_from_apart : (g h : ProgramHeader) → AreApart g h → g.address ≤ h.address → 0 < g.memory_size
    → 0 < h.memory_size → IsBelow g h
below_from_apart g h apart up some_g some_h = grind (arith, nat_tests)

-- the headers that are kept, in any order
module _ (bytes : List ℕ) (hs : List ProgramHeader) (moved : IsPermutation (kept_headers bytes) hs) where
  pub any_can_load : first_failing (each_header_checks bytes) ≡ None
      → All (CanLoad (length bytes)) hs
  any_can_load each = All-permutation (CanLoad (length bytes)) (kept_headers bytes) hs moved (kept_can_load bytes each)

  pub any_few : first_failing (file_checks bytes) ≡ None → length hs ≤ MAX_SEGMENTS
  any_few file = omega (arith, kept_few bytes file, length_permutation (kept_headers bytes) hs moved)

  pub any_checks : (entry : ℕ) (first : Option Refusal) → entry ≡ entry_of bytes
      → first ≡ first_failing (kept_checks entry hs)
      → first_failing (kept_checks (entry_of bytes) (kept_headers bytes)) ≡ first
  any_checks entry first at e =
      sym (failing-IsPermutation (entry_of bytes) (kept_headers bytes) hs moved)
      ∙ ap (λ n. first_failing (kept_checks n hs)) (sym at) ∙ sym e

  -- in the order of their addresses, where all pass
  pub in_order : first_failing (each_header_checks bytes) ≡ None
      → IsNonDecreasingBy (λ h. h.address) hs
      → first_failing (kept_checks (entry_of bytes) (kept_headers bytes)) ≡ None
      → hs ≡ by_address (kept_headers bytes)
  in_order each sorted together =
      let can = any_can_load each in
      let passed = failing-IsPermutation (entry_of bytes) (kept_headers bytes) hs moved ∙ together in
      let apart =
      apart_from_test hs (all_passed (kept_checks (entry_of bytes) hs) passed 0 (check.Short, false)
      (omega arith)) in
      by_address_is (kept_headers bytes) hs moved (λ i j d below within.
      below_from_apart (get_or hs i d) (get_or hs j d) (apart i j d below within) (sorted i j d (omega arith) within)
      (can i d (omega arith)).some (can j d within).some)

  pub loaded_image_is : (entry : ℕ) (segments : List SegmentState) → hs ≡ by_address (kept_headers bytes)
      → entry ≡ entry_of bytes → segments ≡ map (segment_of bytes) hs
      → loaded_image bytes ≡ record { entry = entry; segments = segments }
  loaded_image_is entry segments ordered at all =
      let same = all ∙ ap (map (segment_of bytes)) ordered in
      λ i. record { entry = sym at i; segments = sym same i }

-- an answer that is passed on
pub gives_same : (result : Result ImageState ImageFault) (e : ImageFault) (v : Verdict) → Gives (Err e) v
    → IsErrAnd result (λ f. f ≡ e) → Gives result v
gives_same (Ok i) e v h same = absurd same
gives_same (Err f) e v h same = subst (λ g. Gives (Err g) v) (sym same) h

-- a list that was written over a whole other one
pub written_whole : {X : Type 0} (new old : List X) (n : ℕ) → length new ≡ n → length old ≡ n
    → take n (new ++ drop (length new) old) ≡ new
written_whole new old n size same =
    let end = drop_all (length new) old (omega arith) in
    ap (λ xs. take n (new ++ xs)) end ∙ ap (take n) (append-nil new) ∙ take_all n new (omega arith)
