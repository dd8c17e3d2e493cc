-- The image of a program without faults is accepted, and is loaded as the words that were built.
use Rattle.std.proofs.Common.{◌≡◌, ℕ, ◌+◌, ◌*◌, ◌-◌, ◌^◌, ◌<◌, Bool, true, false, cond, refl, sym, ap, ◌∙◌, arith}
use Rattle.std.proofs.Common.{None, List, [], ◌∷◌, ◌++◌, length, take, drop, length-append, append-nil}
use Rattle.std.specs.Prelude.{filter, flat_map, map, replicate, nat_lt, nat_le, ◌==◌, not, Result, Ok, Err, IfOk}
use Rattle.std.specs.Global.{Vec}
use Rattle.std.proofs.Math.Seq.{take-append_seam, drop-append_seam}
use Rattle.std.proofs.lemmas.Bool.{eqb-true}
use Rattle.std.proofs.lemmas.Bool.Decides.{nat_tests}
use Rattle.std.proofs.lemmas.List.{take_all}
use Rattle.byteorder.specs.Endian.{little_number}
use Rattle.byteorder.specs.Numbers.{little_number-reads_back}
use Rattle.tss_base.specs.Image.{SegmentState}
use Rattle.tss_elf.specs.declared.header.ProgramHeader.{ProgramHeader}
use Rattle.tss_elf.specs.declared.refusal.Refusal.{Refusal}
use Rattle.tss_elf.specs.declared.refusal.Refusal.TheVariants as check
use Rattle.tss_elf.specs.Fields.{half_at, word_at, header_at, headers, kept_headers, is_kept, entry_of}
use Rattle.tss_elf.specs.Checks.{file_checks, header_checks, kept_checks, each_header_checks, first_failing}
use Rattle.tss_elf.specs.Elf.{image_of, Accepted, loaded_bytes, segment_of, by_address}
use Rattle.tss_elf.proofs.Verdicts.{accepted_all}
use Rattle.tss_elf.proofs.Failing.{passed_before, passed_after}
use Rattle.tss_asm.specs.declared.fault.AsmFault.{AsmFault}
use Rattle.tss_asm.specs.Program.{ProgramState}
use Rattle.tss_asm.specs.Words.{words, address_of}
use Rattle.tss_asm.specs.Image.{word_bytes, bytes_of_words, file_header_bytes, header_words, text_header, data_header}
use Rattle.tss_asm.specs.Image.{text_len, data_len, data_offset, file_len, image_bytes, text_segment, data_segment}
use Rattle.tss_asm.specs.Image.{segments_of, built_image}
use Rattle.tss_asm.specs.Faults.{layout_checks, has_bad_layout}
use Rattle.tss_asm.proofs.ItemLemmas.{length-words_from}
use Rattle.tss_asm.proofs.LayoutLemmas.{IsLaidOut, is_laid_out, none_failing, kept_by, kept_is}

-- a number of 32 bits is read back
reads : (x : ℕ) → x < 2 ^ 32 → little_number 4 (word_bytes x) ≡ x
reads x small = ap (little_number 4) (sym (append-nil (word_bytes x))) ∙ little_number-reads_back 4 x [] small

-- words have four bytes each
pub length-bytes_of_words : (ws : List ℕ) → length (bytes_of_words ws) ≡ 4 * length ws
length-bytes_of_words [] = refl
length-bytes_of_words (w ∷ ws) = let e = length-bytes_of_words ws in omega arith

no_words : (ws : List ℕ) → length ws ≡ 0 → ws ≡ []
no_words [] e = refl
no_words (w ∷ ws) e = absurd (omega arith)

module _ (p : ProgramState) (entry : ℕ) (sound : has_bad_layout p entry ≡ false) where
  abbrev bytes : List ℕ
  bytes = image_bytes p entry

  abbrev text_bytes : List ℕ
  text_bytes = bytes_of_words (words p)

  -- what stands before the words of the text
  abbrev front : List ℕ
  front =
      file_header_bytes (address_of p entry) ++ bytes_of_words (header_words (text_header p))
      ++ bytes_of_words (header_words (data_header p))

  laid : IsLaidOut p entry
  laid = is_laid_out p entry sound

  length-front : length front ≡ 116
  length-front = refl

  length-text : length text_bytes ≡ text_len p
  length-text =
      length-bytes_of_words (words p) ∙ ap (λ n. 4 * n) (length-words_from p.text_at p.labels 0 p.text)

  length-image : length bytes ≡ file_len p
  length-image =
      let text = length-text in
      let stored = length-bytes_of_words p.data_words in
      let a = length-append (front ++ text_bytes) (bytes_of_words p.data_words) in
      let b = length-append front text_bytes in
      omega (arith, length-front)

  small_entry : address_of p entry < 2 ^ 32
  small_entry = let l = laid in omega arith

  -- the fields of the headers are read back
  entry_is : entry_of bytes ≡ address_of p entry
  unfolding word_at
  entry_is = reads (address_of p entry) small_entry

  text_header_is : header_at bytes 52 ≡ text_header p
  unfolding header_at word_at
  text_header_is =
      let l = laid in
      let at = reads p.text_at (omega arith) in
      let len = reads (text_len p) (omega arith) in
      λ i. record { kind = 1; offset = 116; address = at i; file_size = len i; memory_size = len i; flags = 5 }

  small_offset : (b : Bool) → cond b 0 (116 + text_len p) < 2 ^ 32
  small_offset true = omega arith
  small_offset false = let l = laid in omega arith

  data_header_is : header_at bytes 84 ≡ data_header p
  unfolding header_at word_at
  data_header_is =
      let l = laid in
      let place = reads (data_offset p) (small_offset (length p.data_words == 0)) in
      let at = reads p.data_at (omega arith) in
      let len = reads (data_len p) (omega arith) in
      let size = reads (data_len p + p.zeros) (omega arith) in
      λ i. record { kind = 1; offset = place i; address = at i; file_size = len i; memory_size = size i; flags = 6 }

  headers_are : headers bytes ≡ text_header p ∷ data_header p ∷ []
  unfolding headers word_at half_at
  headers_are = λ i. text_header_is i ∷ data_header_is i ∷ []

  -- no check fails
  file_passes : first_failing (file_checks bytes) ≡ None
  unfolding word_at half_at
  file_passes =
      let size = length-image in
      let whole : nat_lt (length bytes) 52 ≡ false = grind (arith, nat_tests) in
      let placed : nat_lt (length bytes) 116 ≡ false = grind (arith, nat_tests) in
      λ i. first_failing (
      (check.Short, whole i)
      ∷ (check.Magic, false)
      ∷ (check.Class, false)
      ∷ (check.Data, false)
      ∷ (check.Version, false)
      ∷ (check.FileType, false)
      ∷ (check.Machine, false)
      ∷ (check.Flags, false)
      ∷ (check.HeaderSize, false)
      ∷ (check.HeaderPlace, placed i)
      ∷ [])

  abbrev both : List ProgramHeader
  both = text_header p ∷ data_header p ∷ []

  all_pass : first_failing (layout_checks p entry) ≡ None
  all_pass = none_failing (first_failing (layout_checks p entry)) sound

  abbrev of_headers : List (Refusal × Bool)
  of_headers = header_checks (file_len p) (text_header p) ++ header_checks (file_len p) (data_header p)

  each_passes : first_failing (each_header_checks bytes) ≡ None
  each_passes =
      ap (λ hs. first_failing (flat_map (header_checks (length bytes)) hs)) headers_are
      ∙ ap (λ n. first_failing (flat_map (header_checks n) both)) length-image
      ∙ passed_before of_headers (kept_checks (address_of p entry) (filter is_kept both)) all_pass

  kept_pass : first_failing (kept_checks (entry_of bytes) (kept_headers bytes)) ≡ None
  kept_pass =
      ap (λ e. first_failing (kept_checks e (kept_headers bytes))) entry_is
      ∙ ap (λ hs. first_failing (kept_checks (address_of p entry) (filter is_kept hs))) headers_are
      ∙ passed_after of_headers (kept_checks (address_of p entry) (filter is_kept both)) all_pass

  -- the segments
  text_segment_is : segment_of bytes (text_header p) ≡ text_segment p
  unfolding loaded_bytes
  text_segment_is =
      let rest = bytes_of_words p.data_words in
      let e : take (text_len p) (text_bytes ++ rest) ≡ text_bytes =
      ap (λ n. take n (text_bytes ++ rest)) (sym length-text) ∙ take-append_seam text_bytes rest in
      let none : text_len p - text_len p ≡ 0 = omega arith in
      let all : loaded_bytes bytes (text_header p) ≡ text_bytes =
      (λ i. e i ++ replicate (none i) 0) ∙ append-nil text_bytes in
      λ i. record { base = p.text_at; bytes = all i; writable = false; code = true }

  stored_at : (b : Bool) → (length p.data_words == 0) ≡ b
      → take (data_len p) (drop (cond b 0 (116 + text_len p)) bytes) ≡ bytes_of_words p.data_words
  stored_at true e =
      let none : length p.data_words ≡ 0 = eqb-true (length p.data_words) 0 e in
      let size : data_len p ≡ 0 = omega arith in
      ap (λ n. take n (drop 0 bytes)) size ∙ sym (ap bytes_of_words (no_words p.data_words none))
  stored_at false e =
      let l = length-append front text_bytes in
      let before : 116 + text_len p ≡ length (front ++ text_bytes) = omega (arith, length-text, length-front) in
      ap (λ n. take (data_len p) (drop n bytes)) before
      ∙ ap (take (data_len p)) (drop-append_seam (front ++ text_bytes) (bytes_of_words p.data_words))
      ∙ take_all (data_len p) (bytes_of_words p.data_words) (omega (arith, length-bytes_of_words p.data_words))

  data_segment_is : segment_of bytes (data_header p) ≡ data_segment p
  unfolding loaded_bytes
  data_segment_is =
      let stored = stored_at (length p.data_words == 0) refl in
      let rest : data_len p + p.zeros - data_len p ≡ p.zeros = omega arith in
      λ i. record { base = p.data_at; bytes = stored i ++ replicate (rest i) 0; writable = true; code = false }

  text_kept : is_kept (text_header p) ≡ true
  text_kept = let h = laid.inside in grind (arith, nat_tests)

  abbrev in_order_by : Bool → List SegmentState
  in_order_by b = cond b (text_segment p ∷ data_segment p ∷ []) (data_segment p ∷ text_segment p ∷ [])

  in_order : (b : Bool)
      → map (segment_of bytes) (cond b (text_header p ∷ data_header p ∷ []) (data_header p ∷ text_header p ∷ []))
      ≡ in_order_by b
  in_order true = λ i. text_segment_is i ∷ data_segment_is i ∷ []
  in_order false = λ i. data_segment_is i ∷ text_segment_is i ∷ []

  segments_by : (b : Bool) → is_kept (data_header p) ≡ b
      → map (segment_of bytes) (by_address (kept_by p entry true b)) ≡ segments_of p
  segments_by true e =
      let some : (data_len p + p.zeros == 0) ≡ false = grind (arith, nat_tests) in
      in_order (nat_le p.text_at p.data_at)
      ∙ sym (ap (λ b. cond b (text_segment p ∷ []) (in_order_by (nat_le p.text_at p.data_at))) some)
  segments_by false e =
      let none : (data_len p + p.zeros == 0) ≡ true = grind (arith, nat_tests) in
      (λ i. text_segment_is i ∷ [])
      ∙ sym (ap (λ b. cond b (text_segment p ∷ []) (in_order_by (nat_le p.text_at p.data_at))) none)

  segments_are : map (segment_of bytes) (by_address (kept_headers bytes)) ≡ segments_of p
  segments_are =
      ap (λ hs. map (segment_of bytes) (by_address (filter is_kept hs))) headers_are
      ∙ ap (λ hs. map (segment_of bytes) (by_address hs)) (kept_is p entry true (is_kept (data_header p)) text_kept refl)
      ∙ segments_by (is_kept (data_header p)) refl

  -- the image
  pub image_is_accepted : image_of (image_bytes p entry) ≡ Accepted (built_image p entry)
  image_is_accepted =
      accepted_all bytes file_passes each_passes kept_pass
      ∙ (λ i. Accepted (record { entry = entry_is i; segments = segments_are i }))

not_true : (b : Bool) → not b ≡ true → b ≡ false
not_true true e = sym e
not_true false e = refl

-- bytes that are the image of a program that is laid out
pub accepted_from : (p : ProgramState) (entry : ℕ) (r : Result (Vec ℕ) AsmFault) → not (has_bad_layout p entry) ≡ true
    → IfOk r (λ v. v.items ≡ image_bytes p entry) → IfOk r (λ v. image_of v.items ≡ Accepted (built_image p entry))
accepted_from p entry (Ok v) sound is =
    ap image_of is ∙ image_is_accepted p entry (not_true (has_bad_layout p entry) sound)
accepted_from p entry (Err e) sound is = tt
