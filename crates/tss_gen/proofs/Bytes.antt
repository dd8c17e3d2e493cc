-- The bytes of a workload's program are those that are written out.
use Rattle.std.proofs.Common.{◌≡◌, ℕ, ◌+◌, ◌*◌, false, cond, List, [], ◌∷◌, ◌++◌, length, refl, sym, ap, ◌∙◌, arith, append_assoc}
use Rattle.std.specs.Prelude.{map, unwrap_or, ◌==◌}
use Rattle.std.proofs.lemmas.Bool.Decides.{nat_tests}
use Rattle.tss_base.specs.Names.{Numbered}
use Rattle.std.specs.Prelude.{Option}
use Rattle.tss_isa.specs.declared.instr.Instr.{Instr}
use Rattle.tss_isa.specs.InstrTable.{word_of}
use Rattle.tss_asm.specs.declared.item.Item.{Item}
use Rattle.tss_asm.specs.declared.item.Item.TheVariants.{Plain, Number}
use Rattle.tss_asm.specs.Program.{ProgramState}
use Rattle.tss_asm.specs.Words.{words, words_from, label_address}
use Rattle.tss_asm.specs.Image.{bytes_of_words, file_header_bytes, image_bytes, text_len, data_len, data_offset}
use Rattle.tss_asm.proofs.ItemLemmas.{words_append, length-words_from}
use Rattle.tss_gen.specs.declared.form.Form.{Form}
use Rattle.tss_gen.specs.Tasks.{tasks, main_loop}
use Rattle.tss_gen.specs.Workload.{text_at, table, table_at, main_at, load, text_words, block_words, workload_bytes}
use Rattle.tss_gen.specs.Built.{IsWorkload, loads_address}
use Rattle.tss_gen.proofs.Lengths.{length-block_words}

module _ (at0 : ℕ) (labels : Numbered (Option ℕ)) where
  words_plain : (at : ℕ) (is : List Instr) → words_from at0 labels at (map Plain is) ≡ map word_of is
  words_plain at [] = refl
  words_plain at (i ∷ is) = ap (λ ws. word_of i ∷ ws) (words_plain (at + 1) is)

  words_number : (at : ℕ) (ns : List ℕ) → words_from at0 labels at (map Number ns) ≡ ns
  words_number at [] = refl
  words_number at (n ∷ ns) = ap (λ ws. n ∷ ws) (words_number (at + 1) ns)

module _ (form : Form) (n : ℕ) (p : ProgramState) (start : ℕ) (w : IsWorkload form n p start) where
  abbrev from : ℕ
  from = w.from

  abbrev of_items : ℕ → List Item → List ℕ
  of_items at xs = words_from p.text_at p.labels at xs

  table_address : label_address p.text_at p.labels from ≡ table_at form
  table_address = λ i. w.text_begins i + 4 * unwrap_or (w.table_placed i) 0

  main_address : label_address p.text_at p.labels start ≡ main_at form n
  main_address =
      let e : label_address p.text_at p.labels start ≡ text_at + 4 * (length (tasks form) + length (table n)) =
      λ i. w.text_begins i + 4 * unwrap_or (w.main_placed i) 0 in
      e ∙ omega arith

  abbrev before : List Item
  before = map Plain (tasks form) ++ map Number (table n)

  words_before : of_items 0 before ≡ map word_of (tasks form) ++ table n
  words_before =
      words_append p.text_at p.labels 0 (map Plain (tasks form)) (map Number (table n))
      ∙ (λ i. words_plain p.text_at p.labels 0 (tasks form) i ++ words_number p.text_at p.labels (0 + length (map Plain (tasks form))) (table n) i)

  words_are : words p ≡ text_words form n
  words_are =
      let a = before ++ loads_address 8 from in
      let b = a ++ loads_address 9 start in
      let x = map word_of (tasks form) ++ table n in
      let c = map word_of (load 8 (table_at form)) in
      let d = map word_of (load 9 (main_at form n)) in
      let l = map word_of main_loop in
      ap (of_items 0) w.text
      ∙ words_append p.text_at p.labels 0 b (map Plain main_loop)
      ∙ ap (λ ws. ws ++ of_items (0 + length b) (map Plain main_loop)) (words_append p.text_at p.labels 0 a (loads_address 9 start)
      ∙ ap (λ ws. ws ++ of_items (0 + length a) (loads_address 9 start)) (words_append p.text_at p.labels 0 before (loads_address 8 from)))
      ∙ (λ i. words_before i ++ map word_of (load 8 (table_address i)) ++ map word_of (load 9 (main_address i))
      ++ words_plain p.text_at p.labels (0 + length b) main_loop i)
      ∙ append_assoc (x ++ c) d l ∙ append_assoc x c (d ++ l)

  text_is : text_len p ≡ 4 * length (text_words form n)
  text_is =
      ap (λ k. 4 * k) (sym (length-words_from p.text_at p.labels 0 p.text) ∙ ap length words_are)

  data_is : data_len p ≡ 4 * length (block_words n)
  data_is = ap (λ ws. 4 * length ws) w.words

  some_data : (length p.data_words == 0) ≡ false
  some_data =
      let size = ap length w.words ∙ length-block_words n in
      grind (arith, nat_tests)

  offset_is : data_offset p ≡ 116 + 4 * length (text_words form n)
  offset_is = λ i. cond (some_data i) 0 (116 + text_is i)

  size_is : data_len p + p.zeros ≡ 4 * length (block_words n)
  size_is =
      let a = data_is in
      let b = w.zeros in
      omega arith

  pub workload_is_written : image_bytes p start ≡ workload_bytes form n
  workload_is_written = λ i.
      file_header_bytes (main_address i)
      ++ bytes_of_words (1 ∷ 116 ∷ w.text_begins i ∷ w.text_begins i ∷ text_is i ∷ text_is i ∷ 5 ∷ 4 ∷ [])
      ++ bytes_of_words (1 ∷ offset_is i ∷ w.data_begins i ∷ w.data_begins i ∷ data_is i ∷ size_is i ∷ 6 ∷ 4 ∷ [])
      ++ bytes_of_words (words_are i)
      ++ bytes_of_words (w.words i)
