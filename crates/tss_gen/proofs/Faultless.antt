-- A workload's program has no fault.
use Rattle.std.proofs.Common.{◌≡◌, ℕ, ◌+◌, ◌%◌, ◌≤◌, Bool, true, false, cond, ◌||◌, not, List, [], ◌∷◌, ◌++◌, length, refl, ap, ◌∙◌, subst, arith, length-append, Option, Some, None}
use Rattle.std.specs.Prelude.{map, is_none, unwrap_or, Err}
use Rattle.std.specs.List.{list_any}
use Rattle.std.proofs.lemmas.Bool.Decides.{nat_tests}
use Rattle.std.proofs.lemmas.List.{length-map}
use Rattle.tss_base.specs.Names.{Numbered}
use Rattle.tss_isa.specs.declared.instr.Instr.{Instr}
use Rattle.tss_isa.specs.InstrTable.{fits}
use Rattle.tss_asm.specs.declared.fault.AsmFault.{AsmFault}
use Rattle.tss_asm.specs.declared.fault.AsmFault.TheVariants as fault
use Rattle.tss_asm.specs.declared.item.Item.{Item}
use Rattle.tss_asm.specs.declared.item.Item.TheVariants.{Plain, Number, Upper, Lower}
use Rattle.tss_asm.specs.Labels.{place_of}
use Rattle.tss_asm.specs.Program.{ProgramState}
use Rattle.tss_asm.specs.Words.{content}
use Rattle.tss_asm.specs.Faults.{used_label, is_unplaced, some_unplaced, has_unknown_label, any_from, is_far, has_far_target, is_unfit, has_bad_immediate, has_bad_layout, first_fault, Answers}
use Rattle.tss_asm.proofs.ItemLemmas.{any_append, is_unfit-content}
use Rattle.tss_asm.proofs.LayoutLemmas.{IsLaidOut, laid_out_passes}
use Rattle.tss_gen.specs.declared.form.Form.{Form}
use Rattle.tss_gen.specs.declared.form.Form.TheVariants.{Shifts, Products}
use Rattle.tss_gen.specs.Tasks.{tasks, main_loop}
use Rattle.tss_gen.specs.Workload.{table}
use Rattle.tss_gen.specs.Built.{IsWorkload, items, loads_address}
use Rattle.tss_gen.proofs.Lengths.{length-table, last_number-small, length-block_words}

-- ---- tests of lists of items

keep_false : (t a b : Bool) → (a ≡ false → b ≡ false) → (t || a) ≡ false → (t || b) ≡ false
keep_false true a b h e = e
keep_false false a b h e = h e

module _ (labels : Numbered (Option ℕ)) where
  abbrev unplaced : Item → Bool
  unplaced x = some_unplaced labels (used_label x)

  any_both : (xs ys : List Item) → list_any unplaced xs ≡ false → list_any unplaced ys ≡ false
      → list_any unplaced (xs ++ ys) ≡ false
  any_both [] ys a b = b
  any_both (x ∷ xs) ys a b =
      keep_false (unplaced x) (list_any unplaced xs) (list_any unplaced (xs ++ ys)) (λ e. any_both xs ys e b) a

  any_plain : (is : List Instr) → list_any unplaced (map Plain is) ≡ false
  any_plain [] = refl
  any_plain (i ∷ is) = any_plain is

  any_number : (ns : List ℕ) → list_any unplaced (map Number ns) ≡ false
  any_number [] = refl
  any_number (n ∷ ns) = any_number ns

  any_loads : (rd l at : ℕ) → place_of labels l ≡ Some at → list_any unplaced (loads_address rd l) ≡ false
  any_loads rd l at e = λ i. is_none (e i) || (is_none (e i) || false)

from_both : (test : ℕ → Item → Bool) (at : ℕ) (xs ys : List Item) → any_from test at xs ≡ false
    → any_from test (at + length xs) ys ≡ false → any_from test at (xs ++ ys) ≡ false
from_both test at xs ys a b = any_append test at xs ys ∙ (λ i. a i || b i)

far_plain : (labels : Numbered (Option ℕ)) (at : ℕ) (is : List Instr) → any_from (is_far labels) at (map Plain is) ≡ false
far_plain labels at [] = refl
far_plain labels at (i ∷ is) = far_plain labels (at + 1) is

far_number : (labels : Numbered (Option ℕ)) (at : ℕ) (ns : List ℕ) → any_from (is_far labels) at (map Number ns) ≡ false
far_number labels at [] = refl
far_number labels at (n ∷ ns) = far_number labels (at + 1) ns

module _ (at0 : ℕ) (labels : Numbered (Option ℕ)) where
  abbrev unfit : ℕ → Item → Bool
  unfit at x = is_unfit (content at0 labels at x)

  unfit_plain : (at : ℕ) (is : List Instr) → list_any (λ i. not (fits i)) is ≡ false → any_from unfit at (map Plain is) ≡ false
  unfit_plain at [] e = refl
  unfit_plain at (i ∷ is) e =
      keep_false (not (fits i)) (list_any (λ j. not (fits j)) is) (any_from unfit (at + 1) (map Plain is))
      (unfit_plain (at + 1) is) e

  unfit_number : (at : ℕ) (ns : List ℕ) → any_from unfit at (map Number ns) ≡ false
  unfit_number at [] = refl
  unfit_number at (n ∷ ns) = unfit_number (at + 1) ns

  unfit_loads_8 : (at l : ℕ) → any_from unfit at (loads_address 8 l) ≡ false
  unfit_loads_8 at l =
      let upper = is_unfit-content at0 labels at (Upper 8 l) refl in
      let lower = is_unfit-content at0 labels (at + 1) (Lower 8 l) refl in
      λ i. upper i || (lower i || false)

  unfit_loads_9 : (at l : ℕ) → any_from unfit at (loads_address 9 l) ≡ false
  unfit_loads_9 at l =
      let upper = is_unfit-content at0 labels at (Upper 9 l) refl in
      let lower = is_unfit-content at0 labels (at + 1) (Lower 9 l) refl in
      λ i. upper i || (lower i || false)

tasks_fit : (form : Form) → list_any (λ i. not (fits i)) (tasks form) ≡ false
tasks_fit Shifts = refl
tasks_fit Products = refl

pub length-tasks : (form : Form) → (39 ≤ length (tasks form)) × (length (tasks form) ≤ 40)
length-tasks Shifts = (omega arith, omega arith)
length-tasks Products = (omega arith, omega arith)

module _ (form : Form) (n : ℕ) (most : n ≤ 40) (p : ProgramState) (start : ℕ) (w : IsWorkload form n p start) where
  abbrev from : ℕ
  from = w.from

  abbrev before_main : List Item
  before_main = map Plain (tasks form) ++ map Number (table n)

  known_items : list_any (λ x. some_unplaced p.labels (used_label x)) (items form n from start) ≡ false
  known_items =
      any_both p.labels (before_main ++ loads_address 8 from ++ loads_address 9 start) (map Plain main_loop)
      (any_both p.labels (before_main ++ loads_address 8 from) (loads_address 9 start)
      (any_both p.labels before_main (loads_address 8 from)
      (any_both p.labels (map Plain (tasks form)) (map Number (table n)) (any_plain p.labels (tasks form)) (any_number p.labels (table n)))
      (any_loads p.labels 8 from (length (tasks form)) w.table_placed))
      (any_loads p.labels 9 start (length (tasks form) + length (table n)) w.main_placed))
      (any_plain p.labels main_loop)

  known : has_unknown_label p start ≡ false
  known =
      let placed : is_unplaced p.labels start ≡ false = ap is_none w.main_placed in
      let rest = ap (list_any (λ x. some_unplaced p.labels (used_label x))) w.text ∙ known_items in
      λ i. placed i || rest i

  abbrev before_loop : List Item
  before_loop = before_main ++ loads_address 8 from ++ loads_address 9 start

  -- where each part of the text begins
  abbrev at_table : ℕ
  at_table = 0 + length (map Plain (tasks form))

  abbrev at_main : ℕ
  at_main = 0 + length before_main

  abbrev at_second : ℕ
  at_second = 0 + length (before_main ++ loads_address 8 from)

  abbrev at_loop : ℕ
  at_loop = 0 + length before_loop

  abbrev far : ℕ → Item → Bool
  far = is_far p.labels

  near : has_far_target p ≡ false
  near =
      ap (any_from far 0) w.text
      ∙ from_both far 0 before_loop (map Plain main_loop)
      (from_both far 0 (before_main ++ loads_address 8 from) (loads_address 9 start)
      (from_both far 0 before_main (loads_address 8 from)
      (from_both far 0 (map Plain (tasks form)) (map Number (table n)) (far_plain p.labels 0 (tasks form))
      (far_number p.labels at_table (table n))) refl) refl) (far_plain p.labels at_loop main_loop)

  abbrev bad : ℕ → Item → Bool
  bad at x = is_unfit (content p.text_at p.labels at x)

  fit : has_bad_immediate p ≡ false
  fit =
      ap (any_from bad 0) w.text
      ∙ from_both bad 0 before_loop (map Plain main_loop)
      (from_both bad 0 (before_main ++ loads_address 8 from) (loads_address 9 start)
      (from_both bad 0 before_main (loads_address 8 from)
      (from_both bad 0 (map Plain (tasks form)) (map Number (table n))
      (unfit_plain p.text_at p.labels 0 (tasks form) (tasks_fit form))
      (unfit_number p.text_at p.labels at_table (table n)))
      (unfit_loads_8 p.text_at p.labels at_main from)) (unfit_loads_9 p.text_at p.labels at_second start))
      (unfit_plain p.text_at p.labels at_loop main_loop refl)

  pub length-items : length p.text ≡ length (tasks form) + length (table n) + 17
  length-items =
      let a = length-append (before_main ++ loads_address 8 from ++ loads_address 9 start) (map Plain main_loop) in
      let b = length-append (before_main ++ loads_address 8 from) (loads_address 9 start) in
      let c = length-append before_main (loads_address 8 from) in
      let d = length-append (map Plain (tasks form)) (map Number (table n)) in
      let e = length-map (tasks form) Plain in
      let f = length-map (table n) Number in
      ap length w.text ∙ omega arith

  laid : IsLaidOut p start
  laid =
      let long = length-items in
      let at = w.text_begins in
      let on = w.data_begins in
      let none = w.zeros in
      let few = length-tasks form in
      let rows = length-table n most in
      let last = last_number-small n most in
      let size = ap length w.words ∙ length-block_words n in
      let place = ap (λ o. unwrap_or o 0) w.main_placed in
      record {
        small = omega arith;
        inside = omega arith;
        aligned = ap (λ a. a % 4) at;
        text_end = omega arith;
        data_end = omega arith;
        apart = grind (arith, nat_tests);
      }

  pub laid_out : has_bad_layout p start ≡ false
  laid_out = laid_out_passes p start laid

  -- none of the four
  pub faultless : first_fault p start ≡ None
  faultless = λ i.
      cond (known i) (Some fault.UnknownLabel) (cond (near i) (Some fault.FarTarget)
      (cond (fit i) (Some fault.BadImmediate) (cond (laid_out i) (Some fault.BadLayout) None)))

-- so want of memory is the one answer without bytes
pub only_memory : {X : Type 0} (e : AsmFault) (P : X → Type 0) → Answers {X = X} (Err e) None P → e ≡ fault.NoMemory
only_memory fault.NoMemory P a = refl
only_memory fault.UnknownLabel P a = absurd (cc)
only_memory fault.FarTarget P a = absurd (cc)
only_memory fault.BadImmediate P a = absurd (cc)
only_memory fault.BadLayout P a = absurd (cc)

pub memory_alone : (form : Form) (n : ℕ) (most : n ≤ 40) (p : ProgramState) (start : ℕ) (w : IsWorkload form n p start)
    {X : Type 0} (e : AsmFault) (P : X → Type 0) → Answers {X = X} (Err e) (first_fault p start) P → e ≡ fault.NoMemory
memory_alone form n most p start w e P a =
    only_memory e P (subst (λ f. Answers (Err e) f P) (faultless form n most p start w) a)
