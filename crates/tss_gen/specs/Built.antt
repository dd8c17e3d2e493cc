-- The program of the workload: its items, and where its labels stand.
use Rattle.std.specs.Prelude.{◌≡◌, ℕ, ◌+◌, List, [], ◌∷◌, ◌++◌, length, map, Some}
use Rattle.tss_asm.specs.declared.item.Item.{Item}
use Rattle.tss_asm.specs.declared.item.Item.TheVariants.{Plain, Number, Upper, Lower}
use Rattle.tss_asm.specs.Labels.{place_of}
use Rattle.tss_asm.specs.Program.{ProgramState}
use Rattle.tss_gen.specs.declared.form.Form.{Form}
use Rattle.tss_gen.specs.Tasks.{tasks, main_loop}
use Rattle.tss_gen.specs.Workload.{text_at, data_at, table, block_words}

-- the address of a label, in a register
abbrev pub loads_address : ℕ → ℕ → List Item
loads_address rd label = Upper rd label ∷ Lower rd label ∷ []

-- the tasks, the table, and main, with the labels of the table and of main
abbrev pub items : Form → ℕ → ℕ → ℕ → List Item
items form n from start =
    map Plain (tasks form) ++ map Number (table n)
    ++ loads_address 8 from ++ loads_address 9 start ++ map Plain main_loop

pub record IsWorkload (form : Form) (n : ℕ) (p : ProgramState) (start : ℕ) : Type 0 where
  pub from : ℕ
  pub text_begins : p.text_at ≡ text_at
  pub data_begins : p.data_at ≡ data_at
  pub text : p.text ≡ items form n from start
  pub words : p.data_words ≡ block_words n
  pub zeros : p.zeros ≡ 0
  pub table_placed : place_of p.labels from ≡ Some (length (tasks form))
  pub main_placed : place_of p.labels start ≡ Some (length (tasks form) + length (table n))
