-- What a contract sees of a program, and how calls build it.
use Rattle.std.specs.Prelude.{ℕ, List, [], ◌++◌, Option, refl}
use Rattle.std.specs.Coded.{Coded, code_by, coded×, coded_ℕ, coded_list, coded_option}
use Rattle.std.specs.FinMap as map
use Rattle.tss_base.specs.Names.{Numbered}
use Rattle.tss_asm.specs.declared.item.Item.{Item}
use Rattle.tss_asm.specs.contracts.item.Item as item

-- the addresses of its two segments, the items of its text, each of which is one word, the words of its data and how
-- many bytes of zeros come after them, and its labels: how many words of the text stand before the place of each
pub record ProgramState : Type 0 where
  pub text_at : ℕ
  pub data_at : ℕ
  pub text : List Item
  pub data_words : List ℕ
  pub zeros : ℕ
  pub labels : Numbered (Option ℕ)

abbrev pub program_code : Coded ProgramState
program_code =
    code_by (ℕ × (ℕ × (List Item × (List ℕ × (ℕ × Numbered (Option ℕ))))))
    (coded× coded_ℕ (coded× coded_ℕ (coded× (coded_list (item.the_row).coded) (coded× (coded_list coded_ℕ)
    (coded× coded_ℕ (map.code coded_ℕ (coded_option coded_ℕ)))))))
    (λ p. (p.text_at, (p.data_at, (p.text, (p.data_words, (p.zeros, p.labels))))))
    (λ t. record {
      text_at = t.0;
      data_at = t.1.0;
      text = t.1.1.0;
      data_words = t.1.1.1.0;
      zeros = t.1.1.1.1.0;
      labels = t.1.1.1.1.1;
    })
    (λ _. refl)

-- nothing, for segments at these addresses
abbrev pub empty_program : ℕ → ℕ → ProgramState
empty_program text_at data_at = record {
  text_at = text_at;
  data_at = data_at;
  text = [];
  data_words = [];
  zeros = 0;
  labels = map.empty;
}

-- the same with more items at the end of the text
abbrev pub with_items : ProgramState → List Item → ProgramState
with_items p items = record p { text = p.text ++ items }
