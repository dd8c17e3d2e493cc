-- What the calls that build a workload leave, one after the other.
use Rattle.std.proofs.Common.{◌≡◌, ◌≢◌, ℕ, ◌+◌, ◌++◌, length, refl, ap, ◌∙◌, arith, Option, Some, None}
use Rattle.std.proofs.Common.{length-append}
use Rattle.std.specs.Prelude.{map}
use Rattle.std.specs.FinMap.{get, insert}
use Rattle.std.proofs.lemmas.List.{length-map}
use Rattle.tss_base.specs.Names.{Numbered}
use Rattle.tss_maps.proofs.Keys.{nat_order}
use Rattle.tss_maps.proofs.Changes.{at_inserted, beside_inserted, apart_absent}
use Rattle.tss_asm.specs.declared.item.Item.TheVariants.{Plain, Number}
use Rattle.tss_asm.specs.Labels.{joined, placed, placed_over}
use Rattle.tss_asm.specs.Program.{ProgramState, empty_program, with_items}
use Rattle.tss_gen.specs.declared.form.Form.{Form}
use Rattle.tss_gen.specs.Tasks.{tasks, main_loop}
use Rattle.tss_gen.specs.Workload.{text_at, data_at, table, block_words}
use Rattle.tss_gen.specs.Built.{IsWorkload, items, loads_address}

-- a label that was given and is placed
get-placed : (labels : Numbered (Option ℕ)) (l at : ℕ) (before : Option ℕ) → get labels l ≡ Some before
    → get (placed labels l at) l ≡ Some (Some at)
get-placed labels l at before e =
    ap (λ o. get (placed_over labels l at o) l) e ∙ at_inserted nat_order labels l (Some at)

-- another label stays
beside_over : (labels : Numbered (Option ℕ)) (l at q : ℕ) (o : Option (Option ℕ)) → q ≢ l
    → get (placed_over labels l at o) q ≡ get labels q
beside_over labels l at q None apart = refl
beside_over labels l at q (Some before) apart = beside_inserted nat_order labels l (Some at) q apart

-- a new label that is placed at once: its place, and that of one that was placed
new_placed : (labels : Numbered (Option ℕ)) (l at : ℕ) → get (placed (insert labels l None) l at) l ≡ Some (Some at)
new_placed labels l at = get-placed (insert labels l None) l at None (at_inserted nat_order labels l None)

old_placed : (labels : Numbered (Option ℕ)) (l at q place : ℕ) → get labels q ≡ Some (Some place)
    → get labels l ≡ None → get (placed (insert labels l None) l at) q ≡ Some (Some place)
old_placed labels l at q place known fresh =
    let apart : q ≢ l = apart_absent labels q l (Some place) known fresh in
    beside_over (insert labels l None) l at q (get (insert labels l None) l) apart
    ∙ beside_inserted nat_order labels l None q apart ∙ known

module _ (form : Form) (n from start : ℕ) (p0 p1 p2 p3 p4 p5 p6 p7 p8 p9 p10 : ProgramState)
    (opened : p0 ≡ empty_program text_at data_at)
    (coded : p1 ≡ with_items p0 (map Plain (tasks form)))
    (given : p2 ≡ record p1 { labels = insert p1.labels from None })
    (begun : p3 ≡ record p2 { labels = placed p2.labels from (length p2.text) })
    (tabled : p4 ≡ with_items p3 (map Number (table n)))
    (fresh : get p4.labels start ≡ None)
    (given_start : p5 ≡ record p4 { labels = insert p4.labels start None })
    (started : p6 ≡ record p5 { labels = placed p5.labels start (length p5.text) })
    (first : p7 ≡ with_items p6 (loads_address 8 from))
    (second : p8 ≡ with_items p7 (loads_address 9 start))
    (looped : p9 ≡ with_items p8 (map Plain main_loop))
    (filled : p10 ≡ record p9 { data_words = p9.data_words ++ block_words n }) where
  text_2 : p2.text ≡ map Plain (tasks form)
  text_2 = ap (λ p. p.text) given ∙ ap (λ p. p.text) coded ∙ ap (λ p. p.text ++ map Plain (tasks form)) opened

  text_5 : p5.text ≡ map Plain (tasks form) ++ map Number (table n)
  text_5 =
      ap (λ p. p.text) given_start ∙ ap (λ p. p.text) tabled
      ∙ ap (λ xs. xs ++ map Number (table n)) (ap (λ p. p.text) begun ∙ text_2)

  text_10 : p10.text ≡ items form n from start
  text_10 =
      ap (λ p. p.text) filled ∙ ap (λ p. p.text) looped
      ∙ ap (λ p. p.text ++ map Plain main_loop) second
      ∙ ap (λ p. p.text ++ loads_address 9 start ++ map Plain main_loop) first
      ∙ ap (λ xs. xs ++ loads_address 8 from ++ loads_address 9 start ++ map Plain main_loop)
      (ap (λ p. p.text) started ∙ text_5)

  length_2 : length p2.text ≡ length (tasks form)
  length_2 = ap length text_2 ∙ length-map (tasks form) Plain

  length_5 : length p5.text ≡ length (tasks form) + length (table n)
  length_5 =
      let a = length-map (tasks form) Plain in
      let b = length-map (table n) Number in
      let c = length-append (map Plain (tasks form)) (map Number (table n)) in
      ap length text_5 ∙ omega arith

  known_4 : get p4.labels from ≡ Some (Some (length p2.text))
  known_4 =
      ap (λ p. get p.labels from) tabled ∙ ap (λ p. get p.labels from) begun
      ∙ ap (λ p. get (placed p.labels from (length p2.text)) from) given
      ∙ new_placed p1.labels from (length p2.text)

  labels_10 : (q : ℕ) → get p10.labels q ≡ get (placed (insert p4.labels start None) start (length p5.text)) q
  labels_10 q =
      ap (λ p. get p.labels q) filled ∙ ap (λ p. get p.labels q) looped ∙ ap (λ p. get p.labels q) second
      ∙ ap (λ p. get p.labels q) first ∙ ap (λ p. get p.labels q) started
      ∙ ap (λ p. get (placed p.labels start (length p5.text)) q) given_start

  pub workload_is_built : IsWorkload form n p10 start
  workload_is_built = record {
    from = from;
    text_begins =
        ap (λ p. p.text_at) filled ∙ ap (λ p. p.text_at) looped ∙ ap (λ p. p.text_at) second
        ∙ ap (λ p. p.text_at) first ∙ ap (λ p. p.text_at) started ∙ ap (λ p. p.text_at) given_start
        ∙ ap (λ p. p.text_at) tabled ∙ ap (λ p. p.text_at) begun ∙ ap (λ p. p.text_at) given
        ∙ ap (λ p. p.text_at) coded ∙ ap (λ p. p.text_at) opened;
    data_begins =
        ap (λ p. p.data_at) filled ∙ ap (λ p. p.data_at) looped ∙ ap (λ p. p.data_at) second
        ∙ ap (λ p. p.data_at) first ∙ ap (λ p. p.data_at) started ∙ ap (λ p. p.data_at) given_start
        ∙ ap (λ p. p.data_at) tabled ∙ ap (λ p. p.data_at) begun ∙ ap (λ p. p.data_at) given
        ∙ ap (λ p. p.data_at) coded ∙ ap (λ p. p.data_at) opened;
    text = text_10;
    words =
        ap (λ p. p.data_words) filled ∙ ap (λ ws. ws ++ block_words n)
        (ap (λ p. p.data_words) looped ∙ ap (λ p. p.data_words) second ∙ ap (λ p. p.data_words) first
        ∙ ap (λ p. p.data_words) started ∙ ap (λ p. p.data_words) given_start ∙ ap (λ p. p.data_words) tabled
        ∙ ap (λ p. p.data_words) begun ∙ ap (λ p. p.data_words) given ∙ ap (λ p. p.data_words) coded
        ∙ ap (λ p. p.data_words) opened);
    zeros =
        ap (λ p. p.zeros) filled ∙ ap (λ p. p.zeros) looped ∙ ap (λ p. p.zeros) second
        ∙ ap (λ p. p.zeros) first ∙ ap (λ p. p.zeros) started ∙ ap (λ p. p.zeros) given_start
        ∙ ap (λ p. p.zeros) tabled ∙ ap (λ p. p.zeros) begun ∙ ap (λ p. p.zeros) given
        ∙ ap (λ p. p.zeros) coded ∙ ap (λ p. p.zeros) opened;
    table_placed =
        ap joined (labels_10 from ∙ old_placed p4.labels start (length p5.text) from (length p2.text) known_4 fresh)
        ∙ ap Some length_2;
    main_placed = ap joined (labels_10 start ∙ new_placed p4.labels start (length p5.text)) ∙ ap Some length_5;
  }
