-- The texts of what readers show, by what is there.
use Rattle.std.proofs.Common.{◌≡◌, ℕ, List, [], Option, Some, None, Ok, refl, sym, ap, ◌∙◌}
use Rattle.std.specs.Prelude.{option_map, option_and_then, slice_get}
use Rattle.std.specs.FinMap.{get, entries, keys}
use Rattle.std.proofs.lemmas.Option.{none-some, same_Some}
use Rattle.tss_base.specs.declared.operand.OpName.{OpName}
use Rattle.tss_base.specs.declared.range.Range.{Range}
use Rattle.tss_base.specs.declared.machine.Sizes.{Sizes}
use Rattle.tss_base.specs.Names.{Named, Numbered}
use Rattle.tss_maps.specs.Ordered.{key_at}
use Rattle.tss_maps.proofs.Keys.{nat_order, name_order}
use Rattle.tss_maps.proofs.OrderedLemmas.{key_there}
use Rattle.tss_outside.specs.declared.sink.Sink.{Ghosts}
use Rattle.tss_protocol.specs.State.{Entry, CopyState}
use Rattle.tss_renaming.specs.declared.entry_view.EntryView.{EntryView}
use Rattle.tss_renaming.specs.Entries.{entry_of}
use Rattle.tss_text.specs.declared.writer.PieceWriter.{PieceWriter}
use Rattle.tss_text.specs.Pieces.{Emits}
use Rattle.tss_text.proofs.PieceLemmas.{none_put, all_put}
use Rattle.tss_pipeline.specs.BankParts.{value_at, entries_at, names_at, contents_under, copy_shown, copy_told}
use Rattle.tss_state_lines.specs.Lines.{entry_line, copy_line}
use Rattle.tss_state_text.specs.StateText.{text_if, bank_entries, bank_names, copy_text}
use Rattle.tss_state_text.proofs.BankLemmas.{entries_same, names_same, value_at-entries}

-- nothing is put
pub nothing_put : {K : Type 0} (g : Ghosts K) (w : PieceWriter K) {v : Unit {0}} → Emits g w w (Ok v) []
nothing_put g w = all_put (none_put g w [] [] refl) refl

-- the text of what a function gives
pub text_of_map : {A B : Type 0} (f : B → List ℕ) (a : A → B) (o : Option A) →
    text_if f (option_map a o) ≡ text_if (λ x. f (a x)) o
text_of_map f a None = refl
text_of_map f a (Some x) = refl

-- ---- banks

-- an entry of a bank that is shown
pub entry_text_at : (sizes : Sizes) (b : ℕ) (es : Numbered Entry) (i : ℕ) (r : Option EntryView) →
    option_map entry_of r ≡ value_at (entries_at sizes b es) i →
    text_if (entry_line b) (option_map entry_of r)
    ≡ text_if (λ e. entry_line b e.1) (slice_get (entries (bank_entries sizes b es)) i)
entry_text_at sizes b es i r e =
    ap (text_if (entry_line b))
    (e
    ∙ ap (λ m. value_at m i) (entries_same sizes b es)
    ∙ value_at-entries nat_order (bank_entries sizes b es) i)
    ∙ text_of_map (entry_line b) (λ (e : ℕ × Entry). e.1) (slice_get (entries (bank_entries sizes b es)) i)

-- a name that holds something of a bank
pub name_place : (b : ℕ) (held : Named ℕ) (i : ℕ) → key_at (names_at b held) i ≡ slice_get (keys (bank_names b held)) i
unfolding key_at
name_place b held i = ap (λ m. slice_get (keys m) i) (names_same b held)

-- the contents under a name that holds a buffer of a bank
pub contents_there : (b : ℕ) (held : Named ℕ) (contents : Named (List ℕ)) (i : ℕ) (n : OpName) →
    key_at (names_at b held) i ≡ Some n → contents_under (names_at b held) contents n ≡ get contents n
contents_there b held contents i n at =
    let there = key_there name_order (names_at b held) i n at in
    ap (option_and_then (λ bank. get contents n)) there.1

-- a bank that copies
pub copy_line_of : (copies : Numbered CopyState) (b : ℕ) (v : OpName) (object : Range) (place moved : ℕ) →
    option_map copy_shown (Some (v, object, place)) ≡ option_map copy_told (get copies b) →
    Some moved ≡ option_map (λ c. c.moved) (get copies b) → copy_line b v moved ≡ copy_text copies b
copy_line_of copies b v object place moved e f = by (get copies b) e f
  where
    by : (o : Option CopyState) → Some (v, object) ≡ option_map copy_told o → Some moved ≡ option_map (λ c. c.moved) o →
        copy_line b v moved ≡ text_if (λ c. copy_line b c.version c.moved) o
    by None e f = absurd (none-some moved (sym f))
    by (Some c) e f =
        let named : v ≡ c.version = ap (λ (p : OpName × Range). p.0) (same_Some (v, object) (copy_told c) e) in
        let moves : moved ≡ c.moved = same_Some moved c.moved f in
        λ i. copy_line b (named i) (moves i)
