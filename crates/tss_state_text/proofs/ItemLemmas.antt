-- The parts of the state text, and the tables of a bank, item by item.
use Rattle.std.proofs.Common.{◌≡◌, ℕ, suc, ◌+◌, ◌<◌, List, [], ◌∷◌, ◌++◌, length, drop, get_or, Option, Some, refl, sym, ap, ◌∙◌, append-nil, arith}
use Rattle.std.specs.Prelude.{flat_map, slice_get}
use Rattle.std.specs.List.{range_with_len}
use Rattle.std.specs.FinMap.{entries, keys, len-entries}
use Rattle.std.proofs.lemmas.List.{drop_more}
use Rattle.tss_base.specs.declared.machine.Machine.{Machine}
use Rattle.tss_model.specs.Memory.{Memory}
use Rattle.tss_protocol.specs.Gateway.{held_tasks}
use Rattle.tss_protocol.specs.Mail.{message_at, message_names}
use Rattle.tss_protocol.specs.State.{State}
use Rattle.tss_state_text.specs.declared.part.Part.{Part}
use Rattle.tss_state_text.specs.declared.part.Part.TheVariants as part
use Rattle.tss_state_lines.specs.Lines.{epoch_line, gateway_line, queue_line, entry_line, place_line, message_line, piece_line}
use Rattle.tss_state_text.specs.StateText.{text_if, task_text, bank_entries, bank_names, buffer_text, part_text, all_parts, state_text}
use Rattle.tss_state_text.specs.declared.banks.Table.{Table}
use Rattle.tss_state_text.specs.declared.banks.Table.TheVariants as table
use Rattle.tss_state_text.specs.Items.{item_count, item_text, row_count, row_text, table_text}

-- ---- lists by their places

module _ {X : Type 0} (f : X → List ℕ) where
  places_from : (xs : List X) (g : ℕ → Option X) (k : ℕ) → ((i : ℕ) → g (k + i) ≡ slice_get xs i)
      → flat_map (λ i. text_if f (g i)) (range_with_len k (length xs)) ≡ flat_map f xs
  places_from [] g k at = refl
  places_from (x ∷ xs) g k at =
      let here : k ≡ k + 0 = omega arith in
      let first : g k ≡ Some x = ap g here ∙ at 0 in
      let rest =
      places_from xs g (k + 1)
      (λ i. let there : k + 1 + i ≡ k + suc i = omega arith in ap g there ∙ at (suc i)) in
      λ i. text_if f (first i) ++ rest i

  -- the texts of a list's elements are those of its places
  pub by_places : (xs : List X) →
      flat_map f xs ≡ flat_map (λ i. text_if f (slice_get xs i)) (range_with_len 0 (length xs))
  by_places xs = sym (places_from xs (slice_get xs) 0 (λ i. let same : 0 + i ≡ i = omega arith in ap (slice_get xs) same))

-- ---- parts

module _ (before : Memory) (m : Machine) (S : State) where
  -- a part is its items
  pub part_items : (p : Part) →
      part_text before m S p ≡ flat_map (item_text before m S p) (range_with_len 0 (item_count m S p))
  unfolding part_text
  part_items part.Main = sym (append-nil (item_text before m S part.Main 0))
  part_items part.Registers = sym (append-nil (item_text before m S part.Registers 0))
  part_items part.Ending = sym (append-nil (item_text before m S part.Ending 0))
  part_items part.Epoch = by_places epoch_line S.main.epoch
  part_items part.Inbox = sym (append-nil (item_text before m S part.Inbox 0))
  part_items part.Gateway = by_places gateway_line (held_tasks S.gateway)
  part_items part.Tasks =
      by_places task_text (entries S.flight)
      ∙ ap (λ n. flat_map (item_text before m S part.Tasks) (range_with_len 0 n)) (sym (len-entries S.flight))
  part_items part.Queue = by_places queue_line S.queue
  part_items part.Workers = refl
  part_items part.Entries = refl
  part_items part.Places = refl
  part_items part.Buffers = refl
  part_items part.Versions = sym (append-nil (item_text before m S part.Versions 0))
  part_items part.Messages = by_places (λ name. text_if message_line (message_at S.mail name)) (message_names S.mail)
  part_items part.Copies = refl
  part_items part.Trap = sym (append-nil (item_text before m S part.Trap 0))
  part_items part.Pieces = by_places piece_line S.main.pieces
  part_items part.Rows = sym (append-nil (item_text before m S part.Rows 0))
  part_items part.Enabled = sym (append-nil (item_text before m S part.Enabled 0))

  -- the parts from a place on
  unfoldable pub parts_from : ℕ → List ℕ
  parts_from i = flat_map (part_text before m S) (drop i all_parts)

  -- at first all are left
  pub all_left : state_text before m S ≡ parts_from 0
  unfolding state_text parts_from
  all_left = refl

  -- in the end none is
  pub none_left : parts_from 19 ≡ []
  unfolding parts_from
  none_left = refl

-- the part at a place
abbrev pub part_at : ℕ → Part
part_at i = get_or all_parts i part.Main

-- that of a place, and those after it
pub parts_next : (before : Memory) (m : Machine) (S : State) (i : ℕ) → i < 19 →
    parts_from before m S i ≡ part_text before m S (part_at i) ++ parts_from before m S (i + 1)
unfolding parts_from
parts_next before m S i h = ap (flat_map (part_text before m S)) (drop_more all_parts i part.Main h)

-- ---- tables of a bank

-- a table is its rows
pub table_rows : (m : Machine) (S : State) (t : Table) (b : ℕ) →
    table_text m S t b ≡ flat_map (row_text m S t b) (range_with_len 0 (row_count m S t b))
table_rows m S table.Entries b = by_places (λ e. entry_line b e.1) (entries (bank_entries m.sizes b S.entries))
table_rows m S table.Places b = by_places (place_line b) (keys (bank_names b S.places))
table_rows m S table.Buffers b = by_places (buffer_text m.sizes S b) (keys (bank_names b S.buffers))
