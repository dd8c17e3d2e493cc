-- The operands of a task in flight by their places.
use Rattle.std.proofs.Common.{◌≡◌, ℕ, suc, ◌+◌, List, [], ◌∷◌, ◌++◌, length, Option, Some, None, refl, sym, ap, ◌∙◌, arith}
use Rattle.std.specs.Prelude.{flat_map, slice_get, option_map, option_and_then}
use Rattle.std.specs.List.{range_with_len}
use Rattle.std.specs.FinMap.{get, entries}
use Rattle.std.proofs.lemmas.Option.{none-some, same_Some}
use Rattle.tss_base.specs.declared.operand.Task.{Task}
use Rattle.tss_base.specs.declared.marks.Stage.{Stage}
use Rattle.tss_base.specs.Names.{Numbered}
use Rattle.tss_maps.specs.Ordered.{key_at}
use Rattle.tss_maps.proofs.Keys.{nat_order}
use Rattle.tss_maps.proofs.OrderedLemmas.{key_at-entries, get_from_place}
use Rattle.tss_protocol.specs.Names.{operand_name}
use Rattle.tss_protocol.specs.State.{OperandState, Flying}
use Rattle.tss_protocol.specs.Stations.{operand_at}
use Rattle.tss_state_lines.proofs.Ranges.{texts_from, all_texts}
use Rattle.tss_stations.specs.Reading.{shown, found_in}
use Rattle.tss_state_lines.specs.Lines.{operand_line, task_line}
use Rattle.tss_state_text.specs.StateText.{operands_text, task_text, text_if}

-- the operand at a place
abbrev pub operand_text : Numbered Flying → ℕ → ℕ → List ℕ
operand_text flight task place =
    text_if (operand_line (operand_name task place)) (operand_at flight (operand_name task place))

operands_from : (task : ℕ) (rs : List OperandState) (g : ℕ → Option OperandState) (k : ℕ)
    → ((i : ℕ) → g (k + i) ≡ slice_get rs i)
    → operands_text task k rs
    ≡ flat_map (λ i. text_if (operand_line (operand_name task i)) (g i)) (range_with_len k (length rs))
operands_from task [] g k at = refl
operands_from task (r ∷ rs) g k at =
    let here : k ≡ k + 0 = omega arith in
    let next : suc k ≡ k + 1 = omega arith in
    let first : g k ≡ Some r = ap g here ∙ at 0 in
    let rest = operands_from task rs g (k + 1) (λ i. let there : k + 1 + i ≡ k + suc i = omega arith in ap g there ∙ at (suc i)) in
    λ i. text_if (operand_line (operand_name task k)) (sym first i) ++ (ap (λ n. operands_text task n rs) next ∙ rest) i

-- the operands of a task in flight are those at its places
pub operands_by_places : (flight : Numbered Flying) (task : ℕ) (x : Flying) → get flight task ≡ Some x →
    operands_text task 0 x.operands ≡ flat_map (operand_text flight task) (range_with_len 0 (length x.operands))
operands_by_places flight task x there =
    operands_from task x.operands (λ i. operand_at flight (operand_name task i)) 0
    (λ i.
    let same : 0 + i ≡ i = omega arith in
    ap (λ k. operand_at flight (operand_name task k)) same
    ∙ ap (λ o. option_and_then (λ (x : Flying). slice_get x.operands i) o) there)

-- those of the task, where it is in flight
pub operands_placed : (flight : Numbered Flying) (task count : ℕ) →
    Some count ≡ option_map (λ x. length x.operands) (get flight task) →
    text_if (λ x. operands_text task 0 x.operands) (get flight task) ≡ texts_from (operand_text flight task) count 0
operands_placed flight task count e = by (get flight task) refl e
  where
    by : (o : Option Flying) → get flight task ≡ o → Some count ≡ option_map (λ (x : Flying). length x.operands) o →
        text_if (λ x. operands_text task 0 x.operands) o ≡ texts_from (operand_text flight task) count 0
    by None there e = absurd (none-some count (sym e))
    by (Some x) there e =
        let many : length x.operands ≡ count = sym (same_Some count (length x.operands) e) in
        operands_by_places flight task x there
        ∙ all_texts (operand_text flight task) 0 (length x.operands) count (omega (arith, many))

-- a task by its place
pub task_text_at : (flight : Numbered Flying) (i : ℕ) (number : ℕ) → key_at flight i ≡ Some number →
    text_if (λ x. task_text (number, x)) (get flight number) ≡ text_if task_text (slice_get (entries flight) i)
task_text_at flight i number at = by (slice_get (entries flight) i) refl (sym (key_at-entries nat_order flight i) ∙ at)
  where
    by : (o : Option (ℕ × Flying)) → slice_get (entries flight) i ≡ o → option_map (λ (e : ℕ × Flying). e.0) o ≡ Some number →
        text_if (λ x. task_text (number, x)) (get flight number) ≡ text_if task_text o
    by None there e = absurd (none-some number e)
    by (Some (k, x)) there e =
        let same : k ≡ number = same_Some k number e in
        ap (λ n. text_if (λ x. task_text (n, x)) (get flight n)) (sym same)
        ∙ ap (text_if (λ x. task_text (k, x))) (get_from_place nat_order flight i k x there)

-- no task at a place
pub no_task_at : (flight : Numbered Flying) (i : ℕ) → key_at flight i ≡ None → [] ≡ text_if task_text (slice_get (entries flight) i)
no_task_at flight i none = by (slice_get (entries flight) i) (sym (key_at-entries nat_order flight i) ∙ none)
  where
    by : (o : Option (ℕ × Flying)) → option_map (λ (e : ℕ × Flying). e.0) o ≡ None → [] ≡ text_if task_text o
    by None e = refl
    by (Some x) e = absurd (none-some x.0 (sym e))

-- the line of a task that is found, and those of its operands
pub flying_text : (flight : Numbered Flying) (task : Task) (stage : Stage) → found_in flight task.number ≡ Some (task, stage) →
    task_line task stage ++ text_if (λ x. operands_text task.number 0 x.operands) (get flight task.number)
    ≡ text_if (λ x. task_text (task.number, x)) (get flight task.number)
flying_text flight task stage found = by (get flight task.number) found
  where
    by : (o : Option Flying) → option_map shown o ≡ Some (task, stage) →
        task_line task stage ++ text_if (λ x. operands_text task.number 0 x.operands) o
        ≡ text_if (λ x. task_text (task.number, x)) o
    by None e = absurd (none-some (task, stage) e)
    by (Some x) e =
        let same = same_Some (shown x) (task, stage) e in
        ap (λ (p : Task × Stage). task_line p.0 p.1 ++ operands_text task.number 0 x.operands) (sym same)
