-- A turn of the loop over the keys.
use Rattle.std.proofs.Common.{◌≡◌, ℕ, ◌+◌, ◌<◌, ◌≤◌, List, [], ◌∷◌, ◌++◌, length, get_or, take, drop, Some, None, Ok, Err, sym, ap, ◌∙◌, arith}
use Rattle.std.proofs.Math.ListN.{set, drop_of_length-le}
use Rattle.std.proofs.lemmas.List.{drop_more, take_more, take_more_set, take_all, get_or-map}
use Rattle.std.specs.Result.{result_err, result_unwrap_or}
use Rattle.toml.specs.Data.{Members}
use Rattle.tss_base.specs.Machine.{all_keys}
use Rattle.tss_base.specs.declared.machine.Key.{Key}
use Rattle.tss_base.specs.declared.machine.Key.TheVariants.{MainBudget}
use Rattle.tss_machine.specs.Table.{number_at, key_fault, number_or_zero, key_faults, numbers_of}
use Rattle.tss_machine.specs.Description.{first_fault}
use Rattle.tss_machine.specs.declared.fault.MachineFault.{MachineFault}
use Rattle.tss_machine.proofs.Faults.{first_fault-passed, first_fault-failed}

-- the key at a place
abbrev pub key_at : ℕ → Key
key_at i = get_or all_keys i MainBudget

-- its fault comes first of those from the place on
key_faults-from : (t : Members) (i : ℕ) → i < 16
    → drop i (key_faults t) ≡ key_fault t (key_at i) ∷ drop (i + 1) (key_faults t)
unfolding key_faults
key_faults-from t i h =
    let here = get_or-map (key_fault t) all_keys i MainBudget (key_fault t MainBudget) h in
    drop_more (key_faults t) i (key_fault t MainBudget) h ∙ ap (λ o. o ∷ drop (i + 1) (key_faults t)) here

-- where it has none, those after it decide
pub passed_turn : (t : Members) (i n : ℕ) → i < 16 → number_at t (key_at i) ≡ Ok n
    → first_fault (drop i (key_faults t)) ≡ first_fault (key_faults t)
    → first_fault (drop (i + 1) (key_faults t)) ≡ first_fault (key_faults t)
passed_turn t i n h e left =
    sym (first_fault-passed (key_fault t (key_at i)) _ (ap result_err e))
    ∙ ap first_fault (sym (key_faults-from t i h))
    ∙ left

-- where it has one, it is the first
pub failed_turn : (t : Members) (i : ℕ) (f : MachineFault) → i < 16 → number_at t (key_at i) ≡ Err f
    → first_fault (drop i (key_faults t)) ≡ first_fault (key_faults t)
    → first_fault (key_faults t) ≡ Some f
failed_turn t i f h e left =
    sym left
    ∙ ap first_fault (key_faults-from t i h)
    ∙ first_fault-failed (key_fault t (key_at i)) _ f (ap result_err e)

-- the number goes after those before it
pub read_turn : (t : Members) (i n : ℕ) (numbers : List ℕ) → i < 16 → length numbers ≡ 16
    → number_at t (key_at i) ≡ Ok n
    → take i numbers ≡ take i (numbers_of t)
    → take (i + 1) (set numbers i n) ≡ take (i + 1) (numbers_of t)
unfolding numbers_of
read_turn t i n numbers h long e read =
    let there = get_or-map (number_or_zero t) all_keys i MainBudget (number_or_zero t MainBudget) h in
    let here : get_or (numbers_of t) i (number_or_zero t MainBudget) ≡ n = there ∙ ap (λ r. result_unwrap_or r 0) e in
    take_more_set numbers i n (omega arith)
    ∙ (λ j. read j ++ (sym here) j ∷ [])
    ∙ sym (take_more (numbers_of t) i (number_or_zero t MainBudget) h)

-- and after all turns all are read
pub all_read : (t : Members) (i : ℕ) (numbers : List ℕ) → 16 ≤ i → length numbers ≡ 16
    → take i numbers ≡ take i (numbers_of t) → numbers ≡ numbers_of t
unfolding numbers_of
all_read t i numbers h long read = sym (take_all i numbers (omega arith)) ∙ read ∙ take_all i (numbers_of t) h

-- and no fault is left
pub all_passed : (t : Members) (i : ℕ) → 16 ≤ i → first_fault (drop i (key_faults t)) ≡ first_fault (key_faults t)
    → first_fault (key_faults t) ≡ None
unfolding key_faults
all_passed t i h left = sym left ∙ ap first_fault (drop_of_length-le (key_faults t) h)
