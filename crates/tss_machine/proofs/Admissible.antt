-- What a description describes is an admissible machine.
use Rattle.std.proofs.Common.{◌≡◌, ℕ, ℤ, pos, negsuc, nat_le, ◌≤◌, ◌&&◌, Bool, true, false, cond, List, [], ◌∷◌, Option, Some, None, Result, Ok, Err, IfOk, refl, subst, arith, map}
use Rattle.std.proofs.lemmas.Bool.Decides.{nat_tests}
use Rattle.std.specs.Prelude.{slice_get}
use Rattle.std.specs.Result.{result_err, result_unwrap_or}
use Rattle.toml.specs.Data.{Data, string, integer, float, boolean, datetime, array, table, Members}
use Rattle.tss_base.specs.Machine.{all_keys, key_range, IsInRange, AreLimits, AreSizes, IsAdmissible}
use Rattle.tss_base.specs.declared.machine.Key.{Key}
use Rattle.tss_base.specs.declared.machine.Key.TheVariants.{MainBudget, TaskBudget, MaxTasks, MaxOperands, ObjectBytes, EpochObjects, OutputBytes, Stations, Slots, Workers, Banks, Entries, Versions, Buffers, Quantum, Window}
use Rattle.tss_machine.specs.Table.{in_range, number_from, number_at, key_fault, number_or_zero, key_faults, unknown_fault}
use Rattle.tss_machine.specs.Description.{machine_with, size_fault, size_faults, machine_in, checks, first_fault, answer_with, answer_of, table_of, machine_of}
use Rattle.tss_machine.specs.declared.fault.MachineFault.{MachineFault}
use Rattle.tss_machine.proofs.Faults.{passes-at, first_fault-parts}

-- the place of a key among all keys
abbrev place_of : Key → ℕ
place_of MainBudget = 0
place_of TaskBudget = 1
place_of MaxTasks = 2
place_of MaxOperands = 3
place_of ObjectBytes = 4
place_of EpochObjects = 5
place_of OutputBytes = 6
place_of Stations = 7
place_of Slots = 8
place_of Workers = 9
place_of Banks = 10
place_of Entries = 11
place_of Versions = 12
place_of Buffers = 13
place_of Quantum = 14
place_of Window = 15

-- what all keys have a function of the key has at its place
at_place : {Y : Type 0} (f : Key → Y) (k : Key) → slice_get (map f all_keys) (place_of k) ≡ Some (f k)
at_place f MainBudget = refl
at_place f TaskBudget = refl
at_place f MaxTasks = refl
at_place f MaxOperands = refl
at_place f ObjectBytes = refl
at_place f EpochObjects = refl
at_place f OutputBytes = refl
at_place f Stations = refl
at_place f Slots = refl
at_place f Workers = refl
at_place f Banks = refl
at_place f Entries = refl
at_place f Versions = refl
at_place f Buffers = refl
at_place f Quantum = refl
at_place f Window = refl

-- a number between two others
between : (least greatest n : ℕ) → nat_le least n && nat_le n greatest ≡ true → (least ≤ n) × (n ≤ greatest)
between least greatest n e = (grind (arith, nat_tests), grind (arith, nat_tests))

-- a number that passes the test of its key is in its range
tested : (k : Key) (n : ℕ) (b : Bool) (e : MachineFault) → nat_le (key_range k).0 n && nat_le n (key_range k).1 ≡ b
    → result_err (cond {A = Result ℕ MachineFault} b (Ok n) (Err e)) ≡ None
    → IsInRange k (result_unwrap_or (cond {A = Result ℕ MachineFault} b (Ok n) (Err e)) 0)
tested k n true e test none = between (key_range k).0 (key_range k).1 n test
tested k n false e test none = cc

-- and so is what an integer gives, where it gives no fault
in_range-IsInRange : (k : Key) (z : ℤ) → result_err (in_range k z) ≡ None
    → IsInRange k (result_unwrap_or (in_range k z) 0)
in_range-IsInRange k (pos n) none = tested k n _ _ refl none
in_range-IsInRange k (negsuc n) none = cc

-- and what a value gives
number_from-IsInRange : (k : Key) (d : Option Data) → result_err (number_from k d) ≡ None
    → IsInRange k (result_unwrap_or (number_from k d) 0)
number_from-IsInRange k None none = cc
number_from-IsInRange k (Some (integer z)) none = in_range-IsInRange k z none
number_from-IsInRange k (Some (string x)) none = cc
number_from-IsInRange k (Some (float x)) none = cc
number_from-IsInRange k (Some (boolean x)) none = cc
number_from-IsInRange k (Some (datetime x)) none = cc
number_from-IsInRange k (Some (array x)) none = cc
number_from-IsInRange k (Some (table x)) none = cc

-- where no key has a fault, each number is in its range
each_in_range : (t : Members) → first_fault (key_faults t) ≡ None → (k : Key) → IsInRange k (number_or_zero t k)
unfolding key_faults number_at
each_in_range t passed k =
    number_from-IsInRange k _ (passes-at (key_faults t) (place_of k) (key_fault t k) passed (at_place (key_fault t) k))

module _ (f : Key → ℕ) (ranges : (k : Key) → IsInRange k (f k)) where
  same : (k : Key) (n : ℕ) → Some (f k) ≡ Some n → IsInRange k n
  same k n e = let is : f k ≡ n = cc in subst (IsInRange k) is (ranges k)

  -- the limits of a machine with numbers in their ranges
  limits_with : AreLimits (machine_with f).limits
  limits_with MainBudget n e = same MainBudget n e
  limits_with TaskBudget n e = same TaskBudget n e
  limits_with MaxTasks n e = same MaxTasks n e
  limits_with MaxOperands n e = same MaxOperands n e
  limits_with ObjectBytes n e = same ObjectBytes n e
  limits_with EpochObjects n e = same EpochObjects n e
  limits_with OutputBytes n e = same OutputBytes n e
  limits_with _ n e = cc

  -- and its sizes
  sizes_with : AreSizes (machine_with f).sizes
  sizes_with Stations n e = same Stations n e
  sizes_with Slots n e = same Slots n e
  sizes_with Workers n e = same Workers n e
  sizes_with Banks n e = same Banks n e
  sizes_with Entries n e = same Entries n e
  sizes_with Versions n e = same Versions n e
  sizes_with Buffers n e = same Buffers n e
  sizes_with Quantum n e = same Quantum n e
  sizes_with Window n e = same Window n e
  sizes_with _ n e = cc

-- a table of a bank that isn't too small has room for the operands of a task
has_room : (k : Key) (size operands : ℕ) → size_fault k size operands ≡ None → operands ≤ size
has_room k size operands none = grind (arith, nat_tests)

-- a table without a fault describes an admissible machine
admissible_table : (t : Members) → first_fault (checks t) ≡ None → IsAdmissible (machine_in t)
unfolding checks machine_in
admissible_table t passed =
    let parts = first_fault-parts (key_faults t) (unknown_fault t ∷ size_faults (machine_in t)) passed in
    let ranges = each_in_range t parts.0 in
    let large = (first_fault-parts (unknown_fault t ∷ []) (size_faults (machine_in t)) parts.1).1 in
    record {
      limits = limits_with (number_or_zero t) ranges;
      sizes = sizes_with (number_or_zero t) ranges;
      entries = has_room Entries _ _ (passes-at (size_faults (machine_in t)) 0 _ large refl);
      versions = has_room Versions _ _ (passes-at (size_faults (machine_in t)) 1 _ large refl);
      buffers = has_room Buffers _ _ (passes-at (size_faults (machine_in t)) 2 _ large refl);
    }

answer_with-admissible : (t : Members) (first : Option MachineFault) → first_fault (checks t) ≡ first
    → IfOk (answer_with (machine_in t) first) IsAdmissible
answer_with-admissible t None e = admissible_table t e
answer_with-admissible t (Some f) e = tt

answer_of-admissible : (t : Option Members) → IfOk (answer_of t) IsAdmissible
answer_of-admissible None = tt
answer_of-admissible (Some t) = answer_with-admissible t (first_fault (checks t)) refl

-- and so do any bytes
pub machine_of-admissible : (bytes : List ℕ) → IfOk (machine_of bytes) IsAdmissible
unfolding machine_of
machine_of-admissible bytes = answer_of-admissible (table_of bytes)
