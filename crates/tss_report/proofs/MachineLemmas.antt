-- The sizes of the tests' machine lie in their ranges.
use Rattle.std.proofs.Common.{◌≡◌, ℕ, Some, subst, arith}
use Rattle.std.proofs.lemmas.Option.{same_Some, none-some}
use Rattle.tss_base.specs.declared.machine.Sizes.{Sizes}
use Rattle.tss_base.specs.declared.machine.Key.{Key}
use Rattle.tss_base.specs.declared.machine.Key.TheVariants.{MainBudget, TaskBudget, MaxTasks, MaxOperands, ObjectBytes, EpochObjects, OutputBytes, Stations, Slots, Workers, Banks, Entries, Versions, Buffers, Quantum, Window}
use Rattle.tss_base.specs.Machine.{AreSizes, IsInRange}

abbrev pub test_sizes : Sizes
test_sizes = record {
  stations = 1;
  slots = 8;
  workers = 3;
  banks = 1;
  entries = 16;
  versions = 16;
  buffers = 7;
  quantum = 100;
  window = 1;
}

-- a number that is given lies in the range of its key
given : (k : Key) (v n : ℕ) → IsInRange k v → Some v ≡ Some n → IsInRange k n
given k v n h e = subst (IsInRange k) (same_Some v n e) h

pub sizes_are : AreSizes test_sizes
sizes_are Stations n e = given Stations 1 n (omega arith, omega arith) e
sizes_are Slots n e = given Slots 8 n (omega arith, omega arith) e
sizes_are Workers n e = given Workers 3 n (omega arith, omega arith) e
sizes_are Banks n e = given Banks 1 n (omega arith, omega arith) e
sizes_are Entries n e = given Entries 16 n (omega arith, omega arith) e
sizes_are Versions n e = given Versions 16 n (omega arith, omega arith) e
sizes_are Buffers n e = given Buffers 7 n (omega arith, omega arith) e
sizes_are Quantum n e = given Quantum 100 n (omega arith, omega arith) e
sizes_are Window n e = given Window 1 n (omega arith, omega arith) e
sizes_are MainBudget n e = absurd (none-some n e)
sizes_are TaskBudget n e = absurd (none-some n e)
sizes_are MaxTasks n e = absurd (none-some n e)
sizes_are MaxOperands n e = absurd (none-some n e)
sizes_are ObjectBytes n e = absurd (none-some n e)
sizes_are EpochObjects n e = absurd (none-some n e)
sizes_are OutputBytes n e = absurd (none-some n e)
