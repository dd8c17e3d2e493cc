-- Where what main and a task access lies.
use Rattle.std.specs.Prelude.{◌≡◌, ◌≤◌, Bool, true, not, IsTrue, List, Some}
use Rattle.std.specs.List.{list_all}
use Rattle.tss_base.specs.declared.bounds.TheConstants.{MAX_OPERANDS}
use Rattle.tss_base.specs.declared.operand.Operand.{Operand}
use Rattle.tss_base.specs.declared.operand.Task.{Task}
use Rattle.tss_base.specs.declared.range.Range.{Range}
use Rattle.tss_base.specs.Range.{meets}
use Rattle.tss_model.specs.Memory.{MemoryRange, range_of, scratch_range}
use Rattle.tss_model.specs.Access.{Purpose, Stores, operands_of}
use Rattle.tss_model.specs.Spawn.{is_outside}
use Rattle.tss_memory.specs.declared.found.Found.{Found}
use Rattle.tss_memory.specs.Ranges.{AreRanges, IsFound}

-- no range of memory shares an address with a task's scratch
abbrev pub beside_scratch : List MemoryRange → Bool
beside_scratch ranges = list_all (λ m. not (meets m.range scratch_range)) ranges

-- an operand lies in one range of memory, which can be written where the operand is
abbrev pub is_placed : List MemoryRange → Operand → Bool
is_placed ranges o = not (is_outside o.mode (range_of ranges o.object))

abbrev pub are_placed : List MemoryRange → List Operand → Bool
are_placed ranges operands = list_all (is_placed ranges) operands

-- the memory that a task runs in, with its operands
pub record IsGround (ranges : List MemoryRange) (operands : List Operand) : Type 0 where
  pub are : AreRanges ranges
  pub beside : beside_scratch ranges ≡ true
  pub placed : are_placed ranges operands ≡ true

-- the range of memory that was found for an access: for a store it can be written
pub record IsFoundFor (purpose : Purpose) (ranges : List MemoryRange) (f : Found) (r : Range) : Type 0 where
  pub found : IsFound ranges f r
  pub within : range_of ranges r ≡ Some f.writable
  pub stored : purpose ≡ Stores → IsTrue f.writable

-- a task that can run in memory with these ranges: it has at most seven operands, as listed and as merged, and these lie
-- in memory
pub record CanRun (ranges : List MemoryRange) (t : Task) : Type 0 where
  pub count : t.count ≤ t.listed
  pub listed : t.listed ≤ MAX_OPERANDS
  pub placed : are_placed ranges (operands_of t) ≡ true
