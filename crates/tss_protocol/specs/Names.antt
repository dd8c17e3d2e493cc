-- Names of the unit machine: banks and stations by number, and the operands of a task.
use Rattle.std.specs.Prelude.{ℕ, ◌-◌, ◌/◌, ◌%◌, Bool}
use Rattle.std.specs.Ordering.{eq_by_cmp}
use Rattle.tss_base.specs.declared.bounds.TheConstants.{BANK_BYTES}
use Rattle.tss_base.specs.declared.range.Range.{Range}
use Rattle.tss_base.specs.declared.operand.OpName.{OpName}
use Rattle.tss_base.specs.declared.machine.Sizes.{Sizes}
use Rattle.tss_base.specs.Names.{name_cmp}

-- the bank of an object, of the tables for renaming and versioning
abbrev pub bank_of : Sizes → Range → ℕ
bank_of sizes object = object.base / BANK_BYTES % sizes.banks

-- the station of a task by its number
abbrev pub station_of : Sizes → ℕ → ℕ
station_of sizes task = (task - 1) % sizes.stations

-- an operand of a task. A version has the name of the operand that opened it, and a buffer that of the operand for
-- which it was taken, so names are never used again
abbrev pub operand_name : ℕ → ℕ → OpName
operand_name task place = record { task = task; place = place }

-- two names are equal
abbrev pub same_name : OpName → OpName → Bool
same_name = eq_by_cmp name_cmp
