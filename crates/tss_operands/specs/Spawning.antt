-- A spawn's words and answers as the definitions have them.
use Rattle.std.specs.Prelude.{ℕ, ◌&&◌, nat_lt, if◌then◌else◌, List, Result, Ok, Err}
use Rattle.tss_base.specs.declared.range.Range.{Range}
use Rattle.tss_base.specs.declared.operand.Operand.{Operand}
use Rattle.tss_base.specs.declared.machine.Limits.{Limits}
use Rattle.tss_model.specs.Memory.{Memory}
use Rattle.tss_model.specs.Access.{touches}
use Rattle.tss_base.specs.declared.refusals.TheConstants.{LIST_PLACE, MAIN_TOUCH}
use Rattle.tss_model.specs.Spawn.{SpawnCall, is_misplaced, list_range, entries_at, entries_checked}
use Rattle.tss_operands.specs.declared.spawn.SpawnWords.{SpawnWords}
use Rattle.tss_operands.specs.declared.spawn.SpawnFault.{SpawnFault}

-- what main passes
abbrev pub call_of : SpawnWords → SpawnCall
call_of w = record { entry = w.entry; list = w.list; count = w.count; argument = w.argument }

-- an answer with the number of the fault in the fault's place
abbrev pub numbered : {T : Type 0} → Result T SpawnFault → Result T ℕ
numbered (Ok t) = Ok t
numbered (Err f) = Err f.0

-- the operands that are listed, or the number of the first check of the list and its entries that fails. No public
-- clause speaks of it
abbrev pub list_checked : SpawnCall → Memory → List Range → Limits → Result (List Operand) ℕ
list_checked call m named limits =
    if nat_lt 0 call.count && is_misplaced m call then Err LIST_PLACE
    else if nat_lt 0 call.count && touches named (list_range call) then Err MAIN_TOUCH
    else entries_checked limits m named (entries_at m call.list call.count)
