-- How many readers are counted.
use Rattle.std.specs.Prelude.{◌≡◌, ℕ, ◌*◌, ◌≤◌, List, Some}
use Rattle.std.specs.FinMap.{get}
use Rattle.tss_base.specs.declared.operand.OpName.{OpName}
use Rattle.tss_base.specs.declared.operand.Task.{Task}
use Rattle.tss_base.specs.declared.machine.Machine.{Machine}
use Rattle.tss_protocol.specs.State.{State, Entry, Version}
use Rattle.tss_names.specs.Tasks.{OverTasks}

-- the operands that a run may have
abbrev pub most_operands : Machine → ℕ
most_operands m = m.limits.max_tasks * m.limits.max_operands

-- neither an entry nor a version counts more readers
pub record CountsReaders (m : Machine) (ts : List Task) (S : State) : Type 0 where
  pub sent : (base : ℕ) (e : Entry) → get S.entries base ≡ Some e → e.sent ≤ most_operands m
  pub registered : (v : OpName) (x : Version) → get S.versions v ≡ Some x → x.registered ≤ most_operands m

-- after every run
abbrev pub ReadersLaw : Type 0
ReadersLaw = OverTasks CountsReaders
