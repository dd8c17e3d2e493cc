-- What readers show of the tasks in flight.
use Rattle.std.specs.Prelude.{ℕ, Option, Some, None, option_map}
use Rattle.std.specs.FinMap.{get}
use Rattle.tss_base.specs.declared.operand.Task.{Task}
use Rattle.tss_base.specs.declared.marks.Stage.{Stage}
use Rattle.tss_base.specs.Names.{Numbered}
use Rattle.tss_protocol.specs.State.{Flying}
use Rattle.tss_protocol.specs.Stations.{flight_after_start}

-- a task with its stage
abbrev pub shown : Flying → Task × Stage
shown x = (x.task, x.stage)

-- that of a number
abbrev pub found_in : Numbered Flying → ℕ → Option (Task × Stage)
found_in flight task = option_map shown (get flight task)

-- the tasks in flight where a task runs that is one of them
abbrev pub started_by : Numbered Flying → ℕ → Option Flying → Numbered Flying
started_by flight task None = flight
started_by flight task (Some x) = flight_after_start flight task x

abbrev pub started : Numbered Flying → ℕ → Numbered Flying
started flight task = started_by flight task (get flight task)
