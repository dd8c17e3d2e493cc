-- What a task that finishes sends, operand by operand.
use Rattle.std.specs.Prelude.{◌≡◌, ℕ, ◌≤◌, List, [], length, drop, Option, Some, None}
use Rattle.std.specs.FinMap.{get}
use Rattle.tss_base.specs.declared.bounds.TheConstants.{MAX_OPERANDS}
use Rattle.tss_base.specs.declared.operand.OpName.{OpName}
use Rattle.tss_base.specs.Names.{Numbered}
use Rattle.tss_protocol.specs.Mail.{Message}
use Rattle.tss_protocol.specs.State.{Flying}
use Rattle.tss_protocol.specs.Stations.{release_of, releases_from}
use Rattle.tss_stations.specs.declared.operand_view.OperandView.{OperandView}
use Rattle.tss_stations.specs.Views.{state_of}

-- the release of an operand, by what is known of it
abbrev pub release_by : OpName → OperandView → List Message
release_by o view = release_of o (state_of view) (state_of view).source

-- the releases of a task's operands from a place on, where it is in flight
abbrev pub releases_in : ℕ → ℕ → Option Flying → List Message
releases_in task place None = []
releases_in task place (Some x) = releases_from task place (drop place x.operands)

-- a task in flight has no more operands than a task may have
abbrev pub HasFewOperands : Numbered Flying → ℕ → Type 0
HasFewOperands flight task = (x : Flying) → get flight task ≡ Some x → length x.operands ≤ MAX_OPERANDS
