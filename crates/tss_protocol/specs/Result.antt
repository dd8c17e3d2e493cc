-- When a run is over, and its ending, number of tasks and output.
use Rattle.std.specs.Prelude.{◌≡◌, ℕ, Bool, true, ◌&&◌, ◌||◌, nat_lt, if◌then◌else◌, List, filter, Option, Some, None}
use Rattle.std.specs.Prelude.{is_some}
use Rattle.tss_base.specs.declared.ending.Ending.{Ending}
use Rattle.tss_base.specs.declared.ending.Ending.TheVariants.{TaskTrap}
use Rattle.tss_model.specs.MainStep.{Piece, output_of}
use Rattle.tss_protocol.specs.State.{State, HeldTrap}
use Rattle.tss_protocol.specs.MainEvent.{is_drained}

-- the fact
abbrev pub IsDrained : State → Type 0
IsDrained S = is_drained S ≡ true

-- nothing is left to do, and main has ended or a task's trap is held
abbrev pub is_finished : State → Bool
is_finished S = is_drained S && (is_some S.main.ending || is_some S.trap)

-- the fact
abbrev pub IsFinished : State → Type 0
IsFinished S = is_finished S ≡ true

-- a held trap is the ending, else main's
abbrev pub ending_by : Option HeldTrap → Option Ending → Option Ending
ending_by None e = e
ending_by (Some h) e = Some (TaskTrap h.task h.trap)

-- the number of tasks, which a held trap cuts at its task
abbrev pub tasks_by : Option HeldTrap → ℕ → ℕ
tasks_by None spawned = spawned
tasks_by (Some h) spawned = h.task

-- the pieces printed, of which a held trap leaves those with fewer tasks spawned before them than its task's number
abbrev pub pieces_by : Option HeldTrap → List Piece → List Piece
pieces_by None pieces = pieces
pieces_by (Some h) pieces = filter (λ p. nat_lt p.before h.task) pieces

-- the number of tasks and the output of any state
abbrev pub tasks_of : State → ℕ
tasks_of S = tasks_by S.trap S.main.spawned

-- what counts of what main has printed
abbrev pub printed_of : State → List ℕ
printed_of S = output_of (pieces_by S.trap S.main.pieces)

-- what a run comes to
pub record RunResult : Type 0 where
  pub ending : Ending
  pub tasks : ℕ
  pub output : List ℕ

-- the result with an ending
abbrev pub result_with : State → Option Ending → Option RunResult
result_with S None = None
result_with S (Some e) = Some (record { ending = e; tasks = tasks_of S; output = printed_of S })

-- the result of a finished state, and none of any other
abbrev pub result_of : State → Option RunResult
result_of S = if is_finished S then result_with S (ending_by S.trap S.main.ending) else None
