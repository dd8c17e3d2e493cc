-- No false wait: with no message under way, a task that waits for no other task is in the ready queue.
use Rattle.std.specs.Prelude.{List}
use Rattle.tss_base.specs.declared.machine.Machine.{Machine}
use Rattle.tss_base.specs.declared.event.Event.{Event}
use Rattle.tss_base.specs.Image.{ImageState}
use Rattle.tss_protocol.specs.State.{State, initial_state}
use Rattle.tss_protocol.specs.Needs.{HasNoFalseWait, round_of}
use Rattle.tss_protocol.specs.Run.{OverRuns}

-- for the tasks that the run has spawned since its last barrier
abbrev pub WaitsRightly : Machine → ImageState → List Event → State → Type 0
WaitsRightly m i es S = HasNoFalseWait S (round_of m (initial_state i) es)

-- every run leaves such a state
abbrev pub QueuedLaw : Type 0
QueuedLaw = OverRuns WaitsRightly
