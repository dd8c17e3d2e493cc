-- What holds by the control in every state that a run leaves.
use Rattle.std.specs.Prelude.{List}
use Rattle.tss_base.specs.declared.operand.OpName.{OpName}
use Rattle.tss_base.specs.declared.machine.Machine.{Machine}
use Rattle.tss_base.specs.declared.event.Event.{Event}
use Rattle.tss_base.specs.Image.{ImageState}
use Rattle.tss_protocol.specs.State.{State, initial_state}
use Rattle.tss_protocol.specs.Needs.{round_of}
use Rattle.tss_phases.specs.Alone.{IsAlone}
use Rattle.tss_protocol.specs.Run.{OverRuns}
use Rattle.tss_names.specs.Tasks.{spawned_tasks}
use Rattle.tss_control.specs.Readers.{arrivals_from, no_arrivals}
use Rattle.tss_control.specs.Control.{KnowsRound, IsControlled}

-- the tasks since the last barrier are among those spawned
abbrev pub HasKnownRound : Machine → ImageState → List Event → State → Type 0
HasKnownRound m i es S = KnowsRound (spawned_tasks m i es) (round_of m (initial_state i) es)

-- after every run they are
abbrev pub RoundLaw : Type 0
RoundLaw = OverRuns HasKnownRound

-- the state is controlled by the tasks since the last barrier, with the readers that have come to each version
abbrev pub StaysControlled : Machine → ImageState → List Event → State → Type 0
StaysControlled m i es S =
    IsControlled (round_of m (initial_state i) es) (arrivals_from m (initial_state i) no_arrivals es) S

-- after every run it is
abbrev pub ControlLaw : Type 0
ControlLaw = OverRuns StaysControlled

-- of an operand's decode, open, use, ready, release and bye at most one is under way
abbrev pub HasOneMessage : Machine → ImageState → List Event → State → Type 0
HasOneMessage m i es S = (o : OpName) → IsAlone S o

-- after every run
abbrev pub OneMessageLaw : Type 0
OneMessageLaw = OverRuns HasOneMessage
