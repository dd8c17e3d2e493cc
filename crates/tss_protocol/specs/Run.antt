-- Runs: lists of events, each enabled in the state that those before it leave.
use Rattle.std.specs.Prelude.{◌≡◌, List, [], ◌∷◌, Option, Some, None, if◌then◌else◌}
use Rattle.tss_base.specs.declared.machine.Machine.{Machine}
use Rattle.tss_base.specs.declared.event.Event.{Event}
use Rattle.tss_base.specs.Image.{ImageState, IsAccepted}
use Rattle.tss_base.specs.Machine.{IsAdmissible}
use Rattle.tss_protocol.specs.State.{State, initial_state}
use Rattle.tss_protocol.specs.UnitMachine.{is_enabled, after_event}

-- the state after these events, none where one of them isn't enabled
unfoldable pub after_events : Machine → State → List Event → Option State
after_events m S [] = Some S
after_events m S (e ∷ es) = if is_enabled m S e then after_events m (after_event m S e) es else None

-- the events are a run of the image that leaves this state
abbrev pub IsRun : Machine → ImageState → List Event → State → Type 0
IsRun m i es S = after_events m (initial_state i) es ≡ Some S

-- some run leaves this state
abbrev pub IsReachable : Machine → ImageState → State → Type 0
IsReachable m i S = (es : List Event) × IsRun m i es S

-- a fact of an image on a machine, of a run's events and the state that they leave
abbrev pub RunFact : Type 1
RunFact = Machine → ImageState → List Event → State → Type 0

-- it holds for every accepted image, every admissible machine and every run
abbrev pub OverRuns : RunFact → Type 0
OverRuns P =
    (m : Machine) (i : ImageState) (es : List Event) (S : State)
    → IsAccepted i
    → IsAdmissible m
    → IsRun m i es S
    → P m i es S
