-- States that runs leave.
use Rattle.tss_base.specs.declared.machine.Machine.{Machine}
use Rattle.tss_base.specs.declared.event.Event.{Event}
use Rattle.tss_base.specs.Image.{ImageState, IsAccepted}
use Rattle.tss_base.specs.Machine.{IsAdmissible}
use Rattle.tss_protocol.specs.State.{State, initial_state}
use Rattle.tss_protocol.specs.UnitMachine.{IsEnabled, after_event}
use Rattle.tss_protocol.specs.Run.{IsReachable}

-- a run of an accepted image on an admissible machine leaves the state
pub record Reached (m : Machine) (i : ImageState) (S : State) : Type 0 where
  pub accepted : IsAccepted i
  pub admissible : IsAdmissible m
  pub reachable : IsReachable m i S

-- the first state is reached
abbrev pub FirstLaw : Type 0
FirstLaw = (m : Machine) (i : ImageState) → IsAccepted i → IsAdmissible m → Reached m i (initial_state i)

-- and so is the state after an enabled event
abbrev pub ReachedLaw : Type 0
ReachedLaw =
    (m : Machine) (i : ImageState) (S : State) (e : Event)
    → Reached m i S
    → IsEnabled m S e
    → Reached m i (after_event m S e)
