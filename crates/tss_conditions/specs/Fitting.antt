-- A log can name every enabled event.
use Rattle.std.specs.Prelude.{◌≡◌, true}
use Rattle.tss_base.specs.declared.machine.Machine.{Machine}
use Rattle.tss_base.specs.declared.event.Event.{Event}
use Rattle.tss_base.specs.Event.{fits}
use Rattle.tss_base.specs.Image.{ImageState}
use Rattle.tss_protocol.specs.State.{State}
use Rattle.tss_protocol.specs.UnitMachine.{IsEnabled}
use Rattle.tss_conditions.specs.Reached.{Reached}

-- its numbers lie in the ranges that a log has
abbrev pub FittingLaw : Type 0
FittingLaw =
    (m : Machine) (i : ImageState) (S : State) (e : Event)
    → Reached m i S
    → IsEnabled m S e
    → fits e ≡ true
