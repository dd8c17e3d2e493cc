-- Whether any event may happen, in a state that a run leaves.
use Rattle.std.specs.Prelude.{◌≡◌, ◌↔◌, length}
use Rattle.tss_base.specs.declared.machine.Machine.{Machine}
use Rattle.tss_base.specs.Image.{ImageState}
use Rattle.tss_protocol.specs.State.{State}
use Rattle.tss_protocol.specs.UnitMachine.{enabled_events}
use Rattle.tss_protocol.specs.Result.{IsFinished}
use Rattle.tss_conditions.specs.Reached.{Reached}

-- none may exactly where the run is over
abbrev pub CountLaw : Type 0
CountLaw = (m : Machine) (i : ImageState) (S : State) → Reached m i S → (length (enabled_events m S) ≡ 0) ↔ IsFinished S
