-- The bound: no run has more events than a number that depends on the machine alone.
use Rattle.std.specs.Prelude.{◌≤◌, List, length}
use Rattle.tss_base.specs.declared.machine.Machine.{Machine}
use Rattle.tss_base.specs.declared.event.Event.{Event}
use Rattle.tss_base.specs.Image.{ImageState}
use Rattle.tss_protocol.specs.State.{State}
use Rattle.tss_protocol.specs.Counts.{event_bound}
use Rattle.tss_protocol.specs.Run.{OverRuns}

-- no more events than the bound
abbrev pub IsBounded : Machine → ImageState → List Event → State → Type 0
IsBounded m i es S = length es ≤ event_bound m

-- every run is
abbrev pub EventsLaw : Type 0
EventsLaw = OverRuns IsBounded
