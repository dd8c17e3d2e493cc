-- Progress: a run that isn't over can go on, and one that is over can't.
use Rattle.std.specs.Prelude.{◌≡◌, false, List}
use Rattle.tss_base.specs.declared.machine.Machine.{Machine}
use Rattle.tss_base.specs.declared.event.Event.{Event}
use Rattle.tss_base.specs.Image.{ImageState}
use Rattle.tss_protocol.specs.State.{State}
use Rattle.tss_protocol.specs.UnitMachine.{is_enabled, IsEnabled}
use Rattle.tss_protocol.specs.Result.{is_finished, IsFinished}
use Rattle.tss_protocol.specs.Run.{OverRuns}

-- a state that isn't finished has an enabled event
abbrev pub GoesOn : Machine → ImageState → List Event → State → Type 0
GoesOn m i es S = is_finished S ≡ false → (e : Event) × IsEnabled m S e

-- in a finished state no event is enabled
abbrev pub IsOver : Machine → ImageState → List Event → State → Type 0
IsOver m i es S = IsFinished S → (e : Event) → is_enabled m S e ≡ false

-- every run leaves such a state
abbrev pub EnabledLaw : Type 0
EnabledLaw = OverRuns GoesOn

-- and such a one
abbrev pub FinishedLaw : Type 0
FinishedLaw = OverRuns IsOver
