use Rattle.std.proofs.Common.{◌≡◌, drop}
use Rattle.std.specs.Prelude.{slice_get}
use Rattle.tss_protocol.specs.UnitMachine.{enabled_events}
use Rattle.tss_pipeline.specs.declared.enabling.TheConstants.{SOURCES}
use Rattle.tss_pipeline.specs.Enabling.{enabled_of_kinds}
use Rattle.tss_pipeline.specs.State.{state_of}
use Rattle.tss_pipeline.proofs.units.Units.enabled_at.Given as goal

abbrev pub invariant-loop-kind : goal.invariant-loop-kind
invariant-loop-kind l =
    slice_get (enabled_of_kinds l.self.machine (state_of l.self) (drop l.kind SOURCES)) l.left
    ≡ slice_get (enabled_events l.self.machine (state_of l.self)) l.i
