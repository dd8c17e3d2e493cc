use Rattle.std.proofs.Common.{◌≡◌, ◌+◌, length, drop}
use Rattle.std.specs.Prelude.{filter}
use Rattle.tss_protocol.specs.UnitMachine.{is_enabled}
use Rattle.tss_pipeline.specs.Enabling.{candidates_of, enabled_of_kind}
use Rattle.tss_pipeline.specs.State.{state_of}
use Rattle.tss_pipeline.proofs.units.Units.enabled_of.Given as goal

abbrev pub invariant-loop-i : goal.invariant-loop-i
invariant-loop-i l =
    l.count
    + length (filter (is_enabled l.self.machine (state_of l.self)) (drop l.i (candidates_of l.self.machine (state_of l.self) l.source)))
    ≡ length (enabled_of_kind l.self.machine (state_of l.self) l.source)
