-- The runs before the start are counted.
use Rattle.std.proofs.Common.{◌≡◌, ◌+◌, ◌-◌, ◌≤◌, length, drop}
use Rattle.tss_protocol.specs.Gateway.{runs_of}
use Rattle.tss_gateway.specs.Names.{names_in}
use Rattle.tss_gateway.proofs.gateway.Gateway.tasks.Given as goal

abbrev pub invariant-loop-start : goal.invariant-loop-start
invariant-loop-start l = record {
  counted : l.tasks + length (runs_of (drop l.start (names_in l.held))) ≡ length (runs_of (names_in l.held));
  within : l.tasks ≤ l.start;
  start : l.start ≤ length l.held;
}

abbrev pub decreases-loop-start : goal.decreases-loop-start
decreases-loop-start l = length l.held - l.start
