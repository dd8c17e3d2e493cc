-- The runs from the start on are those that are left.
use Rattle.std.proofs.Common.{◌≡◌, ◌-◌, ◌≤◌, length, drop}
use Rattle.std.specs.Prelude.{slice_get}
use Rattle.tss_protocol.specs.Gateway.{runs_of}
use Rattle.tss_gateway.specs.Names.{names_in}
use Rattle.tss_gateway.proofs.gateway.Gateway.held_at.Given as goal

abbrev pub invariant-loop : goal.invariant-loop
invariant-loop l = record {
  left : slice_get (runs_of (drop l.start (names_in l.held))) (l.i - l.counter) ≡ slice_get (runs_of (names_in l.held)) l.i;
  start : l.start ≤ length l.held;
}
