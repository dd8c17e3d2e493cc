-- The task's names so far come after the others.
use Rattle.std.proofs.Common.{◌≡◌, ◌++◌}
use Rattle.tss_gateway.specs.Names.{names_in, names_upto}
use Rattle.tss_gateway.proofs.gateway.Gateway.take.Given as goal

abbrev pub invariant-loop-place : goal.invariant-loop-place
invariant-loop-place l = record {
  window : l.self-inside.window ≡ l.initial.self-inside.window;
  inbox : l.self-inside.inbox ≡ l.initial.self-inside.inbox;
  names : names_in l.self-inside.held.items ≡ names_in l.initial.self-inside.held.items ++ names_upto l.task.number 0 l.place;
}
