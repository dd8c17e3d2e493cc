-- So many names of the task stand from the start on, and those that follow here.
use Rattle.std.proofs.Common.{◌≡◌, ◌+◌, ◌≤◌, drop}
use Rattle.tss_gateway.specs.Names.{names_in, more_of, run_at}
use Rattle.tss_gateway.proofs.names.run_length.Given as goal

abbrev pub invariant-loop-place : goal.invariant-loop-place
invariant-loop-place l = record {
  place : l.start + l.more ≡ l.place;
  some : 1 ≤ l.more;
  run : run_at (names_in l.held) l.start ≡ l.more + more_of l.task (drop l.place (names_in l.held));
}
