-- Each line so far is an event's text.
use Rattle.std.proofs.Common.{◌≡◌, suc, ◌+◌, ◌≤◌, length}
use Rattle.tss_protocol.specs.Text.{lines_of}
use Rattle.tss_protocol.specs.Migration.{first_bad_line}
use Rattle.tss_log.proofs.migrating.first_bad_line.Given as goal

abbrev pub invariant-loop-rest : goal.invariant-loop-rest
invariant-loop-rest l = record {
  bad : first_bad_line (suc l.before) (lines_of l.rest) ≡ first_bad_line 1 (lines_of l.initial.rest);
  within : l.before + length l.rest ≤ length l.initial.rest;
}

abbrev pub decreases-loop-rest : goal.decreases-loop-rest
decreases-loop-rest l = length l.rest
