-- What is left of the marks ends where all of them do.
use Rattle.std.proofs.Common.{◌≡◌, drop}
use Rattle.tss_steps.specs.Printing.{end_before}
use Rattle.tss_steps.proofs.printed.end_before.Given as goal

abbrev pub invariant-loop-i : goal.invariant-loop-i
invariant-loop-i l = end_before l.task l.end (drop l.i l.marks) ≡ end_before l.task 0 l.marks
