-- The state is reached.
use Rattle.tss_conditions.specs.Reached.{Reached}
use Rattle.tss_state_text_tests.proofs.tests.after.Given as goal

abbrev pub invariant-loop-line : goal.invariant-loop-line
invariant-loop-line g l = Reached l.p.machine l.image l.p.state
