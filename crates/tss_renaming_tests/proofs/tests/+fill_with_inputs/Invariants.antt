-- Fewer inputs are left with each call.
use Rattle.tss_renaming_tests.proofs.tests.+fill_with_inputs.Given as goal

abbrev pub decreases-fill_with_inputs : goal.decreases-fill_with_inputs
decreases-fill_with_inputs g l = l.more
