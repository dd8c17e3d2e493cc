-- Fewer places are left with each call.
use Rattle.tss_renaming_tests.proofs.tests.+fill.Given as goal

abbrev pub decreases-fill : goal.decreases-fill
decreases-fill g l = l.more
