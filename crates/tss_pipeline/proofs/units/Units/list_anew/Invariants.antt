-- The names before the place have been tested, and each name of the list has a message.
use Rattle.tss_pipeline.proofs.listed.ListedNames.{AreTestedTo}
use Rattle.tss_pipeline.proofs.units.Units.list_anew.Given as goal

abbrev pub invariant-loop-i : goal.invariant-loop-i
invariant-loop-i l = AreTestedTo l.self l.kind l.list l.i
