use Rattle.std.proofs.Common.{length}
use Rattle.tss_pipeline.specs.Opening.{AreEmpty}
use Rattle.tss_pipeline.proofs.opening.close_empty.Given as goal

abbrev pub invariant-loop-bank : goal.invariant-loop-bank
invariant-loop-bank l = AreEmpty (length l.banks.items) l.initial.sizes l.banks.items

abbrev pub decreases-loop-bank : goal.decreases-loop-bank
decreases-loop-bank l = length l.banks.items
