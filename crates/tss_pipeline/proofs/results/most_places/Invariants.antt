-- The most of the banks so far.
use Rattle.std.proofs.Common.{◌≡◌}
use Rattle.tss_protocol.specs.Counts.{greatest}
use Rattle.tss_pipeline.specs.Emptiness.{fill_at}
use Rattle.tss_pipeline.proofs.results.most_places.Given as goal

abbrev pub invariant-loop-i : goal.invariant-loop-i
invariant-loop-i l = l.most ≡ greatest (λ b. (fill_at l.banks b).places) l.i
