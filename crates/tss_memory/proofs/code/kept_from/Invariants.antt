-- What is kept for the pcs so far.
use Rattle.std.proofs.Common.{◌≡◌, length}
use Rattle.tss_memory.specs.Segments.{AreKept}
use Rattle.tss_memory.proofs.code.kept_from.Given as goal

abbrev pub invariant-loop-k : goal.invariant-loop-k
invariant-loop-k l = AreKept l.segments l.start l.kept.items × (length l.kept.items ≡ l.k)
