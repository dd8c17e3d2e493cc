-- The segments of code among those so far.
use Rattle.std.proofs.Common.{◌≡◌, take}
use Rattle.std.specs.Prelude.{filter}
use Rattle.tss_memory.proofs.code.code_segments.Given as goal

abbrev pub invariant-loop-i : goal.invariant-loop-i
invariant-loop-i l = l.segments.items ≡ filter (λ s. s.code) (take l.i l.image.segments)
