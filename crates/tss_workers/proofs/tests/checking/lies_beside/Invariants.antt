-- The first ranges of memory lie beside the scratch.
use Rattle.std.proofs.Common.{◌≡◌, ◌<◌, ℕ, false, Some}
use Rattle.std.specs.Prelude.{slice_get}
use Rattle.tss_base.specs.Range.{meets}
use Rattle.tss_model.specs.Memory.{MemoryRange, scratch_range}
use Rattle.tss_workers.proofs.tests.checking.lies_beside.Given as goal

abbrev pub invariant-loop-i : goal.invariant-loop-i
invariant-loop-i l = (k : ℕ) (m : MemoryRange) → k < l.i → slice_get l.space.ranges k ≡ Some m → meets m.range scratch_range ≡ false
