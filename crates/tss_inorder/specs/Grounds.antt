-- What a flat machine keeps of its memory: ranges in order, beside a task's scratch.
use Rattle.std.specs.Prelude.{◌≡◌, true, List}
use Rattle.tss_model.specs.Memory.{MemoryRange}
use Rattle.tss_memory.specs.Ranges.{AreRanges}
use Rattle.tss_steps.specs.Placing.{beside_scratch}

pub record IsGrounded (ranges : List MemoryRange) : Type 0 where
  pub are : AreRanges ranges
  pub beside : beside_scratch ranges ≡ true
