-- What main and a task see, and what a write leaves of a task's scratch and of what lies beyond it.
use Rattle.std.specs.Prelude.{ℕ, ◌-◌, if◌then◌else◌, List, slice_index, Option, Some, None}
use Rattle.tss_base.specs.declared.range.Range.{Range}
use Rattle.tss_base.specs.Image.{SegmentState}
use Rattle.tss_model.specs.Memory.{Memory, scratch_range, covers, byte_at, list_put, code_word}
use Rattle.tss_model.specs.Access.{Actor, MainActor}
use Rattle.tss_model.specs.Core.{Write}
use Rattle.tss_core.specs.Views.{Sight}

-- what main sees
abbrev pub main_sight : List SegmentState → List Range → Memory → Sight
main_sight code objects memory = record {
  actor = MainActor memory.ranges objects;
  byte = byte_at memory;
  word = code_word code;
}

-- how a task sees and writes what lies beyond its scratch, whatever that is: the byte at each address, what a write
-- leaves, the code, and who the task is to the rule of access
pub record Terms (M : Type 0) : Type 0 where
  pub byte : M → ℕ → ℕ
  pub write : M → Write → M
  pub code : List SegmentState
  pub actor : Actor

-- the byte at an address as a task has it: of its scratch, or else what lies beyond
abbrev pub task_sees : List ℕ → (ℕ → ℕ) → ℕ → ℕ
task_sees scratch byte a =
    if covers scratch_range a then slice_index scratch (a - scratch_range.base) else byte a

-- what a task sees
abbrev pub task_sight : {M : Type 0} → Terms M → List ℕ → M → Sight
task_sight t scratch beyond = record {
  actor = t.actor;
  byte = task_sees scratch (t.byte beyond);
  word = code_word t.code;
}

-- a task's scratch after a write, where there is one
abbrev pub scratch_after : List ℕ → Option Write → List ℕ
scratch_after scratch None = scratch
scratch_after scratch (Some w) =
    if covers scratch_range w.at then list_put scratch (w.at - scratch_range.base) w.bytes else scratch

-- what lies beyond it
abbrev pub beyond_after : {M : Type 0} → (M → Write → M) → M → Option Write → M
beyond_after write m None = m
beyond_after write m (Some w) = if covers scratch_range w.at then m else write m w
