-- What the plain views show, and what a write leaves of their bytes.
use Rattle.std.specs.Prelude.{ℕ, ◌-◌, ◌/◌, ◌%◌, ◌==◌, Bool, ◌&&◌, ◌||◌, nat_le, if◌then◌else◌, List, [], ◌∷◌, length, slice_get, slice_index, Option, Some, None}
use Rattle.std.specs.List.{list_all}
use Rattle.tss_base.specs.declared.range.Range.{Range}
use Rattle.tss_base.specs.declared.operand.Operand.{Operand}
use Rattle.tss_base.specs.Range.{contains}
use Rattle.tss_model.specs.Memory.{MemoryRange, scratch_range, covers, list_put}
use Rattle.tss_model.specs.Access.{MainActor, TaskActor}
use Rattle.tss_model.specs.Core.{Write}
use Rattle.tss_core.specs.Views.{Sight}

-- the word at a pc, where the code stands from an address on
abbrev pub plain_word : ℕ → List ℕ → ℕ → Option ℕ
plain_word text code pc = if pc % 4 == 0 && nat_le text pc then slice_get code ((pc - text) / 4) else None

-- the addresses of so many bytes from 0 on, as the one range of memory
abbrev pub plain_range : ℕ → Range
plain_range n = record { base = 0; len = n }

abbrev pub plain_ranges : ℕ → Bool → List MemoryRange
plain_ranges n writable = record { range = plain_range n; writable = writable } ∷ []

-- what main sees of bytes from address 0 on
abbrev pub main_sight : List ℕ → Bool → List Range → ℕ → List ℕ → Sight
main_sight bytes writable named text code = record {
  actor = MainActor (plain_ranges (length bytes) writable) named;
  byte = slice_index bytes;
  word = plain_word text code;
}

-- bytes from address 0 on after a write, where there is one
abbrev pub bytes_after : List ℕ → Option Write → List ℕ
bytes_after bytes None = bytes
bytes_after bytes (Some w) = list_put bytes w.at w.bytes

-- the byte at an address that a task sees: of its scratch, or else of the bytes from address 0 on
abbrev pub task_byte : List ℕ → List ℕ → ℕ → ℕ
task_byte bytes scratch a =
    if covers scratch_range a then slice_index scratch (a - scratch_range.base)
    else slice_index bytes a

-- what a task sees of bytes from address 0 on and of its scratch
abbrev pub task_sight : List ℕ → Bool → List ℕ → List Operand → ℕ → List ℕ → Sight
task_sight bytes writable scratch operands text code = record {
  actor = TaskActor (plain_ranges (length bytes) writable) operands;
  byte = task_byte bytes scratch;
  word = plain_word text code;
}

-- the objects of the operands lie wholly inside the first n addresses
abbrev pub are_inside : ℕ → List Operand → Bool
are_inside n operands = list_all (λ o. contains (plain_range n) o.object) operands

-- an access lies wholly inside a task's scratch or inside the first n addresses
abbrev pub lies_in : ℕ → Range → Bool
lies_in n r = contains scratch_range r || contains (plain_range n) r

-- both after a write, where there is one
abbrev pub task_bytes_after : List ℕ → Option Write → List ℕ
task_bytes_after bytes None = bytes
task_bytes_after bytes (Some w) = if covers scratch_range w.at then bytes else list_put bytes w.at w.bytes

abbrev pub scratch_after : List ℕ → Option Write → List ℕ
scratch_after scratch None = scratch
scratch_after scratch (Some w) =
    if covers scratch_range w.at then list_put scratch (w.at - scratch_range.base) w.bytes
    else scratch
