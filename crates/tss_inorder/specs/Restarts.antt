-- A flat machine that goes on where another machine stands at a barrier.
use Rattle.std.specs.Prelude.{◌≡◌, ℕ, if◌then◌else◌, List, fold, Some, None}
use Rattle.tss_base.specs.declared.range.Range.{Range}
use Rattle.tss_base.specs.declared.machine.Limits.{Limits}
use Rattle.tss_base.specs.Image.{SegmentState, ImageState}
use Rattle.tss_model.specs.Memory.{MemoryRange, Memory, bytes_of, put_bytes, frozen}
use Rattle.tss_model.specs.Registers.{Registers}
use Rattle.tss_model.specs.MainStep.{Piece, Barrier, main_start, next_call, output_of}
use Rattle.tss_model.specs.InOrder.{flat_stepped}
use Rattle.tss_steps.specs.Restarts.{main_restarted}
use Rattle.tss_inorder.specs.Flats.{FlatState}

-- the bytes of another memory come into a range, where that can be written
abbrev pub with_range : Memory → Memory → MemoryRange → Memory
with_range from m r = if r.writable then put_bytes m r.range.base (bytes_of from r.range) else m

-- and into all of its ranges
abbrev pub with_bytes_of : Memory → Memory → Memory
with_bytes_of from m = fold (with_range from) m from.ranges

-- the barrier call of main with these registers is done. Nothing is named, what was printed is one piece or none, and
-- what can be written of memory has the bytes of that memory
abbrev pub restarted : FlatState → Registers → ℕ → List ℕ → Memory → FlatState
restarted s r spawned output memory =
    record s { main = main_restarted r spawned output; memory = with_bytes_of memory s.memory }

-- main that has these registers is about to make a barrier call
abbrev pub IsAtBarrier : List SegmentState → Limits → Registers → Memory → Type 0
IsAtBarrier code limits r memory =
    next_call code limits (record { main = record (main_start r.pc) { registers = r }; memory = memory }) ≡ Some Barrier

-- program order stands at that barrier after some steps of main, with this memory, of which the flat machine has what
-- can't be written
pub record StandsAtBarrier (i : ImageState) (s : FlatState) (r : Registers) (spawned : ℕ) (output : List ℕ) (memory : Memory) : Type 0 where
  pub code : s.code ≡ frozen i
  pub steps : ℕ
  pub epoch : List Range
  pub pieces : List Piece
  pub printed : output_of pieces ≡ output
  pub there : flat_stepped i s.limits steps ≡ record {
    main = record { registers = r; spawned = spawned; epoch = epoch; pieces = pieces; ending = None };
    memory = memory;
  }
  pub rest : with_bytes_of memory s.memory ≡ memory
