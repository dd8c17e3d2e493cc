-- The operands of a task that program order starts, and memory that can't be written, which stays as it was loaded.
use Rattle.std.proofs.Common.{◌≡◌, ℕ, Some, List, subst}
use Rattle.std.specs.Prelude.{slice_get}
use Rattle.tss_base.specs.declared.operand.Operand.{Operand}
use Rattle.tss_base.specs.declared.machine.Limits.{Limits}
use Rattle.tss_base.specs.Image.{ImageState}
use Rattle.tss_model.specs.Memory.{MemoryRange, memory_ranges}
use Rattle.tss_model.specs.Access.{operands_of}
use Rattle.tss_model.specs.MainStep.{spawn_call}
use Rattle.tss_model.specs.InOrder.{Started, flat_stepped, started_at}
use Rattle.tss_program_order.proofs.FlatOrder.{flat_stepped-ranges, started_at-by}
use Rattle.tss_program_order.proofs.FlatSpawn.{main_call-accepted}
use Rattle.tss_program_order.proofs.FlatEpoch.{IsSpawned, spawn_of-spawned}
use Rattle.tss_program_order.proofs.FlatOperands.{IsFit, spawned-fit}

-- ---- its operands

module _ (i : ImageState) (limits : Limits) (k : ℕ) (s : Started) (start : started_at i limits k ≡ Some s) where
  -- it is the task of an accepted spawn
  started-spawned : IsSpawned limits (flat_stepped i limits k).memory (flat_stepped i limits k).main.epoch s.task
  started-spawned =
      let by = started_at-by i limits k s start in
      let f = flat_stepped i limits k in
      spawn_of-spawned (spawn_call f.main.registers) f.memory f.main.epoch limits f.main.spawned s.task
      (main_call-accepted limits f.memory f.main by.call by.main s.task by.called)

  -- each of its operands lies in memory, has bytes and not too many, and is in memory that can be written where it is
  pub started-fit : (j : ℕ) (o : Operand) → slice_get (operands_of s.task) j ≡ Some o → IsFit limits (memory_ranges i) o
  started-fit j o at =
      subst (λ (ranges : List MemoryRange). IsFit limits ranges o) (flat_stepped-ranges i limits k)
      (spawned-fit limits (flat_stepped i limits k).memory (flat_stepped i limits k).main.epoch s.task started-spawned j
      o at)
