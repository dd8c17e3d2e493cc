-- What a write of a worker's task leaves of all that its view holds.
use Rattle.std.specs.Prelude.{◌≡◌, ℕ, Option, None}
use Rattle.tss_base.specs.declared.ending.Trap.{Trap}
use Rattle.tss_model.specs.Registers.{Registers}
use Rattle.tss_model.specs.Core.{Write}
use Rattle.tss_steps.specs.Tasks.{IsLeft, stretch_by, task_now}
use Rattle.tss_steps.specs.Seen.{Terms}
use Rattle.tss_protocol.specs.Workers.{Stores}
use Rattle.tss_buffers.specs.Contents.{BuffersState}
use Rattle.tss_workers.specs.Spots.{spot_terms, stores_of}
use Rattle.tss_workers.specs.declared.views.WorkerTask.{WorkerTask}

-- buffers that are as many, and as long
pub record HaveSameSizes (b c : BuffersState) : Type 0 where
  pub banks : c.banks ≡ b.banks
  pub each : c.each ≡ b.each
  pub bytes : c.object_bytes ≡ b.object_bytes

-- how the task of a view sees and writes, and what lies beyond its scratch
abbrev pub terms_of : WorkerTask → Terms Stores
terms_of v = spot_terms v.code.now v.space.now.ranges v.spots.now

abbrev pub beyond_of : WorkerTask → Stores
beyond_of v = stores_of v.space.now v.buffers.now

-- the view is of the same task in the same places
pub record IsSameTask (old new : WorkerTask) : Type 0 where
  pub ranges : new.space.now.ranges ≡ old.space.now.ranges
  pub sizes : HaveSameSizes old.buffers.now new.buffers.now
  pub reference : new.space.ghost_name ≡ old.space.ghost_name
  pub buffers_reference : new.buffers.ghost_name ≡ old.buffers.ghost_name
  pub scratch_reference : new.scratch.ghost_name ≡ old.scratch.ghost_name

-- the view after a write, where there is one
pub record TaskLeaves (old : WorkerTask) (w : Option Write) (new : WorkerTask) : Type 0 where
  pub left : IsLeft (terms_of old) (terms_of new) old.scratch.now new.scratch.now (beyond_of old) (beyond_of new) w
  pub same : IsSameTask old new

-- the view of a task that hasn't trapped has come a stretch further
pub record Stretches (budget most : ℕ) (old : WorkerTask) (r : Registers) (new : WorkerTask) (q : Registers) (trap : Option Trap) : Type 0 where
  pub end : task_now q new.scratch.now (beyond_of new) trap
      ≡ stretch_by (terms_of old) budget most (task_now r old.scratch.now (beyond_of old) None)
  pub same : IsSameTask old new
