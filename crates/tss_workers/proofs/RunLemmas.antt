-- A stretch over a worker's view is the definitions' stretch of the worker.
use Rattle.std.proofs.Common.{◌≡◌, ℕ, List, Option, None, sym, ap, ◌∙◌}
use Rattle.tss_base.specs.declared.ending.Trap.{Trap}
use Rattle.tss_base.specs.declared.machine.Limits.{Limits}
use Rattle.tss_base.specs.Image.{SegmentState}
use Rattle.tss_model.specs.Memory.{Memory}
use Rattle.tss_model.specs.Registers.{Registers}
use Rattle.tss_model.specs.Access.{TaskActor}
use Rattle.tss_model.specs.TaskRun.{TaskState, task_stretch}
use Rattle.tss_steps.specs.Tasks.{stretch_by, task_now}
use Rattle.tss_protocol.specs.Workers.{Stores, exec_stretch, worker_byte, worker_write}
use Rattle.tss_buffers.specs.Contents.{BuffersState}
use Rattle.tss_workers.specs.Seen.{Executes, seated_of, worker_after}
use Rattle.tss_workers.specs.Spots.{AreSpotsOf, spot_terms, stores_of}
use Rattle.tss_workers.specs.Working.{HaveSameSizes}
use Rattle.tss_workers.specs.declared.running.Worker.{Worker}
use Rattle.tss_workers.specs.declared.spots.Spot.{Spot}

module _ (code : List SegmentState) (budget quantum : ℕ) (x : Worker) (m : Memory) (b : BuffersState) (spots : List Spot)
    (are : AreSpotsOf b.banks x.task x.storages spots) (further : x.trap ≡ None) where
  exec_is : (limits : Limits) → limits.task_budget ≡ budget
      → stretch_by (spot_terms code m.ranges spots) budget quantum (task_now x.regs x.scratch (stores_of m b) None)
      ≡ exec_stretch code limits quantum (seated_of b.banks x) (stores_of m b)
  exec_is limits e =
      let same = sym e in
      let none = sym further in
      λ i. task_stretch (worker_byte (are.placed i)) (worker_write (are.placed i)) (same i) code (TaskActor m.ranges (are.operands i)) quantum
      (record { registers = x.regs; scratch = x.scratch; memory = stores_of m b; trap = none i })

  pub executes : (q : Registers) (ys : List ℕ) (n : Memory) (c : BuffersState) (trap : Option Trap)
      → task_now q ys (stores_of n c) trap
      ≡ stretch_by (spot_terms code m.ranges spots) budget quantum (task_now x.regs x.scratch (stores_of m b) None)
      → HaveSameSizes b c → n.ranges ≡ m.ranges
      → Executes code budget quantum x (record x { regs = q; scratch = ys; trap = trap }) m n b c
  executes q ys n c trap end sizes ranges = record {
    worker = λ limits e. ap (worker_after x) (end ∙ exec_is limits e);
    stores = λ limits e. ap (λ (s : TaskState Stores). s.memory) (end ∙ exec_is limits e);
    sizes = sizes;
    ranges = ranges;
  }
