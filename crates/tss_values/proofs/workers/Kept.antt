-- Workers stand where program order has their tasks after each event but a start.
use Rattle.std.proofs.Common.{◌≡◌, ◌≢◌, ℕ, inl, inr, true, List, Option, Some, None, refl, sym, ap, ◌∙◌, subst, arith}
use Rattle.std.specs.FinMap.{get}
use Rattle.tss_base.specs.declared.operand.OpName.{OpName}
use Rattle.tss_base.specs.declared.operand.Operand.{Operand}
use Rattle.tss_base.specs.declared.machine.Machine.{Machine}
use Rattle.tss_base.specs.declared.event.Event.TheVariants as event
use Rattle.tss_base.specs.Image.{SegmentState, ImageState}
use Rattle.tss_maps.proofs.Keys.{nat_order}
use Rattle.tss_maps.proofs.Changes.{from_inserted}
use Rattle.tss_model.specs.Memory.{Memory, covers, frozen, byte_at}
use Rattle.tss_model.specs.TaskRun.{TaskState}
use Rattle.tss_protocol.specs.Mail.{Source}
use Rattle.tss_protocol.specs.State.{State, Busy}
use Rattle.tss_protocol.specs.Workers.{Stores, storage_byte, exec_stretch, busy_after}
use Rattle.tss_protocol.specs.UnitMachine.{stores_of, after_event, after_exec}
use Rattle.tss_program_order.proofs.FlatFixed.{IsFixed}
use Rattle.tss_program_order.proofs.FlatOrder.{flat_stepped-ranges, started_at-by}
use Rattle.tss_program_order.proofs.RunKeeps.{after_exec-kept}
use Rattle.tss_values.proofs.room.Stores.{size_executed}
use Rattle.tss_values.proofs.storages.Shares.{HoldsStorage}
use Rattle.tss_program_order.proofs.StoreFrames.{exec_stretch-left}
use Rattle.tss_program_order.proofs.StoreFollows.{RunsInOrder, runs-exec}
use Rattle.tss_values.proofs.workers.Runs.{SameFixed, RunsAt, AllRun, runs_with, LeavesHeld, runs_left, worker_separate}
use Rattle.tss_values.proofs.workers.Runs.{worker_beside}
use Rattle.tss_values.proofs.WorkerFacts.{WorkerFacts}

module _ (m : Machine) (i : ImageState) (S : State) (work : WorkerFacts m i S) where
  open work use {image, workers, ts, g, ground, control}

  -- ---- exec

  module _ (w : ℕ) (b : Busy) (there : get S.workers w ≡ Some b) where
    abbrev by : List SegmentState → TaskState Stores
    by code = exec_stretch code m.limits m.sizes.quantum b (stores_of S)

    abbrev stretched : TaskState Stores
    stretched = exec_stretch S.code m.limits m.sizes.quantum b (stores_of S)

    kept_ranges : stretched.memory.home.ranges ≡ S.home.ranges
    kept_ranges = (after_exec-kept m S w (Some b)).ground.ranges

    -- a byte of what an operand of another task holds
    executed_byte : (q : OpName) (r : Operand) (t : Source) → HoldsStorage ts g S q r t
        → q.task ≢ b.task.number → (a : ℕ) → covers r.object a ≡ true
        → storage_byte stretched.memory r.object t.storage a ≡ storage_byte (stores_of S) r.object t.storage a
    executed_byte q r t l apart a inside =
        exec_stretch-left S.code m.limits m.sizes.quantum b (stores_of S) r.object t.storage a
        (worker_separate m i S work w b there)
        (ground.stages.workers w b there).storages
        (worker_beside m i S work w b there q r t l apart a inside)

    -- the worker itself
    own_executed : RunsAt m i (stores_of S) b → RunsAt m i stretched.memory (busy_after b stretched)
    own_executed runs s starts =
        runs_with m i stretched.memory (busy_after b stretched) (by_code (sym image.code) kept_ranges) s starts
      where
        r : RunsInOrder m i (stores_of S) b
        r = (runs s starts).0

        ranges : S.home.ranges ≡ r.memory.ranges
        ranges =
            image.ranges
            ∙ sym (flat_stepped-ranges i m.limits r.place)
            ∙ ap (λ (x : Memory). x.ranges)
            (sym (started_at-by i m.limits r.place (record { task = b.task; memory = r.memory }) r.started).memory)

        by_code : frozen i ≡ S.code → (by S.code).memory.home.ranges ≡ S.home.ranges
            → RunsInOrder m i (by S.code).memory (busy_after b (by S.code))
        by_code e =
            subst (λ code. (by code).memory.home.ranges ≡ S.home.ranges
            → RunsInOrder m i (by code).memory (busy_after b (by code))) e (runs-exec m i (stores_of S) b r ranges)

    leaves_executed : (n : ℕ) → n ≢ b.task.number
        → ((a : ℕ) → IsFixed i a → byte_at stretched.memory.home a ≡ byte_at S.home a)
        → LeavesHeld m i S work stretched.memory n
    leaves_executed n apart fixed = record {
      ranges = kept_ranges;
      long = λ q r t k l same is short room.
          let e = size_executed S.code m.limits m.sizes.quantum b (stores_of S) k in omega (arith, e, room);
      bytes = λ q r t l same a inside. executed_byte q r t l (λ is. apart (sym same ∙ is)) a inside;
      fixed = fixed;
    }

    run_executed : SameFixed i S (after_exec m S w (Some b)) → AllRun m i (after_exec m S w (Some b))
    run_executed fixed u c at = elim (from_inserted nat_order S.workers w (busy_after b stretched) u c at) [
      | inl new ↦
          subst (λ c. RunsAt m i stretched.memory c) (sym new.1)
          (own_executed (λ s starts. workers.runs w b s there starts))
      | inr old ↦
          runs_left m i S work u c old.1 stretched.memory
          (leaves_executed c.task.number
          (λ same. old.0 (control.holders.runners.single u w c b old.1 there same)) fixed)
    ]

  exec_by : (w : ℕ) (b : Option Busy) → get S.workers w ≡ b → SameFixed i S (after_exec m S w b)
      → AllRun m i (after_exec m S w b)
  exec_by w None e fixed = λ u c at s starts. workers.runs u c s at starts
  exec_by w (Some b) e fixed = run_executed w b e fixed

  -- exec
  pub runs_exec : (w : ℕ) → SameFixed i S (after_event m S (event.Exec w))
      → AllRun m i (after_event m S (event.Exec w))
  unfolding after_event
  runs_exec w fixed = exec_by w (get S.workers w) refl fixed
