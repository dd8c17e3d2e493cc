-- The bytes in the storages of versions after a stretch of a worker.
use Rattle.std.proofs.Common.{◌≡◌, ℕ, zero, suc, ◌+◌, ◌<◌, ◌≤◌, true, List, take, Option, Some, None, refl, sym, ap}
use Rattle.std.proofs.Common.{◌∙◌, subst, inl, inr, arith, nat_le, nat_lt}
use Rattle.std.specs.FinMap.{get, insert}
use Rattle.std.proofs.lemmas.Bool.{and_from, le-leb, lt-ltb}
use Rattle.std.proofs.lemmas.Option.{same_Some}
use Rattle.tss_base.specs.declared.range.Range.{Range}
use Rattle.tss_base.specs.declared.machine.Machine.{Machine}
use Rattle.tss_base.specs.declared.event.Event.TheVariants as event
use Rattle.tss_base.specs.Range.{end_of}
use Rattle.tss_base.specs.Image.{ImageState}
use Rattle.tss_maps.proofs.Keys.{nat_order, decide_key}
use Rattle.tss_maps.proofs.Changes.{at_inserted, beside_inserted}
use Rattle.tss_model.specs.Memory.{covers, byte_at}
use Rattle.tss_model.specs.Access.{operands_of}
use Rattle.tss_model.specs.TaskRun.{TaskState}
use Rattle.tss_protocol.specs.Mail.{StorageName, Home, Buffer}
use Rattle.tss_protocol.specs.State.{State, Busy}
use Rattle.tss_protocol.specs.Buffers.{buffer_bytes}
use Rattle.tss_protocol.specs.Workers.{Stores, exec_stretch, busy_after, stored_bytes}
use Rattle.tss_protocol.specs.UnitMachine.{after_event, after_exec, stores_of}
use Rattle.tss_phases.proofs.QuietEvents.{phase_of-exec}
use Rattle.tss_locality.proofs.LeftFields.{Leaves-after_event}
use Rattle.tss_names.specs.Stages.{IsOnWorker}
use Rattle.tss_program_order.proofs.FlatLoads.{same_bytes}
use Rattle.tss_program_order.proofs.StoreFrames.{IsBeside, exec_stretch-left}
use Rattle.tss_values.proofs.Values.{HasStored}
use Rattle.tss_program_order.proofs.StoreViews.{exec_stretch-unseen, buffer_unseen}
use Rattle.tss_values.proofs.stored.Workers.{stored_beside}
use Rattle.tss_values.proofs.workers.Runs.{worker_holds, worker_separate}
use Rattle.tss_values.proofs.WorkerFacts.{WorkerFacts}

-- ---- objects

-- an address within a range
pub inside_range : (r : Range) (a : ℕ) → r.base ≤ a → a < r.base + r.len → covers r a ≡ true
inside_range r a low high =
    and_from (nat_le r.base a) (nat_lt a (end_of r)) (le-leb r.base a low) (lt-ltb a (end_of r) high)

-- the front of a list that stays unless the range is empty
pub front_left : (r : Range) (xs ys : List ℕ) → (covers r r.base ≡ true → xs ≡ ys) → take r.len xs ≡ take r.len ys
front_left r xs ys same = by r.len refl
  where
    by : (n : ℕ) → r.len ≡ n → take r.len xs ≡ take r.len ys
    by zero none = ap (λ n. take n xs) none ∙ sym (ap (λ n. take n ys) none)
    by (suc n) some =
        ap (take r.len) (same (inside_range r r.base (omega arith) (omega (arith, some))))

-- ---- exec

module _ (m : Machine) (i : ImageState) (S : State) (work : WorkerFacts m i S) (h : HasStored m i work.ts S) where
  open work use {facts, buffers, ts, ground}

  module _ (w : ℕ) (b : Busy) (busy : get S.workers w ≡ Some b) where
    abbrev T : State
    T = after_event m S (event.Exec w)

    abbrev stretched : TaskState Stores
    stretched = exec_stretch S.code m.limits m.sizes.quantum b (stores_of S)

    stores : stores_of T ≡ stretched.memory
    unfolding after_event
    stores = ap (λ y. stores_of (after_exec m S w y)) busy

    workers_after : T.workers ≡ insert S.workers w (busy_after b stretched)
    unfolding after_event
    workers_after = ap (λ y. (after_exec m S w y).workers) busy

    -- an object beside what the task writes is left
    left_bytes : (x : Range) (st : StorageName)
        → ((a : ℕ) → covers x a ≡ true → IsBeside (operands_of b.task) b.storages st a)
        → stored_bytes stretched.memory x st ≡ stored_bytes (stores_of S) x st
    left_bytes x Home beside =
        same_bytes (byte_at stretched.memory.home) (byte_at S.home) x.base x.len (λ a low high.
        exec_stretch-left S.code m.limits m.sizes.quantum b (stores_of S) x Home a
        (worker_separate m i S work w b busy)
        (ground.stages.workers w b busy).storages (beside a (inside_range x a low high)))
    left_bytes x (Buffer q) beside =
        front_left x (buffer_bytes stretched.memory.contents q) (buffer_bytes S.contents q) (λ inside.
        exec_stretch-unseen m.limits (λ (s : Stores). buffer_bytes s.contents q) S.code m.sizes.quantum b (stores_of S)
        (worker_separate m i S work w b busy)
        (ground.stages.workers w b busy).storages (λ j o storage at told writer.
        buffer_unseen m.limits q o.object storage
        (λ is. (beside x.base inside j o storage at told writer).buffer q is refl)))

    -- who is on a worker stays there
    stays_busy : (n : ℕ) → IsOnWorker S n → IsOnWorker T n
    stays_busy n on = elim (decide_key nat_order on.0 w) [
      | inl same ↦
          let is = same_Some on.1 b (sym on.2 ∙ ap (get S.workers) same ∙ busy) in (
            w,
            busy_after b stretched,
            ap (λ ws. get ws w) workers_after ∙ at_inserted nat_order S.workers w (busy_after b stretched),
            ap (λ (b : Busy). b.task.number) (sym is) ∙ on.3,
          )
      | inr apart ↦ (
        on.0,
        on.1,
        ap (λ ws. get ws on.0) workers_after
            ∙ beside_inserted nat_order S.workers w (busy_after b stretched) on.0 apart
            ∙ on.2,
        on.3,
      )
    ]

    stored_stretched : HasStored m i ts T
    stored_stretched =
        let x = ground.stages.workers w b busy in
        stored_beside m i S facts buffers h b.task.number b.task x.task b.storages x.storages
        (worker_holds m i S work w b busy) T (record {
          versions = λ j. (Leaves-after_event m S (event.Exec w) j).versions;
          phases = phase_of-exec m S w;
          busy = stays_busy b.task.number (w, b, busy, refl);
          others = stays_busy;
          bytes = λ y st beside. ap (λ s. stored_bytes s y.object st) stores ∙ left_bytes y.object st beside;
        })

  exec_by : (w : ℕ) (b : Option Busy) → get S.workers w ≡ b → HasStored m i ts (after_event m S (event.Exec w))
  unfolding after_event
  exec_by w None none = subst (λ y. HasStored m i ts (after_exec m S w y)) (sym none) h
  exec_by w (Some b) busy = stored_stretched w b busy

  -- exec
  pub HasStored-exec : (w : ℕ) → HasStored m i ts (after_event m S (event.Exec w))
  HasStored-exec w = exec_by w (get S.workers w) refl
