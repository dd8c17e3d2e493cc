-- The bytes in the storages of versions after a task's start, which makes zeros of the storages that it doesn't read.
use Rattle.std.proofs.Common.{◌≡◌, ℕ, true, List, [], ◌∷◌, Option, Some, None, refl, sym, ap, ◌∙◌}
use Rattle.std.specs.Prelude.{is_none, nat_lt}
use Rattle.std.specs.FinMap.{get, insert}
use Rattle.std.proofs.lemmas.Bool.{and_parts}
use Rattle.std.proofs.lemmas.Option.{none-some, same_Some}
use Rattle.tss_base.specs.declared.range.Range.{Range}
use Rattle.tss_base.specs.declared.operand.Operand.{Operand}
use Rattle.tss_base.specs.declared.machine.Limits.{Limits}
use Rattle.tss_base.specs.declared.machine.Machine.{Machine}
use Rattle.tss_base.specs.declared.event.Event.TheVariants as event
use Rattle.tss_base.specs.declared.marks.Stage.TheVariants as stage
use Rattle.tss_base.specs.Image.{ImageState}
use Rattle.tss_maps.proofs.Keys.{nat_order}
use Rattle.tss_maps.proofs.Changes.{at_inserted, beside_inserted}
use Rattle.tss_model.specs.Memory.{covers, byte_at}
use Rattle.tss_model.specs.Access.{operands_of}
use Rattle.tss_protocol.specs.Mail.{StorageName, Home, Buffer}
use Rattle.tss_protocol.specs.State.{State, Flying}
use Rattle.tss_protocol.specs.Stations.{is_complete, storages_of}
use Rattle.tss_protocol.specs.Buffers.{buffer_bytes}
use Rattle.tss_protocol.specs.Workers.{Stores, stored_bytes, outputs_zeroed, busy_at_start, can_start}
use Rattle.tss_protocol.specs.UnitMachine.{IsEnabled, is_enabled, after_event, start_task, after_start, stores_of}
use Rattle.tss_phases.proofs.StartEvent.{phase_of-start}
use Rattle.tss_locality.proofs.LeftFields.{Leaves-after_event}
use Rattle.tss_names.specs.Stages.{IsOnWorker}
use Rattle.tss_values.specs.Buffers.{HasBuffers}
use Rattle.tss_names.proofs.PlainLemmas.{none_from_test}
use Rattle.tss_program_order.proofs.FlatLoads.{same_bytes}
use Rattle.tss_names.proofs.QueueLemmas.{in_queue, at_front}
use Rattle.tss_names.proofs.StageEvents.{length-storages}
use Rattle.tss_program_order.proofs.StoreFrames.{IsBeside, outputs_zeroed-left}
use Rattle.tss_values.proofs.Values.{content, HasStored}
use Rattle.tss_values.proofs.stored.Workers.{stored_beside}
use Rattle.tss_program_order.proofs.StoreViews.{outputs_zeroed-unseen, buffer_unseen}
use Rattle.tss_values.proofs.stored.Exec.{inside_range, front_left}
use Rattle.tss_values.proofs.workers.Apart.{held}
use Rattle.tss_values.proofs.workers.Finds.{queued_unfinished}
use Rattle.tss_control.proofs.rounds.Facts.{Facts}

-- ---- objects

-- zeros at a task's outputs leave an object beside what the task writes
left_at_start : (limits : Limits) (s : Stores) (os : List Operand) (ss : List StorageName) (x : Range)
    (st : StorageName) → ((a : ℕ) → covers x a ≡ true → IsBeside os ss st a)
    → stored_bytes (outputs_zeroed limits s os ss) x st ≡ stored_bytes s x st
left_at_start limits s os ss x Home beside =
    same_bytes (byte_at (outputs_zeroed limits s os ss).home) (byte_at s.home) x.base x.len (λ a low high.
    outputs_zeroed-left limits s os ss x Home a (beside a (inside_range x a low high)))
left_at_start limits s os ss x (Buffer q) beside =
    front_left x (buffer_bytes (outputs_zeroed limits s os ss).contents q) (buffer_bytes s.contents q) (λ inside.
    outputs_zeroed-unseen limits (λ (s : Stores). buffer_bytes s.contents q) s os ss (λ k o storage at told writer.
    buffer_unseen limits q o.object storage (λ is. (beside x.base inside k o storage at told writer).buffer q is refl)))

-- ---- start

module _ (m : Machine) (i : ImageState) (S : State) (facts : Facts m S) (buffers : HasBuffers facts.ts S)
    (h : HasStored m i facts.ts S) where
  open facts use {all, ts, ground, control as k}

  module _ (w n : ℕ) (rest : List ℕ) (queue : S.queue ≡ n ∷ rest) (x : Flying) (flies : get S.flight n ≡ Some x)
      (on : can_start m.sizes.workers w (get S.workers w) (n ∷ rest) ≡ true) where
    abbrev T : State
    T = after_event m S (event.Start w)

    state : T ≡ start_task m S w n rest (Some x)
    unfolding after_event
    state = ap (after_start m S w) queue ∙ ap (start_task m S w n rest) flies

    idle : get S.workers w ≡ None
    idle = none_from_test (get S.workers w) (and_parts (nat_lt w m.sizes.workers) (is_none (get S.workers w)) on).1

    -- the task that starts
    queued : x.stage ≡ stage.Queued
    queued =
        let r = k.holders.runners.queued n (ap (in_queue n) queue ∙ at_front n rest) in
        ap (λ (x : Flying). x.stage) (same_Some x r.0 (sym flies ∙ r.1)) ∙ r.2

    complete : is_complete x ≡ true
    complete = (ground.stages.queue n (ap (in_queue n) queue ∙ at_front n rest)).complete x flies

    unfinished : x.stage ≡ stage.Finished → ⊥
    unfinished = queued_unfinished m i S facts buffers n x flies complete queued

    workers_after : T.workers ≡ insert S.workers w (busy_at_start x)
    workers_after = λ j. (state j).workers

    starts_there : IsOnWorker T n
    starts_there = (
      w,
      busy_at_start x,
      ap (λ ws. get ws w) workers_after ∙ at_inserted nat_order S.workers w (busy_at_start x),
      (ground.numbers.flight n x flies).number,
    )

    -- who is on a worker stays there
    stays_busy : (j : ℕ) → IsOnWorker S j → IsOnWorker T j
    stays_busy j on = (
      on.0,
      on.1,
      ap (λ ws. get ws on.0) workers_after
          ∙ beside_inserted nat_order S.workers w (busy_at_start x) on.0
          (λ same. none-some on.1 (sym idle ∙ ap (get S.workers) (sym same) ∙ on.2))
          ∙ on.2,
      on.3,
    )

    stored_started : HasStored m i ts T
    stored_started =
        let f = ground.numbers.flight n x flies in
        stored_beside m i S facts buffers h n x.task f.task (storages_of x) (length-storages all S n x f)
        (held m S facts buffers n x flies complete unfinished) T (record {
          versions = λ j. (Leaves-after_event m S (event.Start w) j).versions;
          phases = phase_of-start m S w;
          busy = starts_there;
          others = stays_busy;
          bytes = λ y st beside.
              ap (λ (T : State). content T y.object st) state
              ∙ left_at_start m.limits (stores_of S) (operands_of x.task) (storages_of x) y.object st beside;
        })

  by_task : (w n : ℕ) (rest : List ℕ) → S.queue ≡ n ∷ rest → (x : Option Flying) → get S.flight n ≡ x
      → can_start m.sizes.workers w (get S.workers w) (n ∷ rest) ≡ true
      → HasStored m i ts (after_event m S (event.Start w))
  by_task w n rest queue None none on =
      let r = k.holders.runners.queued n (ap (in_queue n) queue ∙ at_front n rest) in
      absurd (none-some r.0 (sym none ∙ r.1))
  by_task w n rest queue (Some x) flies on = stored_started w n rest queue x flies on

  by_queue : (w : ℕ) (q : List ℕ) → S.queue ≡ q → can_start m.sizes.workers w (get S.workers w) q ≡ true
      → HasStored m i ts (after_event m S (event.Start w))
  by_queue w [] queue on = absurd (cc)
  by_queue w (n ∷ rest) queue on = by_task w n rest queue (get S.flight n) refl on

  -- start
  pub HasStored-start : (w : ℕ) → IsEnabled m S (event.Start w) → HasStored m i ts (after_event m S (event.Start w))
  unfolding is_enabled
  HasStored-start w on = by_queue w S.queue refl on
