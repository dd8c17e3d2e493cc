-- No store takes a byte of memory away: home and the memory of program order keep all that were loaded.
use Rattle.std.proofs.Common.{◌≡◌, ℕ, suc, inl, inr, Bool, true, false, List, [], ◌∷◌, Option, Some, None, sym, ap}
use Rattle.std.proofs.Common.{subst, ◌∙◌}
use Rattle.std.specs.Prelude.{cond, ◌-◌, is_some, nat_le}
use Rattle.std.specs.FinMap.{get, insert}
use Rattle.tss_base.specs.declared.operand.Operand.{Operand}
use Rattle.tss_base.specs.declared.operand.Task.{Task}
use Rattle.tss_base.specs.declared.range.Range.{Range}
use Rattle.tss_base.specs.declared.machine.Limits.{Limits}
use Rattle.tss_base.specs.declared.machine.Machine.{Machine}
use Rattle.tss_base.specs.declared.event.Event.{Event}
use Rattle.tss_base.specs.declared.event.Event.TheVariants as event
use Rattle.tss_base.specs.Image.{SegmentState, ImageState}
use Rattle.tss_base.specs.Names.{Numbered}
use Rattle.tss_maps.proofs.Keys.{nat_order, decide_key}
use Rattle.tss_maps.proofs.Changes.{at_inserted, beside_inserted}
use Rattle.tss_model.specs.Memory.{Memory, scratch_range, covers, map_put, put_bytes, zeroed, byte_at, code_word}
use Rattle.tss_model.specs.Memory.{loaded, frozen, list_put}
use Rattle.tss_model.specs.Registers.{trap_of}
use Rattle.tss_base.specs.declared.causes.TheConstants.{BUDGET_SPENT}
use Rattle.tss_base.specs.declared.refusals.TheConstants.{MAIN_BUDGET_SPENT}
use Rattle.tss_model.specs.Access.{Actor, TaskActor, operands_of, reads}
use Rattle.tss_model.specs.Core.{Write, Stepped, Executed, Called, Ended, Trapped, Touched, core_step}
use Rattle.tss_model.specs.TaskRun.{TaskState, is_over, task_byte, task_write, task_on, task_step, task_trapped}
use Rattle.tss_model.specs.TaskRun.{memory_write, zeroed_output, zeroed_outputs, task_start, task_actor, task_end}
use Rattle.tss_model.specs.MainStep.{MainState, Flat, Call, has_spent, main_core, main_on, main_refused, main_step}
use Rattle.tss_model.specs.MainStep.{main_stretch, main_call, next_call, flat_written}
use Rattle.tss_model.specs.InOrder.{flat_start, call_ran, flat_by, flat_step, flat_stepped}
use Rattle.tss_protocol.specs.Mail.{StorageName, Home, Buffer}
use Rattle.tss_protocol.specs.State.{State, Flying, Busy, CopyState}
use Rattle.tss_protocol.specs.Stations.{storages_of}
use Rattle.tss_protocol.specs.Buffers.{buffer_bytes, piece_of}
use Rattle.tss_protocol.specs.MainEvent.{flat_of, call_next, after_call, main_by}
use Rattle.tss_protocol.specs.Workers.{Stores, Placed, placed_in, placed_at, worker_byte, worker_write, write_in}
use Rattle.tss_protocol.specs.Workers.{storage_write, storage_zeroed, output_zeroed, outputs_zeroed, task_state_of}
use Rattle.tss_protocol.specs.UnitMachine.{after_event, start_task, after_start, after_exec, after_copy, stores_of}
use Rattle.tss_locality.proofs.LeftFields.{Leaves-after_event}
use Rattle.tss_program_order.proofs.FlatSteps.{repeated-keeps}
use Rattle.tss_program_order.proofs.LoadedBytes.{HasByte}

-- ---- stores

module _ (a : ℕ) where
  -- a byte stands there
  abbrev IsThere : Numbered ℕ → Type 0
  IsThere bytes = is_some (get bytes a) ≡ true

  there_inserted : (bytes : Numbered ℕ) (k v : ℕ) → IsThere bytes → IsThere (insert bytes k v)
  there_inserted bytes k v h = elim (decide_key nat_order a k) [
    | inl same ↦ ap is_some (ap (get (insert bytes k v)) same ∙ at_inserted nat_order bytes k v)
    | inr apart ↦ ap is_some (beside_inserted nat_order bytes k v a apart) ∙ h
  ]

  there_put : (bytes : Numbered ℕ) (at : ℕ) (bs : List ℕ) → IsThere bytes → IsThere (map_put bytes at bs)
  there_put bytes at [] h = h
  there_put bytes at (b ∷ bs) h = there_inserted (map_put bytes (suc at) bs) at b (there_put bytes (suc at) bs h)

  -- a store keeps it
  kept_put : (m : Memory) (at : ℕ) (bs : List ℕ) → HasByte m a → HasByte (put_bytes m at bs) a
  kept_put m at bs h = there_put m.bytes at bs h

  kept_flat : (m : Memory) (w : Option Write) → HasByte m a → HasByte (flat_written m w) a
  kept_flat m None h = h
  kept_flat m (Some w) h = kept_put m w.at w.bytes h

  -- ---- a task over memory

  kept_write : (s : TaskState Memory) (w : Option Write) → HasByte s.memory a
      → HasByte (task_write memory_write s w).memory a
  kept_write s None h = h
  kept_write s (Some w) h = by (covers scratch_range w.at)
    where
      by : (b : Bool)
          → HasByte (cond b (record s { scratch = list_put s.scratch (w.at - scratch_range.base) w.bytes })
          (record s { memory = memory_write s.memory w })).memory a
      by true = h
      by false = kept_put s.memory w.at w.bytes h

  kept_on : (s : TaskState Memory) (x : Stepped) → HasByte s.memory a → HasByte (task_on memory_write s x).memory a
  kept_on s (Executed r w) h = kept_write s w h
  kept_on s Called h = h
  kept_on s Ended h = h
  kept_on s (Trapped t) h = h
  kept_on s Touched h = h

  kept_step : (budget : ℕ) (code : List SegmentState) (actor : Actor) (s : TaskState Memory) → HasByte s.memory a
      → HasByte (task_step byte_at memory_write budget code actor s).memory a
  unfolding task_step
  kept_step budget code actor s h = by (is_over s) (nat_le budget s.registers.done)
    where
      next : TaskState Memory
      next = task_on memory_write s (core_step actor (task_byte byte_at s) (code_word code) s.registers)

      by : (o c : Bool)
          → HasByte (cond o s (cond c (task_trapped s (trap_of s.registers BUDGET_SPENT 0)) next)).memory a
      by true c = h
      by false true = h
      by false false = kept_on s (core_step actor (task_byte byte_at s) (code_word code) s.registers) h

  kept_zeroed : (m : Memory) (o : Operand) → HasByte m a → HasByte (zeroed_output m o) a
  kept_zeroed m o h = by (reads o.mode)
    where
      by : (b : Bool) → HasByte (cond b m (zeroed m o.object)) a
      by true = h
      by false = kept_put m o.object.base _ h

  kept_outputs : (m : Memory) (os : List Operand) → HasByte m a → HasByte (zeroed_outputs m os) a
  kept_outputs m [] h = h
  kept_outputs m (o ∷ os) h = kept_zeroed (zeroed_outputs m os) o (kept_outputs m os h)

  -- all of a task keeps it
  kept_task : (code : List SegmentState) (limits : Limits) (m : Memory) (t : Task) → HasByte m a
      → HasByte (task_end code limits m t).memory a
  kept_task code limits m t h =
      repeated-keeps (λ (s : TaskState Memory). HasByte s.memory a)
      (task_step byte_at memory_write limits.task_budget code (task_actor m t))
      (kept_step limits.task_budget code (task_actor m t)) (suc limits.task_budget) (task_start m t)
      (kept_outputs m (operands_of t) h)

  -- ---- main

  kept_main_on : (f : Flat) (x : Stepped) → HasByte f.memory a → HasByte (main_on f x).memory a
  kept_main_on f (Executed r w) h = kept_flat f.memory w h
  kept_main_on f Called h = h
  kept_main_on f Ended h = h
  kept_main_on f (Trapped t) h = h
  kept_main_on f Touched h = h

  kept_main_step : (code : List SegmentState) (limits : Limits) (f : Flat) → HasByte f.memory a
      → HasByte (main_step code limits f).memory a
  unfolding main_step
  kept_main_step code limits f h = by (is_some f.main.ending) (has_spent limits f.main)
    where
      by : (e s : Bool)
          → HasByte (cond e f (cond s (record f { main = main_refused f.main MAIN_BUDGET_SPENT })
          (main_on f (main_core code f)))).memory a
      by true s = h
      by false true = h
      by false false = kept_main_on f (main_core code f) h

  kept_stretch : (code : List SegmentState) (limits : Limits) (n : ℕ) (f : Flat) → HasByte f.memory a
      → HasByte (main_stretch code limits n f).memory a
  kept_stretch code limits n f h =
      repeated-keeps (λ (f : Flat). HasByte f.memory a) (main_step code limits) (kept_main_step code limits) n f h

  kept_call : (code : List SegmentState) (limits : Limits) (m : Memory) (p : MainState × Option Task) → HasByte m a
      → HasByte (call_ran code limits m p).memory a
  kept_call code limits m (s, None) h = h
  kept_call code limits m (s, Some t) h = kept_task code limits m t h

  kept_flat_by : (code : List SegmentState) (limits : Limits) (f : Flat) (c : Option Call) → HasByte f.memory a
      → HasByte (flat_by code limits f c).memory a
  kept_flat_by code limits f None h = kept_main_step code limits f h
  kept_flat_by code limits f (Some c) h = kept_call code limits f.memory (main_call limits f.memory f.main c) h

  kept_flat_step : (code : List SegmentState) (limits : Limits) (f : Flat) → HasByte f.memory a
      → HasByte (flat_step code limits f).memory a
  unfolding flat_step
  kept_flat_step code limits f h = kept_flat_by code limits f (next_call code limits f) h

  -- program order keeps what was loaded
  pub kept_in_order : (i : ImageState) (limits : Limits) (n : ℕ) → HasByte (loaded i) a
      → HasByte (flat_stepped i limits n).memory a
  kept_in_order i limits n h =
      repeated-keeps (λ (f : Flat). HasByte f.memory a) (flat_step (frozen i) limits) (kept_flat_step (frozen i) limits)
      n (flat_start i) h

  -- ---- workers

  -- a byte of home
  abbrev AtHome : Stores → Type 0
  AtHome s = HasByte s.home a

  kept_storage : (s : Stores) (object : Range) (storage : StorageName) (w : Write) → AtHome s
      → AtHome (storage_write s object storage w)
  kept_storage s object Home w h = kept_put s.home w.at w.bytes h
  kept_storage s object (Buffer n) w h = h

  kept_in : (s : Stores) (p : Option Placed) (w : Write) → AtHome s → AtHome (write_in s p w)
  kept_in s None w h = kept_put s.home w.at w.bytes h
  kept_in s (Some p) w h = kept_storage s p.object p.storage w h

  module _ (placed : List Placed) where
    kept_worker_write : (s : TaskState Stores) (w : Option Write) → AtHome s.memory
        → AtHome (task_write (worker_write placed) s w).memory
    kept_worker_write s None h = h
    kept_worker_write s (Some w) h = by (covers scratch_range w.at)
      where
        by : (b : Bool)
            → AtHome (cond b (record s { scratch = list_put s.scratch (w.at - scratch_range.base) w.bytes })
            (record s { memory = worker_write placed s.memory w })).memory
        by true = h
        by false = kept_in s.memory (placed_at placed w.at) w h

    kept_worker_on : (s : TaskState Stores) (x : Stepped) → AtHome s.memory
        → AtHome (task_on (worker_write placed) s x).memory
    kept_worker_on s (Executed r w) h = kept_worker_write s w h
    kept_worker_on s Called h = h
    kept_worker_on s Ended h = h
    kept_worker_on s (Trapped t) h = h
    kept_worker_on s Touched h = h

    kept_worker_step : (budget : ℕ) (code : List SegmentState) (actor : Actor) (s : TaskState Stores)
        → AtHome s.memory
        → AtHome (task_step (worker_byte placed) (worker_write placed) budget code actor s).memory
    unfolding task_step
    kept_worker_step budget code actor s h = by (is_over s) (nat_le budget s.registers.done)
      where
        next : TaskState Stores
        next = task_on (worker_write placed) s
            (core_step actor (task_byte (worker_byte placed) s) (code_word code) s.registers)

        by : (o c : Bool) → AtHome (cond o s (cond c (task_trapped s (trap_of s.registers BUDGET_SPENT 0)) next)).memory
        by true c = h
        by false true = h
        by false false =
            kept_worker_on s (core_step actor (task_byte (worker_byte placed) s) (code_word code) s.registers) h

  kept_storage_zeroed : (limits : Limits) (s : Stores) (object : Range) (storage : StorageName) → AtHome s
      → AtHome (storage_zeroed limits s object storage)
  kept_storage_zeroed limits s object Home h = kept_put s.home object.base _ h
  kept_storage_zeroed limits s object (Buffer n) h = h

  kept_output : (limits : Limits) (s : Stores) (o : Operand) (storage : StorageName) → AtHome s
      → AtHome (output_zeroed limits s o storage)
  kept_output limits s o storage h = by (reads o.mode)
    where
      by : (b : Bool) → AtHome (cond b s (storage_zeroed limits s o.object storage))
      by true = h
      by false = kept_storage_zeroed limits s o.object storage h

  kept_started : (limits : Limits) (s : Stores) (os : List Operand) (ss : List StorageName) → AtHome s
      → AtHome (outputs_zeroed limits s os ss)
  kept_started limits s [] ss h = h
  kept_started limits s (o ∷ os) [] h = h
  kept_started limits s (o ∷ os) (storage ∷ ss) h =
      kept_output limits (outputs_zeroed limits s os ss) o storage (kept_started limits s os ss h)

  -- ---- events

  module _ (m : Machine) (S : State) (h : HasByte S.home a) where
    kept_main_by : (c : Option Call) → HasByte (main_by m S c).home a
    kept_main_by None = kept_stretch S.code m.limits m.sizes.quantum (flat_of S) h
    kept_main_by (Some call) = by (main_call m.limits S.home S.main call)
      where
        by : (p : MainState × Option Task) → HasByte (after_call S p).home a
        by (s, None) = h
        by (s, Some t) = h

    kept_start_task : (w t : ℕ) (queue : List ℕ) (x : Option Flying) → HasByte (start_task m S w t queue x).home a
    kept_start_task w t queue None = h
    kept_start_task w t queue (Some x) =
        kept_started m.limits (stores_of S) (operands_of x.task) (storages_of x) h

    kept_start : (w : ℕ) (queue : List ℕ) → HasByte (after_start m S w queue).home a
    kept_start w [] = h
    kept_start w (t ∷ queue) = kept_start_task w t queue (get S.flight t)

    kept_exec : (w : ℕ) (b : Option Busy) → HasByte (after_exec m S w b).home a
    kept_exec w None = h
    kept_exec w (Some b) =
        let placed = placed_in (operands_of b.task) b.storages in
        repeated-keeps (λ (s : TaskState Stores). AtHome s.memory)
        (task_step (worker_byte placed) (worker_write placed) m.limits.task_budget S.code
        (TaskActor S.home.ranges (operands_of b.task)))
        (kept_worker_step placed m.limits.task_budget S.code (TaskActor S.home.ranges (operands_of b.task)))
        m.sizes.quantum (task_state_of b (stores_of S)) h

    kept_copy : (b : ℕ) (c : Option CopyState) → HasByte (after_copy S b c).home a
    kept_copy b None = h
    kept_copy b (Some c) = kept_put S.home _ (piece_of c (buffer_bytes S.contents c.buffer)) h

    same_home : (T : State) → T.home ≡ S.home → HasByte T.home a
    same_home T same = subst (λ home. HasByte home a) (sym same) h

    -- every event keeps the bytes of home
    pub kept-after_event : (e : Event) → HasByte (after_event m S e).home a
    unfolding after_event
    kept-after_event event.Main = kept_main_by (call_next m S)
    kept-after_event (event.Ack o) = h
    kept-after_event (event.Start w) = kept_start w S.queue
    kept-after_event (event.Exec w) = kept_exec w (get S.workers w)
    kept-after_event (event.Nack v) = h
    kept-after_event (event.Copy b) = kept_copy b (get S.copies b)
    kept-after_event e = same_home (after_event m S e) (λ i. (Leaves-after_event m S e i).home)
