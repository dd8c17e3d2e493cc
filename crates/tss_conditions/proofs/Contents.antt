-- Only held buffers have contents, and these are as long as an object may be.
use Rattle.std.proofs.Common.{◌≡◌, ℕ, zero, suc, ◌-◌, Bool, true, false, cond, List, [], ◌∷◌, length, Option, Some}
use Rattle.std.proofs.Common.{None, refl, sym, ap, ◌∙◌, subst}
use Rattle.std.specs.Prelude.{nat_le, slice_get, unwrap_or}
use Rattle.std.specs.FinMap.{get, get-empty}
use Rattle.std.proofs.lemmas.Option.{none-some, same_Some}
use Rattle.tss_base.specs.declared.range.Range.{Range}
use Rattle.tss_base.specs.declared.operand.OpName.{OpName}
use Rattle.tss_base.specs.declared.operand.Operand.{Operand}
use Rattle.tss_base.specs.declared.operand.Task.{Task}
use Rattle.tss_base.specs.declared.machine.Limits.{Limits}
use Rattle.tss_base.specs.declared.machine.Machine.{Machine}
use Rattle.tss_base.specs.declared.event.Event.{Event}
use Rattle.tss_base.specs.declared.event.Event.TheVariants as event
use Rattle.tss_base.specs.Image.{ImageState, SegmentState, IsAccepted}
use Rattle.tss_base.specs.Machine.{IsAdmissible}
use Rattle.tss_base.specs.Names.{Named, name_cmp}
use Rattle.tss_maps.proofs.Keys.{name_order}
use Rattle.tss_maps.proofs.Changes.{still_inserted, beside_removed, from_removed}
use Rattle.tss_maps.proofs.Places.{find_there}
use Rattle.tss_model.specs.Memory.{scratch_range, covers, zeros, list_put, code_word}
use Rattle.tss_model.specs.Registers.{trap_of}
use Rattle.tss_base.specs.declared.causes.TheConstants.{BUDGET_SPENT}
use Rattle.tss_model.specs.Access.{Actor, TaskActor, operands_of, reads}
use Rattle.tss_model.specs.Core.{Write, Stepped, Executed, Called, Ended, Trapped, Touched, core_step}
use Rattle.tss_model.specs.TaskRun.{TaskState, is_over, task_byte, task_on, task_step, task_trapped}
use Rattle.tss_protocol.specs.Mail.{StorageName, Home, Buffer, GoneContents}
use Rattle.tss_protocol.specs.State.{State, Flying, Busy}
use Rattle.tss_protocol.specs.Stations.{storages_of}
use Rattle.tss_protocol.specs.Renaming.{takes_buffer, buffers_after_decode, buffers_after_gone}
use Rattle.tss_protocol.specs.Buffers.{buffer_bytes, contents_after_gone}
use Rattle.tss_protocol.specs.Workers.{Stores, Placed, placed_in, placed_at, worker_byte, worker_write, write_in}
use Rattle.tss_protocol.specs.Workers.{storage_write, storage_zeroed, output_zeroed, outputs_zeroed, exec_stretch}
use Rattle.tss_protocol.specs.Workers.{task_state_of}
use Rattle.tss_protocol.specs.Names.{bank_of}
use Rattle.tss_protocol.specs.UnitMachine.{after_event, stores_of, without, decode_message_taken, gone_message_taken}
use Rattle.tss_protocol.specs.UnitMachine.{start_task, after_start, after_exec}
use Rattle.tss_protocol.specs.Run.{IsRun}
use Rattle.tss_locality.proofs.LeftFields.{Leaves-after_event}
use Rattle.tss_names.specs.Names.{EachEntry}
use Rattle.tss_names.proofs.NameLemmas.{each_inserted}
use Rattle.tss_program_order.proofs.FlatSteps.{repeated-keeps}
use Rattle.tss_program_order.proofs.StoreBytes.{length-list_put}
use Rattle.tss_program_order.proofs.StoreStart.{length-zeros, placed_in-parts}
use Rattle.tss_values.proofs.ValuesJoin.{values_of_run}
use Rattle.tss_conditions.specs.Reached.{Reached}
use Rattle.tss_conditions.specs.Running.{MayRunOver}
use Rattle.tss_conditions.proofs.Running.{beside_in, may_start, is_running}

-- a buffer is held
abbrev IsHeld : Named ℕ → OpName → Type 0
IsHeld buffers n = (bank : ℕ) × (get buffers n ≡ Some bank)

-- it is held, and its bytes are so many
abbrev IsWhole : Named ℕ → ℕ → OpName → List ℕ → Type 0
IsWhole buffers most n bytes = IsHeld buffers n × (length bytes ≡ most)

-- all contents are of such
abbrev AreWhole : Named ℕ → ℕ → Named (List ℕ) → Type 0
AreWhole buffers most contents = EachEntry (IsWhole buffers most) contents

-- the buffers of storages are held
abbrev AreHeld : Named ℕ → List StorageName → Type 0
AreHeld buffers ss = (k : ℕ) (n : OpName) → slice_get ss k ≡ Some (Buffer n) → IsHeld buffers n

-- and set
abbrev AreSet : Named (List ℕ) → List StorageName → Type 0
AreSet contents ss =
    (k : ℕ) (n : OpName) → slice_get ss k ≡ Some (Buffer n) → (bytes : List ℕ) × (get contents n ≡ Some bytes)

-- ---- start

module _ (buffers : Named ℕ) (limits : Limits) where
  zeroed_whole : (s : Stores) (object : Range) (storage : StorageName)
      → ((n : OpName) → storage ≡ Buffer n → IsHeld buffers n) → AreWhole buffers limits.object_bytes s.contents
      → AreWhole buffers limits.object_bytes (storage_zeroed limits s object storage).contents
  zeroed_whole s object Home held whole = whole
  zeroed_whole s object (Buffer n) held whole =
      each_inserted name_order (IsWhole buffers limits.object_bytes) s.contents n (zeros limits.object_bytes) whole
      (held n refl, length-zeros limits.object_bytes)

  output_whole : (s : Stores) (o : Operand) (storage : StorageName)
      → ((n : OpName) → storage ≡ Buffer n → IsHeld buffers n) → AreWhole buffers limits.object_bytes s.contents
      → AreWhole buffers limits.object_bytes (output_zeroed limits s o storage).contents
  output_whole s o storage held whole = by (reads o.mode)
    where
      by : (r : Bool)
          → AreWhole buffers limits.object_bytes (cond r s (storage_zeroed limits s o.object storage)).contents
      by true = whole
      by false = zeroed_whole s o.object storage held whole

  started_whole : (s : Stores) (os : List Operand) (ss : List StorageName) → AreHeld buffers ss
      → AreWhole buffers limits.object_bytes s.contents
      → AreWhole buffers limits.object_bytes (outputs_zeroed limits s os ss).contents
  started_whole s [] ss held whole = whole
  started_whole s (o ∷ os) [] held whole = whole
  started_whole s (o ∷ os) (storage ∷ ss) held whole =
      output_whole (outputs_zeroed limits s os ss) o storage (λ n e. held zero n (ap Some e))
      (started_whole s os ss (λ k n at. held (suc k) n at) whole)

-- ---- exec

module _ (buffers : Named ℕ) (most : ℕ) (os : List Operand) (ss : List StorageName) (held : AreHeld buffers ss) where
  abbrev placed : List Placed
  placed = placed_in os ss

  -- what a stretch keeps
  abbrev IsGood : Stores → Type 0
  IsGood s = AreWhole buffers most s.contents × AreSet s.contents ss

  storage_good : (s : Stores) (object : Range) (storage : StorageName) (k : ℕ) → slice_get ss k ≡ Some storage
      → (w : Write) → IsGood s → IsGood (storage_write s object storage w)
  storage_good s object Home k at w good = good
  storage_good s object (Buffer n) k at w good =
      let old = good.1 k n at in
      let bytes = list_put (buffer_bytes s.contents n) (w.at - object.base) w.bytes in
      let count = length-list_put w.bytes (buffer_bytes s.contents n) (w.at - object.base)
      ∙ ap (λ (x : Option (List ℕ)). length (unwrap_or x [])) old.1
      ∙ (good.0 n old.0 old.1).1 in (
        each_inserted name_order (IsWhole buffers most) s.contents n bytes good.0 (held k n at, count),
        λ j m there.
            let was = good.1 j m there in
            still_inserted name_order s.contents n bytes m was.0 was.1,
      )

  write_good : (s : Stores) (p : Option Placed) (w : Write) → placed_at placed w.at ≡ p → IsGood s
      → IsGood (write_in s p w)
  write_good s None w e good = good
  write_good s (Some p) w e good =
      let first = find_there (λ p. covers p.object w.at) placed p e in
      let parts = placed_in-parts os ss first.0 p first.1 in
      storage_good s p.object p.storage first.0 parts.2 w good

  on_good : (s : TaskState Stores) (x : Stepped) → IsGood s.memory → IsGood (task_on (worker_write placed) s x).memory
  on_good s (Executed r None) good = good
  on_good s (Executed r (Some w)) good = by (covers scratch_range w.at)
    where
      by : (c : Bool)
          → IsGood (cond c (record s { scratch = list_put s.scratch (w.at - scratch_range.base) w.bytes })
          (record s { memory = worker_write placed s.memory w })).memory
      by true = good
      by false = write_good s.memory (placed_at placed w.at) w refl good
  on_good s Called good = good
  on_good s Ended good = good
  on_good s (Trapped t) good = good
  on_good s Touched good = good

  step_good : (budget : ℕ) (code : List SegmentState) (actor : Actor) (s : TaskState Stores) → IsGood s.memory
      → IsGood (task_step (worker_byte placed) (worker_write placed) budget code actor s).memory
  unfolding task_step
  step_good budget code actor s good = by (is_over s) (nat_le budget s.registers.done)
    where
      next : TaskState Stores
      next = task_on (worker_write placed) s
          (core_step actor (task_byte (worker_byte placed) s) (code_word code) s.registers)

      by : (o c : Bool) → IsGood (cond o s (cond c (task_trapped s (trap_of s.registers BUDGET_SPENT 0)) next)).memory
      by true c = good
      by false true = good
      by false false =
          on_good s (core_step actor (task_byte (worker_byte placed) s) (code_word code) s.registers) good

-- a stretch of a worker
executed_whole : (buffers : Named ℕ) (code : List SegmentState) (limits : Limits) (quantum : ℕ) (x : Busy) (s : Stores)
    → AreHeld buffers x.storages → AreSet s.contents x.storages → AreWhole buffers limits.object_bytes s.contents
    → AreWhole buffers limits.object_bytes (exec_stretch code limits quantum x s).memory.contents
executed_whole buffers code limits quantum x s held set whole =
    let os = operands_of x.task in
    let placed = placed_in os x.storages in
    (repeated-keeps (λ (t : TaskState Stores). IsGood buffers limits.object_bytes os x.storages held t.memory)
    (task_step (worker_byte placed) (worker_write placed) limits.task_budget code
    (TaskActor s.home.ranges os))
    (step_good buffers limits.object_bytes os x.storages held limits.task_budget code (TaskActor s.home.ranges os))
    quantum (task_state_of x s) (whole, set)).0

-- ---- every event

module _ (m : Machine) (i : ImageState) (S : State) (r : Reached m i S)
    (whole : AreWhole S.buffers m.limits.object_bytes S.contents) where
  abbrev AreStill : State → Type 0
  AreStill T = AreWhole T.buffers m.limits.object_bytes T.contents

  same : (T : State) → T.buffers ≡ S.buffers → T.contents ≡ S.contents → AreStill T
  same T buffers contents =
      subst (λ held. AreWhole held m.limits.object_bytes T.contents) (sym buffers)
      (subst (AreWhole S.buffers m.limits.object_bytes) (sym contents) whole)

  held_of : (t : Task) (ss : List StorageName) → MayRunOver m S t ss → AreHeld S.buffers ss
  held_of t ss may k n at =
      let p = beside_in ss (operands_of t) may.storages k (Buffer n) at in
      (bank_of m.sizes (p.0).object, may.buffers k p.0 n p.1 at)

  -- ---- start, exec

  starts_at : (w t : ℕ) (ts : List ℕ) → S.queue ≡ t ∷ ts → (x : Option Flying) → get S.flight t ≡ x
      → AreWhole S.buffers m.limits.object_bytes (start_task m S w t ts x).contents
  starts_at w t ts front None e = whole
  starts_at w t ts front (Some x) e =
      let k = may_start m i S t ts r front in
      let one = same_Some k.flying x (sym k.there ∙ e) in
      started_whole S.buffers m.limits (stores_of S) (operands_of x.task) (storages_of x)
      (subst (λ (x : Flying). AreHeld S.buffers (storages_of x)) one
      (held_of k.flying.task (storages_of k.flying) k.may)) whole

  starts : (w : ℕ) (q : List ℕ) → S.queue ≡ q → AreWhole S.buffers m.limits.object_bytes (after_start m S w q).contents
  starts w [] e = whole
  starts w (t ∷ ts) e = starts_at w t ts e (get S.flight t) refl

  executes : (w : ℕ) (b : Option Busy) → get S.workers w ≡ b
      → AreWhole S.buffers m.limits.object_bytes (after_exec m S w b).contents
  executes w None e = whole
  executes w (Some b) e =
      let k = is_running m i S w b r e in
      executed_whole S.buffers S.code m.limits m.sizes.quantum b (stores_of S)
      (held_of b.task b.storages k.may)
      (λ j n at. let set = k.set j n at in (set.0, set.1)) whole

  -- ---- decode, gone

  taken_by : (o : OpName) (bank : ℕ) (takes : Bool)
      → AreWhole (buffers_after_decode S.buffers o bank takes) m.limits.object_bytes S.contents
  taken_by o bank false = whole
  taken_by o bank true = λ n bytes at.
      let k = whole n bytes at in (still_inserted name_order S.buffers o bank n k.0.0 k.0.1, k.1)

  decodes : (o : OpName) (p : Option Operand) → AreStill (decode_message_taken m (without S (event.Decode o)) o p)
  decodes o None = whole
  decodes o (Some p) =
      taken_by o (bank_of m.sizes p.object) (takes_buffer (get S.entries p.object.base) p.mode)

  freed : (b : Option OpName)
      → AreWhole (buffers_after_gone S.buffers b) m.limits.object_bytes (contents_after_gone S.contents b)
  freed None = whole
  freed (Some b) = λ n bytes at.
      let old = from_removed name_order S.contents b n bytes at in
      let k = whole n bytes old.1 in
      ((k.0.0, beside_removed name_order S.buffers b n old.0 ∙ k.0.1), k.1)

  goes : (v : OpName) (g : Option GoneContents) → AreStill (gone_message_taken (without S (event.Gone v)) v g)
  goes v None = whole
  goes v (Some g) = freed g.buffer

  -- ---- all

  still_start : (w : ℕ) → AreStill (after_event m S (event.Start w))
  unfolding after_event
  still_start w =
      subst (λ held. AreWhole held m.limits.object_bytes (after_event m S (event.Start w)).contents)
      (sym (λ i. (Leaves-after_event m S (event.Start w) i).buffers)) (starts w S.queue refl)

  still_exec : (w : ℕ) → AreStill (after_event m S (event.Exec w))
  unfolding after_event
  still_exec w =
      subst (λ held. AreWhole held m.limits.object_bytes (after_event m S (event.Exec w)).contents)
      (sym (λ i. (Leaves-after_event m S (event.Exec w) i).buffers)) (executes w (get S.workers w) refl)

  still_decode : (o : OpName) → AreStill (after_event m S (event.Decode o))
  unfolding after_event
  still_decode o = decodes o (get S.mail.decodes o)

  still_gone : (v : OpName) → AreStill (after_event m S (event.Gone v))
  unfolding after_event
  still_gone v = goes v (get S.mail.gones v)

  still_left : (e : Event) → (after_event m S e).buffers ≡ S.buffers → (after_event m S e).contents ≡ S.contents
      → AreStill (after_event m S e)
  still_left e buffers contents = same (after_event m S e) buffers contents

  still_after : (e : Event) → AreStill (after_event m S e)
  still_after (event.Decode o) = still_decode o
  still_after (event.Start w) = still_start w
  still_after (event.Exec w) = still_exec w
  still_after (event.Gone v) = still_gone v
  still_after e = still_left e (λ i. (Leaves-after_event m S e i).buffers) (λ i. (Leaves-after_event m S e i).contents)

-- so they are in every run
pub whole_run : (m : Machine) (i : ImageState) (es : List Event) (S : State) → IsAccepted i → IsAdmissible m
    → IsRun m i es S → AreWhole S.buffers m.limits.object_bytes S.contents
whole_run m i es S accepted admissible run =
    values_of_run (λ m i all ts S. AreWhole S.buffers m.limits.object_bytes S.contents)
    (λ m i es S e accepted admissible run whole on.
    still_after m i S (record { accepted = accepted; admissible = admissible; reachable = (es, run) }) whole e)
    m i accepted admissible (λ n bytes e. absurd (none-some bytes (sym (get-empty name_cmp n) ∙ e))) es S run
