-- What start, exec and gone leave of buffers: a start sets those of outputs, a stretch shortens none, and a gone frees
-- one.
use Rattle.std.proofs.Common.{◌≡◌, ℕ, zero, suc, ◌≤◌, inl, inr, Bool, true, false, List, [], ◌∷◌, length, Option, Some}
use Rattle.std.proofs.Common.{None, refl, sym, ap, ◌∙◌, subst, arith}
use Rattle.std.specs.Prelude.{cond, ◌-◌, slice_get, nat_le, unwrap_or}
use Rattle.std.specs.FinMap.{insert}
use Rattle.std.proofs.lemmas.Option.{none-some, same_Some}
use Rattle.std.proofs.lemmas.Bool.{cond-true, cond-false}
use Rattle.tss_base.specs.declared.range.Range.{Range}
use Rattle.tss_base.specs.declared.operand.OpName.{OpName}
use Rattle.tss_base.specs.declared.operand.Operand.{Operand}
use Rattle.tss_base.specs.declared.machine.Limits.{Limits}
use Rattle.tss_base.specs.Image.{SegmentState}
use Rattle.tss_base.specs.Names.{Named}
use Rattle.tss_maps.proofs.Keys.{name_order, decide_key}
use Rattle.tss_maps.proofs.Changes.{beside_removed}
use Rattle.tss_model.specs.Memory.{scratch_range, covers, zeros, code_word, list_put}
use Rattle.tss_model.specs.Registers.{trap_of}
use Rattle.tss_base.specs.declared.causes.TheConstants.{BUDGET_SPENT}
use Rattle.tss_model.specs.Access.{Actor, TaskActor, operands_of, reads}
use Rattle.tss_model.specs.Core.{Write, Stepped, Executed, Called, Ended, Trapped, Touched, core_step}
use Rattle.tss_model.specs.TaskRun.{TaskState, is_over, task_byte, task_write, task_on, task_step, task_trapped}
use Rattle.tss_protocol.specs.Mail.{StorageName, Home, Buffer}
use Rattle.tss_protocol.specs.State.{Busy}
use Rattle.tss_protocol.specs.Buffers.{buffer_bytes, contents_after_gone}
use Rattle.tss_protocol.specs.Workers.{Stores, Placed, placed_in, placed_at, worker_byte, worker_write, write_in}
use Rattle.tss_protocol.specs.Workers.{storage_write, storage_zeroed, output_zeroed, outputs_zeroed, exec_stretch}
use Rattle.tss_protocol.specs.Workers.{task_state_of}
use Rattle.tss_program_order.proofs.FlatSteps.{repeated-keeps}
use Rattle.tss_program_order.proofs.StoreBytes.{buffer_put, buffer_beside, length-list_put}
use Rattle.tss_program_order.proofs.StoreStart.{length-zeros}

-- how long a buffer is
abbrev size_in : Stores → OpName → ℕ
size_in s b = length (buffer_bytes s.contents b)

-- ---- start

module _ (limits : Limits) where
  -- a buffer has room for any object
  abbrev HasSpace : Stores → OpName → Type 0
  HasSpace s b = limits.object_bytes ≤ size_in s b

  space_own : (s : Stores) (object : Range) (b : OpName) → HasSpace (storage_zeroed limits s object (Buffer b)) b
  space_own s object b =
      let count = ap length (buffer_put s.contents b (zeros limits.object_bytes)) ∙ length-zeros limits.object_bytes in
      omega (arith, count)

  space_zeroed : (s : Stores) (object : Range) (storage : StorageName) (b : OpName) → HasSpace s b
      → HasSpace (storage_zeroed limits s object storage) b
  space_zeroed s object Home b room = room
  space_zeroed s object (Buffer n) b room = elim (decide_key name_order b n) [
    | inl same ↦ subst (HasSpace (storage_zeroed limits s object (Buffer n))) (sym same) (space_own s object n)
    | inr apart ↦
        let count = ap length (buffer_beside s.contents n b (zeros limits.object_bytes) apart) in
        omega (arith, count, room)
  ]

  space_output : (s : Stores) (o : Operand) (storage : StorageName) (b : OpName) → HasSpace s b
      → HasSpace (output_zeroed limits s o storage) b
  space_output s o storage b room = by (reads o.mode)
    where
      by : (r : Bool) → HasSpace (cond r s (storage_zeroed limits s o.object storage)) b
      by true = room
      by false = space_zeroed s o.object storage b room

  -- a start leaves room
  pub space_started : (s : Stores) (os : List Operand) (ss : List StorageName) (b : OpName) → HasSpace s b
      → HasSpace (outputs_zeroed limits s os ss) b
  space_started s [] ss b room = room
  space_started s (o ∷ os) [] b room = room
  space_started s (o ∷ os) (storage ∷ ss) b room =
      space_output (outputs_zeroed limits s os ss) o storage b (space_started s os ss b room)

  -- and makes it for each output
  pub space_made : (s : Stores) (os : List Operand) (ss : List StorageName) (k : ℕ) (o : Operand) (b : OpName)
      → slice_get os k ≡ Some o → slice_get ss k ≡ Some (Buffer b) → reads o.mode ≡ false
      → HasSpace (outputs_zeroed limits s os ss) b
  space_made s [] ss k o b at storage unread = absurd (none-some o at)
  space_made s (x ∷ os) [] k o b at storage unread = absurd (none-some (Buffer b) storage)
  space_made s (x ∷ os) (t ∷ ss) zero o b at storage unread =
      let same = ap (λ (y : Operand). reads y.mode) (same_Some x o at) ∙ unread in
      subst (λ t. HasSpace (output_zeroed limits (outputs_zeroed limits s os ss) x t) b)
      (sym (same_Some t (Buffer b) storage))
      (subst (λ y. HasSpace y b) (sym (cond-false _ _ _ same)) (space_own (outputs_zeroed limits s os ss) x.object b))
  space_made s (x ∷ os) (t ∷ ss) (suc k) o b at storage unread =
      space_output (outputs_zeroed limits s os ss) x t b (space_made s os ss k o b at storage unread)

-- ---- exec

module _ (placed : List Placed) (b : OpName) (n : ℕ) where
  -- the buffer has this size
  abbrev IsLong : TaskState Stores → Type 0
  IsLong s = size_in s.memory b ≡ n

  storage_long : (s : Stores) (object : Range) (storage : StorageName) (w : Write)
      → size_in (storage_write s object storage w) b ≡ size_in s b
  storage_long s object Home w = refl
  storage_long s object (Buffer k) w =
      let bytes = list_put (buffer_bytes s.contents k) (w.at - object.base) w.bytes in
      elim (decide_key name_order b k) [
        | inl same ↦
            ap (λ (x : OpName). length (buffer_bytes (insert s.contents k bytes) x)) same
            ∙ ap length (buffer_put s.contents k bytes)
            ∙ length-list_put w.bytes (buffer_bytes s.contents k) (w.at - object.base)
            ∙ ap (λ (x : OpName). length (buffer_bytes s.contents x)) (sym same)
        | inr apart ↦ ap length (buffer_beside s.contents k b bytes apart)
      ]

  write_long : (s : Stores) (p : Option Placed) (w : Write) → size_in (write_in s p w) b ≡ size_in s b
  write_long s None w = refl
  write_long s (Some p) w = storage_long s p.object p.storage w

  on_long : (s : TaskState Stores) (x : Stepped) → IsLong s → IsLong (task_on (worker_write placed) s x)
  on_long s (Executed r None) h = h
  on_long s (Executed r (Some w)) h = by (covers scratch_range w.at) refl
    where
      by : (c : Bool) → covers scratch_range w.at ≡ c
          → size_in (task_write (worker_write placed) s (Some w)).memory b ≡ n
      by true inside = ap (λ (x : TaskState Stores). size_in x.memory b) (cond-true _ _ _ inside) ∙ h
      by false outside =
          ap (λ (x : TaskState Stores). size_in x.memory b) (cond-false _ _ _ outside)
          ∙ write_long s.memory (placed_at placed w.at) w ∙ h
  on_long s Called h = h
  on_long s Ended h = h
  on_long s (Trapped t) h = h
  on_long s Touched h = h

  step_long : (budget : ℕ) (code : List SegmentState) (actor : Actor) (s : TaskState Stores) → IsLong s
      → IsLong (task_step (worker_byte placed) (worker_write placed) budget code actor s)
  unfolding task_step
  step_long budget code actor s h = by (is_over s) (nat_le budget s.registers.done)
    where
      next : TaskState Stores
      next = task_on (worker_write placed) s
          (core_step actor (task_byte (worker_byte placed) s) (code_word code) s.registers)

      by : (o c : Bool) → IsLong (cond o s (cond c (task_trapped s (trap_of s.registers BUDGET_SPENT 0)) next))
      by true c = h
      by false true = h
      by false false =
          on_long s (core_step actor (task_byte (worker_byte placed) s) (code_word code) s.registers) h

-- a stretch of a worker leaves each buffer as long as it was
pub size_executed : (code : List SegmentState) (limits : Limits) (quantum : ℕ) (x : Busy) (s : Stores) (b : OpName)
    → size_in (exec_stretch code limits quantum x s).memory b ≡ size_in s b
size_executed code limits quantum x s b =
    let placed = placed_in (operands_of x.task) x.storages in
    repeated-keeps (IsLong placed b (size_in s b))
    (task_step (worker_byte placed) (worker_write placed) limits.task_budget code
    (TaskActor s.home.ranges (operands_of x.task)))
    (step_long placed b (size_in s b) limits.task_budget code (TaskActor s.home.ranges (operands_of x.task)))
    quantum (task_state_of x s) refl

-- ---- gone

-- a buffer that isn't freed stays
pub bytes_beside_gone : (contents : Named (List ℕ)) (freed : Option OpName) (b : OpName) → (freed ≡ Some b → ⊥)
    → buffer_bytes (contents_after_gone contents freed) b ≡ buffer_bytes contents b
bytes_beside_gone contents None b apart = refl
bytes_beside_gone contents (Some n) b apart =
    ap (λ (x : Option (List ℕ)). unwrap_or x [])
    (beside_removed name_order contents n b (λ same. apart (ap Some (sym same))))
