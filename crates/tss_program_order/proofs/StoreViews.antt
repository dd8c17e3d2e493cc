-- What a worker leaves of its stores: what stays when an object that its task writes is written, or zeroed.
use Rattle.std.proofs.Common.{◌≡◌, ℕ, zero, suc, inl, inr, Bool, true, false, Some, None, List, [], ◌∷◌, length, refl}
use Rattle.std.proofs.Common.{sym, ap, subst, ◌∙◌, arith, nat_le, nat_lt}
use Rattle.std.specs.Prelude.{◌-◌, cond, slice_get, ◌&&◌}
use Rattle.std.specs.List.{list_any}
use Rattle.std.specs.FinMap.{get}
use Rattle.std.proofs.lemmas.Bool.{cond-true, cond-false, and_parts, or_cases, le-leb, lt-ltb, and_from, both_ways}
use Rattle.tss_base.specs.declared.range.Range.{Range}
use Rattle.tss_base.specs.declared.operand.OpName.{OpName}
use Rattle.tss_base.specs.declared.operand.Operand.{Operand}
use Rattle.tss_base.specs.declared.machine.Limits.{Limits}
use Rattle.tss_base.specs.Image.{SegmentState}
use Rattle.tss_base.specs.Range.{contains, end_of}
use Rattle.tss_model.specs.Memory.{MemoryRange, covers, scratch_range, code_word, zeros, list_put}
use Rattle.tss_model.specs.Access.{TaskActor, writes, reads, operands_of}
use Rattle.tss_model.specs.Core.{Write, Stepped, Executed, Called, Ended, Trapped, Touched, core_step}
use Rattle.tss_model.specs.TaskRun.{TaskState, repeated, is_over, task_byte, task_write, task_on, task_step}
use Rattle.tss_protocol.specs.Mail.{StorageName, Home, Buffer}
use Rattle.tss_protocol.specs.State.{Busy}
use Rattle.tss_protocol.specs.Buffers.{buffer_bytes}
use Rattle.tss_protocol.specs.Workers.{Stores as WorkerStores, Placed, placed_in, worker_byte, worker_write}
use Rattle.tss_protocol.specs.Workers.{storage_write, storage_zeroed, outputs_zeroed, exec_stretch, task_state_of}
use Rattle.tss_program_order.proofs.FlatCore.{IsStep, core_step-step}
use Rattle.tss_program_order.proofs.FlatTask.{MayWrite, granted_write, covers_inside, written_where_unread}
use Rattle.tss_program_order.proofs.FlatTaskAlike.{task_step-over, task_step-spent, task_step-core}
use Rattle.tss_program_order.proofs.FlatWrites.{map_put-beside}
use Rattle.tss_program_order.proofs.StoreBytes.{IsPlaced, AreSeparate, LiesIn, beside_write, buffer_beside}
use Rattle.tss_program_order.proofs.StoreBytes.{worker_write-there}
use Rattle.tss_program_order.proofs.StoreStart.{length-zeros}

-- what is seen of the stores is left when this object is written in its storage, or zeroed there
pub record IsUnseen {X : Type 0} (limits : Limits) (see : WorkerStores → X) (object : Range) (storage : StorageName)
    : Type 0 where
  pub written : (s : WorkerStores) (w : Write) → LiesIn object w → see (storage_write s object storage w) ≡ see s
  pub zeroed : (s : WorkerStores) → see (storage_zeroed limits s object storage) ≡ see s

-- each operand that is written is unseen, by its place
abbrev pub AreUnseen : {X : Type 0} → Limits → (WorkerStores → X) → List Operand → List StorageName → Type 0
AreUnseen limits see operands storages =
    (k : ℕ) (o : Operand) (storage : StorageName)
    → slice_get operands k ≡ Some o
    → slice_get storages k ≡ Some storage
    → writes o.mode ≡ true
    → IsUnseen limits see o.object storage

module _ {X : Type 0} (limits : Limits) (see : WorkerStores → X) where
  -- ---- the start of a worker

  -- zeros at its outputs leave it
  pub outputs_zeroed-unseen : (s : WorkerStores) (operands : List Operand) (storages : List StorageName)
      → AreUnseen limits see operands storages → see (outputs_zeroed limits s operands storages) ≡ see s
  outputs_zeroed-unseen s [] storages unseen = refl
  outputs_zeroed-unseen s (o ∷ operands) [] unseen = refl
  outputs_zeroed-unseen s (o ∷ operands) (storage ∷ storages) unseen =
      by (reads o.mode) refl
      ∙ outputs_zeroed-unseen s operands storages (λ k q t e d w. unseen (suc k) q t e d w)
    where
      by : (b : Bool) → reads o.mode ≡ b
          → see (cond (reads o.mode) (outputs_zeroed limits s operands storages)
          (storage_zeroed limits (outputs_zeroed limits s operands storages) o.object storage))
          ≡ see (outputs_zeroed limits s operands storages)
      by true read = ap see (cond-true _ _ _ read)
      by false unread =
          ap see (cond-false _ _ _ unread)
          ∙ (unseen 0 o storage refl refl (written_where_unread o.mode unread)).zeroed
          (outputs_zeroed limits s operands storages)

  -- ---- a stretch of a worker

  -- a range that is written lies in an unseen object
  abbrev IsCovered : List Operand → List Placed → Type 0
  IsCovered operands placed =
      (r : Range)
      → list_any (λ o. writes o.mode && contains o.object r) operands ≡ true
      → (k : ℕ)
      × (p : Placed)
      × IsPlaced placed k p
      × (contains p.object r ≡ true)
      × IsUnseen limits see p.object p.storage

  covered_from : (operands : List Operand) (storages : List StorageName) → length storages ≡ length operands
      → AreUnseen limits see operands storages → IsCovered operands (placed_in operands storages)
  covered_from [] storages count unseen r stored = absurd (cc)
  covered_from (o ∷ operands) [] count unseen r stored = absurd (omega (arith, count))
  covered_from (o ∷ operands) (s ∷ storages) count unseen r stored =
      elim (or_cases (writes o.mode && contains o.object r)
      (list_any (λ o. writes o.mode && contains o.object r) operands) stored) [
        | inl here ↦
            let parts = and_parts (writes o.mode) (contains o.object r) here in
            (0, record { object = o.object; storage = s }, refl, parts.1, unseen 0 o s refl refl parts.0)
        | inr later ↦
            let rest = covered_from operands storages (omega (arith, count))
            (λ k q t e d w. unseen (suc k) q t e d w) r later in
            (suc rest.0, rest.1, rest.2, rest.3, rest.4)
      ]

  module _ (placed : List Placed) (separate : AreSeparate placed) (operands : List Operand) (ranges : List MemoryRange)
      (covered : IsCovered operands placed) (v : X) where
    abbrev worker_step : ℕ → List SegmentState → TaskState WorkerStores → TaskState WorkerStores
    worker_step budget code s =
        task_step (worker_byte placed) (worker_write placed) budget code (TaskActor ranges operands) s

    write_unseen : (s : WorkerStores) (w : Write) → MayWrite operands w → see s ≡ v → see (worker_write placed s w) ≡ v
    write_unseen s w may shows =
        let place = covered (record { base = w.at; len = length w.bytes }) may.1 in
        let first = covers_inside (place.1).object (record { base = w.at; len = length w.bytes }) w.at place.3
        (omega arith, omega (arith, may.0)) in
        ap see (worker_write-there placed separate place.0 place.1 place.2 s w first)
        ∙ (place.4).written s w (may.0, place.3)
        ∙ shows

    on_unseen : (s : TaskState WorkerStores) (x : Stepped) → IsStep (TaskActor ranges operands) s.registers x
        → see s.memory ≡ v → see (task_on (worker_write placed) s x).memory ≡ v
    on_unseen s (Executed r None) is shows = shows
    on_unseen s (Executed r (Some w)) is shows = by (covers scratch_range w.at) refl
      where
        by : (b : Bool) → covers scratch_range w.at ≡ b
            → see (task_write (worker_write placed) s (Some w)).memory ≡ v
        by true inside = ap (λ (x : TaskState WorkerStores). see x.memory) (cond-true _ _ _ inside) ∙ shows
        by false outside =
            ap (λ (x : TaskState WorkerStores). see x.memory) (cond-false _ _ _ outside)
            ∙ write_unseen s.memory w (granted_write ranges operands w is.1 is.2 outside) shows
    on_unseen s Called is shows = shows
    on_unseen s Ended is shows = shows
    on_unseen s (Trapped t) is shows = shows
    on_unseen s Touched is shows = shows

    step_unseen : (budget : ℕ) (code : List SegmentState) (s : TaskState WorkerStores) → see s.memory ≡ v
        → see (worker_step budget code s).memory ≡ v
    step_unseen budget code s shows = by (is_over s) (nat_le budget s.registers.done) refl refl
      where
        by : (o b : Bool) → is_over s ≡ o → nat_le budget s.registers.done ≡ b
            → see (worker_step budget code s).memory ≡ v
        by true b e d =
            subst (λ (x : TaskState WorkerStores). see x.memory ≡ v)
            (sym (task_step-over (worker_byte placed) (worker_write placed) budget code (TaskActor ranges operands) s
            e))
            shows
        by false true e d =
            subst (λ (x : TaskState WorkerStores). see x.memory ≡ v)
            (sym (task_step-spent (worker_byte placed) (worker_write placed) budget code (TaskActor ranges operands) s e
            d))
            shows
        by false false e d =
            subst (λ (x : TaskState WorkerStores). see x.memory ≡ v)
            (sym (task_step-core (worker_byte placed) (worker_write placed) budget code (TaskActor ranges operands) s e
            d))
            (on_unseen s
            (core_step (TaskActor ranges operands) (task_byte (worker_byte placed) s) (code_word code) s.registers)
            (core_step-step (TaskActor ranges operands) (task_byte (worker_byte placed) s) s.registers (code_word code))
            shows)

    stretch_unseen : (budget : ℕ) (code : List SegmentState) (n : ℕ) (s : TaskState WorkerStores) → see s.memory ≡ v
        → see (repeated (worker_step budget code) n s).memory ≡ v
    unfolding repeated
    stretch_unseen budget code zero s shows = shows
    stretch_unseen budget code (suc n) s shows =
        stretch_unseen budget code n (worker_step budget code s) (step_unseen budget code s shows)

  -- a stretch leaves it
  pub exec_stretch-unseen : (code : List SegmentState) (quantum : ℕ) (b : Busy) (s : WorkerStores)
      → AreSeparate (placed_in (operands_of b.task) b.storages) → length b.storages ≡ length (operands_of b.task)
      → AreUnseen limits see (operands_of b.task) b.storages
      → see (exec_stretch code limits quantum b s).memory ≡ see s
  exec_stretch-unseen code quantum b s separate count unseen =
      stretch_unseen (placed_in (operands_of b.task) b.storages) separate (operands_of b.task) s.home.ranges
      (covered_from (operands_of b.task) b.storages count unseen) (see s) limits.task_budget code quantum
      (task_state_of b s) refl

-- ---- what is seen

-- what stands at an address at home, where an object that lies there covers another
pub home_unseen : (limits : Limits) (a : ℕ) (object : Range) (storage : StorageName)
    → (storage ≡ Home → covers object a ≡ false)
    → IsUnseen limits (λ (s : WorkerStores). get s.home.bytes a) object storage
home_unseen limits a object Home apart = record {
  written = λ s w lies. map_put-beside s.home.bytes w.at w.bytes a (beside_write object w a lies (apart refl));
  zeroed = λ s. map_put-beside s.home.bytes object.base (zeros object.len) a (λ low high.
      both_ways (covers object a) (apart refl)
      (and_from (nat_le object.base a) (nat_lt a (end_of object)) (le-leb object.base a low)
      (lt-ltb a (end_of object) (omega (arith, high, length-zeros object.len)))));
}
home_unseen limits a object (Buffer n) apart = record { written = λ s w lies. refl; zeroed = λ s. refl }

-- a buffer that isn't the object's storage
pub buffer_unseen : (limits : Limits) (b : OpName) (object : Range) (storage : StorageName)
    → (storage ≡ Buffer b → ⊥) → IsUnseen limits (λ (s : WorkerStores). buffer_bytes s.contents b) object storage
buffer_unseen limits b object Home apart = record { written = λ s w lies. refl; zeroed = λ s. refl }
buffer_unseen limits b object (Buffer n) apart = record {
  written = λ s w lies.
      buffer_beside s.contents n b (list_put (buffer_bytes s.contents n) (w.at - object.base) w.bytes)
      (λ same. apart (ap Buffer (sym same)));
  zeroed = λ s.
      buffer_beside s.contents n b (zeros limits.object_bytes) (λ same. apart (ap Buffer (sym same)));
}
