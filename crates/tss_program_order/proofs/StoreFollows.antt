-- A busy worker and its task in program order: at its start, through its stretches, and what it then shows.
use Rattle.std.proofs.Common.{◌≡◌, ℕ, zero, suc, ◌+◌, inl, true, Some, List, [], ◌∷◌, length, map, refl, sym, ap, subst}
use Rattle.std.proofs.Common.{◌∙◌, arith}
use Rattle.std.specs.Prelude.{slice_get, is_some, ◌==◌, ◌||◌}
use Rattle.std.specs.List.{list_any}
use Rattle.std.proofs.lemmas.Bool.{or_left, or_right}
use Rattle.std.proofs.lemmas.Option.{none-some, same_Some}
use Rattle.tss_base.specs.declared.range.Range.{Range}
use Rattle.tss_base.specs.declared.operand.Operand.{Operand}
use Rattle.tss_base.specs.declared.operand.Task.{Task}
use Rattle.tss_base.specs.declared.machine.Limits.{Limits}
use Rattle.tss_base.specs.declared.machine.Machine.{Machine}
use Rattle.tss_base.specs.Image.{SegmentState, ImageState}
use Rattle.tss_model.specs.Memory.{MemoryRange, Memory, covers, frozen, byte_at, bytes_of}
use Rattle.tss_model.specs.Registers.{Registers}
use Rattle.tss_model.specs.Access.{TaskActor, operands_of}
use Rattle.tss_model.specs.TaskRun.{TaskState, repeated, task_step, task_stretch, memory_write, task_start}
use Rattle.tss_model.specs.TaskRun.{task_stepped, task_after, TaskEnd, is_over}
use Rattle.tss_model.specs.InOrder.{started_at, Started, end_of_started}
use Rattle.tss_protocol.specs.Mail.{StorageName}
use Rattle.tss_protocol.specs.State.{State, Busy}
use Rattle.tss_protocol.specs.Workers.{Stores, Placed, placed_in, stored_bytes, outputs_zeroed, busy_with, busy_after}
use Rattle.tss_protocol.specs.Workers.{task_state_of, exec_stretch, has_ended, worker_byte}
use Rattle.tss_protocol.specs.UnitMachine.{stores_of}
use Rattle.tss_program_order.specs.Refinement.{FollowsTask}
use Rattle.tss_program_order.proofs.FlatSteps.{repeated-add}
use Rattle.tss_program_order.proofs.FlatTaskEnds.{task_stepped-counts, task_after-there, task_end-trapped}
use Rattle.tss_program_order.proofs.FlatTaskEnds.{task_end-over}
use Rattle.tss_program_order.proofs.StoreBytes.{IsPlaced, AreSeparate, HaveRoom}
use Rattle.tss_program_order.proofs.StoreRuns.{InScope, WorksAlike, exec_stretch-alike, stored_bytes-same}
use Rattle.tss_program_order.proofs.StoreStart.{FindsOperands, placed_in-parts, start-alike}
use Rattle.tss_base.specs.declared.addresses.TheConstants.{END_PC}

-- a worker runs a task that program order starts, and stands where the task does after so many steps
pub record RunsInOrder (m : Machine) (i : ImageState) (s : Stores) (b : Busy) : Type 0 where
  pub place : ℕ
  pub memory : Memory
  pub started : started_at i m.limits place ≡ Some (record { task = b.task; memory = memory })
  pub count : length b.storages ≡ length (operands_of b.task)
  pub separate : AreSeparate (placed_in (operands_of b.task) b.storages)
  pub steps : ℕ
  pub alike : WorksAlike (placed_in (operands_of b.task) b.storages) s.home.ranges (operands_of b.task)
      (task_state_of b s) (task_stepped (frozen i) m.limits memory b.task steps)

-- ---- its stretches

-- steps after steps
stretch_steps : (code : List SegmentState) (limits : Limits) (m : Memory) (t : Task) (ranges : List MemoryRange)
    (n q : ℕ) → ranges ≡ m.ranges
    → task_stretch byte_at memory_write limits.task_budget code (TaskActor ranges (operands_of t)) q
    (task_stepped code limits m t n)
    ≡ task_stepped code limits m t (n + q)
stretch_steps code limits m t ranges n q same =
    (λ i. task_stretch byte_at memory_write limits.task_budget code (TaskActor (same i) (operands_of t)) q
    (task_stepped code limits m t n))
    ∙ sym (repeated-add
    (task_step byte_at memory_write limits.task_budget code (TaskActor m.ranges (operands_of t))) n q (task_start m t))

-- it stands there again after a stretch, as long as its stretch keeps the ranges of memory
pub runs-exec : (m : Machine) (i : ImageState) (s : Stores) (b : Busy) (r : RunsInOrder m i s b)
    → s.home.ranges ≡ r.memory.ranges
    → (exec_stretch (frozen i) m.limits m.sizes.quantum b s).memory.home.ranges ≡ s.home.ranges
    → RunsInOrder m i (exec_stretch (frozen i) m.limits m.sizes.quantum b s).memory
    (busy_after b (exec_stretch (frozen i) m.limits m.sizes.quantum b s))
runs-exec m i s b r ranges kept = record {
  place = r.place;
  memory = r.memory;
  started = r.started;
  count = r.count;
  separate = r.separate;
  steps = r.steps + m.sizes.quantum;
  alike =
      let after = exec_stretch (frozen i) m.limits m.sizes.quantum b s in
      let placed = placed_in (operands_of b.task) b.storages in
      let run = exec_stretch-alike (frozen i) m.limits m.sizes.quantum b s
      (task_stepped (frozen i) m.limits r.memory b.task r.steps) r.separate r.count r.alike in
      subst (λ (u : TaskState Memory). WorksAlike placed after.memory.home.ranges (operands_of b.task) after u)
      (stretch_steps (frozen i) m.limits r.memory b.task s.home.ranges r.steps m.sizes.quantum ranges)
      (subst (λ (x : List MemoryRange). WorksAlike placed x (operands_of b.task) after
      (task_stretch byte_at memory_write m.limits.task_budget (frozen i) (TaskActor s.home.ranges (operands_of b.task))
      m.sizes.quantum (task_stepped (frozen i) m.limits r.memory b.task r.steps))) (sym kept) run);
}

-- ---- its start

-- it stands there at its start, where it finds its operands
pub runs-start : (m : Machine) (i : ImageState) (place : ℕ) (memory : Memory) (t : Task) (storages : List StorageName)
    (s : Stores) → started_at i m.limits place ≡ Some (record { task = t; memory = memory })
    → (outputs_zeroed m.limits s (operands_of t) storages).home.ranges ≡ s.home.ranges
    → FindsOperands m.limits s.home.ranges (operands_of t) storages s memory
    → RunsInOrder m i (outputs_zeroed m.limits s (operands_of t) storages) (busy_with t storages)
unfolding repeated
runs-start m i place memory t storages s started kept finds = record {
  place = place;
  memory = memory;
  started = started;
  count = finds.count;
  separate = finds.separate;
  steps = 0;
  alike =
      subst (λ (x : List MemoryRange). WorksAlike (placed_in (operands_of t) storages) x (operands_of t)
      (task_state_of (busy_with t storages) (outputs_zeroed m.limits s (operands_of t) storages)) (task_start memory t))
      (sym kept) (start-alike m.limits s.home.ranges t storages s memory finds);
}

-- ---- what it shows

-- the operands with storages, one by one
placed_map : {A : Type 0} (f : Placed → A) (g : Range → A) (os : List Operand) (ss : List StorageName)
    → length ss ≡ length os
    → ((k : ℕ) (p : Placed) → IsPlaced (placed_in os ss) k p → f p ≡ g p.object)
    → map f (placed_in os ss) ≡ map (λ o. g o.object) os
placed_map f g [] ss count same = refl
placed_map f g (o ∷ os) [] count same = absurd (omega (arith, count))
placed_map f g (o ∷ os) (s ∷ ss) count same =
    let first = same 0 (record { object = o.object; storage = s }) refl in
    let rest = placed_map f g os ss (omega (arith, count)) (λ k p e. same (suc k) p e) in
    λ i. first i ∷ rest i

-- the object at a place is that of an operand
object_owned : (os : List Operand) (k : ℕ) (o : Operand) (a : ℕ) → slice_get os k ≡ Some o → covers o.object a ≡ true
    → list_any (λ o. covers o.object a) os ≡ true
object_owned [] k o a e inside = absurd (none-some o e)
object_owned (x ∷ os) zero o a e inside =
    or_left _ _ (ap (λ (y : Operand). covers y.object a) (same_Some x o e) ∙ inside)
object_owned (x ∷ os) (suc k) o a e inside = or_right _ _ (object_owned os k o a e inside)

-- registers, scratch and the bytes of its operands are those of the task after as many instructions, and a trap is the
-- task's
pub runs-follows : (m : Machine) (i : ImageState) (S : State) (b : Busy) → RunsInOrder m i (stores_of S) b
    → FollowsTask m i S b
runs-follows m i S b r =
    let now = task_stepped (frozen i) m.limits r.memory b.task r.steps in
    let stands = (task_stepped-counts (frozen i) m.limits r.memory b.task r.steps).stands in
    let done : b.registers.done ≡ now.registers.done = ap (λ (x : Registers). x.done) r.alike.registers in
    let then : TaskState Memory = task_stepped (frozen i) m.limits r.memory b.task now.registers.done in
    record {
      place = r.place;
      memory = r.memory;
      started = r.started;
      task = then;
      after =
          ap (task_after (frozen i) m.limits r.memory b.task) done
          ∙ task_after-there (frozen i) m.limits r.memory b.task r.steps;
      registers = r.alike.registers ∙ stands.registers;
      scratch = r.alike.scratch ∙ stands.scratch;
      bytes =
          placed_map (λ p. stored_bytes (stores_of S) p.object p.storage) (λ object. bytes_of then.memory object)
          (operands_of b.task) b.storages r.count
          (λ k p e.
          stored_bytes-same (placed_in (operands_of b.task) b.storages)
          (InScope S.home.ranges (operands_of b.task)) (stores_of S) now.memory r.separate r.alike.memory k p e
          (λ a inside.
          let parts = placed_in-parts (operands_of b.task) b.storages k p e in
          inl (object_owned (operands_of b.task) k parts.0 a parts.1
          (ap (λ (x : Range). covers x a) parts.3 ∙ inside)))
          ∙ ap (λ (x : Memory). bytes_of x p.object) stands.memory);
      trap = λ t has.
          task_end-trapped (frozen i) m.limits r.memory b.task r.steps t (sym r.alike.trap ∙ has);
    }

-- ---- its end, and what others do

-- a worker whose task is over has its end: the trap, and the bytes of its operands
pub record HasEnd (m : Machine) (i : ImageState) (s : Stores) (b : Busy) (started : Started) : Type 0 where
  pub trap : (end_of_started i m.limits started).trap ≡ b.trap
  pub bytes : (k : ℕ) (p : Placed) → IsPlaced (placed_in (operands_of b.task) b.storages) k p
      → stored_bytes s p.object p.storage ≡ bytes_of (end_of_started i m.limits started).memory p.object

-- so it is when it may finish
pub runs-end : (m : Machine) (i : ImageState) (s : Stores) (b : Busy) (r : RunsInOrder m i s b) → has_ended b ≡ true
    → HasEnd m i s b (record { task = b.task; memory = r.memory })
runs-end m i s b r ended =
    let now = task_stepped (frozen i) m.limits r.memory b.task r.steps in
    let over : is_over now ≡ true =
    (λ j. is_some (sym r.alike.trap j) || ((sym r.alike.registers j).pc == END_PC)) ∙ ended in
    let end = task_end-over (frozen i) m.limits r.memory b.task r.steps over in
    record {
      trap = ap (λ (e : TaskEnd). e.trap) end ∙ sym r.alike.trap;
      bytes = λ k p at.
          stored_bytes-same (placed_in (operands_of b.task) b.storages) (InScope s.home.ranges (operands_of b.task)) s
          now.memory r.separate r.alike.memory k p at
          (λ a inside.
          let parts = placed_in-parts (operands_of b.task) b.storages k p at in
          inl (object_owned (operands_of b.task) k parts.0 a parts.1 (ap (λ (x : Range). covers x a) parts.3 ∙ inside)))
          ∙ ap (λ (e : TaskEnd). bytes_of e.memory p.object) (sym end);
    }

-- a worker stands where it stood as long as others leave what its task may load
pub runs-beside : (m : Machine) (i : ImageState) (s x : Stores) (b : Busy) → RunsInOrder m i s b
    → x.home.ranges ≡ s.home.ranges → HaveRoom (placed_in (operands_of b.task) b.storages) x
    → ((a : ℕ) → InScope s.home.ranges (operands_of b.task) a
    → worker_byte (placed_in (operands_of b.task) b.storages) x a
    ≡ worker_byte (placed_in (operands_of b.task) b.storages) s a)
    → RunsInOrder m i x b
runs-beside m i s x b r ranges room same = record {
  place = r.place;
  memory = r.memory;
  started = r.started;
  count = r.count;
  separate = r.separate;
  steps = r.steps;
  alike = record {
    registers = r.alike.registers;
    scratch = r.alike.scratch;
    trap = r.alike.trap;
    memory = record {
      room = room;
      bytes = λ a scope.
          let before = subst (λ (rs : List MemoryRange). InScope rs (operands_of b.task) a) ranges scope in
          same a before ∙ r.alike.memory.bytes a before;
    };
  };
}
