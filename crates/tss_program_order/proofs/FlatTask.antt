-- A task on the flat memory: from its start to its end it changes only bytes of its output and inout operands.
use Rattle.std.proofs.Common.{◌≡◌, ℕ, zero, suc, ◌+◌, ◌<◌, ◌≤◌, inl, inr, Bool, true, false, Some, List, [], ◌∷◌}
use Rattle.std.proofs.Common.{length, refl, sym, ap, subst, ◌∙◌, arith, nat_le, nat_lt}
use Rattle.std.specs.Prelude.{◌&&◌, cond}
use Rattle.std.specs.List.{list_any}
use Rattle.std.specs.FinMap.{get}
use Rattle.std.proofs.lemmas.Bool.{and_parts, and_from, and_right, or_cases, or_parts, or_left, or_right, or_from}
use Rattle.std.proofs.lemmas.Bool.{both_ways, le-leb, lt-ltb, cond-true, cond-false}
use Rattle.std.proofs.lemmas.List.{length-replicate}
use Rattle.tss_base.specs.declared.range.Range.{Range}
use Rattle.tss_base.specs.declared.operand.Mode.{Mode}
use Rattle.tss_base.specs.declared.operand.Mode.TheVariants.{Input, Output, Inout}
use Rattle.tss_base.specs.declared.operand.Operand.{Operand}
use Rattle.tss_base.specs.declared.operand.Task.{Task}
use Rattle.tss_base.specs.declared.machine.Limits.{Limits}
use Rattle.tss_base.specs.Image.{SegmentState}
use Rattle.tss_base.specs.Range.{end_of, Covers, contains}
use Rattle.tss_base.specs.declared.causes.TheConstants.{BUDGET_SPENT}
use Rattle.tss_model.specs.Memory.{MemoryRange, Memory, scratch_range, covers, zeros, zeroed, byte_at, code_word}
use Rattle.tss_model.specs.Registers.{trap_of}
use Rattle.tss_model.specs.Access.{TaskActor, Stores, Granted, Denied, reads, writes, operands_of, task_may_store}
use Rattle.tss_model.specs.Access.{task_access}
use Rattle.tss_model.specs.Core.{Write, Stepped, Executed, core_step}
use Rattle.tss_model.specs.TaskRun.{TaskState, repeated, is_over, task_byte, task_write, task_on, task_step}
use Rattle.tss_model.specs.TaskRun.{task_trapped, memory_write, zeroed_outputs, task_start, task_stepped, task_end}
use Rattle.tss_program_order.proofs.FlatRanges.{contains_parts}
use Rattle.tss_program_order.proofs.FlatCore.{IsStep, core_step-step}
use Rattle.tss_program_order.proofs.FlatWrites.{map_put-beside}

-- an address lies in the object of an output or inout operand
abbrev pub is_written : List Operand → ℕ → Bool
is_written operands a = list_any (λ o. writes o.mode && covers o.object a) operands

-- one memory has the ranges of another, and its bytes beside what these operands write
pub record ChangesWritten (operands : List Operand) (m n : Memory) : Type 0 where
  pub ranges : n.ranges ≡ m.ranges
  pub bytes : (a : ℕ) → is_written operands a ≡ false → get n.bytes a ≡ get m.bytes a

-- a memory does so of itself
ChangesWritten-same : (operands : List Operand) (m n : Memory) → n ≡ m → ChangesWritten operands m n
ChangesWritten-same operands m n e = record { ranges = λ i. (e i).ranges; bytes = λ a out i. get (e i).bytes a }

-- changes after changes
ChangesWritten-then : (operands : List Operand) (m n k : Memory) → ChangesWritten operands m n
    → ChangesWritten operands n k → ChangesWritten operands m k
ChangesWritten-then operands m n k p q =
    record { ranges = q.ranges ∙ p.ranges; bytes = λ a out. q.bytes a out ∙ p.bytes a out }

-- ---- addresses

-- an address of a range is covered by what contains the range
pub covers_inside : (r s : Range) (a : ℕ) → contains r s ≡ true → Covers s a → covers r a ≡ true
covers_inside r s a held covered =
    let parts = contains_parts r s held in
    and_from (nat_le r.base a) (nat_lt a (end_of r)) (le-leb r.base a (omega (arith, parts.0, covered.0)))
    (lt-ltb a (end_of r) (omega (arith, parts.1, covered.1)))

-- where a task may store a range, each of its addresses lies in an object that it writes
stored_written : (operands : List Operand) (r : Range) (a : ℕ) → Covers r a
    → list_any (λ o. writes o.mode && contains o.object r) operands ≡ true → is_written operands a ≡ true
stored_written [] r a covered stored = absurd (cc)
stored_written (o ∷ operands) r a covered stored =
    elim (or_cases (writes o.mode && contains o.object r)
    (list_any (λ o. writes o.mode && contains o.object r) operands) stored) [
      | inl here ↦
          let parts = and_parts (writes o.mode) (contains o.object r) here in
          or_left _ _
          (and_from (writes o.mode) (covers o.object a) parts.0 (covers_inside o.object r a parts.1 covered))
      | inr later ↦ or_right _ _ (stored_written operands r a covered later)
    ]

granted_store : (b : Bool) → cond b Granted Denied ≡ Granted → b ≡ true
granted_store true e = refl
granted_store false e = absurd (cc)

-- a write that a task may make beyond its scratch: it has bytes, and they lie in an operand that is output or inout
abbrev pub MayWrite : List Operand → Write → Type 0
MayWrite operands w =
    (0 < length w.bytes)
    × (list_any (λ o. writes o.mode && contains o.object (record { base = w.at; len = length w.bytes })) operands
    ≡ true)

-- a granted store outside the scratch is one
pub granted_write : (ranges : List MemoryRange) (operands : List Operand) (w : Write) → 0 < length w.bytes
    → task_access ranges operands Stores (record { base = w.at; len = length w.bytes }) ≡ Granted
    → covers scratch_range w.at ≡ false → MayWrite operands w
granted_write ranges operands w some granted outside =
    let r : Range = record { base = w.at; len = length w.bytes } in
    elim (or_cases (contains scratch_range r) (list_any (λ o. writes o.mode && contains o.object r) operands)
    (granted_store (task_may_store operands r) granted)) [
      | inl scratch ↦ absurd (both_ways (covers scratch_range w.at) outside
          (covers_inside scratch_range r w.at scratch (omega arith, omega arith)))
      | inr owned ↦ (some, owned)
    ]

-- it leaves each address beside the objects that the task writes
write_beside : (operands : List Operand) (w : Write) (a : ℕ) → MayWrite operands w → is_written operands a ≡ false
    → w.at ≤ a → a < w.at + length w.bytes → ⊥
write_beside operands w a may beside low high =
    both_ways (is_written operands a) beside
    (stored_written operands (record { base = w.at; len = length w.bytes }) a (low, high) may.1)

-- ---- steps

module _ (ranges : List MemoryRange) (operands : List Operand) (s : TaskState Memory) where
  task_write-changes : (w : Write) → 0 < length w.bytes
      → task_access ranges operands Stores (record { base = w.at; len = length w.bytes }) ≡ Granted
      → ChangesWritten operands s.memory (task_write memory_write s (Some w)).memory
  task_write-changes w some granted = by (covers scratch_range w.at) refl
    where
      by : (b : Bool) → covers scratch_range w.at ≡ b
          → ChangesWritten operands s.memory (task_write memory_write s (Some w)).memory
      by true inside =
          ChangesWritten-same operands s.memory _ (ap (λ (x : TaskState Memory). x.memory) (cond-true _ _ _ inside))
      by false outside =
          subst (ChangesWritten operands s.memory)
          (sym (ap (λ (x : TaskState Memory). x.memory) (cond-false _ _ _ outside)))
          (record {
            ranges = refl;
            bytes = λ a beside.
                map_put-beside s.memory.bytes w.at w.bytes a
                (write_beside operands w a (granted_write ranges operands w some granted outside) beside);
          })

  task_on-changes : (x : Stepped) → IsStep (TaskActor ranges operands) s.registers x
      → ChangesWritten operands s.memory (task_on memory_write s x).memory
  task_on-changes (Executed r (Some w)) step = task_write-changes w step.1 step.2
  task_on-changes other step = ChangesWritten-same operands s.memory s.memory refl

module _ (budget : ℕ) (code : List SegmentState) (ranges : List MemoryRange) (operands : List Operand) where
  -- a step of a task
  task_step-changes : (s : TaskState Memory) → ChangesWritten operands s.memory
      (task_step byte_at memory_write budget code (TaskActor ranges operands) s).memory
  unfolding task_step
  task_step-changes s = by (is_over s) (nat_le budget s.registers.done) refl refl
    where
      after : Bool → Bool → TaskState Memory
      after over spent =
          cond over s (cond spent (task_trapped s (trap_of s.registers BUDGET_SPENT 0))
          (task_on memory_write s
          (core_step (TaskActor ranges operands) (task_byte byte_at s) (code_word code) s.registers)))

      by : (o b : Bool) → is_over s ≡ o → nat_le budget s.registers.done ≡ b
          → ChangesWritten operands s.memory (after (is_over s) (nat_le budget s.registers.done)).memory
      by true b over spent =
          ChangesWritten-same operands s.memory _ (λ i. (after (over i) (nat_le budget s.registers.done)).memory)
      by false true on spent = ChangesWritten-same operands s.memory _ (λ i. (after (on i) (spent i)).memory)
      by false false on left =
          subst (ChangesWritten operands s.memory) (λ i. (after (sym on i) (sym left i)).memory)
          (task_on-changes ranges operands s _
          (core_step-step (TaskActor ranges operands) (task_byte byte_at s) s.registers (code_word code)))

  -- and so many
  task_stretch-changes : (n : ℕ) (s : TaskState Memory) → ChangesWritten operands s.memory
      (repeated (task_step byte_at memory_write budget code (TaskActor ranges operands)) n s).memory
  unfolding repeated
  task_stretch-changes zero s = ChangesWritten-same operands s.memory s.memory refl
  task_stretch-changes (suc n) s =
      ChangesWritten-then operands s.memory _ _ (task_step-changes s)
      (task_stretch-changes n (task_step byte_at memory_write budget code (TaskActor ranges operands) s))

-- ---- the start

-- what isn't read is written
pub written_where_unread : (mode : Mode) → reads mode ≡ false → writes mode ≡ true
written_where_unread Input e = absurd (cc)
written_where_unread Output e = refl
written_where_unread Inout e = absurd (cc)

zeroed-beside : (m : Memory) (o : Operand) (a : ℕ) → reads o.mode ≡ false
    → (writes o.mode && covers o.object a) ≡ false → get (zeroed m o.object).bytes a ≡ get m.bytes a
unfolding zeros
zeroed-beside m o a unread beside =
    map_put-beside m.bytes o.object.base (zeros o.object.len) a (λ low high.
    both_ways (writes o.mode && covers o.object a) beside
    (and_from (writes o.mode) (covers o.object a) (written_where_unread o.mode unread)
    (and_from (nat_le o.object.base a) (nat_lt a (end_of o.object)) (le-leb o.object.base a low)
    (lt-ltb a (end_of o.object) (omega (arith, high, length-replicate {A = ℕ} o.object.len 0))))))

-- the outputs of a task lie in objects that it writes
zeroed_outputs-changes : (operands : List Operand) (m : Memory)
    → ChangesWritten operands m (zeroed_outputs m operands)
zeroed_outputs-changes [] m = ChangesWritten-same [] m m refl
zeroed_outputs-changes (o ∷ operands) m = by (reads o.mode) refl (zeroed_outputs-changes operands m)
  where
    by : (b : Bool) → reads o.mode ≡ b → ChangesWritten operands m (zeroed_outputs m operands)
        → ChangesWritten (o ∷ operands) m (zeroed_outputs m (o ∷ operands))
    by true read rest =
        subst (ChangesWritten (o ∷ operands) m) (sym (cond-true _ _ _ read))
        (record { ranges = rest.ranges; bytes = λ a out. rest.bytes a (or_parts _ _ out).1 })
    by false unread rest =
        subst (ChangesWritten (o ∷ operands) m) (sym (cond-false _ _ _ unread))
        (record {
          ranges = rest.ranges;
          bytes = λ a out.
              zeroed-beside (zeroed_outputs m operands) o a unread (or_parts _ _ out).0
              ∙ rest.bytes a (or_parts _ _ out).1;
        })

-- ---- the whole

-- a task after so many steps
task_stepped-changes : (code : List SegmentState) (limits : Limits) (m : Memory) (t : Task) (n : ℕ)
    → ChangesWritten (operands_of t) m (task_stepped code limits m t n).memory
task_stepped-changes code limits m t n =
    ChangesWritten-then (operands_of t) m (zeroed_outputs m (operands_of t)) _
    (zeroed_outputs-changes (operands_of t) m)
    (task_stretch-changes limits.task_budget code m.ranges (operands_of t) n (task_start m t))

-- and at its end
pub task_end-changes : (code : List SegmentState) (limits : Limits) (m : Memory) (t : Task)
    → ChangesWritten (operands_of t) m (task_end code limits m t).memory
task_end-changes code limits m t = task_stepped-changes code limits m t (suc limits.task_budget)

-- beside its objects a task changes nothing
pub unwritten_beside : (operands : List Operand) (a : ℕ) → list_any (λ o. covers o.object a) operands ≡ false
    → is_written operands a ≡ false
unwritten_beside [] a out = refl
unwritten_beside (o ∷ operands) a out =
    let parts = or_parts (covers o.object a) (list_any (λ o. covers o.object a) operands) out in
    or_from _ _ (and_right (writes o.mode) (covers o.object a) parts.0) (unwritten_beside operands a parts.1)
