-- A task by its steps and by its completed instructions, and its end.
use Rattle.std.proofs.Common.{◌≡◌, ◌⊎◌, ℕ, zero, suc, ◌+◌, ◌-◌, ◌≤◌, inl, inr, Bool, true, false, Some, None, List}
use Rattle.std.proofs.Common.{refl, sym, ap, subst, ◌∙◌, arith, add-one, nat_le}
use Rattle.std.specs.Prelude.{cond, ◌==◌, is_some}
use Rattle.std.proofs.lemmas.Bool.{cond-true, both_ways, or_left, or_parts, cases_lt, eq-eqb, le-leb}
use Rattle.tss_base.specs.declared.range.Range.{Range}
use Rattle.tss_base.specs.declared.operand.Operand.{Operand}
use Rattle.tss_base.specs.declared.operand.Task.{Task}
use Rattle.tss_base.specs.declared.ending.Trap.{Trap}
use Rattle.tss_base.specs.declared.machine.Limits.{Limits}
use Rattle.tss_base.specs.Image.{SegmentState}
use Rattle.tss_model.specs.Memory.{MemoryRange, Memory, range_of, scratch_range, covers, byte_at, code_word, list_put}
use Rattle.tss_base.specs.declared.addresses.TheConstants.{END_PC}
use Rattle.tss_model.specs.Access.{TaskActor, Purpose, Touch, Granted, Denied, operands_of, task_access}
use Rattle.tss_model.specs.Access.{task_may_within}
use Rattle.tss_model.specs.Core.{Write, Stepped, Executed, Called, Ended, Trapped, Touched, core_step}
use Rattle.tss_model.specs.TaskRun.{TaskState, TaskEnd, repeated, is_over, task_byte, task_write, task_on, task_step}
use Rattle.tss_model.specs.TaskRun.{task_trapped, memory_write, task_start, task_actor, task_stepped, task_after}
use Rattle.tss_model.specs.TaskRun.{end_of_task, task_end}
use Rattle.tss_program_order.proofs.FlatCore.{IsStep, core_step-step}
use Rattle.tss_program_order.proofs.FlatSteps.{repeated-add, repeated-last, repeated-still}
use Rattle.tss_program_order.proofs.FlatTaskAlike.{task_step-over, task_step-spent, task_step-core}

-- ---- one step

never_touched : (ranges : List MemoryRange) (operands : List Operand) (purpose : Purpose) (q : Range)
    → task_access ranges operands purpose q ≡ Touch → ⊥
never_touched ranges operands purpose q e = by (task_may_within purpose operands q (range_of ranges q)) e
  where
    by : (b : Bool) → cond b Granted Denied ≡ Touch → ⊥
    by true e = cc
    by false e = cc

-- a step of a task that isn't over completes an instruction, or it traps and keeps the rest
abbrev Goes : TaskState Memory → TaskState Memory → Type 0
Goes s t =
    ((t.registers.done ≡ suc s.registers.done) × (t.trap ≡ s.trap))
    ⊎ ((trap : Trap) × (t ≡ task_trapped s trap))

module _ (budget : ℕ) (code : List SegmentState) (ranges : List MemoryRange) (operands : List Operand) where
  write_keeps : (s : TaskState Memory) (w : Write) → (task_write memory_write s (Some w)).trap ≡ s.trap
  write_keeps s w = by (covers scratch_range w.at)
    where
      by : (b : Bool) → (cond b (record s { scratch = list_put s.scratch (w.at - scratch_range.base) w.bytes })
          (record s { memory = memory_write s.memory w })).trap ≡ s.trap
      by true = refl
      by false = refl

  on_goes : (s : TaskState Memory) (x : Stepped) → is_over s ≡ false → IsStep (TaskActor ranges operands) s.registers x
      → Goes s (task_on memory_write s x)
  on_goes s (Executed r None) on is = inl (is ∙ add-one s.registers.done, refl)
  on_goes s (Executed r (Some w)) on is = inl (is.0 ∙ add-one s.registers.done, write_keeps s w)
  on_goes s Called on is = inr (_, refl)
  on_goes s Ended on is = absurd (both_ways _ (or_parts (is_some s.trap) (s.registers.pc == END_PC) on).1 is)
  on_goes s (Trapped t) on is = inr (t, refl)
  on_goes s Touched on is = absurd (never_touched ranges operands is.0 is.1 is.2)

  -- each step does so
  task_step-goes : (s : TaskState Memory) → is_over s ≡ false
      → Goes s (task_step byte_at memory_write budget code (TaskActor ranges operands) s)
  task_step-goes s on = by (nat_le budget s.registers.done) refl
    where
      by : (b : Bool) → nat_le budget s.registers.done ≡ b
          → Goes s (task_step byte_at memory_write budget code (TaskActor ranges operands) s)
      by true spent = inr (_, task_step-spent byte_at memory_write budget code (TaskActor ranges operands) s on spent)
      by false left =
          subst (Goes s) (sym (task_step-core byte_at memory_write budget code (TaskActor ranges operands) s on left))
          (on_goes s (core_step (TaskActor ranges operands) (task_byte byte_at s) (code_word code) s.registers) on
          (core_step-step (TaskActor ranges operands) (task_byte byte_at s) s.registers (code_word code)))

-- ---- steps and instructions

module _ (code : List SegmentState) (limits : Limits) (m : Memory) (t : Task) where
  -- one step more
  task_stepped-next : (n : ℕ) → task_stepped code limits m t (suc n)
      ≡ task_step byte_at memory_write limits.task_budget code (task_actor m t) (task_stepped code limits m t n)
  task_stepped-next n =
      repeated-last (task_step byte_at memory_write limits.task_budget code (task_actor m t)) n (task_start m t)

  -- a task that is over stays
  task_stepped-over : (n k : ℕ) → is_over (task_stepped code limits m t n) ≡ true
      → task_stepped code limits m t (n + k) ≡ task_stepped code limits m t n
  task_stepped-over n k over =
      repeated-add (task_step byte_at memory_write limits.task_budget code (task_actor m t)) n k (task_start m t)
      ∙ repeated-still (task_step byte_at memory_write limits.task_budget code (task_actor m t)) k
      (task_stepped code limits m t n)
      (task_step-over byte_at memory_write limits.task_budget code (task_actor m t) (task_stepped code limits m t n)
      over)

  -- the task after so many steps is that after as many steps as it has completed instructions, but for its trap
  pub record StandsAfter (s : TaskState Memory) : Type 0 where
    pub registers : s.registers ≡ (task_stepped code limits m t s.registers.done).registers
    pub scratch : s.scratch ≡ (task_stepped code limits m t s.registers.done).scratch
    pub memory : s.memory ≡ (task_stepped code limits m t s.registers.done).memory

  -- as long as it isn't over it has completed an instruction a step
  pub record Counts (n : ℕ) : Type 0 where
    pub done : is_over (task_stepped code limits m t n) ≡ false → (task_stepped code limits m t n).registers.done ≡ n
    pub stands : StandsAfter (task_stepped code limits m t n)

  stands_at : (n : ℕ) (s : TaskState Memory) → s ≡ task_stepped code limits m t n → s.registers.done ≡ n → StandsAfter s
  stands_at n s is done =
      let same : s ≡ task_stepped code limits m t s.registers.done =
      is ∙ ap (task_stepped code limits m t) (sym done) in
      record {
        registers = λ i. (same i).registers;
        scratch = λ i. (same i).scratch;
        memory = λ i. (same i).memory;
      }

  counts_more : (n : ℕ) → Counts n → Counts (suc n)
  counts_more n counts = by (is_over now) refl
    where
      now : TaskState Memory
      now = task_stepped code limits m t n

      stays : is_over (task_stepped code limits m t n) ≡ true
          → task_stepped code limits m t (suc n) ≡ task_stepped code limits m t n
      stays over =
          task_stepped-next n
          ∙ task_step-over byte_at memory_write limits.task_budget code (task_actor m t)
          (task_stepped code limits m t n) over

      goes : is_over (task_stepped code limits m t n) ≡ false
          → Goes (task_stepped code limits m t n) (task_stepped code limits m t (suc n)) → Counts (suc n)
      goes on (inl further) =
          let done = further.0 ∙ ap suc (counts.done on) in
          record { done = λ still. done; stands = stands_at (suc n) (task_stepped code limits m t (suc n)) refl done }
      goes on (inr trapped) = record {
        done = λ still. absurd (both_ways _ still (ap (λ (x : TaskState Memory). is_over x) trapped.1));
        stands = subst StandsAfter (sym trapped.1) (record {
          registers = counts.stands.registers;
          scratch = counts.stands.scratch;
          memory = counts.stands.memory;
        });
      }

      by : (b : Bool) → is_over (task_stepped code limits m t n) ≡ b → Counts (suc n)
      by true over = record {
        done = λ still. absurd (both_ways _ still (ap (λ (x : TaskState Memory). is_over x) (stays over) ∙ over));
        stands = subst StandsAfter (sym (stays over)) counts.stands;
      }
      by false on =
          goes on (subst (Goes (task_stepped code limits m t n)) (sym (task_stepped-next n))
          (task_step-goes limits.task_budget code m.ranges (operands_of t) (task_stepped code limits m t n) on))

  -- so it is after any number of steps
  pub task_stepped-counts : (n : ℕ) → Counts n
  unfolding repeated
  task_stepped-counts zero = record { done = λ on. refl; stands = stands_at zero (task_start m t) refl refl }
  task_stepped-counts (suc n) = counts_more n (task_stepped-counts n)

  -- so that it is the task after its completed instructions, but for its trap
  pub task_after-there : (n : ℕ) → task_after code limits m t (task_stepped code limits m t n).registers.done
      ≡ Some (task_stepped code limits m t (task_stepped code limits m t n).registers.done)
  task_after-there n =
      let stands = (task_stepped-counts n).stands in
      cond-true _ _ _ (eq-eqb _ _ (λ i. (sym stands.registers i).done))

  -- ---- the end

  -- a task that has spent its budget is over with its next step
  pub task_budget-ends : is_over (task_stepped code limits m t (suc limits.task_budget)) ≡ true
  task_budget-ends = by (is_over (task_stepped code limits m t limits.task_budget)) refl
    where
      by : (b : Bool) → is_over (task_stepped code limits m t limits.task_budget) ≡ b
          → is_over (task_stepped code limits m t (suc limits.task_budget)) ≡ true
      by true over =
          ap (λ (x : TaskState Memory). is_over x)
          (task_stepped-next limits.task_budget
          ∙ task_step-over byte_at memory_write limits.task_budget code (task_actor m t)
          (task_stepped code limits m t limits.task_budget) over)
          ∙ over
      by false on =
          let done = (task_stepped-counts limits.task_budget).done on in
          let spent : nat_le limits.task_budget (task_stepped code limits m t limits.task_budget).registers.done
          ≡ true =
          ap (nat_le limits.task_budget) done ∙ le-leb limits.task_budget limits.task_budget (omega arith) in
          ap (λ (x : TaskState Memory). is_over x)
          (task_stepped-next limits.task_budget
          ∙ task_step-spent byte_at memory_write limits.task_budget code (task_actor m t)
          (task_stepped code limits m t limits.task_budget) on spent)

  later_same : (j k : ℕ) → j ≤ k → is_over (task_stepped code limits m t j) ≡ true
      → task_stepped code limits m t k ≡ task_stepped code limits m t j
  later_same j k after over =
      let count : k ≡ j + (k - j) = omega arith in
      ap (task_stepped code limits m t) count ∙ task_stepped-over j (k - j) over

  -- where it is over after so many steps, so it ends
  pub task_end-over : (n : ℕ) → is_over (task_stepped code limits m t n) ≡ true
      → task_end code limits m t ≡ end_of_task (task_stepped code limits m t n)
  task_end-over n over = elim (cases_lt n (suc limits.task_budget)) [
    | inl before ↦ ap end_of_task (later_same n (suc limits.task_budget) (omega arith) over)
    | inr after ↦ sym (ap end_of_task (later_same (suc limits.task_budget) n after task_budget-ends))
  ]

  -- with the trap that it has, if it has one
  pub task_end-trapped : (n : ℕ) (trap : Trap) → (task_stepped code limits m t n).trap ≡ Some trap
      → (task_end code limits m t).trap ≡ Some trap
  task_end-trapped n trap has =
      ap (λ (e : TaskEnd). e.trap) (task_end-over n (or_left _ _ (ap is_some has))) ∙ has
