-- A task depends on the bytes that it may load alone. Two runs of a task, each with its own form of memory, go alike as
-- long as both memories show the same there.
use Rattle.std.proofs.Common.{◌≡◌, ℕ, zero, suc, ◌-◌, ◌<◌, Bool, true, false, Some, None, List, length, refl, sym, ap}
use Rattle.std.proofs.Common.{subst, ◌∙◌, nat_le}
use Rattle.std.specs.Prelude.{◌||◌, ◌==◌, slice_index, is_some}
use Rattle.std.proofs.lemmas.Bool.{cond-true, cond-false}
use Rattle.tss_base.specs.declared.range.Range.{Range}
use Rattle.tss_base.specs.declared.operand.Operand.{Operand}
use Rattle.tss_base.specs.declared.ending.Trap.{Trap}
use Rattle.tss_base.specs.Image.{SegmentState}
use Rattle.tss_base.specs.Range.{Covers}
use Rattle.tss_base.specs.declared.causes.TheConstants.{CALL_IN_TASK, BUDGET_SPENT}
use Rattle.tss_model.specs.Memory.{MemoryRange, scratch_range, covers, list_put, code_word}
use Rattle.tss_model.specs.Registers.{register_at, trap_of}
use Rattle.tss_model.specs.Access.{Actor, TaskActor, Loads, Stores, Granted, task_access}
use Rattle.tss_model.specs.Core.{Write, Stepped, Executed, Called, Ended, Trapped, Touched, core_step}
use Rattle.tss_model.specs.TaskRun.{TaskState, repeated, is_over, task_byte, task_write, task_on, task_step}
use Rattle.tss_model.specs.TaskRun.{task_stretch, task_trapped}
use Rattle.tss_program_order.proofs.FlatCore.{IsStep, core_step-same, core_step-step}
use Rattle.tss_program_order.proofs.FlatTask.{MayWrite, granted_write}
use Rattle.tss_base.specs.declared.addresses.TheConstants.{END_PC}

-- ---- one step by what comes first

module _ {M : Type 0} (byte : M → ℕ → ℕ) (write : M → Write → M) (budget : ℕ) (code : List SegmentState) (actor : Actor)
    (s : TaskState M) where
  -- a task that is over stays
  pub task_step-over : is_over s ≡ true → task_step byte write budget code actor s ≡ s
  unfolding task_step
  task_step-over over = cond-true _ _ _ over

  -- one that has spent its budget traps
  pub task_step-spent : is_over s ≡ false → nat_le budget s.registers.done ≡ true
      → task_step byte write budget code actor s ≡ task_trapped s (trap_of s.registers BUDGET_SPENT 0)
  unfolding task_step
  task_step-spent on spent = cond-false _ _ _ on ∙ cond-true _ _ _ spent

  -- else its core takes a step
  pub task_step-core : is_over s ≡ false → nat_le budget s.registers.done ≡ false
      → task_step byte write budget code actor s
      ≡ task_on write s (core_step actor (task_byte byte s) (code_word code) s.registers)
  unfolding task_step
  task_step-core on left = cond-false _ _ _ on ∙ cond-false _ _ _ left

-- ---- two runs

-- the same registers, scratch and trap, over memories that a relation joins
pub record RunAlike {M N : Type 0} (R : M → N → Type 0) (s : TaskState M) (u : TaskState N) : Type 0 where
  pub registers : s.registers ≡ u.registers
  pub scratch : s.scratch ≡ u.scratch
  pub trap : s.trap ≡ u.trap
  pub memory : R s.memory u.memory

alike_by : {M N : Type 0} (R : M → N → Type 0) (s t : TaskState M) (u v : TaskState N) → s ≡ t → u ≡ v → RunAlike R t v
    → RunAlike R s u
alike_by R s t u v e d alike =
    subst (λ x. RunAlike R x u) (sym e) (subst (λ y. RunAlike R t y) (sym d) alike)

-- R relates two memories. They show the same bytes wherever the task may load beyond its scratch, and are related after
-- the same write of the task
module _ {M N : Type 0} (byte : M → ℕ → ℕ) (write : M → Write → M) (other : N → ℕ → ℕ) (rewrite : N → Write → N)
    (ranges : List MemoryRange) (operands : List Operand) (R : M → N → Type 0)
    (shown : (x : M) (y : N) → R x y → (q : Range) (a : ℕ) → task_access ranges operands Loads q ≡ Granted → Covers q a
    → covers scratch_range a ≡ false → byte x a ≡ other y a)
    (kept : (x : M) (y : N) → R x y → (w : Write) → MayWrite operands w → R (write x w) (rewrite y w)) where
  module _ (s : TaskState M) (u : TaskState N) (alike : RunAlike R s u) where
    task_byte-alike : (q : Range) (a : ℕ) → task_access ranges operands Loads q ≡ Granted → Covers q a
        → task_byte byte s a ≡ task_byte other u a
    task_byte-alike q a granted covered = by (covers scratch_range a) refl
      where
        by : (b : Bool) → covers scratch_range a ≡ b → task_byte byte s a ≡ task_byte other u a
        by true inside =
            cond-true _ _ _ inside
            ∙ ap (λ (xs : List ℕ). slice_index xs (a - scratch_range.base)) alike.scratch
            ∙ sym (cond-true _ _ _ inside)
        by false outside =
            cond-false _ _ _ outside
            ∙ shown s.memory u.memory alike.memory q a granted covered outside
            ∙ sym (cond-false _ _ _ outside)

    core-alike : (code : List SegmentState)
        → core_step (TaskActor ranges operands) (task_byte byte s) (code_word code) s.registers
        ≡ core_step (TaskActor ranges operands) (task_byte other u) (code_word code) u.registers
    core-alike code =
        core_step-same (TaskActor ranges operands) (task_byte byte s) (task_byte other u) task_byte-alike s.registers
        (code_word code)
        ∙ ap (core_step (TaskActor ranges operands) (task_byte other u) (code_word code)) alike.registers

    task_write-alike : (w : Write) → 0 < length w.bytes
        → task_access ranges operands Stores (record { base = w.at; len = length w.bytes }) ≡ Granted
        → RunAlike R (task_write write s (Some w)) (task_write rewrite u (Some w))
    task_write-alike w some granted = by (covers scratch_range w.at) refl
      where
        by : (b : Bool) → covers scratch_range w.at ≡ b
            → RunAlike R (task_write write s (Some w)) (task_write rewrite u (Some w))
        by true inside =
            alike_by R _ (record s { scratch = list_put s.scratch (w.at - scratch_range.base) w.bytes }) _
            (record u { scratch = list_put u.scratch (w.at - scratch_range.base) w.bytes })
            (cond-true _ _ _ inside) (cond-true _ _ _ inside)
            (record {
              registers = alike.registers;
              scratch = ap (λ (xs : List ℕ). list_put xs (w.at - scratch_range.base) w.bytes) alike.scratch;
              trap = alike.trap;
              memory = alike.memory;
            })
        by false outside =
            alike_by R _ (record s { memory = write s.memory w }) _ (record u { memory = rewrite u.memory w })
            (cond-false _ _ _ outside) (cond-false _ _ _ outside)
            (record {
              registers = alike.registers;
              scratch = alike.scratch;
              trap = alike.trap;
              memory =
                  kept s.memory u.memory alike.memory w (granted_write ranges operands w some granted outside);
            })

    trapped-alike : (t : Trap) (v : Trap) → t ≡ v → RunAlike R (task_trapped s t) (task_trapped u v)
    trapped-alike t v e = record {
      registers = alike.registers;
      scratch = alike.scratch;
      trap = ap Some e;
      memory = alike.memory;
    }

    task_on-alike : (x : Stepped) → IsStep (TaskActor ranges operands) s.registers x
        → RunAlike R (task_on write s x) (task_on rewrite u x)
    task_on-alike (Executed r None) step =
        record { registers = refl; scratch = alike.scratch; trap = alike.trap; memory = alike.memory }
    task_on-alike (Executed r (Some w)) step =
        let written = task_write-alike w step.1 step.2 in
        record { registers = refl; scratch = written.scratch; trap = written.trap; memory = written.memory }
    task_on-alike Called step =
        trapped-alike _ _ (λ i. trap_of (alike.registers i) CALL_IN_TASK (register_at (alike.registers i) 17))
    task_on-alike Ended step = alike
    task_on-alike (Trapped t) step = trapped-alike t t refl
    task_on-alike Touched step = alike

    -- a step of both
    task_step-alike : (budget : ℕ) (code : List SegmentState)
        → RunAlike R (task_step byte write budget code (TaskActor ranges operands) s)
        (task_step other rewrite budget code (TaskActor ranges operands) u)
    task_step-alike budget code = by (is_over s) (nat_le budget s.registers.done) refl refl
      where
        over : (b : Bool) → is_over s ≡ b → is_over u ≡ b
        over b e = (λ i. is_some (sym alike.trap i) || ((sym alike.registers i).pc == END_PC)) ∙ e

        spent : (b : Bool) → nat_le budget s.registers.done ≡ b → nat_le budget u.registers.done ≡ b
        spent b e = (λ i. nat_le budget (sym alike.registers i).done) ∙ e

        by : (o b : Bool) → is_over s ≡ o → nat_le budget s.registers.done ≡ b
            → RunAlike R (task_step byte write budget code (TaskActor ranges operands) s)
            (task_step other rewrite budget code (TaskActor ranges operands) u)
        by true b e d =
            alike_by R _ s _ u (task_step-over byte write budget code (TaskActor ranges operands) s e)
            (task_step-over other rewrite budget code (TaskActor ranges operands) u (over true e)) alike
        by false true e d =
            alike_by R _ _ _ _ (task_step-spent byte write budget code (TaskActor ranges operands) s e d)
            (task_step-spent other rewrite budget code (TaskActor ranges operands) u (over false e) (spent true d))
            (trapped-alike _ _ (λ i. trap_of (alike.registers i) BUDGET_SPENT 0))
        by false false e d =
            alike_by R _ _ _ _ (task_step-core byte write budget code (TaskActor ranges operands) s e d)
            (task_step-core other rewrite budget code (TaskActor ranges operands) u (over false e) (spent false d)
            ∙ ap (task_on rewrite u) (sym (core-alike code)))
            (task_on-alike (core_step (TaskActor ranges operands) (task_byte byte s) (code_word code) s.registers)
            (core_step-step (TaskActor ranges operands) (task_byte byte s) s.registers (code_word code)))

  -- a stretch of both
  pub task_stretch-alike : (budget : ℕ) (code : List SegmentState) (n : ℕ) (s : TaskState M) (u : TaskState N)
      → RunAlike R s u → RunAlike R (task_stretch byte write budget code (TaskActor ranges operands) n s)
      (task_stretch other rewrite budget code (TaskActor ranges operands) n u)
  unfolding repeated
  task_stretch-alike budget code zero s u alike = alike
  task_stretch-alike budget code (suc n) s u alike =
      task_stretch-alike budget code n (task_step byte write budget code (TaskActor ranges operands) s)
      (task_step other rewrite budget code (TaskActor ranges operands) u) (task_step-alike s u alike budget code)
