-- One step of a task by what its core does, over whatever its machine shows it.
use Rattle.std.proofs.Common.{◌≡◌, ℕ, suc, Bool, true, false, List, nat_le, Option, Some, None, refl, sym, ap, subst, ◌∙◌}
use Rattle.std.specs.Prelude.{◌==◌, ◌-◌, cond}
use Rattle.std.proofs.lemmas.Bool.{cond-true, cond-false}
use Rattle.tss_model.specs.Memory.{scratch_range, covers, list_put, code_word}
use Rattle.tss_model.specs.Registers.{Registers, register_at, trap_of}
use Rattle.tss_base.specs.declared.causes.TheConstants.{CALL_IN_TASK, BUDGET_SPENT}
use Rattle.tss_model.specs.Core.{Write, Stepped, Executed, Called, Ended, Trapped, Touched, core_step}
use Rattle.tss_model.specs.TaskRun.{TaskState, repeated, is_over, task_step, task_byte, task_on, task_trapped}
use Rattle.tss_core.specs.declared.stepping.Outcome.{Outcome}
use Rattle.tss_core.specs.Steps.{outcome_of, registers_after, write_of}
use Rattle.tss_steps.specs.Seen.{Terms, scratch_after, beyond_after}
use Rattle.tss_core.specs.declared.stepping.Stop.{Stop}
use Rattle.tss_core.specs.declared.stepping.Stop.TheVariants as stop
use Rattle.tss_core.specs.Steps.{outcome_by}
use Rattle.tss_steps.specs.Tasks.{task_now, step_by, turn, turn_after, trap_by, Turn, Over, Turns}
use Rattle.tss_steps.proofs.StepLemmas.{repeated-still, repeated-reached}

-- a step that executes an instruction, or none
pub turn_by : (r : Registers) (done : Bool) (s : Stop) → turn_after r (outcome_by done s) ≡ turn done (trap_by r s)
turn_by r true s = refl
turn_by r false stop.Call = refl
turn_by r false stop.Ended = refl
turn_by r false (stop.Trapped t) = refl
turn_by r false stop.Touched = refl

module _ {M : Type 0} (t : Terms M) (budget : ℕ) where
  -- a task that is over stays as it is
  pub step-over : (s : TaskState M) → is_over s ≡ true → step_by t budget s ≡ s
  unfolding task_step
  step-over s over = cond-true _ _ _ over

  step-spent : (s : TaskState M) → is_over s ≡ false → nat_le budget s.registers.done ≡ true
      → step_by t budget s ≡ task_trapped s (trap_of s.registers BUDGET_SPENT 0)
  unfolding task_step
  step-spent s on spent = cond-false _ _ _ on ∙ cond-true _ _ _ spent

  step-core : (s : TaskState M) → is_over s ≡ false → nat_le budget s.registers.done ≡ false → (x : Stepped)
      → x ≡ core_step t.actor (task_byte t.byte s) (code_word t.code) s.registers
      → step_by t budget s ≡ task_on t.write s x
  unfolding task_step
  step-core s on left x core = cond-false _ _ _ on ∙ cond-false _ _ _ left ∙ ap (task_on t.write s) (sym core)

  -- a step that leads to where a task is over ends it, and so does one that leaves it as it is
  ends-at : (s u : TaskState M) → step_by t budget s ≡ u → is_over u ≡ true → (n : ℕ) → repeated (step_by t budget) (suc n) s ≡ u
  ends-at s u e over n = repeated-reached (step_by t budget) n s u e (step-over u over)

  ends-still : (s : TaskState M) → step_by t budget s ≡ s → (n : ℕ) → repeated (step_by t budget) (suc n) s ≡ s
  ends-still s e n = repeated-still (step_by t budget) (suc n) s e

  module _ (r : Registers) (scratch : List ℕ) (m : M) where
    -- a task whose pc is where it ends
    pub turns-over : (r.pc == 4294967280) ≡ true → Turns (step_by t budget) (task_now r scratch m None) r scratch m (Over None)
    turns-over at_end = ends-still (task_now r scratch m None) (step-over (task_now r scratch m None) at_end)

    -- one that has spent its budget
    pub turns-spent : (r.pc == 4294967280) ≡ false → nat_le budget r.done ≡ true
        → Turns (step_by t budget) (task_now r scratch m None) r scratch m (Over (Some (trap_of r BUDGET_SPENT 0)))
    turns-spent on spent =
        ends-at (task_now r scratch m None) (task_trapped (task_now r scratch m None) (trap_of r BUDGET_SPENT 0))
        (step-spent (task_now r scratch m None) on spent) refl

    -- an executed instruction with its write
    executed-parts : (w : Option Write) (q : Registers)
        → task_on t.write (task_now r scratch m None) (Executed q w) ≡ task_now q (scratch_after scratch w) (beyond_after t.write m w) None
    executed-parts None q = refl
    executed-parts (Some w) q =
        elim (covers scratch_range w.at) as (λ b. record (cond b (record (task_now r scratch m None) { scratch = list_put scratch (w.at - scratch_range.base) w.bytes }) (record (task_now r scratch m None) { memory = t.write m w })) { registers = q }
        ≡ task_now q (cond b (list_put scratch (w.at - scratch_range.base) w.bytes) scratch) (cond b m (t.write m w)) None) [
          | true ↦ refl
          | false ↦ refl
        ]

    module _ (on : (r.pc == 4294967280) ≡ false) (left : nat_le budget r.done ≡ false) (after : List ℕ) (n : M) (q : Registers) (o : Outcome) where
      -- one whose core takes a step
      pub turns-stepped : (x : Stepped) → x ≡ core_step t.actor (task_byte t.byte (task_now r scratch m None)) (code_word t.code) r
          → o ≡ outcome_of x → q ≡ registers_after r x → after ≡ scratch_after scratch (write_of x) → n ≡ beyond_after t.write m (write_of x)
          → Turns (step_by t budget) (task_now r scratch m None) q after n (turn_after q o)
      turns-stepped (Executed p w) core out regs bytes beyond =
          subst (λ (u : Turn). Turns (step_by t budget) (task_now r scratch m None) q after n u) (sym (ap (turn_after q) out))
          (step-core (task_now r scratch m None) on left (Executed p w) core
          ∙ executed-parts w p
          ∙ (λ i. task_now (sym regs i) (sym bytes i) (sym beyond i) None))
      turns-stepped Called core out regs bytes beyond =
          subst (λ (u : Turn). Turns (step_by t budget) (task_now r scratch m None) q after n u) (sym (ap (turn_after q) out))
          (λ k.
          ends-at (task_now r scratch m None) (task_trapped (task_now r scratch m None) (trap_of r CALL_IN_TASK (register_at r 17)))
          (step-core (task_now r scratch m None) on left Called core) refl k
          ∙ (λ i. task_now (sym regs i) (sym bytes i) (sym beyond i) (Some (trap_of (sym regs i) CALL_IN_TASK (register_at (sym regs i) 17)))))
      turns-stepped Ended core out regs bytes beyond =
          subst (λ (u : Turn). Turns (step_by t budget) (task_now r scratch m None) q after n u) (sym (ap (turn_after q) out))
          (λ k. ends-still (task_now r scratch m None) (step-core (task_now r scratch m None) on left Ended core) k ∙ (λ i. task_now (sym regs i) (sym bytes i) (sym beyond i) None))
      turns-stepped (Trapped trap) core out regs bytes beyond =
          subst (λ (u : Turn). Turns (step_by t budget) (task_now r scratch m None) q after n u) (sym (ap (turn_after q) out))
          (λ k.
          ends-at (task_now r scratch m None) (task_trapped (task_now r scratch m None) trap)
          (step-core (task_now r scratch m None) on left (Trapped trap) core) refl k
          ∙ (λ i. task_now (sym regs i) (sym bytes i) (sym beyond i) (Some trap)))
      turns-stepped Touched core out regs bytes beyond =
          subst (λ (u : Turn). Turns (step_by t budget) (task_now r scratch m None) q after n u) (sym (ap (turn_after q) out))
          (λ k. ends-still (task_now r scratch m None) (step-core (task_now r scratch m None) on left Touched core) k ∙ (λ i. task_now (sym regs i) (sym bytes i) (sym beyond i) None))
