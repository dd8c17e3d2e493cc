-- One step of main by what its core does.
use Rattle.std.proofs.Common.{◌≡◌, ℕ, suc, Bool, true, false, List, nat_le, Option, Some, None, refl, sym, ap, subst, ◌∙◌}
use Rattle.std.proofs.lemmas.Bool.{cond-true, cond-false}
use Rattle.tss_base.specs.declared.range.Range.{Range}
use Rattle.tss_base.specs.declared.ending.Ending.{Ending}
use Rattle.tss_base.specs.declared.ending.Ending.TheVariants.{MainTrap, Refused}
use Rattle.tss_base.specs.declared.machine.Limits.{Limits}
use Rattle.tss_base.specs.Image.{SegmentState}
use Rattle.tss_model.specs.Memory.{Memory}
use Rattle.tss_model.specs.Registers.{Registers, trap_of}
use Rattle.tss_base.specs.declared.causes.TheConstants.{FETCH_OUTSIDE}
use Rattle.tss_base.specs.declared.refusals.TheConstants.{MAIN_TOUCH, MAIN_BUDGET_SPENT}
use Rattle.tss_model.specs.Core.{Write, Stepped, Executed, Called, Ended, Trapped, Touched}
use Rattle.tss_model.specs.TaskRun.{repeated}
use Rattle.tss_model.specs.MainStep.{Piece, Flat, flat_written, main_refused, main_on, main_core, main_step}
use Rattle.tss_core.specs.declared.stepping.Outcome.{Outcome}
use Rattle.tss_core.specs.Steps.{outcome_of, registers_after, write_of}
use Rattle.tss_core.specs.declared.stepping.Stop.{Stop}
use Rattle.tss_core.specs.declared.stepping.Stop.TheVariants as stop
use Rattle.tss_core.specs.Steps.{outcome_by}
use Rattle.tss_steps.specs.Mains.{flat_now, main_turn, main_turn_after, ending_of, MainTurn, MainTurns}
use Rattle.tss_steps.proofs.StepLemmas.{repeated-still, repeated-reached}

-- a step that executes an instruction, or none
pub turn_by : (r : Registers) (done : Bool) (s : Stop) → main_turn_after r (outcome_by done s) ≡ main_turn done (ending_of r s)
turn_by r true s = refl
turn_by r false stop.Call = refl
turn_by r false stop.Ended = refl
turn_by r false (stop.Trapped t) = refl
turn_by r false stop.Touched = refl

module _ (code : List SegmentState) (limits : Limits) where
  -- main that has ended stays as it is
  pub main_step-ended : (r : Registers) (spawned : ℕ) (objects : List Range) (pieces : List Piece) (e : Ending) (m : Memory)
      → main_step code limits (flat_now r spawned objects pieces (Some e) m) ≡ flat_now r spawned objects pieces (Some e) m
  unfolding main_step
  main_step-ended r spawned objects pieces e m = refl

  module _ (r : Registers) (spawned : ℕ) (objects : List Range) (pieces : List Piece) (m : Memory) where
    abbrev pub before : Flat
    before = flat_now r spawned objects pieces None m

    -- a step that ends main
    ends-at : (e : Ending) → main_step code limits before ≡ flat_now r spawned objects pieces (Some e) m
        → (n : ℕ) → repeated (main_step code limits) (suc n) before ≡ flat_now r spawned objects pieces (Some e) m
    ends-at e step n = repeated-reached (main_step code limits) n before _ step (main_step-ended r spawned objects pieces e m)

    -- main that has spent its budget is refused
    main_step-spent : nat_le limits.main_budget r.done ≡ true → main_step code limits before ≡ record before { main = main_refused (before.main) MAIN_BUDGET_SPENT }
    unfolding main_step
    main_step-spent spent = cond-true _ _ _ spent

    pub main_turns-spent : nat_le limits.main_budget r.done ≡ true → (pc : ℕ) → pc ≡ r.pc
        → (n : ℕ) → repeated (main_step code limits) (suc n) before ≡ flat_now r spawned objects pieces (Some (Refused MAIN_BUDGET_SPENT pc)) m
    main_turns-spent spent pc e n = ends-at (Refused MAIN_BUDGET_SPENT r.pc) (main_step-spent spent) n ∙ (λ i. flat_now r spawned objects pieces (Some (Refused MAIN_BUDGET_SPENT (sym e i))) m)

    main_step-core : nat_le limits.main_budget r.done ≡ false → (x : Stepped) → x ≡ main_core code before → main_step code limits before ≡ main_on before x
    unfolding main_step
    main_step-core left x core = cond-false _ _ _ left ∙ ap (main_on before) (sym core)

    executed-parts : (w : Option Write) (q : Registers) → main_on before (Executed q w) ≡ flat_now q spawned objects pieces None (flat_written m w)
    executed-parts w q = refl

    module _ (left : nat_le limits.main_budget r.done ≡ false) (q : Registers) (n : Memory) (o : Outcome) where
      -- and any other whose core takes a step
      pub main_turns-stepped : (x : Stepped) → x ≡ main_core code before → o ≡ outcome_of x → q ≡ registers_after r x → n ≡ flat_written m (write_of x)
          → MainTurns (main_step code limits) before (λ e. flat_now q spawned objects pieces e n) (main_turn_after q o)
      main_turns-stepped (Executed p w) core out regs written =
          subst (λ (u : MainTurn). MainTurns (main_step code limits) before (λ e. flat_now q spawned objects pieces e n) u) (sym (ap (main_turn_after q) out))
          (main_step-core left (Executed p w) core
          ∙ (λ i. flat_now (sym regs i) spawned objects pieces None (sym written i)))
      main_turns-stepped Called core out regs written =
          subst (λ (u : MainTurn). MainTurns (main_step code limits) before (λ e. flat_now q spawned objects pieces e n) u) (sym (ap (main_turn_after q) out))
          (λ k. repeated-still (main_step code limits) (suc k) before (main_step-core left Called core) ∙ (λ i. flat_now (sym regs i) spawned objects pieces None (sym written i)))
      main_turns-stepped Ended core out regs written =
          subst (λ (u : MainTurn). MainTurns (main_step code limits) before (λ e. flat_now q spawned objects pieces e n) u) (sym (ap (main_turn_after q) out))
          (λ k. ends-at _ (main_step-core left Ended core) k ∙ (λ i. flat_now (sym regs i) spawned objects pieces (Some (MainTrap (trap_of (sym regs i) FETCH_OUTSIDE (sym regs i).pc))) (sym written i)))
      main_turns-stepped (Trapped t) core out regs written =
          subst (λ (u : MainTurn). MainTurns (main_step code limits) before (λ e. flat_now q spawned objects pieces e n) u) (sym (ap (main_turn_after q) out))
          (λ k. ends-at _ (main_step-core left (Trapped t) core) k ∙ (λ i. flat_now (sym regs i) spawned objects pieces (Some (MainTrap t)) (sym written i)))
      main_turns-stepped Touched core out regs written =
          subst (λ (u : MainTurn). MainTurns (main_step code limits) before (λ e. flat_now q spawned objects pieces e n) u) (sym (ap (main_turn_after q) out))
          (λ k. ends-at _ (main_step-core left Touched core) k ∙ (λ i. flat_now (sym regs i) spawned objects pieces (Some (Refused MAIN_TOUCH (sym regs i).pc)) (sym written i)))
