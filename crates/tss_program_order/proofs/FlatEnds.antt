-- How program order ends: where it has ended after some steps, so it ends, and a task that traps is its ending.
use Rattle.std.proofs.Common.{◌≡◌, ℕ, suc, ◌+◌, ◌-◌, ◌≤◌, inl, inr, Bool, true, false, Some, refl, sym, ap, ◌∙◌, arith}
use Rattle.std.proofs.Common.{nat_le}
use Rattle.std.specs.Prelude.{is_some, unwrap_or}
use Rattle.std.proofs.lemmas.Bool.{cases_lt, le-leb}
use Rattle.tss_base.specs.declared.ending.Trap.{Trap}
use Rattle.tss_base.specs.declared.ending.Ending.TheVariants.{TaskTrap, Refused}
use Rattle.tss_base.specs.declared.machine.Limits.{Limits}
use Rattle.tss_base.specs.Image.{ImageState}
use Rattle.tss_base.specs.declared.refusals.TheConstants.{MAIN_BUDGET_SPENT}
use Rattle.tss_model.specs.Memory.{Memory, frozen}
use Rattle.tss_model.specs.TaskRun.{task_end}
use Rattle.tss_model.specs.MainStep.{MainState, Flat, has_spent, output_of}
use Rattle.tss_model.specs.InOrder.{Started, ReferenceState, main_after_task, call_ran, flat_stepped, started_at}
use Rattle.tss_model.specs.InOrder.{end_of_started, reference_of, in_order}
use Rattle.tss_program_order.proofs.FlatSteps.{main_step-spent, next_call-spent, flat_step-main, flat_step-call}
use Rattle.tss_program_order.proofs.FlatSteps.{flat_step-ended}
use Rattle.tss_program_order.proofs.FlatOrder.{flat_stepped-next, flat_stepped-ended, StartedBy, started_at-by}
use Rattle.tss_program_order.proofs.FlatSpawn.{IsSpawn, main_call-spawn}
use Rattle.tss_program_order.proofs.FlatStarts.{flat_stepped-done}

module _ (i : ImageState) (limits : Limits) where
  -- main that has spent its budget ends with its next step
  budget_ends : is_some (flat_stepped i limits (suc limits.main_budget)).main.ending ≡ true
  budget_ends = by (is_some f.main.ending) refl
    where
      f : Flat
      f = flat_stepped i limits limits.main_budget

      by : (b : Bool) → is_some (flat_stepped i limits limits.main_budget).main.ending ≡ b
          → is_some (flat_stepped i limits (suc limits.main_budget)).main.ending ≡ true
      by true ended =
          ap (λ (x : Flat). is_some x.main.ending)
          (flat_stepped-next i limits limits.main_budget
          ∙ flat_step-ended (frozen i) limits (flat_stepped i limits limits.main_budget) ended)
          ∙ ended
      by false on =
          let done = flat_stepped-done i limits limits.main_budget on in
          let spent : has_spent limits (flat_stepped i limits limits.main_budget).main ≡ true =
          ap (λ (n : ℕ). nat_le limits.main_budget n) done
          ∙ le-leb limits.main_budget limits.main_budget (omega arith) in
          ap (λ (x : Flat). is_some x.main.ending)
          (flat_stepped-next i limits limits.main_budget
          ∙ flat_step-main (frozen i) limits (flat_stepped i limits limits.main_budget)
          (next_call-spent (frozen i) limits (flat_stepped i limits limits.main_budget) spent)
          ∙ main_step-spent (frozen i) limits (flat_stepped i limits limits.main_budget) on spent)

  later_same : (j k : ℕ) → j ≤ k → is_some (flat_stepped i limits j).main.ending ≡ true
      → flat_stepped i limits k ≡ flat_stepped i limits j
  later_same j k after ended =
      let count : k ≡ j + (k - j) = omega arith in
      ap (flat_stepped i limits) count ∙ flat_stepped-ended i limits j (k - j) ended

  -- where main has ended after so many steps, that is how program order ends
  pub in_order-ended : (k : ℕ) → is_some (flat_stepped i limits k).main.ending ≡ true
      → in_order i limits ≡ reference_of (flat_stepped i limits k)
  in_order-ended k ended = elim (cases_lt k (suc limits.main_budget)) [
    | inl before ↦ ap reference_of (later_same k (suc limits.main_budget) (omega arith) ended)
    | inr after ↦ sym (ap reference_of (later_same (suc limits.main_budget) k after budget_ends))
  ]

  -- a task that traps ends it
  module _ (k : ℕ) (s : Started) (trap : Trap) (start : started_at i limits k ≡ Some s)
      (trapped : (end_of_started i limits s).trap ≡ Some trap) where
    by_task : StartedBy i limits k s
    by_task = started_at-by i limits k s start

    trapped_main : (flat_stepped i limits (suc k)).main ≡ main_after_task by_task.main s.task (Some trap)
    trapped_main =
        ap (λ (x : Flat). x.main)
        (flat_stepped-next i limits k
        ∙ flat_step-call (frozen i) limits (flat_stepped i limits k) by_task.call by_task.next
        ∙ ap (call_ran (frozen i) limits (flat_stepped i limits k).memory) by_task.called)
        ∙ ap (main_after_task by_task.main s.task)
        (ap (λ (m : Memory). (task_end (frozen i) limits m s.task).trap) (sym by_task.memory) ∙ trapped)

    trapped_order : in_order i limits ≡ reference_of (flat_stepped i limits (suc k))
    trapped_order = in_order-ended (suc k) (ap (λ (m : MainState). is_some m.ending) trapped_main)

    spawn : IsSpawn (flat_stepped i limits k).main by_task.main s.task
    spawn =
        main_call-spawn limits (flat_stepped i limits k).memory (flat_stepped i limits k).main by_task.call by_task.main
        s.task by_task.called

    -- with its trap
    pub in_order-trap : (in_order i limits).ending ≡ TaskTrap s.task.number trap
    in_order-trap =
        ap (λ (r : ReferenceState). r.ending) trapped_order
        ∙ ap (λ (m : MainState). unwrap_or m.ending (Refused MAIN_BUDGET_SPENT m.registers.pc)) trapped_main

    -- with the tasks up to it
    pub in_order-tasks : (in_order i limits).tasks ≡ s.task.number
    in_order-tasks =
        ap (λ (r : ReferenceState). r.tasks) trapped_order
        ∙ ap (λ (m : MainState). m.spawned) trapped_main
        ∙ ap (λ (m : MainState). m.spawned) spawn.main_is
        ∙ sym spawn.number

    -- and with what main printed before it
    pub in_order-output : (in_order i limits).output ≡ output_of (flat_stepped i limits k).main.pieces
    in_order-output =
        ap (λ (r : ReferenceState). r.output) trapped_order
        ∙ ap (λ (m : MainState). output_of m.pieces) trapped_main
        ∙ ap (λ (m : MainState). output_of m.pieces) spawn.main_is
