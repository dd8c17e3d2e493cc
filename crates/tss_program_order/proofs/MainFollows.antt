-- Main follows program order at first. Where it does and has not ended, program order has the state beside it, and
-- where main has ended there, so does program order.
use Rattle.std.proofs.Common.{◌≡◌, false, Option, Some, refl, sym, ap, ◌∙◌}
use Rattle.std.specs.Prelude.{is_some, unwrap_or}
use Rattle.tss_base.specs.declared.ending.Ending.{Ending}
use Rattle.tss_base.specs.declared.ending.Ending.TheVariants.{Refused}
use Rattle.tss_base.specs.declared.machine.Machine.{Machine}
use Rattle.tss_base.specs.Image.{ImageState}
use Rattle.tss_base.specs.declared.refusals.TheConstants.{MAIN_BUDGET_SPENT}
use Rattle.tss_model.specs.TaskRun.{repeated}
use Rattle.tss_model.specs.MainStep.{MainState, output_of}
use Rattle.tss_model.specs.InOrder.{ReferenceState, is_executed, main_after, in_order}
use Rattle.tss_protocol.specs.State.{State, initial_state}
use Rattle.tss_program_order.specs.MainInOrder.{FollowsInOrder, steps_taken, flat_beside}
use Rattle.tss_program_order.proofs.FlatOrder.{executed_on, steps_taken-on, main_after-there}
use Rattle.tss_program_order.proofs.FlatEnds.{in_order-ended}

-- at first it does
pub follows-initial_state : (m : Machine) (i : ImageState) → FollowsInOrder m i (initial_state i)
unfolding repeated
follows-initial_state m i = record { main = refl; home = λ a may. refl }

-- where main has not ended and follows program order, that has the state beside main
pub followed_by : (m : Machine) (i : ImageState) (S : State) → is_some S.main.ending ≡ false → FollowsInOrder m i S
    → main_after i m.limits S.main.registers.done ≡ Some (flat_beside i m.limits S.main)
followed_by m i S on follows =
    let count = steps_taken-on S.main on in
    ap (main_after i m.limits) (sym count)
    ∙ main_after-there i m.limits (steps_taken S.main)
    (ap (λ (x : MainState). x.registers.done) (sym follows.main) ∙ sym count)
    (ap (λ (x : MainState). is_executed x.ending) (sym follows.main) ∙ executed_on S.main.ending on)

-- ---- the end

-- what program order comes to, where main has ended there
pub record EndsInOrder (m : Machine) (i : ImageState) (S : State) (e : Ending) : Type 0 where
  pub ending : (in_order i m.limits).ending ≡ e
  pub tasks : (in_order i m.limits).tasks ≡ S.main.spawned
  pub output : (in_order i m.limits).output ≡ output_of S.main.pieces
  pub memory : (in_order i m.limits).memory ≡ (flat_beside i m.limits S.main).memory

-- so program order ends where main has ended and follows it
pub follows_to_end : (m : Machine) (i : ImageState) (S : State) (e : Ending) → FollowsInOrder m i S
    → S.main.ending ≡ Some e → EndsInOrder m i S e
follows_to_end m i S e follows ended =
    let order = in_order-ended i m.limits (steps_taken S.main)
    (ap (λ (x : MainState). is_some x.ending) (sym follows.main) ∙ ap is_some ended) in
    record {
      ending =
          ap (λ (r : ReferenceState). r.ending) order
          ∙ ap (λ (x : MainState). unwrap_or x.ending (Refused MAIN_BUDGET_SPENT x.registers.pc)) (sym follows.main)
          ∙ ap (λ (o : Option Ending). unwrap_or o (Refused MAIN_BUDGET_SPENT S.main.registers.pc)) ended;
      tasks = ap (λ (r : ReferenceState). r.tasks) order ∙ ap (λ (x : MainState). x.spawned) (sym follows.main);
      output =
          ap (λ (r : ReferenceState). r.output) order ∙ ap (λ (x : MainState). output_of x.pieces) (sym follows.main);
      memory = ap (λ (r : ReferenceState). r.memory) order;
    }
