-- Main, and home where nobody claims it, follow program order in every run that has the values.
use Rattle.std.proofs.Common.{◌≡◌, ◌⊎◌, inl, inr, ℕ, Bool, true, false, Some, None, refl, sym, ap, ◌∙◌, subst}
use Rattle.std.specs.Prelude.{cond, ◌==◌, ◌&&◌}
use Rattle.std.specs.FinMap.{get}
use Rattle.std.proofs.lemmas.Bool.{eqb-true, cond-true, cond-false}
use Rattle.std.proofs.lemmas.Option.{none-some, same_Some}
use Rattle.tss_base.specs.declared.machine.Limits.{Limits}
use Rattle.tss_base.specs.declared.machine.Machine.{Machine}
use Rattle.tss_base.specs.Image.{ImageState}
use Rattle.tss_model.specs.Memory.{Memory, frozen}
use Rattle.tss_model.specs.MainStep.{MainState, Flat}
use Rattle.tss_model.specs.InOrder.{is_executed, flat_step, flat_stepped, main_after}
use Rattle.tss_protocol.specs.State.{State}
use Rattle.tss_program_order.specs.MainInOrder.{flat_beside, IsCutOff}
use Rattle.tss_program_order.specs.Refinement.{FollowsMain, MainStateLaw}
use Rattle.tss_program_order.proofs.FlatOrder.{main_after-is, flat_stepped-next}
use Rattle.tss_program_order.proofs.FlatStill.{IsStill, same_ended, step_still}
use Rattle.tss_values.proofs.Values.{HasHome}
use Rattle.tss_values.proofs.ValuesJoin.{HaveValues}
use Rattle.tss_control.proofs.rounds.Facts.{Facts}
use Rattle.tss_control.proofs.GroundworkControl.{Facts-Run}
use Rattle.tss_values.proofs.UnclaimedMemory.{unclaimed}

-- the state after so many instructions has completed as many
after_done : (i : ImageState) (limits : Limits) (k : ℕ) (f : Flat) → main_after i limits k ≡ Some f
    → f.main.registers.done ≡ k
after_done i limits k f e =
    by ((flat_stepped i limits k).main.registers.done == k) (is_executed (flat_stepped i limits k).main.ending) refl e
  where
    by : (b c : Bool) → ((flat_stepped i limits k).main.registers.done == k) ≡ b
        → cond (b && c) (Some (flat_stepped i limits k)) None ≡ Some f → f.main.registers.done ≡ k
    by true true is e =
        ap (λ (x : Flat). x.main.registers.done) (sym (same_Some (flat_stepped i limits k) f e)) ∙ eqb-true _ _ is
    by true false is e = absurd (none-some f e)
    by false c is e = absurd (none-some f e)

-- main beside program order stands at the state after its instructions, but for an ending
stands_still : (i : ImageState) (limits : Limits) (s : MainState) (f : Flat) → s ≡ (flat_beside i limits s).main
    → main_after i limits s.registers.done ≡ Some f → IsStill f (flat_beside i limits s)
stands_still i limits s f same after = by (is_executed s.ending) refl
  where
    here : flat_stepped i limits s.registers.done ≡ f
    here = main_after-is i limits s.registers.done f after

    by : (b : Bool) → is_executed s.ending ≡ b → IsStill f (flat_beside i limits s)
    by true on =
        let at = ap (flat_stepped i limits) (cond-true _ _ _ on) ∙ here in
        subst (IsStill f) (sym at) (same_ended f.main, refl)
    by false ended =
        let at : flat_beside i limits s ≡ flat_step (frozen i) limits f =
        ap (flat_stepped i limits) (cond-false _ _ _ ended)
        ∙ flat_stepped-next i limits s.registers.done ∙ ap (flat_step (frozen i) limits) here in
        subst (IsStill f) (sym at) (step_still (frozen i) limits f
        (ap (λ (x : Flat). x.main.registers.done) (sym at) ∙ ap (λ (x : MainState). x.registers.done) (sym same)
        ∙ sym (after_done i limits s.registers.done f after)))

module _ (m : Machine) (i : ImageState) (S : State) (facts : Facts m S) (home : HasHome m i facts.ts S)
    (f : Flat) (after : main_after i m.limits S.main.registers.done ≡ Some f) where
  follows_by : (S.main ≡ (flat_beside i m.limits S.main).main) ⊎ IsCutOff i m.limits S.main → FollowsMain S f
  follows_by (inr cut) = absurd (none-some f (sym cut.none ∙ after))
  follows_by (inl same) =
      let still = stands_still i m.limits S.main f same after in
      record {
        registers = ap (λ (x : MainState). x.registers) same ∙ still.0.registers;
        epoch = ap (λ (x : MainState). x.epoch) same ∙ still.0.epoch;
        spawned = ap (λ (x : MainState). x.spawned) same ∙ still.0.spawned;
        pieces = ap (λ (x : MainState). x.pieces) same ∙ still.0.pieces;
        home = λ a free.
            home.beside a same (unclaimed S a free)
            ∙ ap (λ (x : Memory). get x.bytes a) still.1;
      }

-- main follows program order
pub main_of_values : HaveValues → MainStateLaw
main_of_values have m i es S accepted admissible run f after =
    let values = have m i es S accepted admissible run in
    follows_by m i S (Facts-Run m i es S run) values.home f after
    values.main.follows
