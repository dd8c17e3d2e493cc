-- A step in program order that starts no task names nothing: what is named after it was named before.
use Rattle.std.proofs.Common.{◌≡◌, ℕ, zero, suc, ◌+◌, Option, Some, None, Result, Ok, Err, List, refl, sym, ap, subst}
use Rattle.std.proofs.Common.{◌∙◌, arith}
use Rattle.std.proofs.lemmas.Option.{none-some}
use Rattle.tss_base.specs.declared.range.Range.{Range}
use Rattle.tss_base.specs.declared.operand.Task.{Task}
use Rattle.tss_base.specs.declared.machine.Limits.{Limits}
use Rattle.tss_base.specs.Image.{SegmentState, ImageState}
use Rattle.tss_model.specs.Memory.{Memory, frozen}
use Rattle.tss_model.specs.Spawn.{spawn_of}
use Rattle.tss_model.specs.MainStep.{MainState, Flat, Call, ExitCall, Spawn, Barrier, Print, Await, Unknown, next_call}
use Rattle.tss_model.specs.MainStep.{spawn_call, spawn_on, print_range, main_call, await_on, awaited_object}
use Rattle.tss_model.specs.InOrder.{flat_step, flat_stepped, task_called}
use Rattle.tss_program_order.proofs.FlatSteps.{flat_step-main, flat_step-call}
use Rattle.tss_program_order.proofs.FlatMain.{main_step-leaves}
use Rattle.tss_program_order.proofs.FlatNames.{Has, unnamed-has}
use Rattle.tss_program_order.proofs.FlatEpoch.{print_call-epoch, call_ran-epoch}
use Rattle.tss_program_order.proofs.FlatOrder.{flat_stepped-next}
use Rattle.tss_program_order.proofs.FlatStarts.{task_started}
use Rattle.tss_program_order.proofs.FlatNumbers.{step_rises, step_one, spawned_rises}

-- ---- one step

module _ (limits : Limits) (m : Memory) (s : MainState) (x : Range) where
  refused_unnamed : (r : Result Task ℕ) → (spawn_on s r).1 ≡ None → Has (spawn_on s r).0.epoch x → Has s.epoch x
  refused_unnamed (Ok t) none has = absurd (none-some t (sym none))
  refused_unnamed (Err n) none has = has

  await_unnamed : (o : Option Range) → Has (await_on s o).epoch x → Has s.epoch x
  await_unnamed None has = has
  await_unnamed (Some object) has = unnamed-has s.epoch object.base x has

  call_unnamed : (c : Call) → (main_call limits m s c).1 ≡ None → Has (main_call limits m s c).0.epoch x
      → Has s.epoch x
  call_unnamed ExitCall none has = has
  call_unnamed Spawn none has =
      refused_unnamed (spawn_of (spawn_call s.registers) m s.epoch limits s.spawned) none has
  call_unnamed Barrier none has = absurd (cc)
  call_unnamed Print none has =
      subst (λ named. Has named x) (print_call-epoch limits m s (print_range s.registers)) has
  call_unnamed Await none has = await_unnamed (awaited_object s) has
  call_unnamed (Unknown n) none has = has

-- it names nothing
flat_step-unnamed : (code : List SegmentState) (limits : Limits) (f : Flat) (x : Range)
    → task_called limits f (next_call code limits f) ≡ None → Has (flat_step code limits f).main.epoch x
    → Has f.main.epoch x
flat_step-unnamed code limits f x none has = by (next_call code limits f) refl
  where
    by : (c : Option Call) → next_call code limits f ≡ c → Has f.main.epoch x
    by None e =
        subst (λ named. Has named x)
        (ap (λ (g : Flat). g.main.epoch) (flat_step-main code limits f e) ∙ (main_step-leaves code limits f).epoch)
        has
    by (Some c) e =
        call_unnamed limits f.memory f.main x c (ap (task_called limits f) (sym e) ∙ none)
        (subst (λ named. Has named x)
        (ap (λ (g : Flat). g.main.epoch) (flat_step-call code limits f c e)
        ∙ call_ran-epoch code limits f.memory (main_call limits f.memory f.main c))
        has)

-- ---- steps in a row

module _ (i : ImageState) (limits : Limits) (x : Range) where
  unnamed_step : (k : ℕ)
      → (flat_stepped i limits (suc k)).main.spawned ≡ (flat_stepped i limits k).main.spawned
      → Has (flat_stepped i limits (suc k)).main.epoch x → Has (flat_stepped i limits k).main.epoch x
  unnamed_step k same has = by (task_started i limits k) refl
    where
      by : (o : Option Task) → task_started i limits k ≡ o → Has (flat_stepped i limits k).main.epoch x
      by (Some t) is = absurd (omega (arith, same, step_one i limits k t is))
      by None none =
          flat_step-unnamed (frozen i) limits (flat_stepped i limits k) x none
          (subst (λ (f : Flat). Has f.main.epoch x) (flat_stepped-next i limits k) has)

  -- where the number of tasks stays, what is named at the end was named before
  pub unnamed_back : (k n : ℕ)
      → (flat_stepped i limits (k + n)).main.spawned ≡ (flat_stepped i limits k).main.spawned
      → Has (flat_stepped i limits (k + n)).main.epoch x → Has (flat_stepped i limits k).main.epoch x
  unnamed_back k zero same has =
      let none : k + zero ≡ k = omega arith in
      subst (λ j. Has (flat_stepped i limits j).main.epoch x) none has
  unnamed_back k (suc n) same has =
      let more : k + suc n ≡ suc (k + n) = omega arith in
      let count = ap (λ j. (flat_stepped i limits j).main.spawned) more in
      let first = spawned_rises i limits k n in
      let last = step_rises i limits (k + n) in
      unnamed_back k n (omega (arith, same, count, first, last))
      (unnamed_step (k + n) (omega (arith, same, count, first, last))
      (subst (λ j. Has (flat_stepped i limits j).main.epoch x) more has))
