-- The tasks that program order starts: where one is started, before which memory, and what it names.
use Rattle.std.proofs.Common.{◌≡◌, ℕ, zero, suc, Bool, true, false, Option, Some, None, List, refl, sym, ap, subst, ◌∙◌}
use Rattle.std.proofs.Common.{add-one}
use Rattle.std.specs.Prelude.{is_some, option_map}
use Rattle.std.proofs.lemmas.Bool.{both_ways}
use Rattle.std.proofs.lemmas.Option.{none-some}
use Rattle.tss_base.specs.declared.range.Range.{Range}
use Rattle.tss_base.specs.declared.operand.Task.{Task}
use Rattle.tss_base.specs.declared.ending.Trap.{Trap}
use Rattle.tss_base.specs.declared.machine.Limits.{Limits}
use Rattle.tss_base.specs.Image.{SegmentState, ImageState}
use Rattle.tss_model.specs.Memory.{Memory, frozen}
use Rattle.tss_model.specs.Access.{MainActor, operands_of}
use Rattle.tss_model.specs.Core.{Stepped, Executed, Called, Ended, Trapped, Touched}
use Rattle.tss_model.specs.TaskRun.{repeated, task_end}
use Rattle.tss_model.specs.Spawn.{name_objects, objects_of}
use Rattle.tss_model.specs.MainStep.{MainState, Flat, Call, has_spent, main_on, main_core, main_step, called_by}
use Rattle.tss_model.specs.MainStep.{next_call, main_call}
use Rattle.tss_model.specs.InOrder.{Started, flat_step, flat_stepped, call_ran, main_after_task, started_at, started_in}
use Rattle.tss_model.specs.InOrder.{task_called, end_of_started}
use Rattle.tss_program_order.specs.MainInOrder.{steps_taken}
use Rattle.tss_program_order.proofs.FlatCore.{IsStep}
use Rattle.tss_program_order.proofs.FlatSteps.{main_step-spent, main_step-core, next_call-core, flat_step-main}
use Rattle.tss_program_order.proofs.FlatSteps.{flat_step-call, flat_step-ended, next_call-on}
use Rattle.tss_program_order.proofs.FlatMain.{main_core-step}
use Rattle.tss_program_order.proofs.FlatOrder.{steps_taken-on, executed_on, main_after-there, flat_stepped-next}
use Rattle.tss_program_order.proofs.FlatOrder.{started_at-by}
use Rattle.tss_program_order.proofs.FlatSpawn.{main_call-step, main_call-spawn}
use Rattle.tss_program_order.proofs.FlatNames.{Has, name_objects-names}
use Rattle.tss_program_order.proofs.FlatEpoch.{call_ran-epoch}

-- ---- instructions are steps

module _ (code : List SegmentState) (limits : Limits) (f : Flat) (on : is_some f.main.ending ≡ false) where
  core_taken : (x : Stepped) → called_by f.main.registers x ≡ None
      → IsStep (MainActor f.memory.ranges f.main.epoch) f.main.registers x
      → is_some (main_on f x).main.ending ≡ false → (main_on f x).main.registers.done ≡ suc f.main.registers.done
  core_taken (Executed r None) none step goes = step ∙ add-one f.main.registers.done
  core_taken (Executed r (Some w)) none step goes = step.0 ∙ add-one f.main.registers.done
  core_taken Called none step goes = absurd (cc)
  core_taken Ended none step goes = absurd (cc)
  core_taken (Trapped t) none step goes = absurd (cc)
  core_taken Touched none step goes = absurd (cc)

  main_taken : next_call code limits f ≡ None → is_some (main_step code limits f).main.ending ≡ false
      → (main_step code limits f).main.registers.done ≡ suc f.main.registers.done
  main_taken none goes = by (has_spent limits f.main) refl
    where
      by : (b : Bool) → has_spent limits f.main ≡ b
          → (main_step code limits f).main.registers.done ≡ suc f.main.registers.done
      by true spent =
          absurd (both_ways _ goes (ap (λ (x : Flat). is_some x.main.ending) (main_step-spent code limits f on spent)))
      by false left =
          let core = main_step-core code limits f on left in
          ap (λ (x : Flat). x.main.registers.done) core
          ∙ core_taken (main_core code f) (sym (next_call-core code limits f on left) ∙ none) (main_core-step code f)
          (ap (λ (x : Flat). is_some x.main.ending) (sym core) ∙ goes)

  call_taken : (m : Memory) (p : MainState × Option Task) → steps_taken p.0 ≡ suc f.main.registers.done
      → is_some (call_ran code limits m p).main.ending ≡ false
      → (call_ran code limits m p).main.registers.done ≡ suc f.main.registers.done
  call_taken m (main, None) taken goes = sym (steps_taken-on main goes) ∙ taken
  call_taken m (main, Some t) taken goes = by (task_end code limits m t).trap goes
    where
      by : (o : Option Trap) → is_some (main_after_task main t o).ending ≡ false
          → (main_after_task main t o).registers.done ≡ suc f.main.registers.done
      by None goes = sym (steps_taken-on main goes) ∙ taken
      by (Some trap) goes = absurd (cc)

  -- a step that doesn't end main completes an instruction
  pub flat_step-taken : is_some (flat_step code limits f).main.ending ≡ false
      → (flat_step code limits f).main.registers.done ≡ suc f.main.registers.done
  flat_step-taken goes = by (next_call code limits f) refl
    where
      by : (c : Option Call) → next_call code limits f ≡ c
          → (flat_step code limits f).main.registers.done ≡ suc f.main.registers.done
      by None e =
          let step = flat_step-main code limits f e in
          ap (λ (x : Flat). x.main.registers.done) step
          ∙ main_taken e (ap (λ (x : Flat). is_some x.main.ending) (sym step) ∙ goes)
      by (Some c) e =
          let step = flat_step-call code limits f c e in
          ap (λ (x : Flat). x.main.registers.done) step
          ∙ call_taken f.memory (main_call limits f.memory f.main c) (main_call-step limits f.memory f.main on c)
          (ap (λ (x : Flat). is_some x.main.ending) (sym step) ∙ goes)

module _ (i : ImageState) (limits : Limits) where
  -- as long as main goes on, it has completed an instruction a step
  pub flat_stepped-done : (k : ℕ) → is_some (flat_stepped i limits k).main.ending ≡ false
      → (flat_stepped i limits k).main.registers.done ≡ k
  unfolding repeated
  flat_stepped-done zero goes = refl
  flat_stepped-done (suc k) goes =
      by (is_some (flat_stepped i limits k).main.ending) refl (flat_stepped-done k)
    where
      next : flat_stepped i limits (suc k) ≡ flat_step (frozen i) limits (flat_stepped i limits k)
      next = flat_stepped-next i limits k

      by : (b : Bool) → is_some (flat_stepped i limits k).main.ending ≡ b
          → (is_some (flat_stepped i limits k).main.ending ≡ false → (flat_stepped i limits k).main.registers.done ≡ k)
          → (flat_stepped i limits (suc k)).main.registers.done ≡ suc k
      by true ended before =
          absurd (both_ways _ goes (ap (λ (x : Flat). is_some x.main.ending)
          (next ∙ flat_step-ended (frozen i) limits (flat_stepped i limits k) ended) ∙ ended))
      by false on before =
          ap (λ (x : Flat). x.main.registers.done) next
          ∙ flat_step-taken (frozen i) limits (flat_stepped i limits k) on
          (ap (λ (x : Flat). is_some x.main.ending) (sym next) ∙ goes)
          ∙ ap suc (before on)

  -- ---- started tasks

  -- the task that program order starts with step k, if it starts one
  abbrev pub task_started : ℕ → Option Task
  task_started k = task_called limits (flat_stepped i limits k) (next_call (frozen i) limits (flat_stepped i limits k))

  called_next : (k : ℕ) (t : Task) (c : Option Call) → next_call (frozen i) limits (flat_stepped i limits k) ≡ c
      → task_called limits (flat_stepped i limits k) c ≡ Some t
      → is_some (flat_stepped i limits k).main.ending ≡ false
  called_next k t None e is = absurd (none-some t is)
  called_next k t (Some c) e is = next_call-on (frozen i) limits (flat_stepped i limits k) c e

  -- it is started after as many instructions, on the memory of that step
  pub started_at-step : (k : ℕ) (t : Task) → task_started k ≡ Some t
      → started_at i limits k ≡ Some (record { task = t; memory = (flat_stepped i limits k).memory })
  started_at-step k t is =
      let on = called_next k t (next_call (frozen i) limits (flat_stepped i limits k)) refl is in
      ap (started_in (frozen i) limits)
      (main_after-there i limits k (flat_stepped-done k on) (executed_on (flat_stepped i limits k).main.ending on))
      ∙ ap (option_map (λ t. record { task = t; memory = (flat_stepped i limits k).memory })) is

  -- and the other way round
  pub task_started-by : (k : ℕ) (s : Started) → started_at i limits k ≡ Some s → task_started k ≡ Some s.task
  task_started-by k s start =
      let by = started_at-by i limits k s start in
      ap (task_called limits (flat_stepped i limits k)) by.next ∙ ap (λ (p : MainState × Option Task). p.1) by.called

  -- the step to which it leads, with its end
  pub started-ran : (k : ℕ) (s : Started) → started_at i limits k ≡ Some s
      → (flat_stepped i limits (suc k)).memory ≡ (end_of_started i limits s).memory
  started-ran k s start =
      let by = started_at-by i limits k s start in
      ap (λ (f : Flat). f.memory)
      (flat_stepped-next i limits k
      ∙ flat_step-call (frozen i) limits (flat_stepped i limits k) by.call by.next
      ∙ ap (call_ran (frozen i) limits (flat_stepped i limits k).memory) by.called)
      ∙ ap (λ (m : Memory). (task_end (frozen i) limits m s.task).memory) (sym by.memory)

  -- its objects are named from then on
  pub started-names : (k : ℕ) (s : Started) → started_at i limits k ≡ Some s → (x : Range)
      → Has (objects_of (operands_of s.task)) x → Has (flat_stepped i limits (suc k)).main.epoch x
  started-names k s start x has =
      let by = started_at-by i limits k s start in
      let f = flat_stepped i limits k in
      let spawn = main_call-spawn limits f.memory f.main by.call by.main s.task by.called in
      let epoch : (flat_stepped i limits (suc k)).main.epoch
      ≡ name_objects f.main.epoch (objects_of (operands_of s.task)) =
      ap (λ (f : Flat). f.main.epoch)
      (flat_stepped-next i limits k ∙ flat_step-call (frozen i) limits f by.call by.next)
      ∙ call_ran-epoch (frozen i) limits f.memory (main_call limits f.memory f.main by.call)
      ∙ ap (λ (p : MainState × Option Task). p.0.epoch) by.called
      ∙ ap (λ (m : MainState). m.epoch) spawn.main_is in
      subst (λ (named : List Range). Has named x) (sym epoch)
      (name_objects-names f.main.epoch (objects_of (operands_of s.task)) x has)

  -- and it has the next number
  pub started-number : (k : ℕ) (s : Started) → started_at i limits k ≡ Some s
      → s.task.number ≡ suc (flat_stepped i limits k).main.spawned
  started-number k s start =
      let by = started_at-by i limits k s start in
      (main_call-spawn limits (flat_stepped i limits k).memory (flat_stepped i limits k).main by.call by.main s.task
      by.called).number
