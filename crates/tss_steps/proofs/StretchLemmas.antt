-- Stretches of main and of a task, step by step.
use Rattle.std.proofs.Common.{◌≡◌, ℕ, zero, suc, ◌-◌, ◌<◌, true, List, Option, None, refl, sym, ap, subst, ◌∙◌, arith}
use Rattle.std.specs.Prelude.{is_some}
use Rattle.std.proofs.lemmas.Bool.{cond-true}
use Rattle.tss_base.specs.declared.range.Range.{Range}
use Rattle.tss_base.specs.declared.ending.Ending.{Ending}
use Rattle.tss_base.specs.declared.ending.Trap.{Trap}
use Rattle.tss_base.specs.declared.machine.Limits.{Limits}
use Rattle.tss_base.specs.Image.{SegmentState}
use Rattle.tss_model.specs.Memory.{Memory}
use Rattle.tss_model.specs.Registers.{Registers}
use Rattle.tss_model.specs.TaskRun.{TaskState, repeated}
use Rattle.tss_model.specs.MainStep.{Flat, main_step, main_stretch}
use Rattle.tss_operands.specs.Naming.{EpochState}
use Rattle.tss_steps.specs.Seen.{Terms}
use Rattle.tss_steps.specs.Tasks as turn
use Rattle.tss_steps.specs.Tasks.{task_now, step_by, stretch_by, Turns, LeftOfTask}
use Rattle.tss_steps.specs.Mains.{MainTurn, Further, Rests, StepsMain, StretchesMain, LeftOfMain}
use Rattle.tss_steps.specs.Left.{IsSameMain}
use Rattle.tss_steps.specs.declared.mains.MainView.{MainView}
use Rattle.tss_steps.proofs.StepLemmas.{repeated-suc, repeated-still}

-- no step leaves all as it is
repeated-none : {A : Type 0} (f : A → A) (n : ℕ) (a : A) → n ≡ 0 → repeated f n a ≡ a
unfolding repeated
repeated-none f zero a e = refl
repeated-none f (suc n) a e = absurd (omega arith)

-- one step of those that are left
one_less : {A : Type 0} (f : A → A) (n : ℕ) (a b : A) → 0 < n → f a ≡ b → repeated f n a ≡ repeated f (n - 1) b
one_less f n a b some e =
    let count : n ≡ suc (n - 1) = omega arith in
    ap (λ (k : ℕ). repeated f k a) count ∙ repeated-suc f (n - 1) a b e

-- the last of them
no_more : {A : Type 0} (f : A → A) (n : ℕ) (a b : A) → 0 < n → ((k : ℕ) → repeated f (suc k) a ≡ b) → repeated f n a ≡ b
no_more f n a b some rests =
    let count : n ≡ suc (n - 1) = omega arith in
    ap (λ (k : ℕ). repeated f k a) count ∙ rests (n - 1)

-- ---- main

pub same_main : (u v w : MainView) → IsSameMain u v → IsSameMain v w → IsSameMain u w
same_main u v w p q = record { code = q.code ∙ p.code; epoch = q.epoch ∙ p.epoch; reference = q.reference ∙ p.reference }

-- a step of the same machine
pub step_of_same : (limits : Limits) (u v : MainView) → IsSameMain u v → (r q : Registers) (m n : Memory) (t : MainTurn)
    → StepsMain v.code.now limits v.epoch.now.objects r m q n t → StepsMain u.code.now limits u.epoch.now.objects r m q n t
step_of_same limits u v same r q m n t steps =
    subst (λ (e : EpochState). StepsMain u.code.now limits e.objects r m q n t) same.epoch
    (subst (λ (c : List SegmentState). StepsMain c limits v.epoch.now.objects r m q n t) same.code steps)

module _ (code : List SegmentState) (limits : Limits) (objects : List Range) (left most : ℕ) (q r : Registers) (n m : Memory)
    (on : LeftOfMain code limits objects left q n most r m) where
  pub main_further : 0 < left → (p : Registers) (k : Memory) → StepsMain code limits objects q n p k Further → LeftOfMain code limits objects (left - 1) p k most r m
  main_further some p k steps spawned pieces =
      sym (one_less (main_step code limits) left _ _ some (steps spawned pieces)) ∙ on spawned pieces

  pub main_rests : 0 < left → (p : Registers) (k : Memory) (e : Option Ending) → StepsMain code limits objects q n p k (Rests e) → StretchesMain code limits objects most r m p k e
  main_rests some p k e steps spawned pieces =
      sym (no_more (main_step code limits) left _ _ some (steps spawned pieces)) ∙ on spawned pieces

  pub main_stretched : left ≡ 0 → StretchesMain code limits objects most r m q n None
  main_stretched none spawned pieces = sym (repeated-none (main_step code limits) left _ none) ∙ on spawned pieces

-- main that has ended stays as it is
ended-still : (code : List SegmentState) (limits : Limits) (f : Flat) → is_some (f.main.ending) ≡ true → main_step code limits f ≡ f
unfolding main_step
ended-still code limits f ended = cond-true _ _ _ ended

pub stretch-ended : (code : List SegmentState) (limits : Limits) (most : ℕ) (f : Flat) → is_some (f.main.ending) ≡ true → main_stretch code limits most f ≡ f
stretch-ended code limits most f ended = repeated-still (main_step code limits) most f (ended-still code limits f ended)

-- ---- a task

module _ {M : Type 0} (t u : Terms M) (same : u ≡ t) (budget left most : ℕ) (q r : Registers) (ys xs : List ℕ) (n m : M)
    (on : LeftOfTask t budget left q ys n most r xs m) where
  -- the step is the same
  as_first : step_by u budget ≡ step_by t budget
  as_first = ap (λ (x : Terms M). step_by x budget) same

  pub task_further : 0 < left → (p : Registers) (zs : List ℕ) (k : M) → Turns (step_by u budget) (task_now q ys n None) p zs k turn.Further
      → LeftOfTask t budget (left - 1) p zs k most r xs m
  task_further some p zs k turns =
      sym (one_less (step_by t budget) left _ _ some
      (subst (λ (f : TaskState M → TaskState M). f (task_now q ys n None) ≡ task_now p zs k None) as_first turns))
      ∙ on

  pub task_over : 0 < left → (p : Registers) (zs : List ℕ) (k : M) (trap : Option Trap) → Turns (step_by u budget) (task_now q ys n None) p zs k (turn.Over trap)
      → task_now p zs k trap ≡ stretch_by t budget most (task_now r xs m None)
  task_over some p zs k trap turns =
      sym (no_more (step_by t budget) left _ _ some
      (subst (λ (f : TaskState M → TaskState M). (j : ℕ) → repeated f (suc j) (task_now q ys n None) ≡ task_now p zs k trap) as_first turns))
      ∙ on

  pub task_stretched : left ≡ 0 → task_now q ys n None ≡ stretch_by t budget most (task_now r xs m None)
  task_stretched none = sym (repeated-none (step_by t budget) left _ none) ∙ on
