-- Tasks of program order by their numbers: each number up to those spawned is that of one task that was started.
use Rattle.std.proofs.Common.{◌≡◌, ℕ, zero, suc, ◌+◌, ◌-◌, ◌<◌, ◌≤◌, inl, inr, Option, Some, None, List, refl, ap}
use Rattle.std.proofs.Common.{subst, ◌∙◌, arith}
use Rattle.std.proofs.lemmas.Bool.{cases_lt, cases_order}
use Rattle.tss_base.specs.declared.operand.Task.{Task}
use Rattle.tss_base.specs.declared.ending.Trap.{Trap}
use Rattle.tss_base.specs.declared.machine.Limits.{Limits}
use Rattle.tss_base.specs.Image.{SegmentState, ImageState}
use Rattle.tss_model.specs.Memory.{Memory, frozen}
use Rattle.tss_model.specs.TaskRun.{repeated, task_end}
use Rattle.tss_model.specs.MainStep.{MainState, Flat, Call, next_call, main_call}
use Rattle.tss_model.specs.InOrder.{Started, flat_step, flat_stepped, call_ran, main_after_task, started_at}
use Rattle.tss_model.specs.InOrder.{task_called}
use Rattle.tss_program_order.proofs.FlatSteps.{flat_step-main, flat_step-call}
use Rattle.tss_program_order.proofs.FlatMain.{main_step-leaves}
use Rattle.tss_program_order.proofs.FlatOrder.{flat_stepped-next}
use Rattle.tss_program_order.proofs.FlatSpawn.{main_call-spawn, main_call-unspawned}
use Rattle.tss_program_order.proofs.FlatStarts.{task_started, started_at-step, task_started-by, started-number}

-- ---- one step

module _ (code : List SegmentState) (limits : Limits) where
  -- the task of a call leaves their number
  pub call_ran-spawned : (m : Memory) (p : MainState × Option Task)
      → (call_ran code limits m p).main.spawned ≡ p.0.spawned
  call_ran-spawned m (main, None) = refl
  call_ran-spawned m (main, Some t) = by (task_end code limits m t).trap
    where
      by : (o : Option Trap) → (main_after_task main t o).spawned ≡ main.spawned
      by None = refl
      by (Some trap) = refl

  -- a step that starts no task leaves the number of tasks, and one that does raises it by one
  abbrev SpawnsBy : Flat → Option Task → Type 0
  SpawnsBy f None = (flat_step code limits f).main.spawned ≡ f.main.spawned
  SpawnsBy f (Some t) = (flat_step code limits f).main.spawned ≡ suc f.main.spawned

  spawns_called : (f : Flat) (c : Call) (p : MainState × Option Task) → next_call code limits f ≡ Some c
      → main_call limits f.memory f.main c ≡ p → SpawnsBy f p.1
  spawns_called f c (main, None) e d =
      ap (λ (x : Flat). x.main.spawned) (flat_step-call code limits f c e)
      ∙ call_ran-spawned f.memory (main_call limits f.memory f.main c)
      ∙ ap (λ (p : MainState × Option Task). p.0.spawned) d
      ∙ main_call-unspawned limits f.memory f.main c main d
  spawns_called f c (main, Some t) e d =
      ap (λ (x : Flat). x.main.spawned) (flat_step-call code limits f c e)
      ∙ call_ran-spawned f.memory (main_call limits f.memory f.main c)
      ∙ ap (λ (p : MainState × Option Task). p.0.spawned) d
      ∙ ap (λ (x : MainState). x.spawned) (main_call-spawn limits f.memory f.main c main t d).main_is

  flat_step-spawns : (f : Flat) → SpawnsBy f (task_called limits f (next_call code limits f))
  flat_step-spawns f = by (next_call code limits f) refl
    where
      by : (c : Option Call) → next_call code limits f ≡ c → SpawnsBy f (task_called limits f c)
      by None e =
          ap (λ (x : Flat). x.main.spawned) (flat_step-main code limits f e) ∙ (main_step-leaves code limits f).spawned
      by (Some c) e = spawns_called f c (main_call limits f.memory f.main c) e refl

-- ---- numbers

module _ (i : ImageState) (limits : Limits) where
  -- the tasks spawned after so many steps
  abbrev spawned_by : ℕ → ℕ
  spawned_by k = (flat_stepped i limits k).main.spawned

  step_none : (k : ℕ) → task_started i limits k ≡ None → spawned_by (suc k) ≡ spawned_by k
  step_none k none =
      ap (λ (f : Flat). f.main.spawned) (flat_stepped-next i limits k)
      ∙ subst (SpawnsBy (frozen i) limits (flat_stepped i limits k)) none
      (flat_step-spawns (frozen i) limits (flat_stepped i limits k))

  -- a step that starts a task raises their number
  pub step_one : (k : ℕ) (t : Task) → task_started i limits k ≡ Some t → spawned_by (suc k) ≡ suc (spawned_by k)
  step_one k t is =
      ap (λ (f : Flat). f.main.spawned) (flat_stepped-next i limits k)
      ∙ subst (SpawnsBy (frozen i) limits (flat_stepped i limits k)) is
      (flat_step-spawns (frozen i) limits (flat_stepped i limits k))

  -- it never falls by a step
  pub step_rises : (k : ℕ) → spawned_by k ≤ spawned_by (suc k)
  step_rises k = by (task_started i limits k) refl
    where
      by : (o : Option Task) → task_started i limits k ≡ o → spawned_by k ≤ spawned_by (suc k)
      by None none = omega (arith, step_none k none)
      by (Some t) is = omega (arith, step_one k t is)

  -- the number of tasks never falls
  pub spawned_rises : (j n : ℕ) → spawned_by j ≤ spawned_by (j + n)
  spawned_rises j zero =
      let same : j + zero ≡ j = omega arith in
      omega (arith, ap spawned_by same)
  spawned_rises j (suc n) =
      let same : j + suc n ≡ suc (j + n) = omega arith in
      omega (arith, ap spawned_by same, step_rises (j + n), spawned_rises j n)

  -- a number is that of a task that was started before
  pub record HasNumber (n k : ℕ) : Type 0 where
    pub place : ℕ
    pub before : place < k
    pub started : Started
    pub start : started_at i limits place ≡ Some started
    pub number : started.task.number ≡ n

  later_number : (n k : ℕ) → HasNumber n k → HasNumber n (suc k)
  later_number n k h = record {
    place = h.place;
    before = omega (arith, h.before);
    started = h.started;
    start = h.start;
    number = h.number;
  }

  number_more : (n k : ℕ) → n ≤ spawned_by (suc k) → (n ≤ spawned_by k → HasNumber n k) → HasNumber n (suc k)
  number_more n k few before = by (task_started i limits k) refl
    where
      by : (o : Option Task) → task_started i limits k ≡ o → HasNumber n (suc k)
      by None none = later_number n k (before (omega (arith, few, step_none k none)))
      by (Some t) is = elim (cases_lt (spawned_by k) n) [
        | inl new ↦
            let start = started_at-step i limits k t is in
            let number = started-number i limits k (record { task = t; memory = (flat_stepped i limits k).memory })
            start in
            record {
              place = k;
              before = omega arith;
              started = record { task = t; memory = (flat_stepped i limits k).memory };
              start = start;
              number = omega (arith, number, few, step_one k t is, new);
            }
        | inr old ↦ later_number n k (before old)
      ]

  -- each number up to those spawned is
  pub number_there : (n k : ℕ) → 0 < n → n ≤ spawned_by k → HasNumber n k
  unfolding repeated
  number_there n zero some few = absurd (omega (arith, some, few))
  number_there n (suc k) some few = number_more n k few (number_there n k some)

  -- a later started task has a greater number
  pub numbers_rise : (j k : ℕ) (s t : Started) → started_at i limits j ≡ Some s → started_at i limits k ≡ Some t → j < k
      → s.task.number < t.task.number
  numbers_rise j k s t start also before =
      let first = started-number i limits j s start in
      let second = started-number i limits k t also in
      let one = step_one j s.task (task_started-by i limits j s start) in
      let count : k ≡ suc j + (k - suc j) = omega arith in
      let rises = spawned_rises (suc j) (k - suc j) in
      omega (arith, first, second, one, rises, ap spawned_by count)

  -- and of one alone
  pub one_place : (j k : ℕ) (s t : Started) → started_at i limits j ≡ Some s → started_at i limits k ≡ Some t
      → s.task.number ≡ t.task.number → j ≡ k
  one_place j k s t start also same = elim (cases_order j k) [
    | inl here ↦ here
    | inr (inl before) ↦ let less = numbers_rise j k s t start also before in absurd (omega (arith, less, same))
    | inr (inr after) ↦ let less = numbers_rise k j t s also start after in absurd (omega (arith, less, same))
  ]
