-- Program order by steps of main: a stretch of main is as many steps, and after a task's trap there is no state.
use Rattle.std.proofs.Common.{◌≡◌, ℕ, zero, suc, ◌+◌, ◌-◌, ◌<◌, Bool, true, false, Option, Some, None, List, refl, sym}
use Rattle.std.proofs.Common.{ap, subst, ◌∙◌, arith, add-one, add-zero}
use Rattle.std.specs.Prelude.{cond, ◌==◌, ◌&&◌, is_some, option_map}
use Rattle.std.proofs.lemmas.Bool.{cond-true, cond-false, and_from, and_right, eq-eqb}
use Rattle.std.proofs.lemmas.Option.{none-some, same_Some}
use Rattle.tss_base.specs.declared.operand.Task.{Task}
use Rattle.tss_base.specs.declared.ending.Trap.{Trap}
use Rattle.tss_base.specs.declared.ending.Ending.{Ending}
use Rattle.tss_base.specs.declared.machine.Limits.{Limits}
use Rattle.tss_base.specs.Image.{SegmentState, ImageState}
use Rattle.tss_model.specs.Memory.{Memory, loaded, frozen, memory_ranges}
use Rattle.tss_model.specs.Access.{MainActor}
use Rattle.tss_model.specs.Core.{Stepped, Executed, Called, Ended, Trapped, Touched}
use Rattle.tss_model.specs.TaskRun.{repeated, task_end}
use Rattle.tss_model.specs.MainStep.{MainState, Flat, Call, has_spent, main_on, main_core, main_step, main_stretch}
use Rattle.tss_model.specs.MainStep.{called_by, next_call, main_call}
use Rattle.tss_model.specs.InOrder.{Started, flat_start, flat_step, flat_stepped, call_ran, main_after_task}
use Rattle.tss_model.specs.InOrder.{is_executed, main_after, started_at, started_in, task_called, end_of_started}
use Rattle.tss_program_order.specs.MainInOrder.{steps_taken}
use Rattle.tss_program_order.proofs.FlatCore.{IsStep}
use Rattle.tss_program_order.proofs.FlatMain.{main_step-leaves, main_core-step}
use Rattle.tss_program_order.proofs.FlatTask.{task_end-changes}
use Rattle.tss_program_order.proofs.FlatSteps.{repeated-add, repeated-last, repeated-still, repeated-keeps}
use Rattle.tss_program_order.proofs.FlatSteps.{main_step-ended, main_step-spent, main_step-core, next_call-spent}
use Rattle.tss_program_order.proofs.FlatSteps.{next_call-core, flat_step-main, flat_step-ended, flat_step-call}

-- ---- the ranges of memory

module _ (code : List SegmentState) (limits : Limits) where
  call_ran-ranges : (m : Memory) (p : MainState × Option Task) → (call_ran code limits m p).memory.ranges ≡ m.ranges
  call_ran-ranges m (main, None) = refl
  call_ran-ranges m (main, Some t) = (task_end-changes code limits m t).ranges

  -- a step in program order keeps them
  flat_step-ranges : (f : Flat) → (flat_step code limits f).memory.ranges ≡ f.memory.ranges
  flat_step-ranges f = by (next_call code limits f) refl
    where
      by : (c : Option Call) → next_call code limits f ≡ c → (flat_step code limits f).memory.ranges ≡ f.memory.ranges
      by None e =
          ap (λ (x : Flat). x.memory.ranges) (flat_step-main code limits f e) ∙ (main_step-leaves code limits f).ranges
      by (Some c) e =
          ap (λ (x : Flat). x.memory.ranges) (flat_step-call code limits f c e)
          ∙ call_ran-ranges f.memory (main_call limits f.memory f.main c)

-- so that they are always those of the image
pub flat_stepped-ranges : (i : ImageState) (limits : Limits) (n : ℕ)
    → (flat_stepped i limits n).memory.ranges ≡ memory_ranges i
unfolding loaded
flat_stepped-ranges i limits n =
    repeated-keeps (λ (f : Flat). f.memory.ranges ≡ memory_ranges i) (flat_step (frozen i) limits)
    (λ f kept. flat_step-ranges (frozen i) limits f ∙ kept) n (flat_start i) refl

-- ---- steps of main

-- main that hasn't ended has taken a step for each completed instruction
pub executed_on : (e : Option Ending) → is_some e ≡ false → is_executed e ≡ true
executed_on None on = refl
executed_on (Some e) on = absurd (cc)

-- so many steps it has taken
pub steps_taken-on : (m : MainState) → is_some m.ending ≡ false → steps_taken m ≡ m.registers.done
steps_taken-on m on = cond-true _ _ _ (executed_on m.ending on)

module _ (code : List SegmentState) (limits : Limits) where
  -- so many steps in program order lead from one machine to another, and main has taken as many more
  pub record Reaches (f g : Flat) : Type 0 where
    pub steps : ℕ
    pub reached : g ≡ repeated (flat_step code limits) steps f
    pub taken : steps_taken g.main ≡ steps_taken f.main + steps

  reaches_none : (f g : Flat) → g ≡ f → Reaches f g
  unfolding repeated
  reaches_none f g e =
      record {
        steps = 0;
        reached = e;
        taken = ap (λ (x : Flat). steps_taken x.main) e ∙ sym (add-zero (steps_taken f.main));
      }

  reaches_one : (f g : Flat) → is_some f.main.ending ≡ false → flat_step code limits f ≡ g
      → steps_taken g.main ≡ suc f.main.registers.done → Reaches f g
  unfolding repeated
  reaches_one f g on e taken = record {
    steps = 1;
    reached = sym e;
    taken = taken ∙ ap suc (sym (steps_taken-on f.main on)) ∙ sym (add-one (steps_taken f.main));
  }

  -- steps after steps
  reaches_then : (f g h : Flat) → Reaches f g → Reaches g h → Reaches f h
  reaches_then f g h p q = record {
    steps = p.steps + q.steps;
    reached =
        q.reached ∙ ap (repeated (flat_step code limits) q.steps) p.reached
        ∙ sym (repeated-add (flat_step code limits) p.steps q.steps f);
    taken = q.taken ∙ ap (λ n. n + q.steps) p.taken ∙ three (steps_taken f.main) p.steps q.steps;
  }
    where
      three : (a b c : ℕ) → (a + b) + c ≡ a + (b + c)
      three a b c = omega arith

  -- a step of main's core that is no call
  core-reaches : (f : Flat) → is_some f.main.ending ≡ false → has_spent limits f.main ≡ false → (x : Stepped)
      → main_core code f ≡ x → IsStep (MainActor f.memory.ranges f.main.epoch) f.main.registers x
      → Reaches f (main_on f x)
  core-reaches f on left x e step = by x e step
    where
      next : (x : Stepped) → main_core code f ≡ x → called_by f.main.registers x ≡ None
          → flat_step code limits f ≡ main_on f x
      next x e none =
          flat_step-main code limits f
          (next_call-core code limits f on left ∙ ap (called_by f.main.registers) e ∙ none)
          ∙ main_step-core code limits f on left
          ∙ ap (main_on f) e

      by : (x : Stepped) → main_core code f ≡ x → IsStep (MainActor f.memory.ranges f.main.epoch) f.main.registers x
          → Reaches f (main_on f x)
      by (Executed r None) e step =
          reaches_one f (main_on f (Executed r None)) on (next (Executed r None) e refl)
          (steps_taken-on (record (f.main) { registers = r }) on ∙ step ∙ add-one f.main.registers.done)
      by (Executed r (Some w)) e step =
          reaches_one f (main_on f (Executed r (Some w))) on (next (Executed r (Some w)) e refl)
          (steps_taken-on (record (f.main) { registers = r }) on ∙ step.0 ∙ add-one f.main.registers.done)
      by Called e step = reaches_none f f refl
      by Ended e step = reaches_one f (main_on f Ended) on (next Ended e refl) refl
      by (Trapped t) e step = reaches_one f (main_on f (Trapped t)) on (next (Trapped t) e refl) refl
      by Touched e step = reaches_one f (main_on f Touched) on (next Touched e refl) refl

  main_step-reaches : (f : Flat) → Reaches f (main_step code limits f)
  main_step-reaches f = by (is_some f.main.ending) (has_spent limits f.main) refl refl
    where
      by : (e s : Bool) → is_some f.main.ending ≡ e → has_spent limits f.main ≡ s → Reaches f (main_step code limits f)
      by true s ended spent = reaches_none f (main_step code limits f) (main_step-ended code limits f ended)
      by false true on spent =
          reaches_one f (main_step code limits f) on
          (flat_step-main code limits f (next_call-spent code limits f spent))
          (ap (λ (x : Flat). steps_taken x.main) (main_step-spent code limits f on spent))
      by false false on left =
          subst (Reaches f) (sym (main_step-core code limits f on left))
          (core-reaches f on left (main_core code f) refl (main_core-step code f))

  -- a stretch of main is as many steps in program order
  pub main_stretch-reaches : (n : ℕ) (f : Flat) → Reaches f (main_stretch code limits n f)
  unfolding repeated
  main_stretch-reaches zero f = reaches_none f f refl
  main_stretch-reaches (suc n) f =
      reaches_then f (main_step code limits f) (main_stretch code limits (suc n) f) (main_step-reaches f)
      (main_stretch-reaches n (main_step code limits f))

-- ---- states after instructions

module _ (i : ImageState) (limits : Limits) where
  -- where so many steps have completed as many instructions, there is a state
  pub main_after-there : (k : ℕ) → (flat_stepped i limits k).main.registers.done ≡ k
      → is_executed (flat_stepped i limits k).main.ending ≡ true
      → main_after i limits k ≡ Some (flat_stepped i limits k)
  main_after-there k done executed = cond-true _ _ _ (and_from _ _ (eq-eqb _ _ done) executed)

  -- where another ending has come, there is none
  main_after-ended : (k : ℕ) → is_executed (flat_stepped i limits k).main.ending ≡ false
      → main_after i limits k ≡ None
  main_after-ended k ended = cond-false _ _ _ (and_right _ _ ended)

  -- the state that there is
  pub main_after-is : (k : ℕ) (f : Flat) → main_after i limits k ≡ Some f → flat_stepped i limits k ≡ f
  main_after-is k f e = by (((flat_stepped i limits k).main.registers.done == k)
      && is_executed (flat_stepped i limits k).main.ending) e
    where
      by : (b : Bool) → cond b (Some (flat_stepped i limits k)) None ≡ Some f → flat_stepped i limits k ≡ f
      by true e = same_Some (flat_stepped i limits k) f e
      by false e = absurd (none-some f e)

  -- one step more
  pub flat_stepped-next : (k : ℕ)
      → flat_stepped i limits (suc k) ≡ flat_step (frozen i) limits (flat_stepped i limits k)
  flat_stepped-next k = repeated-last (flat_step (frozen i) limits) k (flat_start i)

  -- an ending stays
  pub flat_stepped-ended : (j k : ℕ) → is_some (flat_stepped i limits j).main.ending ≡ true
      → flat_stepped i limits (j + k) ≡ flat_stepped i limits j
  flat_stepped-ended j k ended =
      repeated-add (flat_step (frozen i) limits) j k (flat_start i)
      ∙ repeated-still (flat_step (frozen i) limits) k (flat_stepped i limits j)
      (flat_step-ended (frozen i) limits (flat_stepped i limits j) ended)

-- ---- a task that traps

-- what a started task comes from
pub record StartedBy (i : ImageState) (limits : Limits) (k : ℕ) (s : Started) : Type 0 where
  pub call : Call
  pub main : MainState
  pub next : next_call (frozen i) limits (flat_stepped i limits k) ≡ Some call
  pub called : main_call limits (flat_stepped i limits k).memory (flat_stepped i limits k).main call
      ≡ (main, Some s.task)
  pub memory : s.memory ≡ (flat_stepped i limits k).memory

module _ (i : ImageState) (limits : Limits) (k : ℕ) where
  started_by : (f : Flat) (c : Option Call) (s : Started)
      → option_map (λ t. record { task = t; memory = f.memory }) (task_called limits f c) ≡ Some s
      → (call : Call) × (main : MainState) × (c ≡ Some call)
      × (main_call limits f.memory f.main call ≡ (main, Some s.task)) × (s.memory ≡ f.memory)
  started_by f None s e = absurd (none-some s e)
  started_by f (Some call) s e = by (main_call limits f.memory f.main call) refl e
    where
      by : (p : MainState × Option Task) → main_call limits f.memory f.main call ≡ p
          → option_map (λ t. record { task = t; memory = f.memory }) p.1 ≡ Some s
          → (c : Call) × (main : MainState) × (Some call ≡ Some c)
          × (main_call limits f.memory f.main c ≡ (main, Some s.task)) × (s.memory ≡ f.memory)
      by (main, None) d e = absurd (none-some s e)
      by (main, Some t) d e =
          let same = same_Some (record { task = t; memory = f.memory }) s e in
          (call, main, refl, d ∙ (λ j. (main, Some (same j).task)), λ j. (sym same j).memory)

  -- what it comes from, where program order starts it
  pub started_at-by : (s : Started) → started_at i limits k ≡ Some s → StartedBy i limits k s
  started_at-by s e = by (main_after i limits k) refl e
    where
      by : (o : Option Flat) → main_after i limits k ≡ o → started_in (frozen i) limits o ≡ Some s
          → StartedBy i limits k s
      by None d e = absurd (none-some s e)
      by (Some f) d e =
          let here = main_after-is i limits k f d in
          let parts = started_by f (next_call (frozen i) limits f) s e in
          record {
            call = parts.0;
            main = parts.1;
            next = ap (next_call (frozen i) limits) here ∙ parts.2;
            called = ap (λ (x : Flat). main_call limits x.memory x.main parts.0) here ∙ parts.3;
            memory = parts.4 ∙ ap (λ (x : Flat). x.memory) (sym here);
          }

  -- a started task that traps ends program order with the next step
  pub trapped_next : (s : Started) (trap : Trap) → StartedBy i limits k s → (end_of_started i limits s).trap ≡ Some trap
      → (flat_stepped i limits (suc k)).main.ending ≡ Some (Ending.TaskTrap s.task.number trap)
  trapped_next s trap by trapped =
      ap (λ (x : Flat). x.main.ending)
      (flat_stepped-next i limits k
      ∙ flat_step-call (frozen i) limits (flat_stepped i limits k) by.call by.next
      ∙ ap (call_ran (frozen i) limits (flat_stepped i limits k).memory) by.called)
      ∙ ap (λ (o : Option Trap). (main_after_task by.main s.task o).ending)
      (ap (λ (m : Memory). (task_end (frozen i) limits m s.task).trap) (sym by.memory) ∙ trapped)

  -- so that no state follows
  pub trapped_after : (s : Started) (trap : Trap) (n : ℕ) → started_at i limits k ≡ Some s
      → (end_of_started i limits s).trap ≡ Some trap → k < n → main_after i limits n ≡ None
  trapped_after s trap n start trapped later =
      let ending = trapped_next s trap (started_at-by s start) trapped in
      let count : n ≡ suc k + (n - suc k) = omega arith in
      main_after-ended i limits n
      (ap (λ (j : ℕ). is_executed (flat_stepped i limits j).main.ending) count
      ∙ ap (λ (x : Flat). is_executed x.main.ending)
      (flat_stepped-ended i limits (suc k) (n - suc k) (ap is_some ending))
      ∙ ap is_executed ending)
