-- Steps that are repeated, and one step of main by what its core does.
use Rattle.std.proofs.Common.{◌≡◌, ℕ, zero, suc, ◌+◌, Bool, true, false, Some, None, List, refl, sym, ap, ◌∙◌, arith}
use Rattle.std.specs.Prelude.{is_some}
use Rattle.std.proofs.lemmas.Bool.{cond-true, cond-false, or_left, or_right, or_from}
use Rattle.std.proofs.lemmas.Option.{none-some}
use Rattle.tss_base.specs.declared.machine.Limits.{Limits}
use Rattle.tss_base.specs.Image.{SegmentState}
use Rattle.tss_base.specs.declared.refusals.TheConstants.{MAIN_BUDGET_SPENT}
use Rattle.tss_model.specs.TaskRun.{repeated}
use Rattle.tss_model.specs.MainStep.{Flat, Call, main_refused, has_spent, main_on, main_core, main_step, called_by}
use Rattle.tss_model.specs.MainStep.{next_call}
use Rattle.tss_model.specs.InOrder.{flat_by, flat_step}

-- ---- steps that are repeated

-- m steps and then n steps are m + n steps
pub repeated-add : {A : Type 0} (f : A → A) (m n : ℕ) (a : A) → repeated f (m + n) a ≡ repeated f n (repeated f m a)
unfolding repeated
repeated-add f zero n a = ap (λ k. repeated f k a) none where
  none : zero + n ≡ n
  none = omega arith
repeated-add f (suc m) n a = ap (λ k. repeated f k a) more ∙ repeated-add f m n (f a) where
  more : suc m + n ≡ suc (m + n)
  more = omega arith

-- and so is one step after n
pub repeated-last : {A : Type 0} (f : A → A) (n : ℕ) (a : A) → repeated f (suc n) a ≡ f (repeated f n a)
unfolding repeated
repeated-last f zero a = refl
repeated-last f (suc n) a = repeated-last f n (f a)

-- a step that leaves things as they are leaves them so however often it is done
pub repeated-still : {A : Type 0} (f : A → A) (n : ℕ) (a : A) → f a ≡ a → repeated f n a ≡ a
unfolding repeated
repeated-still f zero a e = refl
repeated-still f (suc n) a e = ap (repeated f n) e ∙ repeated-still f n a e

-- what a step keeps stays however often it is done
pub repeated-keeps : {A : Type 0} (P : A → Type 0) (f : A → A) → ((a : A) → P a → P (f a)) → (n : ℕ) (a : A) → P a
    → P (repeated f n a)
unfolding repeated
repeated-keeps P f kept zero a p = p
repeated-keeps P f kept (suc n) a p = repeated-keeps P f kept n (f a) (kept a p)

-- ---- one step of main

module _ (code : List SegmentState) (limits : Limits) (f : Flat) where
  -- main that has ended stays
  pub main_step-ended : is_some f.main.ending ≡ true → main_step code limits f ≡ f
  unfolding main_step
  main_step-ended ended = cond-true _ _ _ ended

  -- main that has spent its budget is refused
  pub main_step-spent : is_some f.main.ending ≡ false → has_spent limits f.main ≡ true
      → main_step code limits f ≡ record f { main = main_refused f.main MAIN_BUDGET_SPENT }
  unfolding main_step
  main_step-spent on spent = cond-false _ _ _ on ∙ cond-true _ _ _ spent

  -- else its core takes a step
  pub main_step-core : is_some f.main.ending ≡ false → has_spent limits f.main ≡ false
      → main_step code limits f ≡ main_on f (main_core code f)
  unfolding main_step
  main_step-core on left = cond-false _ _ _ on ∙ cond-false _ _ _ left

  -- and only then a call may come next
  next_call-ended : is_some f.main.ending ≡ true → next_call code limits f ≡ None
  next_call-ended ended = cond-true _ _ _ (or_left _ _ ended)

  -- where the budget is spent there is none
  pub next_call-spent : has_spent limits f.main ≡ true → next_call code limits f ≡ None
  next_call-spent spent = cond-true _ _ _ (or_right _ _ spent)

  -- else it is the call that main's core meets
  pub next_call-core : is_some f.main.ending ≡ false → has_spent limits f.main ≡ false
      → next_call code limits f ≡ called_by f.main.registers (main_core code f)
  next_call-core on left = cond-false _ _ _ (or_from _ _ on left)

  -- a step in program order that is no call is such a step
  pub flat_step-main : next_call code limits f ≡ None → flat_step code limits f ≡ main_step code limits f
  unfolding flat_step
  flat_step-main none = ap (flat_by code limits f) none

  -- and main that has ended stays there too
  pub flat_step-ended : is_some f.main.ending ≡ true → flat_step code limits f ≡ f
  flat_step-ended ended = flat_step-main (next_call-ended ended) ∙ main_step-ended ended

  -- one that is a call
  pub flat_step-call : (c : Call) → next_call code limits f ≡ Some c
      → flat_step code limits f ≡ flat_by code limits f (Some c)
  unfolding flat_step
  flat_step-call c e = ap (flat_by code limits f) e

  -- where a call comes next, main hasn't ended
  pub next_call-on : (c : Call) → next_call code limits f ≡ Some c → is_some f.main.ending ≡ false
  next_call-on c e = by (is_some f.main.ending) refl
    where
      by : (b : Bool) → is_some f.main.ending ≡ b → is_some f.main.ending ≡ false
      by true ended = absurd (none-some c (sym (next_call-ended ended) ∙ e))
      by false on = on
