-- What a call of main was, by what it answers.
use Rattle.std.proofs.Common.{◌≡◌, ℕ, suc, Bool, true, false, Option, Some, None, Result, Ok, Err, refl, sym, ap, ◌∙◌}
use Rattle.std.specs.Prelude.{◌==◌, cond, is_some}
use Rattle.tss_base.specs.declared.calls.TheConstants.{EXIT, SPAWN, BARRIER, PRINT, AWAIT}
use Rattle.tss_base.specs.declared.operand.Task.{Task}
use Rattle.tss_base.specs.declared.ending.Ending.{Ending}
use Rattle.tss_base.specs.declared.ending.Trap.{Trap}
use Rattle.tss_model.specs.Spawn.{spawn_of}
use Rattle.tss_base.specs.declared.machine.Limits.{Limits}
use Rattle.tss_model.specs.TaskRun.{task_stepped, task_end}
use Rattle.tss_model.specs.MainStep.{MainState, Call, ExitCall, Spawn, Barrier, Print, Await, Unknown, call_of, spawn_call, spawn_on, next_call, main_call, awaited_object}
use Rattle.tss_model.specs.InOrder.{main_after_task, task_ran}
use Rattle.tss_program_order.proofs.FlatSteps.{next_call-on}
use Rattle.tss_inorder.specs.Flats.{FlatState, flat_of, with_flat, did_spawn, did_await, did_by, did_at, did_end, did_ran, done_by}
use Rattle.tss_inorder.specs.declared.flat.Did.{Did}
use Rattle.tss_inorder.specs.declared.flat.Did.TheVariants as did

some_none : (e : Ending) (o : Option Ending) → Some e ≡ o → o ≡ None → ⊥
some_none e o p q = none_some (sym (p ∙ q)) where
  none_some : {x : Ending} → None ≡ Some x → ⊥
  none_some h = cc

-- ---- a call that spawned nothing

module _ (s : FlatState) (m : MainState) (goes : m.ending ≡ None) where
  -- it didn't end main, so it is no refused spawn
  no_spawn : (r : Result Task ℕ) → spawn_on s.main r ≡ (m, None) → ⊥
  no_spawn (Ok t) e = absurd (none_task (sym (ap (λ (p : MainState × Option Task). p.1) e))) where
    none_task : {x : Task} → None ≡ Some x → ⊥
    none_task h = cc
  no_spawn (Err n) e = some_none _ m.ending (ap (λ (p : MainState × Option Task). (p.0).ending) e) goes

  -- by which number it has
  abbrev by_flags : Bool → Bool → Bool → Bool → Bool → ℕ → Call
  by_flags exit spawn barrier print await n =
      cond exit ExitCall (cond spawn Spawn (cond barrier Barrier (cond print Print (cond await Await (Unknown n)))))

  by_number : (exit spawn barrier print await : Bool) (n : ℕ)
      → main_call s.limits s.memory s.main (by_flags exit spawn barrier print await n) ≡ (m, None)
      → cond barrier did.Barrier (cond print did.Printed (did_await (awaited_object s.main))) ≡ did_by s (Some (by_flags exit spawn barrier print await n))
  by_number true spawn barrier print await n e = absurd (some_none _ m.ending (ap (λ (p : MainState × Option Task). (p.0).ending) e) goes)
  by_number false true barrier print await n e = absurd (no_spawn (spawn_of (spawn_call s.main.registers) s.memory s.main.epoch s.limits s.main.spawned) e)
  by_number false false true print await n e = refl
  by_number false false false true await n e = refl
  by_number false false false false true n e = refl
  by_number false false false false false n e = absurd (some_none _ m.ending (ap (λ (p : MainState × Option Task). (p.0).ending) e) goes)

  pub did_by-number : (n : ℕ) → main_call s.limits s.memory s.main (call_of n) ≡ (m, None)
      → done_by n (awaited_object s.main) ≡ did_by s (Some (call_of n))
  did_by-number n e = by_number (n == EXIT) (n == SPAWN) (n == BARRIER) (n == PRINT) (n == AWAIT) n e

-- ---- a call that spawned a task

-- main goes on after a spawn, which was it
pub did_by-spawned : (s : FlatState) (m : MainState) (t : Task) (c : Call) → main_call s.limits s.memory s.main c ≡ (m, Some t)
    → (m.ending ≡ s.main.ending) × (did_by s (Some c) ≡ did.Spawned t (task_stepped s.code s.limits s.memory t (suc s.limits.task_budget)).registers.done)
did_by-spawned s m t c e = by c e
  where
    some_task : {x y : Task} → Some x ≡ Some y → x ≡ y
    some_task h = cc

    none_task : {x : Task} → None ≡ Some x → ⊥
    none_task h = cc

    task_is : (p : MainState × Option Task) → p ≡ (m, Some t) → p.1 ≡ Some t
    task_is p h = ap (λ (q : MainState × Option Task). q.1) h

    spawned : (r : Result Task ℕ) → spawn_on s.main r ≡ (m, Some t) → (m.ending ≡ s.main.ending) × (did_spawn s (spawn_on s.main r).1 ≡ did_spawn s (Some t))
    spawned (Ok x) h = (sym (ap (λ (q : MainState × Option Task). (q.0).ending) h), ap (did_spawn s) (task_is _ h))
    spawned (Err n) h = absurd (none_task (task_is _ h))

    by : (c : Call) → main_call s.limits s.memory s.main c ≡ (m, Some t)
        → (m.ending ≡ s.main.ending) × (did_by s (Some c) ≡ did.Spawned t (task_stepped s.code s.limits s.memory t (suc s.limits.task_budget)).registers.done)
    by ExitCall h = absurd (none_task (task_is _ h))
    by Spawn h = spawned (spawn_of (spawn_call s.main.registers) s.memory s.main.epoch s.limits s.main.spawned) h
    by Barrier h = absurd (none_task (task_is _ h))
    by Print h = absurd (none_task (task_is _ h))
    by Await h = absurd (none_task (task_is _ h))
    by (Unknown n) h = absurd (none_task (task_is _ h))

-- after its task main goes on, or has ended with the task's trap
pub did_at-ran : (m : MainState) (t : Task) (n : ℕ) (trap : Option Trap) (d : Did) → m.ending ≡ None → d ≡ did.Spawned t n
    → did_end t n trap ≡ did_at (main_after_task m t trap).ending d
did_at-ran m t n None d goes e = sym (ap (λ (o : Option Ending). did_at o d) goes ∙ e)
did_at-ran m t n (Some trap) d goes e = refl

-- so a call that spawned a task was that, by what its task came to
pub did-spawned : (s : FlatState) (m : MainState) (l : Limits) (t : Task) (c : Call) (d : Did) (new : FlatState) → l ≡ s.limits
    → (m, Some t) ≡ main_call s.limits s.memory s.main c → Some c ≡ next_call s.code s.limits (flat_of s)
    → new ≡ with_flat (record { limits = l; code = s.code; main = m; memory = s.memory }) (task_ran m t (task_end s.code l s.memory t))
    → d ≡ did_ran (record { limits = l; code = s.code; main = m; memory = s.memory }) t
    → d ≡ did_at new.main.ending (did_by s (Some c))
did-spawned s m l t c d new same called next ran did =
    let by = did_by-spawned s m t c (sym called) in
    let end = task_stepped s.code s.limits s.memory t (suc s.limits.task_budget) in
    let goes : m.ending ≡ None = by.0 ∙ is_none_of s.main.ending (next_call-on s.code s.limits (flat_of s) c (sym next)) in
    did
    ∙ ap (λ (x : Limits). did_ran (record { limits = x; code = s.code; main = m; memory = s.memory }) t) same
    ∙ did_at-ran m t end.registers.done end.trap (did_by s (Some c)) goes by.1
    ∙ ap (λ (x : Limits). did_at (main_after_task m t (task_end s.code x s.memory t).trap).ending (did_by s (Some c))) (sym same)
    ∙ ap (λ (x : FlatState). did_at x.main.ending (did_by s (Some c))) (sym ran)
  where
    is_none_of : (o : Option Ending) → is_some o ≡ false → o ≡ None
    is_none_of None h = refl
    is_none_of (Some e) h = absurd (cc)
