-- What a call of main leaves of main: the steps that it has taken, the tasks that it has spawned, and the objects of a
-- spawned task, which main may not load from then on.
use Rattle.std.proofs.Common.{◌≡◌, ◌⊎◌, inl, inr, ℕ, suc, ◌+◌, ◌≤◌, Bool, true, false, Option, Some, None, Result, Ok}
use Rattle.std.proofs.Common.{Err, List, [], ◌∷◌, ◌++◌, refl, sym, ap, ◌∙◌, arith, add-one, nat_le, nat_lt}
use Rattle.std.specs.Prelude.{cond, ◌==◌, ◌&&◌, length, is_some, is_none}
use Rattle.std.specs.List.{list_any}
use Rattle.std.proofs.lemmas.Bool.{both_ways, false_from_ne_true}
use Rattle.std.proofs.lemmas.Option.{none-some, same_Some}
use Rattle.tss_base.specs.declared.range.Range.{Range}
use Rattle.tss_base.specs.declared.operand.Operand.{Operand}
use Rattle.tss_base.specs.declared.operand.Task.{Task}
use Rattle.tss_base.specs.declared.machine.Limits.{Limits}
use Rattle.tss_base.specs.declared.causes.TheConstants.{LOAD_DENIED}
use Rattle.tss_base.specs.declared.refusals.TheConstants.{TOO_MANY_OPERANDS, LIST_PLACE, MAIN_TOUCH, EPOCH_FULL}
use Rattle.tss_base.specs.declared.refusals.TheConstants.{TOO_MANY_TASKS, OUTPUT_FULL}
use Rattle.tss_model.specs.Memory.{MemoryRange, Memory, range_of, bytes_of, covers}
use Rattle.tss_model.specs.Registers.{trap_of}
use Rattle.tss_model.specs.Access.{Loads, touches}
use Rattle.tss_model.specs.Spawn.{SpawnCall, name_objects, objects_of, entries_at, entries_checked, task_of}
use Rattle.tss_model.specs.Spawn.{merged_operands, task_checked, is_misplaced, list_range, spawn_of}
use Rattle.tss_model.specs.MainStep.{MainState, Call, ExitCall, Spawn, Barrier, Print, Await, Unknown, main_trapped}
use Rattle.tss_model.specs.MainStep.{main_refused, call_done, spawn_call, spawn_done, spawn_on, print_range, print_some}
use Rattle.tss_model.specs.MainStep.{print_call, print_done, output_of, main_call, await_done, await_on, awaited_object}
use Rattle.tss_program_order.specs.MainInOrder.{MayLoad, steps_taken}
use Rattle.tss_program_order.proofs.FlatLoads.{byte_range, main_granted}
use Rattle.tss_program_order.proofs.FlatNames.{any_has, any_object, name_objects-names, covers-touch}
use Rattle.tss_program_order.proofs.FlatOrder.{steps_taken-on}

-- ---- the steps of a call

module _ (limits : Limits) (m : Memory) (s : MainState) (on : is_some s.ending ≡ false) where
  -- one that is accepted
  done_step : (t : MainState) → t.ending ≡ s.ending → t.registers.done ≡ s.registers.done + 1
      → steps_taken t ≡ suc s.registers.done
  done_step t ending done = steps_taken-on t (ap is_some ending ∙ on) ∙ done ∙ add-one s.registers.done

  print_some-step : (r : Range) → steps_taken (print_some limits m s r) ≡ suc s.registers.done
  print_some-step r =
      by (is_none (range_of m.ranges r)) (touches s.epoch r)
      (nat_lt limits.output_bytes (length (output_of s.pieces) + r.len))
    where
      by : (b t o : Bool) → steps_taken (cond b (main_trapped s (trap_of s.registers LOAD_DENIED r.base))
          (cond t (main_refused s MAIN_TOUCH) (cond o (main_refused s OUTPUT_FULL) (print_done s (bytes_of m r)))))
          ≡ suc s.registers.done
      by true t o = refl
      by false true o = refl
      by false false true = refl
      by false false false = done_step (print_done s (bytes_of m r)) refl refl

  print_call-step : (r : Range) → steps_taken (print_call limits m s r) ≡ suc s.registers.done
  print_call-step r = by (r.len == 0)
    where
      by : (b : Bool) → steps_taken (cond b (call_done s) (print_some limits m s r)) ≡ suc s.registers.done
      by true = done_step (call_done s) refl refl
      by false = print_some-step r

  spawn_on-step : (r : Result Task ℕ) → steps_taken (spawn_on s r).0 ≡ suc s.registers.done
  spawn_on-step (Ok t) = done_step (spawn_done s t) refl refl
  spawn_on-step (Err n) = refl

  await_on-step : (x : Option Range) → steps_taken (await_on s x) ≡ suc s.registers.done
  await_on-step None = refl
  await_on-step (Some object) = done_step (await_done s object) refl refl

  -- a call is one step
  pub main_call-step : (c : Call) → steps_taken (main_call limits m s c).0 ≡ suc s.registers.done
  main_call-step ExitCall = add-one s.registers.done
  main_call-step Spawn = spawn_on-step (spawn_of (spawn_call s.registers) m s.epoch limits s.spawned)
  main_call-step Barrier = done_step (record (call_done s) { epoch = [] }) refl refl
  main_call-step Print = print_call-step (print_range s.registers)
  main_call-step Await = await_on-step (awaited_object s)
  main_call-step (Unknown n) = refl

-- ---- what it counts and prints

-- main has printed nothing more, or a piece with the tasks that it has spawned
abbrev PrintsOne : MainState → MainState → Type 0
PrintsOne s t =
    (t.pieces ≡ s.pieces)
    ⊎ ((bytes : List ℕ) × (t.pieces ≡ s.pieces ++ record { before = s.spawned; bytes = bytes } ∷ []))

-- neither main's completed instructions nor its tasks fall, and it prints at most one piece
pub record Rises (s t : MainState) : Type 0 where
  pub done : s.registers.done ≤ t.registers.done
  pub spawned : s.spawned ≤ t.spawned
  pub pieces : PrintsOne s t

module _ (limits : Limits) (m : Memory) (s : MainState) where
  rises_done : (t : MainState) → t.registers.done ≡ s.registers.done + 1 → t.spawned ≡ s.spawned → PrintsOne s t
      → Rises s t
  rises_done t done spawned pieces =
      record { done = omega (arith, done); spawned = omega (arith, spawned); pieces = pieces }

  rises_still : (t : MainState) → t.registers.done ≡ s.registers.done → t.spawned ≡ s.spawned → t.pieces ≡ s.pieces
      → Rises s t
  rises_still t done spawned pieces =
      record { done = omega (arith, done); spawned = omega (arith, spawned); pieces = inl pieces }

  print_call-rises : (r : Range) → Rises s (print_call limits m s r)
  print_call-rises r =
      by (r.len == 0) (is_none (range_of m.ranges r)) (touches s.epoch r)
      (nat_lt limits.output_bytes (length (output_of s.pieces) + r.len))
    where
      by : (n b t o : Bool) → Rises s (cond n (call_done s)
          (cond b (main_trapped s (trap_of s.registers LOAD_DENIED r.base)) (cond t (main_refused s MAIN_TOUCH)
          (cond o (main_refused s OUTPUT_FULL) (print_done s (bytes_of m r))))))
      by true b t o = rises_done _ refl refl (inl refl)
      by false true t o = rises_still _ refl refl refl
      by false false true o = rises_still _ refl refl refl
      by false false false true = rises_still _ refl refl refl
      by false false false false = rises_done _ refl refl (inr (bytes_of m r, refl))

  spawn_on-rises : (r : Result Task ℕ) → Rises s (spawn_on s r).0
  spawn_on-rises (Ok t) = record { done = omega arith; spawned = omega arith; pieces = inl refl }
  spawn_on-rises (Err n) = rises_still _ refl refl refl

  await_on-rises : (x : Option Range) → Rises s (await_on s x)
  await_on-rises None = rises_still _ refl refl refl
  await_on-rises (Some object) = rises_done _ refl refl (inl refl)

  -- a call does so
  pub main_call-rises : (c : Call) → Rises s (main_call limits m s c).0
  main_call-rises ExitCall = rises_done _ refl refl (inl refl)
  main_call-rises Spawn = spawn_on-rises (spawn_of (spawn_call s.registers) m s.epoch limits s.spawned)
  main_call-rises Barrier = rises_done _ refl refl (inl refl)
  main_call-rises Print = print_call-rises (print_range s.registers)
  main_call-rises Await = await_on-rises (awaited_object s)
  main_call-rises (Unknown n) = rises_still _ refl refl refl

-- ---- the task of a spawn

-- equal answers are of equal values
pub same_Ok : {A B : Type 0} (x y : A) → ◌≡◌ {A = Result A B} (Ok x) (Ok y) → x ≡ y
same_Ok x y e = cc

task_checked-number : (limits : Limits) (call : SpawnCall) (named : List Range) (spawned : ℕ)
    (r : Result (List Operand) ℕ) (t : Task) → task_checked limits call named spawned r ≡ Ok t → t.number ≡ suc spawned
task_checked-number limits call named spawned (Err n) t e = absurd (cc)
task_checked-number limits call named spawned (Ok listed) t e =
    by (nat_lt limits.epoch_objects (length (name_objects named (objects_of listed))))
    (nat_le limits.max_tasks spawned) e
  where
    by : (b d : Bool) → cond b (Err EPOCH_FULL) (cond d (Err TOO_MANY_TASKS)
        (Ok (task_of call (suc spawned) listed (merged_operands listed)))) ≡ Ok t → t.number ≡ suc spawned
    by true d e = absurd (cc)
    by false true e = absurd (cc)
    by false false e =
        ap (λ (x : Task). x.number) (sym (same_Ok (task_of call (suc spawned) listed (merged_operands listed)) t e))

-- it has the next number
spawn_of-number : (call : SpawnCall) (m : Memory) (named : List Range) (limits : Limits) (spawned : ℕ) (t : Task)
    → spawn_of call m named limits spawned ≡ Ok t → t.number ≡ suc spawned
unfolding spawn_of
spawn_of-number call m named limits spawned t e =
    by (nat_lt limits.max_operands call.count) (nat_lt 0 call.count && is_misplaced m call)
    (nat_lt 0 call.count && touches named (list_range call)) e
  where
    rest : Result Task ℕ
    rest = task_checked limits call named spawned (entries_checked limits m named (entries_at m call.list call.count))

    by : (b c d : Bool)
        → cond b (Err TOO_MANY_OPERANDS) (cond c (Err LIST_PLACE) (cond d (Err MAIN_TOUCH) rest)) ≡ Ok t
        → t.number ≡ suc spawned
    by true c d e = absurd (cc)
    by false true d e = absurd (cc)
    by false false true e = absurd (cc)
    by false false false e =
        task_checked-number limits call named spawned
        (entries_checked limits m named (entries_at m call.list call.count)) t e

-- a call that spawns a task is an accepted spawn
pub record IsSpawn (s main : MainState) (t : Task) : Type 0 where
  pub main_is : main ≡ spawn_done s t
  pub number : t.number ≡ suc s.spawned

-- the task and main after it
pub main_call-spawn : (limits : Limits) (m : Memory) (s : MainState) (c : Call) (main : MainState) (t : Task)
    → main_call limits m s c ≡ (main, Some t) → IsSpawn s main t
main_call-spawn limits m s ExitCall main t e = absurd (none-some t (ap (λ (p : MainState × Option Task). p.1) e))
main_call-spawn limits m s Spawn main t e =
    by (spawn_of (spawn_call s.registers) m s.epoch limits s.spawned) refl e
  where
    by : (r : Result Task ℕ) → spawn_of (spawn_call s.registers) m s.epoch limits s.spawned ≡ r
        → spawn_on s r ≡ (main, Some t) → IsSpawn s main t
    by (Err n) d e = absurd (none-some t (ap (λ (p : MainState × Option Task). p.1) e))
    by (Ok u) d e =
        let same : u ≡ t = same_Some u t (ap (λ (p : MainState × Option Task). p.1) e) in
        record {
          main_is = ap (λ (p : MainState × Option Task). p.0) (sym e) ∙ ap (spawn_done s) same;
          number =
              ap (λ (x : Task). x.number) (sym same)
              ∙ spawn_of-number (spawn_call s.registers) m s.epoch limits s.spawned u d;
        }
main_call-spawn limits m s Barrier main t e = absurd (none-some t (ap (λ (p : MainState × Option Task). p.1) e))
main_call-spawn limits m s Print main t e = absurd (none-some t (ap (λ (p : MainState × Option Task). p.1) e))
main_call-spawn limits m s Await main t e = absurd (none-some t (ap (λ (p : MainState × Option Task). p.1) e))
main_call-spawn limits m s (Unknown n) main t e = absurd (none-some t (ap (λ (p : MainState × Option Task). p.1) e))

print_call-spawned : (limits : Limits) (m : Memory) (s : MainState) (r : Range)
    → (print_call limits m s r).spawned ≡ s.spawned
print_call-spawned limits m s r =
    by (r.len == 0) (is_none (range_of m.ranges r)) (touches s.epoch r)
    (nat_lt limits.output_bytes (length (output_of s.pieces) + r.len))
  where
    by : (n b t o : Bool) → (cond n (call_done s)
        (cond b (main_trapped s (trap_of s.registers LOAD_DENIED r.base)) (cond t (main_refused s MAIN_TOUCH)
        (cond o (main_refused s OUTPUT_FULL) (print_done s (bytes_of m r)))))).spawned ≡ s.spawned
    by true b t o = refl
    by false true t o = refl
    by false false true o = refl
    by false false false true = refl
    by false false false false = refl

await_on-spawned : (s : MainState) (x : Option Range) → (await_on s x).spawned ≡ s.spawned
await_on-spawned s None = refl
await_on-spawned s (Some object) = refl

-- a call that spawns none leaves the number of tasks
pub main_call-unspawned : (limits : Limits) (m : Memory) (s : MainState) (c : Call) (main : MainState)
    → main_call limits m s c ≡ (main, None) → main.spawned ≡ s.spawned
main_call-unspawned limits m s c main e =
    ap (λ (p : MainState × Option Task). p.0.spawned) (sym e)
    ∙ by c (ap (λ (p : MainState × Option Task). p.1) e)
  where
    refused : (r : Result Task ℕ) → (spawn_on s r).1 ≡ None → (spawn_on s r).0.spawned ≡ s.spawned
    refused (Ok t) e = absurd (none-some t (sym e))
    refused (Err n) e = refl

    by : (c : Call) → (main_call limits m s c).1 ≡ None → (main_call limits m s c).0.spawned ≡ s.spawned
    by ExitCall e = refl
    by Spawn e = refused (spawn_of (spawn_call s.registers) m s.epoch limits s.spawned) e
    by Barrier e = refl
    by Print e = print_call-spawned limits m s (print_range s.registers)
    by Await e = await_on-spawned s (awaited_object s)
    by (Unknown n) e = refl

-- whose checks have passed
pub main_call-accepted : (limits : Limits) (m : Memory) (s : MainState) (c : Call) (main : MainState) (t : Task)
    → main_call limits m s c ≡ (main, Some t)
    → spawn_of (spawn_call s.registers) m s.epoch limits s.spawned ≡ Ok t
main_call-accepted limits m s ExitCall main t e = absurd (none-some t (ap (λ (p : MainState × Option Task). p.1) e))
main_call-accepted limits m s Spawn main t e =
    by (spawn_of (spawn_call s.registers) m s.epoch limits s.spawned) refl e
  where
    by : (r : Result Task ℕ) → spawn_of (spawn_call s.registers) m s.epoch limits s.spawned ≡ r
        → spawn_on s r ≡ (main, Some t) → spawn_of (spawn_call s.registers) m s.epoch limits s.spawned ≡ Ok t
    by (Err n) d e = absurd (none-some t (ap (λ (p : MainState × Option Task). p.1) e))
    by (Ok u) d e = d ∙ ap Ok (same_Some u t (ap (λ (p : MainState × Option Task). p.1) e))
main_call-accepted limits m s other main t e = absurd (none-some t (ap (λ (p : MainState × Option Task). p.1) e))

-- ---- named objects

-- what main may load once a task's objects are named lies in none of them
pub may_load_unnamed : (ranges : List MemoryRange) (named : List Range) (operands : List Operand) (a : ℕ)
    → MayLoad ranges (name_objects named (objects_of operands)) a
    → list_any (λ o. covers o.object a) operands ≡ false
may_load_unnamed ranges named operands a may =
    false_from_ne_true (list_any (λ o. covers o.object a) operands) (λ inside.
    let object = any_has (λ x. covers x a) (objects_of operands)
    (sym (any_object (λ x. covers x a) operands) ∙ inside) in
    both_ways (touches (name_objects named (objects_of operands)) (byte_range a))
    (main_granted ranges (name_objects named (objects_of operands)) Loads (byte_range a) may).1
    (covers-touch (name_objects named (objects_of operands)) object.0 a
    (name_objects-names named (objects_of operands) object.0 object.1) object.2))
