-- A step of program order that completes no instruction of main changes nothing but main's ending.
use Rattle.std.proofs.Common.{◌≡◌, ℕ, ◌+◌, Bool, true, false, List, Option, Some, None, Result, Ok, Err, refl, sym, ap}
use Rattle.std.proofs.Common.{◌∙◌, subst, arith}
use Rattle.std.specs.Prelude.{cond, is_some, is_none, nat_lt, length, ◌==◌}
use Rattle.tss_base.specs.declared.range.Range.{Range}
use Rattle.tss_base.specs.declared.operand.Task.{Task}
use Rattle.tss_base.specs.declared.ending.Trap.{Trap}
use Rattle.tss_base.specs.declared.machine.Limits.{Limits}
use Rattle.tss_base.specs.Image.{SegmentState}
use Rattle.tss_model.specs.Memory.{Memory, range_of, bytes_of}
use Rattle.tss_model.specs.Registers.{trap_of}
use Rattle.tss_base.specs.declared.causes.TheConstants.{LOAD_DENIED}
use Rattle.tss_base.specs.declared.refusals.TheConstants.{MAIN_TOUCH, OUTPUT_FULL}
use Rattle.tss_model.specs.Access.{MainActor, touches}
use Rattle.tss_model.specs.Core.{Stepped, Executed, Called, Ended, Trapped, Touched}
use Rattle.tss_model.specs.Spawn.{spawn_of}
use Rattle.tss_model.specs.TaskRun.{task_end}
use Rattle.tss_model.specs.MainStep.{MainState, Flat, Call, ExitCall, Spawn, Barrier, Print, Await, Unknown, main_on}
use Rattle.tss_model.specs.MainStep.{main_core, main_step, main_call, next_call, has_spent, output_of, spawn_on}
use Rattle.tss_model.specs.MainStep.{spawn_call, spawn_done, call_done, main_trapped, main_refused, print_done}
use Rattle.tss_model.specs.MainStep.{print_call, print_range, await_on, awaited_object}
use Rattle.tss_model.specs.InOrder.{flat_step, call_ran, main_after_task}
use Rattle.tss_program_order.proofs.FlatCore.{IsStep}
use Rattle.tss_program_order.proofs.FlatMain.{main_core-step}
use Rattle.tss_program_order.proofs.FlatSteps.{main_step-ended, main_step-spent, main_step-core, flat_step-main}
use Rattle.tss_program_order.proofs.FlatSteps.{flat_step-call}

-- main is the same but for its ending
pub record SameButEnding (x y : MainState) : Type 0 where
  pub registers : y.registers ≡ x.registers
  pub spawned : y.spawned ≡ x.spawned
  pub epoch : y.epoch ≡ x.epoch
  pub pieces : y.pieces ≡ x.pieces

-- a machine is, with the same memory
abbrev pub IsStill : Flat → Flat → Type 0
IsStill f g = SameButEnding f.main g.main × (g.memory ≡ f.memory)

-- where nothing changes
pub same_ended : (x : MainState) → SameButEnding x x
same_ended x = record { registers = refl; spawned = refl; epoch = refl; pieces = refl }

-- as many instructions are completed
abbrev HasSameCount : MainState → MainState → Type 0
HasSameCount x y = y.registers.done ≡ x.registers.done

one_more : (n : ℕ) → n + 1 ≡ n → ⊥
one_more n e = omega (arith, e)

-- ---- a print

print_still : (limits : Limits) (m : Memory) (x : MainState) (r : Range) → HasSameCount x (print_call limits m x r)
    → SameButEnding x (print_call limits m x r)
print_still limits m x r = by (r.len == 0) (is_none (range_of m.ranges r)) (touches x.epoch r)
    (nat_lt limits.output_bytes (length (output_of x.pieces) + r.len))
  where
    by : (n o t f : Bool)
        → HasSameCount x (cond n (call_done x) (cond o (main_trapped x (trap_of x.registers LOAD_DENIED r.base))
        (cond t (main_refused x MAIN_TOUCH) (cond f (main_refused x OUTPUT_FULL) (print_done x (bytes_of m r))))))
        → SameButEnding x (cond n (call_done x) (cond o (main_trapped x (trap_of x.registers LOAD_DENIED r.base))
        (cond t (main_refused x MAIN_TOUCH) (cond f (main_refused x OUTPUT_FULL) (print_done x (bytes_of m r))))))
    by true o t f e = absurd (one_more x.registers.done e)
    by false true t f e = record { registers = refl; spawned = refl; epoch = refl; pieces = refl }
    by false false true f e = record { registers = refl; spawned = refl; epoch = refl; pieces = refl }
    by false false false true e = record { registers = refl; spawned = refl; epoch = refl; pieces = refl }
    by false false false false e = absurd (one_more x.registers.done e)

-- ---- a call

module _ (code : List SegmentState) (limits : Limits) where
  abbrev Ran : Memory → MainState × Option Task → Flat
  Ran m p = call_ran code limits m p

  spawn_still : (m : Memory) (x : MainState) (r : Result Task ℕ) → HasSameCount x (Ran m (spawn_on x r)).main
      → IsStill (record { main = x; memory = m }) (Ran m (spawn_on x r))
  spawn_still m x (Err n) e = (record { registers = refl; spawned = refl; epoch = refl; pieces = refl }, refl)
  spawn_still m x (Ok t) e = absurd (by (task_end code limits m t).trap e)
    where
      by : (trap : Option Trap) → HasSameCount x (main_after_task (spawn_done x t) t trap) → ⊥
      by None e = one_more x.registers.done e
      by (Some trap) e = one_more x.registers.done e

  await_still : (m : Memory) (x : MainState) (object : Option Range) → HasSameCount x (await_on x object)
      → IsStill (record { main = x; memory = m }) (record { main = await_on x object; memory = m })
  await_still m x None e = (record { registers = refl; spawned = refl; epoch = refl; pieces = refl }, refl)
  await_still m x (Some object) e = absurd (one_more x.registers.done e)

  call_still : (m : Memory) (x : MainState) (c : Call) → HasSameCount x (Ran m (main_call limits m x c)).main
      → IsStill (record { main = x; memory = m }) (Ran m (main_call limits m x c))
  call_still m x ExitCall e = absurd (one_more x.registers.done e)
  call_still m x Spawn e = spawn_still m x (spawn_of (spawn_call x.registers) m x.epoch limits x.spawned) e
  call_still m x Barrier e = absurd (one_more x.registers.done e)
  call_still m x Print e = (print_still limits m x (print_range x.registers) e, refl)
  call_still m x Await e = await_still m x (awaited_object x) e
  call_still m x (Unknown n) e = (record { registers = refl; spawned = refl; epoch = refl; pieces = refl }, refl)

  -- ---- a step

  on_still : (f : Flat) (s : Stepped) → IsStep (MainActor f.memory.ranges f.main.epoch) f.main.registers s
      → HasSameCount f.main (main_on f s).main → IsStill f (main_on f s)
  on_still f (Executed r None) is e = absurd (omega (arith, is, e))
  on_still f (Executed r (Some w)) is e = let more = is.0 in absurd (omega (arith, more, e))
  on_still f Called is e = (same_ended f.main, refl)
  on_still f Ended is e = (record { registers = refl; spawned = refl; epoch = refl; pieces = refl }, refl)
  on_still f (Trapped t) is e = (record { registers = refl; spawned = refl; epoch = refl; pieces = refl }, refl)
  on_still f Touched is e = (record { registers = refl; spawned = refl; epoch = refl; pieces = refl }, refl)

  main_still : (f : Flat) → HasSameCount f.main (main_step code limits f).main → IsStill f (main_step code limits f)
  main_still f = by (is_some f.main.ending) (has_spent limits f.main) refl refl
    where
      by : (n s : Bool) → is_some f.main.ending ≡ n → has_spent limits f.main ≡ s
          → HasSameCount f.main (main_step code limits f).main → IsStill f (main_step code limits f)
      by true s ended spent e = subst (IsStill f) (sym (main_step-ended code limits f ended)) (same_ended f.main, refl)
      by false true on spent e =
          subst (IsStill f) (sym (main_step-spent code limits f on spent))
          (record { registers = refl; spawned = refl; epoch = refl; pieces = refl }, refl)
      by false false on left e =
          let core = main_step-core code limits f on left in
          subst (IsStill f) (sym core)
          (on_still f (main_core code f) (main_core-step code f)
          (ap (λ (x : Flat). x.main.registers.done) (sym core) ∙ e))

  -- a step that completes no instruction leaves all but the ending
  pub step_still : (f : Flat) → HasSameCount f.main (flat_step code limits f).main → IsStill f (flat_step code limits f)
  step_still f = by (next_call code limits f) refl
    where
      by : (c : Option Call) → next_call code limits f ≡ c → HasSameCount f.main (flat_step code limits f).main
          → IsStill f (flat_step code limits f)
      by None none e =
          let is = flat_step-main code limits f none in
          subst (IsStill f) (sym is) (main_still f (ap (λ (x : Flat). x.main.registers.done) (sym is) ∙ e))
      by (Some c) next e =
          let is = flat_step-call code limits f c next in
          subst (IsStill f) (sym is)
          (call_still f.memory f.main c (ap (λ (x : Flat). x.main.registers.done) (sym is) ∙ e))
