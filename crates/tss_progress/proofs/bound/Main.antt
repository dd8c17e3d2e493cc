-- Main's event lowers the measure: it completes an instruction, or it ends main. A spawn moves one task's share to the
-- inbox.
use Rattle.std.proofs.Common.{◌≡◌, ℕ, zero, suc, ◌+◌, ◌*◌, ◌<◌, ◌≤◌, Bool, true, false, List, length, Option, Some}
use Rattle.std.proofs.Common.{None, refl, sym, ap, subst, ◌∙◌, arith}
use Rattle.std.specs.Prelude.{cond, ◌-◌, ◌==◌, ◌&&◌, is_none, is_some, nat_lt, Result, Ok, Err}
use Rattle.std.proofs.lemmas.Bool.{and_parts, leb-false}
use Rattle.std.proofs.lemmas.Option.{none-some}
use Rattle.tss_base.specs.declared.range.Range.{Range}
use Rattle.tss_base.specs.declared.operand.Task.{Task}
use Rattle.tss_base.specs.declared.ending.Ending.{Ending}
use Rattle.tss_base.specs.declared.machine.Key.TheVariants.{Quantum}
use Rattle.tss_base.specs.declared.machine.Limits.{Limits}
use Rattle.tss_base.specs.declared.machine.Machine.{Machine}
use Rattle.tss_base.specs.declared.event.Event.TheVariants as event
use Rattle.tss_base.specs.Image.{SegmentState}
use Rattle.tss_base.specs.Machine.{IsAdmissible}
use Rattle.tss_model.specs.Memory.{range_of, bytes_of}
use Rattle.tss_model.specs.Registers.{trap_of}
use Rattle.tss_base.specs.declared.causes.TheConstants.{LOAD_DENIED}
use Rattle.tss_base.specs.declared.refusals.TheConstants.{MAIN_TOUCH, OUTPUT_FULL}
use Rattle.tss_model.specs.Access.{MainActor, touches}
use Rattle.tss_model.specs.Core.{Stepped, Executed, Called, Ended, Trapped, Touched}
use Rattle.tss_model.specs.Spawn.{spawn_of}
use Rattle.tss_model.specs.TaskRun.{repeated}
use Rattle.tss_model.specs.MainStep.{MainState, Flat, Call, ExitCall, Spawn, Barrier, Print, Await, Unknown, has_spent}
use Rattle.tss_model.specs.MainStep.{called_by, main_core, main_on, main_refused, main_step, main_stretch, main_trapped}
use Rattle.tss_model.specs.MainStep.{next_call, output_of, print_done, print_range, print_some, print_call, call_done}
use Rattle.tss_model.specs.MainStep.{spawn_call, spawn_on, awaited_object, await_on}
use Rattle.tss_protocol.specs.State.{State}
use Rattle.tss_protocol.specs.Counts.{task_events}
use Rattle.tss_protocol.specs.MainEvent.{flat_of, call_next, may_call, main_by, after_call}
use Rattle.tss_protocol.specs.UnitMachine.{IsEnabled, is_enabled, after_event}
use Rattle.tss_names.proofs.PlainLemmas.{none_from_test}
use Rattle.tss_program_order.proofs.FlatCore.{IsStep}
use Rattle.tss_program_order.proofs.FlatMain.{main_core-step, main_stretch-leaves}
use Rattle.tss_program_order.proofs.FlatSteps.{main_step-ended, main_step-spent, main_step-core, next_call-core}
use Rattle.tss_program_order.proofs.FlatSteps.{next_call-spent}
use Rattle.tss_names.proofs.SpawnLemmas.{IsNext-spawn_of}
use Rattle.tss_progress.proofs.bound.Measure.{ending_left, main_left, inbox_left, tasks_left, front_left, IsLowered}

-- main that goes on may still end
ending_one : (e : Option Ending) → is_some e ≡ false → ending_left e ≡ 1
ending_one None on = refl
ending_one (Some e) on = absurd (cc)

-- ---- steps

module _ (code : List SegmentState) (limits : Limits) where
  -- what is left of main after another state of it
  abbrev LeavesLess : Flat → Flat → Type 0
  LeavesLess f g = suc (main_left limits.main_budget g.main) ≤ main_left limits.main_budget f.main

  -- or no more
  abbrev LeavesNoMore : Flat → Flat → Type 0
  LeavesNoMore f g = main_left limits.main_budget g.main ≤ main_left limits.main_budget f.main

  on_less : (f : Flat) (x : Stepped) → IsStep (MainActor f.memory.ranges f.main.epoch) f.main.registers x
      → called_by f.main.registers x ≡ None → f.main.registers.done < limits.main_budget
      → ending_left f.main.ending ≡ 1 → LeavesLess f (main_on f x)
  on_less f (Executed r None) step none left one = omega (arith, step, left)
  on_less f (Executed r (Some w)) step none left one = omega (arith, step.0, left)
  on_less f Called step none left one = absurd (cc)
  on_less f Ended step none left one = omega (arith, one)
  on_less f (Trapped t) step none left one = omega (arith, one)
  on_less f Touched step none left one = omega (arith, one)

  on_most : (f : Flat) (x : Stepped) → IsStep (MainActor f.memory.ranges f.main.epoch) f.main.registers x
      → LeavesNoMore f (main_on f x)
  on_most f (Executed r None) step = omega (arith, step)
  on_most f (Executed r (Some w)) step = omega (arith, step.0)
  on_most f Called step = omega arith
  on_most f Ended step = omega arith
  on_most f (Trapped t) step = omega arith
  on_most f Touched step = omega arith

  step_most : (f : Flat) → LeavesNoMore f (main_step code limits f)
  step_most f = by (is_some f.main.ending) (has_spent limits f.main) refl refl
    where
      by : (e s : Bool) → is_some f.main.ending ≡ e → has_spent limits f.main ≡ s
          → LeavesNoMore f (main_step code limits f)
      by true s ended spent =
          subst (LeavesNoMore f) (sym (main_step-ended code limits f ended)) (omega arith)
      by false true on spent =
          subst (LeavesNoMore f) (sym (main_step-spent code limits f on spent)) (omega arith)
      by false false on left =
          subst (LeavesNoMore f) (sym (main_step-core code limits f on left))
          (on_most f (main_core code f) (main_core-step code f))

  step_less : (f : Flat) → next_call code limits f ≡ None → is_some f.main.ending ≡ false
      → LeavesLess f (main_step code limits f)
  step_less f none on = by (has_spent limits f.main) refl
    where
      one : ending_left f.main.ending ≡ 1
      one = ending_one f.main.ending on

      by : (s : Bool) → has_spent limits f.main ≡ s → LeavesLess f (main_step code limits f)
      by true spent =
          subst (LeavesLess f) (sym (main_step-spent code limits f on spent)) (omega (arith, one))
      by false left =
          subst (LeavesLess f) (sym (main_step-core code limits f on left))
          (on_less f (main_core code f) (main_core-step code f)
          (sym (next_call-core code limits f on left) ∙ none)
          (leb-false limits.main_budget f.main.registers.done left) one)

  stretch_most : (n : ℕ) (f : Flat) → LeavesNoMore f (main_stretch code limits n f)
  unfolding repeated
  stretch_most zero f = omega arith
  stretch_most (suc n) f =
      let rest = stretch_most n (main_step code limits f) in let one = step_most f in omega (arith, rest, one)

  -- a stretch leaves less
  stretch_less : (n : ℕ) (f : Flat) → 1 ≤ n → next_call code limits f ≡ None → is_some f.main.ending ≡ false
      → LeavesLess f (main_stretch code limits n f)
  unfolding repeated
  stretch_less zero f some none on = absurd (omega (arith, some))
  stretch_less (suc n) f some none on =
      let rest = stretch_most n (main_step code limits f) in
      let one = step_less f none on in
      omega (arith, rest, one)

-- ---- calls

-- a task's share moves
share_moves : (most spawned each : ℕ) → spawned < most → (most - suc spawned) * each + each ≡ (most - spawned) * each
share_moves most spawned each room =
    let one : most - spawned ≡ (most - suc spawned) + 1 = omega (arith, room) in
    let both = ap (λ n. n * each) one in
    omega (arith, both)

module _ (m : Machine) (S : State) (on : is_some S.main.ending ≡ false)
    (left : S.main.registers.done < m.limits.main_budget) where
  -- what is left of main after another
  abbrev Leaves : MainState → Option Task → Type 0
  Leaves main inbox = suc (front_left m main inbox) ≤ front_left m S.main S.inbox

  one : ending_left S.main.ending ≡ 1
  one = ending_one S.main.ending on

  spawn_less : (r : Result Task ℕ)
      → spawn_of (spawn_call S.main.registers) S.home S.main.epoch m.limits S.main.spawned ≡ r → S.inbox ≡ None
      → IsLowered m S (after_call S (spawn_on S.main r))
  spawn_less (Err n) e empty = omega (arith, one)
  spawn_less (Ok t) e empty =
      let next = IsNext-spawn_of (spawn_call S.main.registers) S.home S.main.epoch m.limits S.main.spawned t e in
      let share = share_moves m.limits.max_tasks S.main.spawned (task_events m) next.room in
      let none = ap (inbox_left (task_events m)) empty in
      omega (arith, share, none, left)

  print_some_less : (r : Range) → Leaves (print_some m.limits S.home S.main r) S.inbox
  print_some_less r =
      by (is_none (range_of S.home.ranges r)) (touches S.main.epoch r)
      (nat_lt m.limits.output_bytes (length (output_of S.main.pieces) + r.len))
    where
      by : (a b c : Bool)
          → Leaves (cond a (main_trapped S.main (trap_of S.main.registers LOAD_DENIED r.base))
          (cond b (main_refused S.main MAIN_TOUCH)
          (cond c (main_refused S.main OUTPUT_FULL) (print_done S.main (bytes_of S.home r))))) S.inbox
      by true b c = omega (arith, one)
      by false true c = omega (arith, one)
      by false false true = omega (arith, one)
      by false false false = omega (arith, left)

  print_less : (r : Range) → Leaves (print_call m.limits S.home S.main r) S.inbox
  print_less r = by (r.len == 0)
    where
      by : (b : Bool) → Leaves (cond b (call_done S.main) (print_some m.limits S.home S.main r)) S.inbox
      by true = omega (arith, left)
      by false = print_some_less r

  await_less : (x : Option Range) → Leaves (await_on S.main x) S.inbox
  await_less None = omega (arith, one)
  await_less (Some object) = omega (arith, left)

  call_less : (c : Call) → may_call S (Some c) ≡ true → IsLowered m S (main_by m S (Some c))
  call_less ExitCall may = omega (arith, one, left)
  call_less Spawn may =
      spawn_less (spawn_of (spawn_call S.main.registers) S.home S.main.epoch m.limits S.main.spawned) refl
      (none_from_test S.inbox may)
  call_less Barrier may = omega (arith, left)
  call_less Print may = let p = print_less (print_range S.main.registers) in omega (arith, p)
  call_less Await may = let p = await_less (awaited_object S.main) in omega (arith, p)
  call_less (Unknown n) may = omega (arith, one)

-- ---- the event

-- main that has ended isn't a some
none_tested : (e : Option Ending) → is_none e ≡ true → is_some e ≡ false
none_tested None on = refl
none_tested (Some e) on = absurd (cc)

-- a call is met within the budget
call_left : (m : Machine) (S : State) (c : Call) → call_next m S ≡ Some c → S.main.registers.done < m.limits.main_budget
call_left m S c e = by (has_spent m.limits S.main) refl
  where
    by : (b : Bool) → has_spent m.limits S.main ≡ b → S.main.registers.done < m.limits.main_budget
    by true spent = absurd (none-some c (sym (next_call-spent S.code m.limits (flat_of S) spent) ∙ e))
    by false left = leb-false m.limits.main_budget S.main.registers.done left

main_less : (m : Machine) (S : State) → IsAdmissible m → (c : Option Call) → call_next m S ≡ c
    → is_some S.main.ending ≡ false → may_call S c ≡ true → IsLowered m S (main_by m S c)
main_less m S admissible None e on may =
    let some = (admissible.sizes Quantum m.sizes.quantum refl).0 in
    let less = stretch_less S.code m.limits m.sizes.quantum (flat_of S) some e on in
    let same = ap (λ n. tasks_left m.limits.max_tasks (task_events m) n S.inbox)
    (main_stretch-leaves S.code m.limits m.sizes.quantum (flat_of S)).spawned in
    omega (arith, less, same)
main_less m S admissible (Some c) e on may = call_less m S on (call_left m S c e) c may

-- main's event lowers the measure
pub lowered_main : (m : Machine) (S : State) → IsAdmissible m → IsEnabled m S event.Main
    → IsLowered m S (after_event m S event.Main)
unfolding is_enabled after_event
lowered_main m S admissible on =
    let parts = and_parts (is_none S.main.ending && is_none S.trap) _ on in
    let going = and_parts (is_none S.main.ending) (is_none S.trap) parts.0 in
    main_less m S admissible (call_next m S) refl (none_tested S.main.ending going.0) parts.1
