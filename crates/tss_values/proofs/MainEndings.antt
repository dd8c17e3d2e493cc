-- Main never ends by a task's trap.
use Rattle.std.proofs.Common.{◌≡◌, ℕ, zero, suc, Bool, true, false, cond, List, Option, Some, None, refl, sym, ap, ◌∙◌}
use Rattle.std.proofs.Common.{true≢false}
use Rattle.std.specs.Prelude.{length, ◌+◌, ◌==◌, nat_lt, is_none, is_some, Result, Ok, Err}
use Rattle.tss_base.specs.declared.range.Range.{Range}
use Rattle.tss_base.specs.declared.operand.Task.{Task}
use Rattle.tss_base.specs.declared.ending.Trap.{Trap}
use Rattle.tss_base.specs.declared.ending.Ending.{Ending}
use Rattle.tss_base.specs.declared.ending.Ending.TheVariants.{Exit, MainTrap, TaskTrap, Refused}
use Rattle.tss_base.specs.declared.machine.Machine.{Machine}
use Rattle.tss_base.specs.declared.machine.Limits.{Limits}
use Rattle.tss_base.specs.declared.event.Event.{Event}
use Rattle.tss_base.specs.declared.event.Event.TheVariants as event
use Rattle.tss_base.specs.Image.{SegmentState, ImageState}
use Rattle.tss_model.specs.Memory.{Memory, range_of, bytes_of}
use Rattle.tss_model.specs.Registers.{trap_of}
use Rattle.tss_model.specs.Access.{touches}
use Rattle.tss_model.specs.Core.{Stepped, Executed, Called, Ended, Trapped, Touched}
use Rattle.tss_model.specs.TaskRun.{repeated}
use Rattle.tss_base.specs.declared.causes.TheConstants.{LOAD_DENIED}
use Rattle.tss_base.specs.declared.refusals.TheConstants.{MAIN_BUDGET_SPENT, MAIN_TOUCH, OUTPUT_FULL}
use Rattle.tss_model.specs.MainStep.{MainState, Flat, Call, ExitCall, Spawn, Barrier, Print, Await, Unknown}
use Rattle.tss_model.specs.MainStep.{main_refused, main_trapped, call_done, output_of, print_done, print_some}
use Rattle.tss_model.specs.MainStep.{has_spent, main_on, main_core, main_step, main_stretch, spawn_call, spawn_on}
use Rattle.tss_model.specs.MainStep.{print_call, print_range, awaited_object, await_on}
use Rattle.tss_model.specs.Spawn.{spawn_of}
use Rattle.tss_protocol.specs.State.{State, initial_state}
use Rattle.tss_protocol.specs.MainEvent.{flat_of, call_next, after_call, main_by}
use Rattle.tss_protocol.specs.UnitMachine.{after_event}
use Rattle.tss_protocol.specs.Run.{IsRun}
use Rattle.tss_program_order.proofs.RunKeeps.{main_keeps}

-- it hasn't ended, or by itself
abbrev is_own : Option Ending → Bool
is_own None = true
is_own (Some (Exit status)) = true
is_own (Some (MainTrap trap)) = true
is_own (Some (TaskTrap task trap)) = false
is_own (Some (Refused number pc)) = true

-- the fact
abbrev pub EndsItself : MainState → Type 0
EndsItself x = is_own x.ending ≡ true

own_on : (f : Flat) → EndsItself f.main → (s : Stepped) → EndsItself (main_on f s).main
own_on f h (Executed r w) = h
own_on f h Called = h
own_on f h Ended = refl
own_on f h (Trapped t) = refl
own_on f h Touched = refl

own_if : (b : Bool) (f g : Flat) → EndsItself f.main → EndsItself g.main → EndsItself (cond b f g).main
own_if true f g p q = p
own_if false f g p q = q

own_cond : (b : Bool) (y z : MainState) → EndsItself y → EndsItself z → EndsItself (cond b y z)
own_cond true y z p q = p
own_cond false y z p q = q

own_step : (code : List SegmentState) (limits : Limits) (f : Flat) → EndsItself f.main
    → EndsItself (main_step code limits f).main
unfolding main_step
own_step code limits f h =
    let spent : Flat = record f { main = main_refused f.main MAIN_BUDGET_SPENT } in
    let on = main_on f (main_core code f) in
    own_if (is_some f.main.ending) f (cond (has_spent limits f.main) spent on) h
    (own_if (has_spent limits f.main) spent on refl (own_on f h (main_core code f)))

own_stretch : (code : List SegmentState) (limits : Limits) (n : ℕ) (f : Flat) → EndsItself f.main
    → EndsItself (main_stretch code limits n f).main
unfolding repeated
own_stretch code limits zero f h = h
own_stretch code limits (suc n) f h =
    own_stretch code limits n (main_step code limits f) (own_step code limits f h)

own_print : (limits : Limits) (memory : Memory) (x : MainState) (r : Range) → EndsItself x
    → EndsItself (print_call limits memory x r)
own_print limits memory x r h =
    let full = main_refused x OUTPUT_FULL in
    let done = print_done x (bytes_of memory r) in
    let fits = cond (nat_lt limits.output_bytes (length (output_of x.pieces) + r.len)) full done in
    let touching = cond (touches x.epoch r) (main_refused x MAIN_TOUCH) fits in
    let placed = main_trapped x (trap_of x.registers LOAD_DENIED r.base) in
    own_cond (r.len == 0) (call_done x) (print_some limits memory x r) h
    (own_cond (is_none (range_of memory.ranges r)) placed touching refl
    (own_cond (touches x.epoch r) (main_refused x MAIN_TOUCH) fits refl
    (own_cond (nat_lt limits.output_bytes (length (output_of x.pieces) + r.len)) full done refl h)))

module _ (m : Machine) (S : State) (h : EndsItself S.main) where
  own_spawn : (o : Result Task ℕ) → EndsItself (after_call S (spawn_on S.main o)).main
  own_spawn (Err n) = refl
  own_spawn (Ok t) = h

  own_await : (x : Option Range) → EndsItself (await_on S.main x)
  own_await None = refl
  own_await (Some object) = h

  own_call : (c : Option Call) → EndsItself (main_by m S c).main
  own_call None = own_stretch S.code m.limits m.sizes.quantum (flat_of S) h
  own_call (Some ExitCall) = refl
  own_call (Some Spawn) =
      own_spawn (spawn_of (spawn_call S.main.registers) S.home S.main.epoch m.limits S.main.spawned)
  own_call (Some Barrier) = h
  own_call (Some Print) = own_print m.limits S.home S.main (print_range S.main.registers) h
  own_call (Some Await) = own_await (awaited_object S.main)
  own_call (Some (Unknown n)) = refl

  -- main's event keeps it so
  pub own_main : EndsItself (after_event m S event.Main).main
  unfolding after_event
  own_main = own_call (call_next m S)

-- in every run
pub EndsItself-Run : (m : Machine) (i : ImageState) (es : List Event) (S : State) → IsRun m i es S → EndsItself S.main
EndsItself-Run m i es S run =
    main_keeps EndsItself m (λ S h. own_main m S h) es (initial_state i) S refl run

-- so its ending is no task's trap
pub no_task_trap : (x : MainState) → EndsItself x → (n : ℕ) (trap : Trap) → x.ending ≡ Some (TaskTrap n trap) → ⊥
no_task_trap x h n trap e = true≢false (sym h ∙ ap is_own e)
