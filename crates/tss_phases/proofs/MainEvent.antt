-- An event of main changes no phase: a task that it spawns was ahead, and still is in the inbox.
use Rattle.std.proofs.Common.{◌≡◌, ℕ, zero, suc, ◌+◌, Bool, true, false, List, Option, Some, None, Result, Ok, Err}
use Rattle.std.proofs.Common.{refl, sym, ap, ◌∙◌, arith, nat_lt, nat_le}
use Rattle.std.specs.Prelude.{◌==◌, ◌||◌, ◌&&◌, if◌then◌else◌, is_none, is_some, length}
use Rattle.std.proofs.lemmas.Bool.Decides.{nat_tests}
use Rattle.tss_base.specs.declared.range.Range.{Range}
use Rattle.tss_base.specs.declared.operand.OpName.{OpName}
use Rattle.tss_base.specs.declared.operand.Operand.{Operand}
use Rattle.tss_base.specs.declared.operand.Task.{Task}
use Rattle.tss_base.specs.declared.machine.Limits.{Limits}
use Rattle.tss_base.specs.declared.machine.Machine.{Machine}
use Rattle.tss_base.specs.declared.event.Event.TheVariants as event
use Rattle.tss_base.specs.Image.{SegmentState}
use Rattle.tss_model.specs.Memory.{Memory, range_of, bytes_of}
use Rattle.tss_model.specs.Registers.{trap_of}
use Rattle.tss_base.specs.declared.causes.TheConstants.{LOAD_DENIED}
use Rattle.tss_base.specs.declared.refusals.TheConstants.{TOO_MANY_OPERANDS, LIST_PLACE, MAIN_TOUCH, EPOCH_FULL}
use Rattle.tss_base.specs.declared.refusals.TheConstants.{TOO_MANY_TASKS, OUTPUT_FULL, MAIN_BUDGET_SPENT}
use Rattle.tss_model.specs.Access.{touches}
use Rattle.tss_model.specs.Core.{Stepped, Called}
use Rattle.tss_model.specs.Spawn.{SpawnCall, spawn_of, task_checked, task_of, merged_operands, name_objects, objects_of}
use Rattle.tss_model.specs.Spawn.{entries_checked, entries_at, is_misplaced, list_range}
use Rattle.tss_model.specs.TaskRun.{repeated}
use Rattle.tss_model.specs.MainStep.{MainState, Flat, Call, ExitCall, Spawn, Barrier, Print, Await, Unknown, main_on}
use Rattle.tss_model.specs.MainStep.{main_core, main_step, main_stretch, main_refused, main_trapped, has_spent}
use Rattle.tss_model.specs.MainStep.{output_of, spawn_call, spawn_on, print_some, print_done, print_call}
use Rattle.tss_model.specs.MainStep.{awaited_object, await_on, print_range, call_done}
use Rattle.tss_protocol.specs.State.{State}
use Rattle.tss_protocol.specs.MainEvent.{flat_of, call_next, may_call, after_call, main_by}
use Rattle.tss_protocol.specs.UnitMachine.{is_enabled, IsEnabled, after_event}
use Rattle.tss_phases.specs.Phase.{look_ups, phase_at, inbox_has, phase_of}
use Rattle.tss_phases.proofs.Tests.{both}

-- ---- a stretch spawns no task

stepped : (f : Flat) (s : Stepped) → (main_on f s).main.spawned ≡ f.main.spawned
stepped f Called = refl
stepped f other = refl

-- one step
spawned-main_step : (code : List SegmentState) (limits : Limits) (f : Flat)
    → (main_step code limits f).main.spawned ≡ f.main.spawned
unfolding main_step
spawned-main_step code limits f = by (is_some f.main.ending) (has_spent limits f.main)
  where
    by : (a b : Bool)
        → (if a then f else if b then record f { main = main_refused f.main MAIN_BUDGET_SPENT }
        else main_on f (main_core code f)).main.spawned ≡ f.main.spawned
    by true b = refl
    by false true = refl
    by false false = stepped f (main_core code f)

-- a stretch of steps
pub spawned-main_stretch : (code : List SegmentState) (limits : Limits) (n : ℕ) (f : Flat)
    → (main_stretch code limits n f).main.spawned ≡ f.main.spawned
unfolding repeated
spawned-main_stretch code limits zero f = refl
spawned-main_stretch code limits (suc n) f =
    spawned-main_stretch code limits n (main_step code limits f) ∙ spawned-main_step code limits f

-- ---- a print spawns no task

printed_some : (limits : Limits) (memory : Memory) (m : MainState) (r : Range)
    → (print_some limits memory m r).spawned ≡ m.spawned
printed_some limits memory m r =
    by (is_none (range_of memory.ranges r)) (touches m.epoch r)
    (nat_lt limits.output_bytes (length (output_of m.pieces) + r.len))
  where
    by : (a b c : Bool)
        → (if a then main_trapped m (trap_of m.registers LOAD_DENIED r.base)
        else if b then main_refused m MAIN_TOUCH
        else if c then main_refused m OUTPUT_FULL
        else print_done m (bytes_of memory r)).spawned ≡ m.spawned
    by true b c = refl
    by false true c = refl
    by false false true = refl
    by false false false = refl

-- an await
spawned-await : (x : MainState) (object : Option Range) → (await_on x object).spawned ≡ x.spawned
spawned-await x None = refl
spawned-await x (Some object) = refl

-- a print
pub spawned-print : (limits : Limits) (memory : Memory) (m : MainState) (r : Range)
    → (print_call limits memory m r).spawned ≡ m.spawned
spawned-print limits memory m r = by (r.len == 0)
  where
    by : (a : Bool) → (if a then call_done m else print_some limits memory m r).spawned ≡ m.spawned
    by true = refl
    by false = printed_some limits memory m r

-- ---- a spawned task has the next number

not_refused : (n : ℕ) (t : Task) → Err n ≡ Ok t → ⊥
not_refused n t e = cc

accepted : (s t : Task) → ◌≡◌ {A = Result Task ℕ} (Ok s) (Ok t) → s ≡ t
accepted s t e = cc

checked_number : (limits : Limits) (call : SpawnCall) (named : List Range) (spawned : ℕ)
    (r : Result (List Operand) ℕ) (t : Task) → task_checked limits call named spawned r ≡ Ok t → t.number ≡ suc spawned
checked_number limits call named spawned (Err n) t e = absurd (not_refused n t e)
checked_number limits call named spawned (Ok listed) t e =
    by (nat_lt limits.epoch_objects (length (name_objects named (objects_of listed))))
    (nat_le limits.max_tasks spawned) e
  where
    by : (a b : Bool)
        → (if a then Err EPOCH_FULL else if b then Err TOO_MANY_TASKS
        else Ok (task_of call (suc spawned) listed (merged_operands listed))) ≡ Ok t → t.number ≡ suc spawned
    by true b e = absurd (not_refused EPOCH_FULL t e)
    by false true e = absurd (not_refused TOO_MANY_TASKS t e)
    by false false e = ap (λ (t : Task). t.number) (sym (accepted _ t e))

-- the number of a task that is spawned
spawn_number : (call : SpawnCall) (m : Memory) (named : List Range) (limits : Limits) (spawned : ℕ) (t : Task)
    → spawn_of call m named limits spawned ≡ Ok t → t.number ≡ suc spawned
unfolding spawn_of
spawn_number call m named limits spawned t e =
    by (nat_lt limits.max_operands call.count) (nat_lt 0 call.count && is_misplaced m call)
    (nat_lt 0 call.count && touches named (list_range call)) e
  where
    rest : Result Task ℕ
    rest = task_checked limits call named spawned (entries_checked limits m named (entries_at m call.list call.count))

    by : (a b c : Bool)
        → (if a then Err TOO_MANY_OPERANDS else if b then Err LIST_PLACE else if c then Err MAIN_TOUCH else rest) ≡ Ok t
        → t.number ≡ suc spawned
    by true b c e = absurd (not_refused TOO_MANY_OPERANDS t e)
    by false true c e = absurd (not_refused LIST_PLACE t e)
    by false false true e = absurd (not_refused MAIN_TOUCH t e)
    by false false false e =
        checked_number limits call named spawned
        (entries_checked limits m named (entries_at m call.list call.count)) t e

-- ---- what main's event does to phases

-- of the tasks after the spawned ones the first is in the inbox now
next_ahead : (n k : ℕ) → (nat_lt (suc n) k || (suc n == k)) ≡ (nat_lt n k || false)
next_ahead n k = grind (arith, nat_tests)

none_from_test : {X : Type 0} (x : Option X) → is_none x ≡ true → x ≡ None
none_from_test None e = refl
none_from_test (Some x) e = absurd (cc)

module _ (m : Machine) (S : State) (q : OpName) where
  after_spawn : S.inbox ≡ None → (r : Result Task ℕ)
      → ((t : Task) → r ≡ Ok t → t.number ≡ suc S.main.spawned)
      → look_ups (after_call S (spawn_on S.main r)) q ≡ look_ups S q
  after_spawn empty (Err n) number = refl
  after_spawn empty (Ok t) number =
      let same = ap (λ k. nat_lt (suc S.main.spawned) q.task || (k == q.task)) (number t refl)
      ∙ next_ahead S.main.spawned q.task
      ∙ ap (λ x. nat_lt S.main.spawned q.task || inbox_has x q.task) (sym empty) in
      λ i. record (look_ups S q) { ahead = same i }

  by_call : (c : Option Call) → may_call S c ≡ true → look_ups (main_by m S c) q ≡ look_ups S q
  by_call None may = λ i. record (look_ups S q) {
    ahead =
        nat_lt (spawned-main_stretch S.code m.limits m.sizes.quantum (flat_of S) i) q.task
        || inbox_has S.inbox q.task;
  }
  by_call (Some ExitCall) may = refl
  by_call (Some Spawn) may =
      after_spawn (none_from_test S.inbox may)
      (spawn_of (spawn_call S.main.registers) S.home S.main.epoch m.limits S.main.spawned)
      (λ t e. spawn_number (spawn_call S.main.registers) S.home S.main.epoch m.limits S.main.spawned t e)
  by_call (Some Barrier) may = refl
  by_call (Some Print) may = λ i. record (look_ups S q) {
    ahead =
        nat_lt (spawned-print m.limits S.home S.main (print_range S.main.registers) i) q.task
        || inbox_has S.inbox q.task;
  }
  by_call (Some Await) may = λ i. record (look_ups S q) {
    ahead = nat_lt (spawned-await S.main (awaited_object S.main) i) q.task || inbox_has S.inbox q.task;
  }
  by_call (Some (Unknown n)) may = refl

  -- main
  pub look_ups-main : IsEnabled m S event.Main → look_ups (after_event m S event.Main) q ≡ look_ups S q
  unfolding after_event is_enabled
  look_ups-main enabled =
      by_call (call_next m S)
      (both (is_none S.main.ending && is_none S.trap) (may_call S (call_next m S)) enabled).1

  -- no phase is changed by main
  pub phase_of-main : IsEnabled m S event.Main → phase_of (after_event m S event.Main) q ≡ phase_of S q
  phase_of-main enabled = ap phase_at (look_ups-main enabled)
