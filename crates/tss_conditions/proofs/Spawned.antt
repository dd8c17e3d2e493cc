-- The tasks that a run spawns have the operands that they count, and list no more than a task may.
use Rattle.std.proofs.Common.{◌≡◌, ℕ, zero, suc, ◌≤◌, Bool, true, false, if◌then◌else◌, List, [], ◌∷◌, ◌++◌, length}
use Rattle.std.proofs.Common.{replicate, Option, Some, Result, Ok, Err, refl, sym, ap, ◌∙◌, subst, arith}
use Rattle.std.specs.Prelude.{◌+◌, ◌-◌, ◌==◌, ◌&&◌, nat_lt, nat_le, cond}
use Rattle.std.proofs.lemmas.Bool.{ltb-false}
use Rattle.std.proofs.lemmas.Option.{none-some, same_Some}
use Rattle.tss_base.specs.declared.lists.TheConstants.{ENTRY_BYTES}
use Rattle.tss_base.specs.declared.range.Range.{Range}
use Rattle.tss_base.specs.declared.operand.Operand.{Operand}
use Rattle.tss_base.specs.declared.operand.Task.{Task}
use Rattle.tss_base.specs.declared.machine.Limits.{Limits}
use Rattle.tss_base.specs.declared.machine.Machine.{Machine}
use Rattle.tss_base.specs.declared.event.Event.{Event}
use Rattle.tss_base.specs.declared.event.Event.TheVariants as event
use Rattle.tss_base.specs.Image.{ImageState}
use Rattle.tss_base.specs.declared.refusals.TheConstants.{TOO_MANY_OPERANDS, LIST_PLACE, MAIN_TOUCH, EPOCH_FULL}
use Rattle.tss_base.specs.declared.refusals.TheConstants.{TOO_MANY_TASKS}
use Rattle.tss_model.specs.Memory.{Memory}
use Rattle.tss_model.specs.Access.{operands_of, touches}
use Rattle.tss_model.specs.Spawn.{SpawnCall, Entry, list_range, is_misplaced, entries_at, entry_checked, after_first}
use Rattle.tss_model.specs.Spawn.{with_rest, entries_checked, merged_operands, name_objects, objects_of, no_operand}
use Rattle.tss_model.specs.Spawn.{task_of, task_checked, spawn_of}
use Rattle.tss_model.specs.MainStep.{Call, Spawn, spawn_call, spawn_on}
use Rattle.tss_protocol.specs.State.{State, initial_state}
use Rattle.tss_protocol.specs.MainEvent.{call_next}
use Rattle.tss_protocol.specs.Run.{IsRun}
use Rattle.tss_names.specs.Tasks.{task_at, with_spawned, spawned_by_main, spawned_after_event, spawned_tasks}
use Rattle.tss_names.proofs.RunLemmas.{kept_after}
use Rattle.tss_program_order.proofs.FlatEpoch.{take-filled}

-- it has the operands that it counts, and lists no more than a task may
pub record CountsRightly (limits : Limits) (t : Task) : Type 0 where
  pub count : length (operands_of t) ≡ t.count
  pub listed : t.listed ≤ limits.max_operands

-- each spawned task does
abbrev pub CountRightly : Limits → List Task → Type 0
CountRightly limits all = (n : ℕ) (t : Task) → task_at all n ≡ Some t → CountsRightly limits t

-- ---- an accepted spawn

passed : {X : Type 0} (b : Bool) (n : ℕ) (r : Result X ℕ) (x : X) → (if b then Err n else r) ≡ Ok x
    → (b ≡ false) × (r ≡ Ok x)
passed true n r x h = absurd (cc)
passed false n r x h = (refl, h)

many_after_first : (o : Operand) (r : Result (List Operand) ℕ) (os : List Operand) (n : ℕ)
    → ((rest : List Operand) → r ≡ Ok rest → length rest ≡ n) → after_first o r ≡ Ok os → length os ≡ suc n
many_after_first o (Err k) os n each h = absurd (cc)
many_after_first o (Ok rest) os n each h =
    let is : o ∷ rest ≡ os = cc in ap length (sym is) ∙ ap suc (each rest refl)

many_with_rest : (r : Result Operand ℕ) (f : Operand → Result (List Operand) ℕ) (os : List Operand) (n : ℕ)
    → ((o : Operand) (rest : List Operand) → f o ≡ Ok rest → length rest ≡ n) → with_rest r f ≡ Ok os
    → length os ≡ suc n
many_with_rest (Err k) f os n each h = absurd (cc)
many_with_rest (Ok o) f os n each h = many_after_first o (f o) os n (each o) h

many_checked : (limits : Limits) (m : Memory) (named : List Range) (es : List Entry) (os : List Operand)
    → entries_checked limits m named es ≡ Ok os → length os ≡ length es
unfolding entries_checked
many_checked limits m named [] os h = let none : [] ≡ os = cc in ap length (sym none)
many_checked limits m named (e ∷ es) os h =
    many_with_rest (entry_checked limits m named e) (λ o. entries_checked limits m (named ++ o.object ∷ []) es) os
    (length es)
    (λ o rest g. many_checked limits m (named ++ o.object ∷ []) es rest g) h

many_at : (m : Memory) (at n : ℕ) → length (entries_at m at n) ≡ n
many_at m at zero = refl
many_at m at (suc n) = ap suc (many_at m (at + ENTRY_BYTES) n)

module _ (call : SpawnCall) (m : Memory) (named : List Range) (limits : Limits) (spawned : ℕ) (t : Task) where
  task_counts : call.count ≤ limits.max_operands → (r : Result (List Operand) ℕ)
      → ((os : List Operand) → r ≡ Ok os → length os ≡ call.count) → task_checked limits call named spawned r ≡ Ok t
      → CountsRightly limits t
  task_counts few (Err n) many h = absurd (cc)
  task_counts few (Ok os) many h =
      let room = passed (nat_lt limits.epoch_objects (length (name_objects named (objects_of os)))) EPOCH_FULL _ t h in
      let more = passed (nat_le limits.max_tasks spawned) TOO_MANY_TASKS _ t room.1 in
      let is : task_of call (suc spawned) os (merged_operands os) ≡ t = cc in
      let all = ap length (take-filled (merged_operands os) (replicate (7 - length (merged_operands os)) no_operand)) in
      let listed = many os refl in
      subst (CountsRightly limits) is (record { count = all; listed = omega (arith, listed, few) })

  spawn_counts : spawn_of call m named limits spawned ≡ Ok t → CountsRightly limits t
  unfolding spawn_of
  spawn_counts accepted =
      let short = passed (nat_lt limits.max_operands call.count) TOO_MANY_OPERANDS _ t accepted in
      let placed = passed (nat_lt 0 call.count && is_misplaced m call) LIST_PLACE _ t short.1 in
      let clear = passed (nat_lt 0 call.count && touches named (list_range call)) MAIN_TOUCH _ t placed.1 in
      task_counts (ltb-false _ _ short.0) (entries_checked limits m named (entries_at m call.list call.count))
      (λ os e. many_checked limits m named _ os e ∙ many_at m call.list call.count) clear.1

-- ---- every event

module _ (m : Machine) (all : List Task) (S : State) (right : CountRightly m.limits all) where
  one_more : (t : Task) → CountsRightly m.limits t → CountRightly m.limits (t ∷ all)
  one_more t own n u e = by (n == suc (length all)) e
    where
      by : (b : Bool) → cond b (Some t) (task_at all n) ≡ Some u → CountsRightly m.limits u
      by true e = subst (CountsRightly m.limits) (same_Some t u e) own
      by false e = right n u e

  by_spawn : (x : Result Task ℕ)
      → spawn_of (spawn_call S.main.registers) S.home S.main.epoch m.limits S.main.spawned ≡ x
      → CountRightly m.limits (with_spawned all (spawn_on S.main x).1)
  by_spawn (Err n) e = right
  by_spawn (Ok t) e =
      one_more t (spawn_counts (spawn_call S.main.registers) S.home S.main.epoch m.limits S.main.spawned t e)

  by_call : (c : Option Call) → CountRightly m.limits (spawned_by_main m S all c)
  by_call (Some Spawn) =
      by_spawn (spawn_of (spawn_call S.main.registers) S.home S.main.epoch m.limits S.main.spawned) refl
  by_call other = right

  -- after every event they do
  right_after : (e : Event) → CountRightly m.limits (spawned_after_event m S all e)
  right_after event.Main = by_call (call_next m S)
  right_after e = right

-- so they do in every run
pub counts_run : (m : Machine) (i : ImageState) (es : List Event) (S : State) → IsRun m i es S
    → CountRightly m.limits (spawned_tasks m i es)
counts_run m i es S run =
    kept_after (λ m all S. CountRightly m.limits all) (λ m all S e right on. right_after m all S right e) m es []
    (initial_state i) S (λ n t e. absurd (none-some t e)) run
