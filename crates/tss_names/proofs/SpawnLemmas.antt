-- What main's event does to the tasks: it spawns none, or one with the next number into an empty inbox.
use Rattle.std.proofs.Common.{◌≡◌, ℕ, zero, suc, ◌+◌, ◌<◌, ◌≤◌, ◌⊎◌, inl, inr, Bool, true, false, ◌&&◌, if◌then◌else◌}
use Rattle.std.proofs.Common.{List, [], ◌∷◌, ◌++◌, length, take, replicate, Option, Some, None, is_none, Result, Ok}
use Rattle.std.proofs.Common.{Err, refl, sym, ap, ◌∙◌, arith}
use Rattle.std.specs.Prelude.{nat_lt, nat_le, ◌-◌}
use Rattle.std.specs.List.{list_any}
use Rattle.std.proofs.lemmas.Bool.{and_parts, leb-false, ltb-false}
use Rattle.std.proofs.lemmas.List.{length-map, length_push}
use Rattle.tss_base.specs.declared.lists.TheConstants.{ENTRY_BYTES}
use Rattle.tss_base.specs.declared.range.Range.{Range}
use Rattle.tss_base.specs.declared.operand.Operand.{Operand}
use Rattle.tss_base.specs.declared.operand.Task.{Task}
use Rattle.tss_base.specs.declared.machine.Limits.{Limits}
use Rattle.tss_base.specs.declared.machine.Machine.{Machine}
use Rattle.tss_base.specs.declared.event.Event.TheVariants as event
use Rattle.tss_model.specs.Memory.{Memory}
use Rattle.tss_model.specs.Access.{operands_of, touches}
use Rattle.tss_base.specs.declared.refusals.TheConstants.{EPOCH_FULL, LIST_PLACE, MAIN_TOUCH, TOO_MANY_OPERANDS}
use Rattle.tss_base.specs.declared.refusals.TheConstants.{TOO_MANY_TASKS}
use Rattle.tss_model.specs.Spawn.{SpawnCall, Entry, after_first, entries_at, entries_checked, entry_checked}
use Rattle.tss_model.specs.Spawn.{is_misplaced, list_range, merged_on, merged_operands, name_object, name_objects}
use Rattle.tss_model.specs.Spawn.{no_operand, objects_of, same_range, spawn_of, task_checked, task_of, with_rest}
use Rattle.tss_model.specs.MainStep.{Call, ExitCall, Spawn, Barrier, Print, Await, Unknown, print_range, spawn_call}
use Rattle.tss_model.specs.MainStep.{spawn_on, awaited_object, await_on}
use Rattle.tss_protocol.specs.State.{State}
use Rattle.tss_protocol.specs.MainEvent.{flat_of, call_next, may_call, main_by, after_call}
use Rattle.tss_protocol.specs.UnitMachine.{IsEnabled, is_enabled, after_event}
use Rattle.tss_phases.proofs.MainEvent.{spawned-main_stretch, spawned-print}
use Rattle.tss_names.proofs.PlainLemmas.{none_from_test}
use Rattle.tss_names.specs.Tasks.{with_spawned, spawned_by_main}
use Rattle.tss_protocol.proofs.FrontLemmas.{front_of, back_of}

-- ---- accepted spawns

-- a check that passes
else_of : {X : Type 0} (b : Bool) (n : ℕ) (r : Result X ℕ) (x : X) → (if b then Err n else r) ≡ Ok x
    → (b ≡ false) × (r ≡ Ok x)
else_of true n r x h = absurd (cc)
else_of false n r x h = (refl, h)

-- as many operands as entries
length-after_first : (o : Operand) (r : Result (List Operand) ℕ) (os : List Operand) (n : ℕ)
    → ((rest : List Operand) → r ≡ Ok rest → length rest ≡ n) → after_first o r ≡ Ok os → length os ≡ suc n
length-after_first o (Err k) os n each h = absurd (cc)
length-after_first o (Ok rest) os n each h =
    let is : o ∷ rest ≡ os = cc in ap length (sym is) ∙ ap suc (each rest refl)

length-with_rest : (r : Result Operand ℕ) (f : Operand → Result (List Operand) ℕ) (os : List Operand) (n : ℕ)
    → ((o : Operand) (rest : List Operand) → f o ≡ Ok rest → length rest ≡ n) → with_rest r f ≡ Ok os
    → length os ≡ suc n
length-with_rest (Err k) f os n each h = absurd (cc)
length-with_rest (Ok o) f os n each h = length-after_first o (f o) os n (each o) h

length-entries_checked : (limits : Limits) (m : Memory) (named : List Range) (es : List Entry) (os : List Operand)
    → entries_checked limits m named es ≡ Ok os → length os ≡ length es
unfolding entries_checked
length-entries_checked limits m named [] os h = let none : [] ≡ os = cc in ap length (sym none)
length-entries_checked limits m named (e ∷ es) os h =
    length-with_rest (entry_checked limits m named e) (λ o. entries_checked limits m (named ++ o.object ∷ []) es) os
    (length es)
    (λ o rest g. length-entries_checked limits m (named ++ o.object ∷ []) es rest g) h

length-entries_at : (m : Memory) (at n : ℕ) → length (entries_at m at n) ≡ n
length-entries_at m at zero = refl
length-entries_at m at (suc n) = ap suc (length-entries_at m (at + ENTRY_BYTES) n)

-- no more merged operands than listed ones
few_named : (named : List Range) (r : Range) → length (name_object named r) ≤ length named + 1
few_named named r =
    elim (list_any (same_range r) named) as (λ b. length (if b then named else named ++ r ∷ []) ≤ length named + 1) [
      | true ↦ omega arith
      | false ↦ omega (arith, length_push named r)
    ]

few_named_all : (named xs : List Range) → length (name_objects named xs) ≤ length named + length xs
few_named_all named [] = omega arith
few_named_all named (x ∷ xs) = omega (arith, few_named named x, few_named_all (name_object named x) xs)

few_merged : (listed : List Operand) → length (merged_operands listed) ≤ length listed
few_merged listed =
    omega (
      arith,
      length-map (name_objects [] (objects_of listed)) (merged_on listed),
      few_named_all [] (objects_of listed),
      length-map listed (λ o. o.object),
    )

-- a filled up list begins with the list
take-front : {X : Type 0} (xs ys : List X) → take (length xs) (xs ++ ys) ≡ xs
take-front [] ys = refl
take-front (x ∷ xs) ys = ap (λ zs. x ∷ zs) (take-front xs ys)

-- the task of an accepted spawn: it has the next number, no more operands than a task may have, and is one of at most
-- as many as there may be
pub record IsNext (limits : Limits) (spawned : ℕ) (t : Task) : Type 0 where
  pub number : t.number ≡ suc spawned
  pub operands : length (operands_of t) ≤ limits.max_operands
  pub room : spawned < limits.max_tasks

module _ (call : SpawnCall) (m : Memory) (named : List Range) (limits : Limits) (spawned : ℕ) (t : Task) where
  next_listed : call.count ≤ limits.max_operands → (r : Result (List Operand) ℕ)
      → ((os : List Operand) → r ≡ Ok os → length os ≡ call.count) → task_checked limits call named spawned r ≡ Ok t
      → IsNext limits spawned t
  next_listed few (Err n) many h = absurd (cc)
  next_listed few (Ok os) many h =
      let room = else_of (nat_lt limits.epoch_objects (length (name_objects named (objects_of os)))) EPOCH_FULL _ t h in
      let more = else_of (nat_le limits.max_tasks spawned) TOO_MANY_TASKS _ t room.1 in
      let is : task_of call (suc spawned) os (merged_operands os) ≡ t = cc in
      let same = ap operands_of (sym is)
      ∙ take-front (merged_operands os) (replicate (7 - length (merged_operands os)) no_operand) in
      record {
        number = ap (λ (x : Task). x.number) (sym is);
        operands = omega (arith, ap length same, few_merged os, many os refl, few);
        room = leb-false _ _ more.0;
      }

  -- the task of an accepted spawn is the next one
  pub IsNext-spawn_of : spawn_of call m named limits spawned ≡ Ok t → IsNext limits spawned t
  unfolding spawn_of
  IsNext-spawn_of accepted =
      let short = else_of (nat_lt limits.max_operands call.count) TOO_MANY_OPERANDS _ t accepted in
      let placed = else_of (nat_lt 0 call.count && is_misplaced m call) LIST_PLACE _ t short.1 in
      let clear = else_of (nat_lt 0 call.count && touches named (list_range call)) MAIN_TOUCH _ t placed.1 in
      next_listed (ltb-false _ _ short.0) (entries_checked limits m named (entries_at m call.list call.count))
      (λ os e. length-entries_checked limits m named _ os e ∙ length-entries_at m call.list call.count) clear.1

-- ---- steps and calls that spawn nothing

-- ---- main's event

-- no task is spawned
pub record SpawnsNothing (ts us : List Task) (S T : State) : Type 0 where
  pub list : us ≡ ts
  pub front : front_of T ≡ front_of S
  pub back : back_of T ≡ back_of S

-- one is, into an empty inbox
pub record SpawnsOne (m : Machine) (ts us : List Task) (S T : State) : Type 0 where
  pub task : Task
  pub empty : S.inbox ≡ None
  pub next : IsNext m.limits S.main.spawned task
  pub list : us ≡ task ∷ ts
  pub front : front_of T ≡ record (front_of S) { spawned = suc S.main.spawned; inbox = Some task }
  pub back : back_of T ≡ back_of S

-- one of both
abbrev pub SpawnsAtMostOne : Machine → List Task → List Task → State → State → Type 0
SpawnsAtMostOne m ts us S T = SpawnsNothing ts us S T ⊎ SpawnsOne m ts us S T

module _ (m : Machine) (ts : List Task) (S : State) where
  spawns_by_call : (r : Result Task ℕ)
      → spawn_of (spawn_call S.main.registers) S.home S.main.epoch m.limits S.main.spawned ≡ r
      → S.inbox ≡ None
      → SpawnsAtMostOne m ts (with_spawned ts (spawn_on S.main r).1) S (after_call S (spawn_on S.main r))
  spawns_by_call (Err n) e empty = inl (record { list = refl; front = refl; back = refl })
  spawns_by_call (Ok t) e empty = inr (record {
    task = t;
    empty = empty;
    next = IsNext-spawn_of (spawn_call S.main.registers) S.home S.main.epoch m.limits S.main.spawned t e;
    list = refl;
    front = refl;
    back = refl;
  })

  spawned-await : (x : Option Range) → (await_on S.main x).spawned ≡ S.main.spawned
  spawned-await None = refl
  spawned-await (Some object) = refl

  spawns_by : (c : Option Call) → may_call S c ≡ true
      → SpawnsAtMostOne m ts (spawned_by_main m S ts c) S (main_by m S c)
  spawns_by None may = inl (record {
    list = refl;
    front = λ i. record (front_of S) {
      spawned = spawned-main_stretch S.code m.limits m.sizes.quantum (flat_of S) i;
    };
    back = refl;
  })
  spawns_by (Some ExitCall) may = inl (record { list = refl; front = refl; back = refl })
  spawns_by (Some Spawn) may =
      spawns_by_call (spawn_of (spawn_call S.main.registers) S.home S.main.epoch m.limits S.main.spawned) refl
      (none_from_test S.inbox may)
  spawns_by (Some Barrier) may = inl (record { list = refl; front = refl; back = refl })
  spawns_by (Some Print) may = inl (record {
    list = refl;
    front = λ i. record (front_of S) {
      spawned = spawned-print m.limits S.home S.main (print_range S.main.registers) i;
    };
    back = refl;
  })
  spawns_by (Some Await) may = inl (record {
    list = refl;
    front = λ i. record (front_of S) { spawned = spawned-await (awaited_object S.main) i };
    back = refl;
  })
  spawns_by (Some (Unknown n)) may = inl (record { list = refl; front = refl; back = refl })

  -- main's event spawns at most one task
  pub spawns_main : IsEnabled m S event.Main
      → SpawnsAtMostOne m ts (spawned_by_main m S ts (call_next m S)) S (after_event m S event.Main)
  unfolding is_enabled after_event
  spawns_main on = spawns_by (call_next m S) (and_parts (is_none S.main.ending && is_none S.trap) _ on).1
