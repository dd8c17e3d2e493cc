-- What an accepted spawn gives: the number of its task, and objects that are separate from those named before.
use Rattle.std.proofs.Common.{◌≡◌, ℕ, zero, suc, Bool, true, false, cond, List, [], ◌∷◌, ◌++◌, map, length, take, Some}
use Rattle.std.proofs.Common.{refl, sym, ap, ◌∙◌, subst, inl, inr, arith}
use Rattle.std.specs.Prelude.{◌&&◌, nat_lt, nat_le, slice_get, Result, Ok, Err}
use Rattle.std.proofs.Math.Seq.{take-length}
use Rattle.std.proofs.lemmas.List.{take-append-le}
use Rattle.std.proofs.lemmas.Option.{none-some, same_Some}
use Rattle.tss_base.specs.declared.range.Range.{Range}
use Rattle.tss_base.specs.declared.operand.Operand.{Operand}
use Rattle.tss_base.specs.declared.operand.Task.{Task}
use Rattle.tss_base.specs.declared.machine.Limits.{Limits}
use Rattle.tss_model.specs.Memory.{Memory}
use Rattle.tss_model.specs.Access.{operands_of, touches}
use Rattle.tss_base.specs.declared.refusals.TheConstants.{TOO_MANY_OPERANDS, LIST_PLACE, MAIN_TOUCH, EPOCH_FULL}
use Rattle.tss_base.specs.declared.refusals.TheConstants.{TOO_MANY_TASKS}
use Rattle.tss_model.specs.Spawn.{SpawnCall, list_range, entries_at, entries_checked, merged_on, merged_operands}
use Rattle.tss_model.specs.Spawn.{name_objects, objects_of, task_of, task_checked, is_misplaced, spawn_of}
use Rattle.tss_locality.specs.Rounds.{IsIn, AreSeparate}
use Rattle.tss_locality.proofs.SeparateObjects.{in_front, in_back, separate_listed, from_named, separate_fewer}

-- the listed operands of a spawned task
record IsSpawned (call : SpawnCall) (m : Memory) (named : List Range) (limits : Limits) (spawned : ℕ)
    (t : Task) : Type 0 where
  listed : List Operand
  checked : entries_checked limits m named (entries_at m call.list call.count) ≡ Ok listed
  task : t ≡ task_of call (suc spawned) listed (merged_operands listed)

refused_ok : (n : ℕ) (t : Task) → Err n ≡ Ok t → ⊥
refused_ok n t e = cc

same_task : (t u : Task) → ◌≡◌ {A = Result Task ℕ} (Ok t) (Ok u) → t ≡ u
same_task t u e = cc

-- a test that refuses passed
ok_if : (n : ℕ) (t : Task) (b : Bool) (r : Result Task ℕ) → cond b (Err n) r ≡ Ok t → r ≡ Ok t
ok_if n t true r e = absurd (refused_ok n t e)
ok_if n t false r e = e

module _ (call : SpawnCall) (m : Memory) (named : List Range) (limits : Limits) (spawned : ℕ) (t : Task) where
  checked_task : (r : Result (List Operand) ℕ) →
      entries_checked limits m named (entries_at m call.list call.count) ≡ r →
      task_checked limits call named spawned r ≡ Ok t → IsSpawned call m named limits spawned t
  checked_task (Err n) there e = absurd (refused_ok n t e)
  checked_task (Ok listed) there e =
      let made = task_of call (suc spawned) listed (merged_operands listed) in
      let last = cond (nat_le limits.max_tasks spawned) (Err TOO_MANY_TASKS) (Ok made) in
      let inner = ok_if EPOCH_FULL t (nat_lt limits.epoch_objects (length (name_objects named (objects_of listed))))
      last e in
      record {
        listed = listed;
        checked = there;
        task = sym (same_task made t (ok_if TOO_MANY_TASKS t (nat_le limits.max_tasks spawned) (Ok made) inner));
      }

  is_spawned : spawn_of call m named limits spawned ≡ Ok t → IsSpawned call m named limits spawned t
  unfolding spawn_of
  is_spawned e =
      let r = entries_checked limits m named (entries_at m call.list call.count) in
      let last = task_checked limits call named spawned r in
      let touching = cond (nat_lt 0 call.count && touches named (list_range call)) (Err MAIN_TOUCH) last in
      let misplaced = cond (nat_lt 0 call.count && is_misplaced m call) (Err LIST_PLACE) touching in
      let a = ok_if TOO_MANY_OPERANDS t (nat_lt limits.max_operands call.count) misplaced e in
      let b = ok_if LIST_PLACE t (nat_lt 0 call.count && is_misplaced m call) touching a in
      let c = ok_if MAIN_TOUCH t (nat_lt 0 call.count && touches named (list_range call)) last b in
      checked_task r refl c

-- ---- its operands and objects

objects_merged : (listed : List Operand) (xs : List Range) → objects_of (map (merged_on listed) xs) ≡ xs
objects_merged listed [] = refl
objects_merged listed (x ∷ xs) = ap (λ ys. x ∷ ys) (objects_merged listed xs)

taken_whole : (xs ys : List Operand) → take (length xs) (xs ++ ys) ≡ xs
taken_whole xs ys = take-append-le (length xs) xs ys (omega arith) ∙ take-length xs

-- the objects of a task's operands have them
pub in_objects : (os : List Operand) (j : ℕ) (p : Operand) → slice_get os j ≡ Some p → IsIn p.object (objects_of os)
in_objects [] j p e = absurd (none-some p e)
in_objects (o ∷ os) zero p e = inl (ap (λ (o : Operand). o.object) (same_Some o p e))
in_objects (o ∷ os) (suc j) p e = inr (in_objects os j p e)

module _ (call : SpawnCall) (m : Memory) (named : List Range) (limits : Limits) (spawned : ℕ) (t : Task)
    (accepted : spawn_of call m named limits spawned ≡ Ok t) where
  how : IsSpawned call m named limits spawned t
  how = is_spawned call m named limits spawned t accepted

  its_objects : objects_of (operands_of t) ≡ name_objects [] (objects_of how.listed)
  its_objects =
      ap (λ t. objects_of (operands_of t)) how.task
      ∙ ap objects_of (taken_whole (merged_operands how.listed) _)
      ∙ objects_merged how.listed (name_objects [] (objects_of how.listed))

  -- its number is the next
  pub accepted_number : t.number ≡ suc spawned
  accepted_number = ap (λ (t : Task). t.number) how.task

  -- the objects that are named with it are separate
  pub accepted_separate : AreSeparate named → AreSeparate (name_objects named (objects_of (operands_of t)))
  accepted_separate separate =
      separate_fewer (named ++ objects_of how.listed) (name_objects named (objects_of (operands_of t)))
      (λ x h. elim (from_named x named (objects_of (operands_of t)) h) [
        | inl old ↦ in_front x named (objects_of how.listed) old
        | inr new ↦ elim (from_named x [] (objects_of how.listed) (subst (IsIn x) its_objects new)) [
          | inl none ↦ absurd none
          | inr listed ↦ in_back x named (objects_of how.listed) listed
        ]
      ])
      (separate_listed limits m (entries_at m call.list call.count) named how.listed separate how.checked)
