-- The operands of an accepted spawn, and the objects named in an epoch: any two that meet are one.
use Rattle.std.proofs.Common.{◌≡◌, ℕ, suc, ◌+◌, ◌-◌, inl, inr, Bool, true, false, Option, Some, None, Result, Ok, Err}
use Rattle.std.proofs.Common.{List, [], ◌∷◌, ◌++◌, length, map, refl, sym, ap, subst, ◌∙◌, nat_le, nat_lt, append_assoc}
use Rattle.std.proofs.Common.{append-nil}
use Rattle.std.specs.Prelude.{cond, ◌==◌, ◌%◌, ◌&&◌, not, take, is_none, replicate}
use Rattle.std.specs.List.{list_any}
use Rattle.std.proofs.lemmas.Bool.{not-false}
use Rattle.tss_base.specs.declared.range.Range.{Range}
use Rattle.tss_base.specs.declared.operand.Mode.{Mode}
use Rattle.tss_base.specs.declared.operand.Operand.{Operand}
use Rattle.tss_base.specs.declared.operand.Task.{Task}
use Rattle.tss_base.specs.declared.machine.Limits.{Limits}
use Rattle.tss_base.specs.declared.causes.TheConstants.{LOAD_DENIED}
use Rattle.tss_base.specs.declared.refusals.TheConstants.{BAD_LENGTH, BAD_BASE, OBJECT_OUTSIDE, OVERLAP}
use Rattle.tss_base.specs.declared.refusals.TheConstants.{TOO_MANY_OPERANDS, LIST_PLACE, MAIN_TOUCH, EPOCH_FULL}
use Rattle.tss_base.specs.declared.refusals.TheConstants.{TOO_MANY_TASKS, OUTPUT_FULL}
use Rattle.tss_model.specs.Memory.{Memory, range_of, bytes_of, frozen}
use Rattle.tss_model.specs.Access.{touches, operands_of}
use Rattle.tss_model.specs.Spawn.{SpawnCall, Entry, same_range, name_objects, unnamed, objects_of, is_bad_length}
use Rattle.tss_model.specs.Spawn.{is_outside, overlaps, mode_of, operand_checked, mode_checked, after_first, with_rest}
use Rattle.tss_model.specs.Spawn.{entries_at, entries_checked, merged_on, merged_operands, no_operand, task_of}
use Rattle.tss_model.specs.Spawn.{task_checked, is_misplaced, list_range, spawn_of}
use Rattle.tss_base.specs.declared.ending.Trap.{Trap}
use Rattle.tss_base.specs.Image.{SegmentState, ImageState}
use Rattle.tss_model.specs.Registers.{trap_of}
use Rattle.tss_model.specs.TaskRun.{task_end}
use Rattle.tss_model.specs.MainStep.{MainState, Flat, Call, ExitCall, Spawn, Barrier, Print, Await, Unknown}
use Rattle.tss_model.specs.MainStep.{main_trapped, main_refused, next_call, call_done, spawn_call, spawn_on}
use Rattle.tss_model.specs.MainStep.{print_range, print_call, print_done, output_of, main_call, await_on}
use Rattle.tss_model.specs.MainStep.{awaited_object}
use Rattle.tss_model.specs.InOrder.{flat_start, main_after_task, call_ran, flat_step, flat_stepped}
use Rattle.tss_program_order.proofs.FlatSteps.{repeated-keeps, flat_step-main, flat_step-call}
use Rattle.tss_program_order.proofs.FlatMain.{main_step-leaves}
use Rattle.tss_program_order.proofs.FlatSpawn.{same_Ok}
use Rattle.tss_program_order.proofs.FlatNames.{Has, unnamed-has, AreApart, AreApart-part, AreApart-more, Has-left}
use Rattle.tss_program_order.proofs.FlatNames.{Has-right, name_objects-has}

-- ---- what a check that passed says

-- where the test failed, the rest is the answer
else_of : {X : Type 0} (b : Bool) (n : ℕ) (r : Result X ℕ) (x : X) → cond b (Err n) r ≡ Ok x
    → (b ≡ false) × (r ≡ Ok x)
else_of true n r x e = absurd (cc)
else_of false n r x e = (refl, e)

-- an operand that passed its checks over these ranges of memory, beside these objects
pub record IsChecked (limits : Limits) (m : Memory) (named : List Range) (o : Operand) : Type 0 where
  pub length : is_bad_length limits o.object ≡ false
  pub base : (o.object.base % 4 == 0) ≡ true
  pub placed : is_outside o.mode (range_of m.ranges o.object) ≡ false
  pub apart : overlaps named o.object ≡ false

module _ (limits : Limits) (m : Memory) where
  operand_passed : (named : List Range) (object : Range) (mode : Mode) (o : Operand)
      → operand_checked limits m named object mode ≡ Ok o → IsChecked limits m named o
  operand_passed named object mode o e =
      let first = else_of (is_bad_length limits object) BAD_LENGTH _ o e in
      let second = else_of (not (object.base % 4 == 0)) BAD_BASE _ o first.1 in
      let third = else_of (is_outside mode (range_of m.ranges object)) OBJECT_OUTSIDE _ o second.1 in
      let last = else_of (overlaps named object) OVERLAP (Ok (record { object = object; mode = mode })) o third.1 in
      subst (IsChecked limits m named) (same_Ok (record { object = object; mode = mode }) o last.1)
      (record {
        length = first.0;
        base = not-false (object.base % 4 == 0) second.0;
        placed = third.0;
        apart = last.0;
      })

  entry_passed : (named : List Range) (object : Range) (mode : Option Mode) (o : Operand)
      → mode_checked limits m named object mode ≡ Ok o → IsChecked limits m named o
  entry_passed named object None o e = absurd (cc)
  entry_passed named object (Some mode) o e = operand_passed named object mode o e

  -- each operand of a list passed beside those before it
  abbrev pub AreChecked : List Range → List Operand → Type 0
  AreChecked named [] = Unit {0}
  AreChecked named (o ∷ os) = IsChecked limits m named o × AreChecked (named ++ o.object ∷ []) os

  -- a list that passed begins with an operand that passed
  passed_parts : (named : List Range) (object : Range) (mode : Option Mode) (r : Operand → Result (List Operand) ℕ)
      (os : List Operand) → with_rest (mode_checked limits m named object mode) r ≡ Ok os
      → (o : Operand) × (rest : List Operand) × (os ≡ o ∷ rest) × IsChecked limits m named o × (r o ≡ Ok rest)
  passed_parts named object mode r os e = by (mode_checked limits m named object mode) refl e
    where
      after : (o : Operand) (q : Result (List Operand) ℕ) → after_first o q ≡ Ok os
          → (rest : List Operand) × (os ≡ o ∷ rest) × (q ≡ Ok rest)
      after o (Err n) e = absurd (cc)
      after o (Ok rest) e = (rest, sym (same_Ok (o ∷ rest) os e), refl)

      by : (p : Result Operand ℕ) → mode_checked limits m named object mode ≡ p → with_rest p r ≡ Ok os
          → (o : Operand) × (rest : List Operand) × (os ≡ o ∷ rest) × IsChecked limits m named o × (r o ≡ Ok rest)
      by (Err n) d e = absurd (cc)
      by (Ok o) d e =
          let parts = after o (r o) e in
          (o, parts.0, parts.1, entry_passed named object mode o d, parts.2)

  -- the operands of entries that passed did so one by one
  entries_passed : (named : List Range) (es : List Entry) (os : List Operand)
      → entries_checked limits m named es ≡ Ok os → AreChecked named os
  unfolding entries_checked
  entries_passed named [] os e = subst (AreChecked named) (same_Ok [] os e) tt
  entries_passed named (x ∷ es) os e =
      let parts = passed_parts named x.object (mode_of x.mode)
      (λ o. entries_checked limits m (named ++ o.object ∷ []) es) os e in
      subst (AreChecked named) (sym parts.2)
      (parts.3, entries_passed (named ++ (parts.0).object ∷ []) es parts.1 parts.4)

  -- their objects are apart, with those that were named before
  checked_apart : (named : List Range) (os : List Operand) → AreChecked named os → AreApart named
      → AreApart (named ++ objects_of os)
  checked_apart named [] checked apart = subst AreApart (sym (append-nil named)) apart
  checked_apart named (o ∷ os) checked apart =
      subst AreApart (append_assoc named (o.object ∷ []) (objects_of os))
      (checked_apart (named ++ o.object ∷ []) os checked.1
      (AreApart-more named o.object apart checked.0.apart))

-- ---- the task of an accepted spawn

-- the task of operands that passed their checks, with equal objects merged
pub record IsSpawned (limits : Limits) (m : Memory) (named : List Range) (t : Task) : Type 0 where
  pub listed : List Operand
  pub checked : AreChecked limits m named listed
  pub operands : operands_of t ≡ merged_operands listed

-- a filled up list begins with the list
pub take-filled : {X : Type 0} (xs ys : List X) → take (length xs) (xs ++ ys) ≡ xs
take-filled [] ys = refl
take-filled (x ∷ xs) ys = ap (λ zs. x ∷ zs) (take-filled xs ys)

module _ (call : SpawnCall) (m : Memory) (named : List Range) (limits : Limits) (spawned : ℕ) (t : Task) where
  task_passed : (r : Result (List Operand) ℕ) → ((os : List Operand) → r ≡ Ok os → AreChecked limits m named os)
      → task_checked limits call named spawned r ≡ Ok t → IsSpawned limits m named t
  task_passed (Err n) each e = absurd (cc)
  task_passed (Ok os) each e =
      let first = else_of (nat_lt limits.epoch_objects (length (name_objects named (objects_of os)))) EPOCH_FULL _
      t e in
      let second = else_of (nat_le limits.max_tasks spawned) TOO_MANY_TASKS _ t first.1 in
      let is = same_Ok (task_of call (suc spawned) os (merged_operands os)) t second.1 in
      record {
        listed = os;
        checked = each os refl;
        operands =
            ap operands_of (sym is)
            ∙ take-filled (merged_operands os) (replicate (7 - length (merged_operands os)) no_operand);
      }

  -- the task of a spawn whose checks passed
  pub spawn_of-spawned : spawn_of call m named limits spawned ≡ Ok t → IsSpawned limits m named t
  unfolding spawn_of
  spawn_of-spawned e =
      let first = else_of (nat_lt limits.max_operands call.count) TOO_MANY_OPERANDS _ t e in
      let second = else_of (nat_lt 0 call.count && is_misplaced m call) LIST_PLACE _ t first.1 in
      let third = else_of (nat_lt 0 call.count && touches named (list_range call)) MAIN_TOUCH _ t second.1 in
      task_passed (entries_checked limits m named (entries_at m call.list call.count))
      (λ os d. entries_passed limits m named (entries_at m call.list call.count) os d) third.1

module _ (limits : Limits) (m : Memory) (named : List Range) (t : Task) (spawn : IsSpawned limits m named t) where
  objects_merged : (xs : List Range) → objects_of (map (merged_on spawn.listed) xs) ≡ xs
  objects_merged [] = refl
  objects_merged (x ∷ xs) = ap (λ ys. x ∷ ys) (objects_merged xs)

  -- its objects are the listed ones, each once
  pub spawned-objects : objects_of (operands_of t) ≡ name_objects [] (objects_of spawn.listed)
  spawned-objects = ap objects_of spawn.operands ∙ objects_merged (name_objects [] (objects_of spawn.listed))

  spawned-listed : (x : Range) → Has (objects_of (operands_of t)) x → Has (objects_of spawn.listed) x
  spawned-listed x has =
      elim (name_objects-has [] (objects_of spawn.listed) x
      (ap (λ ys. list_any (same_range x) ys) (sym spawned-objects) ∙ has)) [
        | inl none ↦ absurd (cc)
        | inr listed ↦ listed
      ]

  -- with those named before they are apart
  spawned-apart : AreApart named → AreApart (name_objects named (objects_of (operands_of t)))
  spawned-apart apart =
      AreApart-part (name_objects named (objects_of (operands_of t))) (named ++ objects_of spawn.listed)
      (λ x has. elim (name_objects-has named (objects_of (operands_of t)) x has) [
        | inl before ↦ Has-left named (objects_of spawn.listed) x before
        | inr new ↦ Has-right named (objects_of spawn.listed) x (spawned-listed x new)
      ])
      (checked_apart limits m named spawn.listed spawn.checked apart)

-- ---- the epoch

module _ (limits : Limits) (m : Memory) (s : MainState) where
  spawn_on-apart : (r : Result Task ℕ) → spawn_of (spawn_call s.registers) m s.epoch limits s.spawned ≡ r
      → AreApart s.epoch → AreApart (spawn_on s r).0.epoch
  spawn_on-apart (Err n) e apart = apart
  spawn_on-apart (Ok t) e apart =
      spawned-apart limits m s.epoch t (spawn_of-spawned (spawn_call s.registers) m s.epoch limits s.spawned t e) apart

  -- a print leaves the epoch
  pub print_call-epoch : (r : Range) → (print_call limits m s r).epoch ≡ s.epoch
  print_call-epoch r =
      by (r.len == 0) (is_none (range_of m.ranges r)) (touches s.epoch r)
      (nat_lt limits.output_bytes (length (output_of s.pieces) + r.len))
    where
      by : (n b t o : Bool) → (cond n (call_done s) (cond b (main_trapped s (trap_of s.registers LOAD_DENIED r.base))
          (cond t (main_refused s MAIN_TOUCH)
          (cond o (main_refused s OUTPUT_FULL) (print_done s (bytes_of m r)))))).epoch ≡ s.epoch
      by true b t o = refl
      by false true t o = refl
      by false false true o = refl
      by false false false true = refl
      by false false false false = refl

  await_on-apart : (x : Option Range) → AreApart s.epoch → AreApart (await_on s x).epoch
  await_on-apart None apart = apart
  await_on-apart (Some object) apart =
      AreApart-part (unnamed s.epoch object.base) s.epoch (λ x has. unnamed-has s.epoch object.base x has) apart

  -- a call keeps the objects of an epoch apart
  main_call-apart : (c : Call) → AreApart s.epoch → AreApart (main_call limits m s c).0.epoch
  main_call-apart ExitCall apart = apart
  main_call-apart Spawn apart =
      spawn_on-apart (spawn_of (spawn_call s.registers) m s.epoch limits s.spawned) refl apart
  main_call-apart Barrier apart = λ x y has also meet. absurd (cc)
  main_call-apart Print apart = subst AreApart (sym (print_call-epoch (print_range s.registers))) apart
  main_call-apart Await apart = await_on-apart (awaited_object s) apart
  main_call-apart (Unknown n) apart = apart

module _ (code : List SegmentState) (limits : Limits) where
  -- the task of a call changes no epoch
  pub call_ran-epoch : (m : Memory) (p : MainState × Option Task) → (call_ran code limits m p).main.epoch ≡ p.0.epoch
  call_ran-epoch m (main, None) = refl
  call_ran-epoch m (main, Some t) = by (task_end code limits m t).trap
    where
      by : (o : Option Trap) → (main_after_task main t o).epoch ≡ main.epoch
      by None = refl
      by (Some trap) = refl

  -- and so does a step in program order
  flat_step-apart : (f : Flat) → AreApart f.main.epoch → AreApart (flat_step code limits f).main.epoch
  flat_step-apart f apart = by (next_call code limits f) refl
    where
      by : (c : Option Call) → next_call code limits f ≡ c → AreApart (flat_step code limits f).main.epoch
      by None e =
          subst AreApart (sym (ap (λ (x : Flat). x.main.epoch) (flat_step-main code limits f e)
          ∙ (main_step-leaves code limits f).epoch)) apart
      by (Some c) e =
          subst AreApart (sym (ap (λ (x : Flat). x.main.epoch) (flat_step-call code limits f c e)
          ∙ call_ran-epoch f.memory (main_call limits f.memory f.main c)))
          (main_call-apart limits f.memory f.main c apart)

-- in program order the named objects are always apart
pub flat_stepped-apart : (i : ImageState) (limits : Limits) (n : ℕ) → AreApart (flat_stepped i limits n).main.epoch
flat_stepped-apart i limits n =
    repeated-keeps (λ (f : Flat). AreApart f.main.epoch) (flat_step (frozen i) limits)
    (λ f apart. flat_step-apart (frozen i) limits f apart) n (flat_start i) (λ x y has also meet. absurd (cc))
