-- The operands of a spawned task lie where they may: in memory, and in memory that can be written where they are written.
use Rattle.std.proofs.Common.{◌≡◌, ℕ, suc, ◌-◌, Bool, true, false, List, [], ◌∷◌, ◌++◌, length, take, Option, Some, None, Result, Ok, Err, refl, sym, ap, subst, ◌∙◌}
use Rattle.std.specs.Prelude.{◌&&◌, ◌==◌, nat_lt, nat_le, not, cond, is_some, filter, replicate}
use Rattle.std.specs.List.{list_any, list_all}
use Rattle.std.proofs.lemmas.Bool.{and_parts, and_from, both_ways, eqb-true, not_from_false, not-false}
use Rattle.std.proofs.lemmas.List.Folds.{list_all-append, list_all-map}
use Rattle.tss_base.specs.declared.range.Range.{Range}
use Rattle.tss_base.specs.declared.operand.Mode.{Mode}
use Rattle.tss_base.specs.declared.operand.Mode.TheVariants.{Input, Output, Inout}
use Rattle.tss_base.specs.declared.operand.Operand.{Operand}
use Rattle.tss_base.specs.declared.operand.Task.{Task}
use Rattle.tss_base.specs.declared.machine.Limits.{Limits}
use Rattle.tss_model.specs.Memory.{MemoryRange, Memory, range_of}
use Rattle.tss_model.specs.Access.{writes, operands_of, touches}
use Rattle.tss_base.specs.declared.refusals.TheConstants.{TOO_MANY_OPERANDS, LIST_PLACE, MAIN_TOUCH, BAD_LENGTH, BAD_BASE, OBJECT_OUTSIDE, OVERLAP, EPOCH_FULL, TOO_MANY_TASKS}
use Rattle.tss_model.specs.Spawn.{SpawnCall, Entry, same_range, name_object, name_objects, objects_of, is_bad_length, is_outside, overlaps, operand_checked, mode_checked, mode_of, entry_checked, after_first, with_rest, entries_checked, entries_at, is_input, is_output, merged_mode, merged_on, merged_operands, no_operand, task_of, task_checked, is_misplaced, list_range, spawn_of}
use Rattle.tss_steps.specs.Placing.{is_placed, are_placed}
use Rattle.tss_steps.proofs.PlaceLemmas.{placed_in}

-- ---- lists

all_implies : {A : Type 0} (p q : A → Bool) (xs : List A) → ((x : A) → p x ≡ true → q x ≡ true) → list_all p xs ≡ true → list_all q xs ≡ true
all_implies p q [] then all = refl
all_implies p q (x ∷ xs) then all =
    let parts = and_parts (p x) (list_all p xs) all in
    and_from (q x) (list_all q xs) (then x parts.0) (all_implies p q xs then parts.1)

-- an element that passes q and f and fails p
abbrev pub Fails : {A : Type 0} → (q f p : A → Bool) → Type 0
Fails {A} q f p = (x : A) × (q x ≡ true) × (f x ≡ true) × (p x ≡ false)

fails_at : {A : Type 0} (q f p : A → Bool) (x : A) (xs : List A) (a b : Bool) → f x ≡ a → p x ≡ b → q x ≡ true
    → (list_all p (filter f xs) ≡ false → Fails q f p) → list_all p (cond a (x ∷ filter f xs) (filter f xs)) ≡ false → Fails q f p
fails_at q f p x xs true true passes here all later h = later (sym (ap (λ v. v && list_all p (filter f xs)) here) ∙ h)
fails_at q f p x xs true false passes here all later h = (x, all, passes, here)
fails_at q f p x xs false b passes here all later h = later h

-- among the elements that pass f, one that fails p
one_fails : {A : Type 0} (q f p : A → Bool) (xs : List A) → list_all q xs ≡ true → list_all p (filter f xs) ≡ false → Fails q f p
one_fails q f p [] all fails = absurd (both_ways true fails refl)
one_fails q f p (x ∷ xs) all fails =
    let parts = and_parts (q x) (list_all q xs) all in
    fails_at q f p x xs (f x) (p x) refl refl parts.0 (λ h. one_fails q f p xs parts.1 h) fails

-- ---- the objects that are named

named_one : (p : Range → Bool) (named : List Range) (object : Range) → list_all p named ≡ true → p object ≡ true → list_all p (name_object named object) ≡ true
named_one p named object all here =
    elim (list_any (same_range object) named) as (λ b. list_all p (cond b named (named ++ object ∷ [])) ≡ true) [
      | true ↦ all
      | false ↦
          list_all-append p named (object ∷ [])
          ∙ and_from (list_all p named) (p object && true) all (and_from (p object) true here refl)
    ]

named_all : (p : Range → Bool) (objects named : List Range) → list_all p named ≡ true → list_all p objects ≡ true → list_all p (name_objects named objects) ≡ true
named_all p [] named all rest = all
named_all p (object ∷ objects) named all rest =
    let parts = and_parts (p object) (list_all p objects) rest in
    named_all p objects (name_object named object) (named_one p named object all parts.0) parts.1

same_range-true : (r s : Range) → same_range r s ≡ true → r ≡ s
same_range-true r s h =
    let parts = and_parts (r.base == s.base) (r.len == s.len) h in
    λ i. record { base = eqb-true r.base s.base parts.0 i; len = eqb-true r.len s.len parts.1 i }

-- ---- merged operands

-- a range that lies in memory
abbrev pub is_in_memory : List MemoryRange → Range → Bool
is_in_memory ranges r = is_some (range_of ranges r)

in_memory : (ranges : List MemoryRange) (o : Operand) → is_placed ranges o ≡ true → is_in_memory ranges o.object ≡ true
in_memory ranges o h =
    let p = placed_in o.mode (range_of ranges o.object) h in
    ap is_some p.1

-- a place in memory that can be written serves every mode, and any other an input
placed_written : (mode : Mode) (w : Option Bool) → w ≡ Some true → not (is_outside mode w) ≡ true
placed_written Input w e = ap (λ v. not (is_outside Input v)) e
placed_written Output w e = ap (λ v. not (is_outside Output v)) e
placed_written Inout w e = ap (λ v. not (is_outside Inout v)) e

placed_input : (w : Option Bool) → is_some w ≡ true → not (is_outside Input w) ≡ true
placed_input (Some w) h = refl
placed_input None h = absurd (cc)

module _ (ranges : List MemoryRange) (listed : List Operand) (all : are_placed ranges listed ≡ true) where
  merged_placed : (object : Range) → is_in_memory ranges object ≡ true → is_placed ranges (merged_on listed object) ≡ true
  merged_placed object there = by (list_all is_input (filter (λ o. same_range o.object object) listed)) refl where
    by : (b : Bool) → list_all is_input (filter (λ o. same_range o.object object) listed) ≡ b → is_placed ranges (merged_on listed object) ≡ true
    by true e =
        let mode : merged_mode (filter (λ o. same_range o.object object) listed) ≡ Input = ap (λ b. cond b Input (cond (list_all is_output (filter (λ o. same_range o.object object) listed)) Output Inout)) e in
        ap (λ (m : Mode). not (is_outside m (range_of ranges object))) mode ∙ placed_input (range_of ranges object) there
    by false e =
        let o = one_fails (is_placed ranges) (λ o. same_range o.object object) is_input listed all e in
        let p = placed_in (o.0).mode (range_of ranges (o.0).object) o.1 in
        placed_written (merged_mode (filter (λ o. same_range o.object object) listed)) (range_of ranges object)
        (ap (range_of ranges) (sym (same_range-true (o.0).object object o.2)) ∙ p.1 ∙ ap Some (p.2 (not-false (writes (o.0).mode) o.3)))

  pub are_placed-merged : are_placed ranges (merged_operands listed) ≡ true
  are_placed-merged =
      list_all-map (is_placed ranges) (merged_on listed) (name_objects [] (objects_of listed))
      ∙ all_implies (is_in_memory ranges) (λ r. is_placed ranges (merged_on listed r)) (name_objects [] (objects_of listed)) merged_placed
      (named_all (is_in_memory ranges) (objects_of listed) [] refl
      (list_all-map (is_in_memory ranges) (λ (o : Operand). o.object) listed
      ∙ all_implies (is_placed ranges) (λ o. is_in_memory ranges o.object) listed (in_memory ranges) all))

-- ---- the checks

-- a check that was passed
passed : {T : Type 0} (b : Bool) (n : ℕ) (x : Result T ℕ) (y : T) → cond b (Err n) x ≡ Ok y → (b ≡ false) × (x ≡ Ok y)
passed true n x y h = absurd (cc)
passed false n x y h = (refl, h)

same_ok : {T : Type 0} (x y : T) → ◌≡◌ {A = Result T ℕ} (Ok x) (Ok y) → x ≡ y
same_ok x y e = cc

module _ (limits : Limits) (m : Memory) where
  operand_placed : (named : List Range) (object : Range) (mode : Mode) (o : Operand) → operand_checked limits m named object mode ≡ Ok o → is_placed m.ranges o ≡ true
  operand_placed named object mode o h =
      let long = passed (is_bad_length limits object) BAD_LENGTH _ o h in
      let based = passed _ BAD_BASE _ o long.1 in
      let inside = passed (is_outside mode (range_of m.ranges object)) OBJECT_OUTSIDE _ o based.1 in
      let apart = passed (overlaps named object) OVERLAP _ o inside.1 in
      let same = same_ok (record { object = object; mode = mode }) o apart.1 in
      ap (is_placed m.ranges) (sym same) ∙ not_from_false (is_outside mode (range_of m.ranges object)) inside.0

  entry_placed : (named : List Range) (e : Entry) (mode : Option Mode) (o : Operand) → mode_checked limits m named e.object mode ≡ Ok o → is_placed m.ranges o ≡ true
  entry_placed named e None o h = absurd (cc)
  entry_placed named e (Some mode) o h = operand_placed named e.object mode o h

  rest_placed : (o : Operand) (os : List Operand) (r : Result (List Operand) ℕ) → ((xs : List Operand) → r ≡ Ok xs → are_placed m.ranges xs ≡ true)
      → is_placed m.ranges o ≡ true → after_first o r ≡ Ok os → are_placed m.ranges os ≡ true
  rest_placed o os (Ok xs) later placed h =
      subst (λ (ys : List Operand). are_placed m.ranges ys ≡ true) (same_ok (o ∷ xs) os h)
      (and_from (is_placed m.ranges o) (are_placed m.ranges xs) placed (later xs refl))
  rest_placed o os (Err n) later placed h = absurd (cc)

  first_placed : (os : List Operand) (rest : Operand → Result (List Operand) ℕ) (r : Result Operand ℕ)
      → ((o : Operand) → r ≡ Ok o → is_placed m.ranges o ≡ true) → ((o : Operand) (xs : List Operand) → rest o ≡ Ok xs → are_placed m.ranges xs ≡ true)
      → with_rest r rest ≡ Ok os → are_placed m.ranges os ≡ true
  first_placed os rest (Ok o) here later h = rest_placed o os (rest o) (later o) (here o refl) h
  first_placed os rest (Err n) here later h = absurd (cc)

  entries_placed : (es : List Entry) (named : List Range) (os : List Operand) → entries_checked limits m named es ≡ Ok os → are_placed m.ranges os ≡ true
  unfolding entries_checked
  entries_placed [] named os h = subst (λ (xs : List Operand). are_placed m.ranges xs ≡ true) (same_ok [] os h) refl
  entries_placed (e ∷ es) named os h =
      first_placed os (λ o. entries_checked limits m (named ++ o.object ∷ []) es) (entry_checked limits m named e)
      (λ o. entry_placed named e (mode_of e.mode) o) (λ o xs. entries_placed es (named ++ o.object ∷ []) xs) h

-- ---- the task

take_whole : {A : Type 0} (xs ys : List A) → take (length xs) (xs ++ ys) ≡ xs
take_whole [] ys = refl
take_whole (x ∷ xs) ys = ap (λ zs. x ∷ zs) (take_whole xs ys)

module _ (limits : Limits) (call : SpawnCall) (m : Memory) (named : List Range) (spawned : ℕ) (t : Task) where
  task_placed : (listed : Result (List Operand) ℕ) → listed ≡ entries_checked limits m named (entries_at m call.list call.count)
      → task_checked limits call named spawned listed ≡ Ok t → are_placed m.ranges (operands_of t) ≡ true
  task_placed (Ok listed) e h =
      let full = passed (nat_lt limits.epoch_objects (length (name_objects named (objects_of listed)))) EPOCH_FULL _ t h in
      let many = passed (nat_le limits.max_tasks spawned) TOO_MANY_TASKS _ t full.1 in
      let same = same_ok (task_of call (suc spawned) listed (merged_operands listed)) t many.1 in
      subst (λ (x : Task). are_placed m.ranges (operands_of x) ≡ true) same
      (ap (are_placed m.ranges) (take_whole (merged_operands listed) (replicate (7 - length (merged_operands listed)) no_operand))
      ∙ are_placed-merged m.ranges listed (entries_placed limits m (entries_at m call.list call.count) named listed (sym e)))
  task_placed (Err n) e h = absurd (cc)

  task_number : (listed : Result (List Operand) ℕ) → task_checked limits call named spawned listed ≡ Ok t → t.number ≡ suc spawned
  task_number (Ok listed) h =
      let full = passed (nat_lt limits.epoch_objects (length (name_objects named (objects_of listed)))) EPOCH_FULL _ t h in
      let many = passed (nat_le limits.max_tasks spawned) TOO_MANY_TASKS _ t full.1 in
      sym (ap (λ (x : Task). x.number) (same_ok (task_of call (suc spawned) listed (merged_operands listed)) t many.1))
  task_number (Err n) h = absurd (cc)

  -- a spawned task has the next number
  pub number-spawn_of : spawn_of call m named limits spawned ≡ Ok t → t.number ≡ suc spawned
  unfolding spawn_of
  number-spawn_of h =
      let few = passed (nat_lt limits.max_operands call.count) TOO_MANY_OPERANDS _ t h in
      let placed = passed (nat_lt 0 call.count && is_misplaced m call) LIST_PLACE _ t few.1 in
      let untouched = passed (nat_lt 0 call.count && touches named (list_range call)) MAIN_TOUCH _ t placed.1 in
      task_number (entries_checked limits m named (entries_at m call.list call.count)) untouched.1

  -- the operands of a spawned task are placed
  pub are_placed-spawn_of : spawn_of call m named limits spawned ≡ Ok t → are_placed m.ranges (operands_of t) ≡ true
  unfolding spawn_of
  are_placed-spawn_of h =
      let few = passed (nat_lt limits.max_operands call.count) TOO_MANY_OPERANDS _ t h in
      let placed = passed (nat_lt 0 call.count && is_misplaced m call) LIST_PLACE _ t few.1 in
      let untouched = passed (nat_lt 0 call.count && touches named (list_range call)) MAIN_TOUCH _ t placed.1 in
      task_placed (entries_checked limits m named (entries_at m call.list call.count)) refl untouched.1
