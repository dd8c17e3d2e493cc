-- Accepted spawns: what they list, and that the objects of their tasks can be named.
use Rattle.std.proofs.Common.{◌≡◌, ℕ, zero, suc, ◌+◌, ◌%◌, ◌<◌, ◌≤◌, inl, inr, Bool, true, false, ◌&&◌, ◌||◌, not, if◌then◌else◌, eqb, List, [], ◌∷◌, ◌++◌, length, get_or, Option, Some, None, Result, Ok, Err, refl, sym, ap, ◌∙◌, subst, arith}
use Rattle.std.specs.Prelude.{All, IfOk, nat_lt, nat_le, min, max}
use Rattle.std.specs.List.{list_any}
use Rattle.std.proofs.lemmas.Bool.{and_right, cases_eq, cond-true, cond-false, eq-eqb, le-leb, le-ltb, lt-leb, lt-ltb, ltb-false, ne_eqb, not_from_true, or_from, or_parts, true≢false}
use Rattle.std.proofs.lemmas.List.{append_assoc, length-map}
use Rattle.std.proofs.lemmas.List.Elements.{All-cons, All-nil, All-weaker}
use Rattle.std.proofs.lemmas.List.Folds.{list_any-append, list_any_none}
use Rattle.tss_base.specs.declared.lists.TheConstants.{ENTRY_BYTES}
use Rattle.tss_base.specs.declared.range.Range.{Range}
use Rattle.tss_base.specs.declared.operand.Mode.{Mode}
use Rattle.tss_base.specs.declared.operand.Operand.{Operand}
use Rattle.tss_base.specs.declared.operand.Task.{Task}
use Rattle.tss_base.specs.declared.machine.Limits.{Limits}
use Rattle.tss_base.specs.Range.{end_of, meets}
use Rattle.tss_model.specs.Memory.{Memory, range_of}
use Rattle.tss_model.specs.Access.{operands_of, touches}
use Rattle.tss_base.specs.declared.refusals.TheConstants.{BAD_BASE, BAD_LENGTH, EPOCH_FULL, LIST_PLACE, MAIN_TOUCH, OBJECT_OUTSIDE, OVERLAP, TOO_MANY_OPERANDS, TOO_MANY_TASKS}
use Rattle.tss_model.specs.Spawn.{SpawnCall, Entry, after_first, entries_at, entries_checked, entry_checked, is_bad_length, is_misplaced, is_outside, list_range, merged_operands, mode_checked, mode_of, name_objects, no_operand, objects_of, overlaps, same_range, spawn_of, task_checked, task_of, with_rest}
use Rattle.tss_operands.specs.declared.spawn.SpawnFault.{SpawnFault}
use Rattle.tss_operands.specs.Naming.{CanNameAll, count_with}
use Rattle.tss_operands.specs.Spawning.{list_checked, numbered}
use Rattle.tss_operands.proofs.ListingLemmas.{take-seven}
use Rattle.tss_operands.proofs.MergingLemmas.{few_named_all, objects_of-merged}
use Rattle.tss_operands.proofs.NamingLemmas.{list_any-name_objects}
use Rattle.tss_operands.proofs.PlacedLemmas.{same_range-refl}
use Rattle.tss_operands.proofs.FreshLemmas.{All-merged, length-name_objects, name_objects-merged}

-- ---- the parts of an answer

-- a check that passes
else_of : {X : Type 0} (b : Bool) (n : ℕ) (r : Result X ℕ) (x : X) → (if b then Err n else r) ≡ Ok x
    → (b ≡ false) × (r ≡ Ok x)
else_of true n r x h = absurd (cc)
else_of false n r x h = (refl, h)

-- the checks of the list, before those of the task
pub spawn_of-listed : (call : SpawnCall) (m : Memory) (named : List Range) (limits : Limits) (spawned : ℕ)
    → spawn_of call m named limits spawned
    ≡ (if nat_lt limits.max_operands call.count then Err TOO_MANY_OPERANDS
    else task_checked limits call named spawned (list_checked call m named limits))
unfolding spawn_of
spawn_of-listed call m named limits spawned =
    ap (λ r. if nat_lt limits.max_operands call.count then Err TOO_MANY_OPERANDS else r)
    (through (nat_lt 0 call.count && is_misplaced m call) (nat_lt 0 call.count && touches named (list_range call))
    (entries_checked limits m named (entries_at m call.list call.count)))
  where
    through : (a b : Bool) (r : Result (List Operand) ℕ)
        → (if a then Err LIST_PLACE else if b then Err MAIN_TOUCH else task_checked limits call named spawned r)
        ≡ task_checked limits call named spawned (if a then Err LIST_PLACE else if b then Err MAIN_TOUCH else r)
    through true b r = refl
    through false true r = refl
    through false false r = refl

-- the checks of the task, where the objects that aren't named yet are counted
module _ (limits : Limits) (call : SpawnCall) (named : List Range) (spawned : ℕ) (listed merged : List Operand)
    (once : merged ≡ merged_operands listed) where
  -- as many are named with the merged operands as with the listed ones
  as_many : length (name_objects named (objects_of listed)) ≡ count_with named merged
  as_many = length-name_objects named listed ∙ ap (count_with named) (sym once)

  -- there are too many
  pub task_checked-full : limits.epoch_objects < count_with named merged
      → task_checked limits call named spawned (Ok listed) ≡ Err EPOCH_FULL
  task_checked-full full =
      cond-true (nat_lt limits.epoch_objects (length (name_objects named (objects_of listed)))) _ _
      (lt-ltb _ _ (omega (arith, as_many)))

  -- there is room for all
  has_room : count_with named merged ≤ limits.epoch_objects
      → nat_lt limits.epoch_objects (length (name_objects named (objects_of listed))) ≡ false
  has_room room = le-ltb _ _ (omega (arith, as_many))

  -- there are too many tasks
  pub task_checked-many : count_with named merged ≤ limits.epoch_objects → limits.max_tasks ≤ spawned
      → task_checked limits call named spawned (Ok listed) ≡ Err TOO_MANY_TASKS
  task_checked-many room many =
      cond-false (nat_lt limits.epoch_objects (length (name_objects named (objects_of listed)))) _ _ (has_room room)
      ∙ cond-true (nat_le limits.max_tasks spawned) _ _ (le-leb _ _ many)

  -- all checks pass
  pub task_checked-Ok : count_with named merged ≤ limits.epoch_objects → spawned < limits.max_tasks
      → task_checked limits call named spawned (Ok listed) ≡ Ok (task_of call (spawned + 1) listed merged)
  task_checked-Ok room more =
      let next : suc spawned ≡ spawned + 1 = omega arith in
      cond-false (nat_lt limits.epoch_objects (length (name_objects named (objects_of listed)))) _ _ (has_room room)
      ∙ cond-false (nat_le limits.max_tasks spawned) _ _ (lt-leb _ _ more)
      ∙ (λ i. Ok (task_of call (next i) listed (sym once i)))

-- an operand before others, where all pass
record IsFirst (r : Result Operand ℕ) (f : Operand → Result (List Operand) ℕ) (os : List Operand) : Type 0 where
  first : Operand
  rest : List Operand
  passes : r ≡ Ok first
  others : f first ≡ Ok rest
  is : os ≡ first ∷ rest

with_rest-Ok : (r : Result Operand ℕ) (f : Operand → Result (List Operand) ℕ) (os : List Operand)
    → with_rest r f ≡ Ok os → IsFirst r f os
with_rest-Ok (Err n) f os h = absurd (cc)
with_rest-Ok (Ok o) f os h = after (f o) refl h
  where
    after : (s : Result (List Operand) ℕ) → f o ≡ s → after_first o s ≡ Ok os → IsFirst (Ok o) f os
    after (Err n) e g = absurd (cc)
    after (Ok rest) e g = record { first = o; rest = rest; passes = refl; others = e; is = (cc) }

-- ---- what passes the checks

-- a length that isn't 0
some_length : (n : ℕ) → eqb n 0 ≡ false → 0 < n
some_length zero h = absurd (true≢false h)
some_length (suc n) h = omega arith

-- an operand that passes isn't empty, and meets none in part
passed : (limits : Limits) (m : Memory) (named : List Range) (r : Range) (o : Operand) (mode : Option Mode)
    → mode_checked limits m named r mode ≡ Ok o → (0 < o.object.len) × (overlaps named o.object ≡ false)
passed limits m named r o None h = absurd (cc)
passed limits m named r o (Some mode) h =
    let long = else_of (is_bad_length limits r) BAD_LENGTH _ o h in
    let base = else_of (not (eqb (r.base % 4) 0)) BAD_BASE _ o long.1 in
    let inside = else_of (is_outside mode (range_of m.ranges r)) OBJECT_OUTSIDE _ o base.1 in
    let apart = else_of (overlaps named r) OVERLAP _ o inside.1 in
    let is : record { object = r; mode = mode } ≡ o = cc in
    let same : r ≡ o.object = ap (λ (x : Operand). x.object) is in (
      subst (λ x. 0 < x.len) same (some_length r.len (or_parts (eqb r.len 0) _ long.0).0),
      subst (λ x. overlaps named x ≡ false) same apart.0,
    )

-- objects one after the other, none empty, and none meets in part one that is named or stands before it
abbrev AreListed : List Range → List Range → Type 0
AreListed named [] = Unit {0}
AreListed named (x ∷ xs) = (0 < x.len) × (overlaps named x ≡ false) × AreListed (named ++ x ∷ []) xs

-- the objects of entries that pass, and how many there are
entries_pass : (limits : Limits) (m : Memory) (named : List Range) (es : List Entry) (os : List Operand)
    → entries_checked limits m named es ≡ Ok os → AreListed named (objects_of os) × (length os ≡ length es)
unfolding entries_checked
entries_pass limits m named [] os h =
    let none : [] ≡ os = cc in
    subst (λ xs. AreListed named (objects_of xs) × (length xs ≡ 0)) none (tt, refl)
entries_pass limits m named (e ∷ es) os h =
    let one = with_rest-Ok (entry_checked limits m named e) (λ o. entries_checked limits m (named ++ o.object ∷ []) es) os h in
    let o = one.first in
    let apart = passed limits m named e.object o (mode_of e.mode) one.passes in
    let rest = entries_pass limits m (named ++ o.object ∷ []) es one.rest one.others in
    subst (λ xs. AreListed named (objects_of xs) × (length xs ≡ suc (length es))) (sym one.is)
    ((apart.0, apart.1, rest.0), ap suc rest.1)

-- so many entries
length-entries_at : (m : Memory) (at n : ℕ) → length (entries_at m at n) ≡ n
length-entries_at m at zero = refl
length-entries_at m at (suc n) = ap suc (length-entries_at m (at + ENTRY_BYTES) n)

-- ---- objects that lie apart

-- two objects meet in part
abbrev meets_in_part : Range → Range → Bool
meets_in_part n r = meets n r && not (same_range n r)

eqb-comm : (a b : ℕ) → eqb a b ≡ eqb b a
eqb-comm a b =
    elim (cases_eq a b) [
      | inl same ↦ eq-eqb a b same ∙ sym (eq-eqb b a (sym same))
      | inr other ↦ ne_eqb a b other ∙ sym (ne_eqb b a (λ e. other (sym e)))
    ]

-- either way round
meets_in_part-comm : (n r : Range) → meets_in_part n r ≡ meets_in_part r n
meets_in_part-comm n r =
    let low : max n.base r.base ≡ max r.base n.base = omega arith in
    let high : min (end_of n) (end_of r) ≡ min (end_of r) (end_of n) = omega arith in
    λ i. nat_lt (low i) (high i) && not (eqb-comm n.base r.base i && eqb-comm n.len r.len i)

-- an object doesn't meet itself in part
not_itself : (r : Range) → meets_in_part r r ≡ false
not_itself r = and_right _ _ (not_from_true _ (same_range-refl r))

-- what no element passes, one of them doesn't
none_in_middle : (p : Range → Bool) (xs ys : List Range) (x : Range) → list_any p (xs ++ x ∷ ys) ≡ false → p x ≡ false
none_in_middle p xs ys x none =
    (or_parts (p x) (list_any p ys) (or_parts (list_any p xs) _ (sym (list_any-append p xs (x ∷ ys)) ∙ none)).1).0

-- listed objects aren't empty
some_listed : (named xs : List Range) → AreListed named xs → All (λ r. 0 < r.len) xs
some_listed named [] listed = All-nil (λ r. 0 < r.len)
some_listed named (x ∷ xs) listed = All-cons (λ r. 0 < r.len) x xs listed.0 (some_listed (named ++ x ∷ []) xs listed.2)

-- and none meets in part any that is named or listed
apart_listed : (named xs : List Range) → AreListed named xs → All (λ r. overlaps (named ++ xs) r ≡ false) xs
apart_listed named [] listed = All-nil (λ r. overlaps (named ++ []) r ≡ false)
apart_listed named (x ∷ xs) listed =
    let rest = All-weaker (λ r. overlaps ((named ++ x ∷ []) ++ xs) r ≡ false) (λ r. overlaps (named ++ x ∷ xs) r ≡ false)
    (λ r e. ap (λ ys. overlaps ys r) (sym (append_assoc named (x ∷ []) xs)) ∙ e) xs
    (apart_listed (named ++ x ∷ []) xs listed.2) in
    let later = list_any_none (λ n. meets_in_part n x) xs (λ k d within.
    meets_in_part-comm (get_or xs k d) x
    ∙ none_in_middle (λ n. meets_in_part n (get_or xs k d)) named xs x (rest k d within)) in
    All-cons (λ r. overlaps (named ++ x ∷ xs) r ≡ false) x xs
    (list_any-append (λ n. meets_in_part n x) named (x ∷ xs)
    ∙ or_from _ _ listed.1 (or_from _ _ (not_itself x) later))
    rest

-- ---- accepted spawns

-- what an accepted spawn lists, and its task
record HasListed (call : SpawnCall) (m : Memory) (named : List Range) (limits : Limits) (spawned : ℕ) (t : Task) : Type 0 where
  listed : List Operand
  few : call.count ≤ limits.max_operands
  passes : entries_checked limits m named (entries_at m call.list call.count) ≡ Ok listed
  room : length (name_objects named (objects_of listed)) ≤ limits.epoch_objects
  is : t ≡ task_of call (suc spawned) listed (merged_operands listed)

module _ (call : SpawnCall) (m : Memory) (named : List Range) (limits : Limits) (spawned : ℕ) (t : Task)
    (accepted : spawn_of call m named limits spawned ≡ Ok t) where
  listed_by : HasListed call m named limits spawned t
  unfolding spawn_of
  listed_by =
      let short = else_of (nat_lt limits.max_operands call.count) TOO_MANY_OPERANDS _ t accepted in
      let placed = else_of (nat_lt 0 call.count && is_misplaced m call) LIST_PLACE _ t short.1 in
      let clear = else_of (nat_lt 0 call.count && touches named (list_range call)) MAIN_TOUCH _ t placed.1 in
      last (entries_checked limits m named (entries_at m call.list call.count)) refl (ltb-false _ _ short.0) clear.1
    where
      last : (r : Result (List Operand) ℕ) → entries_checked limits m named (entries_at m call.list call.count) ≡ r
          → call.count ≤ limits.max_operands → task_checked limits call named spawned r ≡ Ok t
          → HasListed call m named limits spawned t
      last (Err n) e few h = absurd (cc)
      last (Ok os) e few h =
          let room = else_of (nat_lt limits.epoch_objects (length (name_objects named (objects_of os)))) EPOCH_FULL _ t h in
          let task = else_of (nat_le limits.max_tasks spawned) TOO_MANY_TASKS _ t room.1 in
          record { listed = os; few = few; passes = e; room = ltb-false _ _ room.0; is = (cc) }

  -- its merged operands
  operands_of-task : operands_of t ≡ merged_operands listed_by.listed
  operands_of-task = ap operands_of listed_by.is ∙ take-seven no_operand (merged_operands listed_by.listed)

  -- its objects can be named
  pub CanNameAll-spawn_of : CanNameAll limits.epoch_objects named (objects_of (operands_of t))
  CanNameAll-spawn_of =
      let os = listed_by.listed in
      let xs = objects_of os in
      let pass = (entries_pass limits m named _ os listed_by.passes).0 in
      let ys = objects_of (merged_operands os) in
      let same : (r : Range) → overlaps (named ++ ys) r ≡ overlaps (named ++ xs) r = λ r.
      list_any-append (λ n. meets_in_part n r) named ys
      ∙ ap (λ b. overlaps named r || b)
      (ap (list_any (λ n. meets_in_part n r)) (objects_of-merged os)
      ∙ list_any-name_objects (λ n. meets_in_part n r) [] xs)
      ∙ sym (list_any-append (λ n. meets_in_part n r) named xs) in
      subst (λ zs. CanNameAll limits.epoch_objects named (objects_of zs)) (sym operands_of-task) (record {
        some = All-merged (λ r. 0 < r.len) os (some_listed named xs pass);
        apart = All-weaker (λ r. overlaps (named ++ xs) r ≡ false) (λ r. overlaps (named ++ ys) r ≡ false)
            (λ r e. same r ∙ e) ys
            (All-merged (λ r. overlaps (named ++ xs) r ≡ false) os (apart_listed named xs pass));
        room = let e = ap length (name_objects-merged named os) in omega (arith, listed_by.room);
      })

  -- it has no more operands than are listed, and no more than a task may have
  pub few-spawn_of : (t.count ≤ t.listed) × (t.listed ≤ limits.max_operands)
  few-spawn_of =
      let os = listed_by.listed in
      let many = (entries_pass limits m named _ os listed_by.passes).1 in
      let size = length-entries_at m call.list call.count in
      subst (λ (x : Task). (x.count ≤ x.listed) × (x.listed ≤ limits.max_operands)) (sym listed_by.is) (
        omega (
          arith,
          few_named_all [] (objects_of os),
          length-map os (λ o. o.object),
          length-map (merged_operands os) (λ o. o.object),
          ap length (objects_of-merged os),
        ),
        omega (arith, listed_by.few),
      )

-- what holds of the task of each accepted spawn holds of an answer that is the definition's
pub IfOk-numbered : (P : Task → Type 0) (s : Result Task ℕ) → ((t : Task) → s ≡ Ok t → P t)
    → (r : Result Task SpawnFault) → numbered r ≡ s → IfOk r P
IfOk-numbered P s holds (Ok t) e = holds t (sym e)
IfOk-numbered P s holds (Err f) e = tt
