-- Tasks have the numbers of their spawns.
use Rattle.std.proofs.Common.{◌≡◌, ℕ, suc, ◌+◌, ◌≤◌, ◌⊎◌, inl, inr, Bool, true, false, List, [], ◌∷◌, map, length, Some}
use Rattle.std.proofs.Common.{refl, sym, ap, ◌∙◌, subst, arith}
use Rattle.std.specs.Prelude.{◌==◌, if◌then◌else◌}
use Rattle.std.specs.Ordering.{nat_cmp}
use Rattle.std.specs.FinMap.{get, get-empty}
use Rattle.std.proofs.lemmas.Bool.Decides.{nat_tests}
use Rattle.std.proofs.lemmas.Option.{none-some, same_Some}
use Rattle.tss_base.specs.declared.operand.OpName.{OpName}
use Rattle.tss_base.specs.declared.operand.Operand.{Operand}
use Rattle.tss_base.specs.declared.operand.Task.{Task}
use Rattle.tss_base.specs.declared.machine.Machine.{Machine}
use Rattle.tss_base.specs.Image.{ImageState}
use Rattle.tss_maps.proofs.Keys.{nat_order}
use Rattle.tss_maps.proofs.Changes.{from_inserted}
use Rattle.tss_model.specs.Access.{operands_of}
use Rattle.tss_protocol.specs.State.{State, Flying, initial_state}
use Rattle.tss_protocol.specs.Stations.{new_operand, entered}
use Rattle.tss_names.specs.Tasks.{task_at, taken_by, IsTaken, IsSpawned, IsNewest, IsInFlight, HasTaskNumbers}
use Rattle.tss_names.specs.Tasks.{TaskNumbersLaw}
use Rattle.tss_protocol.proofs.FrontLemmas.{IsSameTask, KeepsFront}
use Rattle.tss_names.proofs.SpawnLemmas.{SpawnsOne}
use Rattle.tss_names.proofs.TakeLemmas.{TakesTask, DecodesOperand, AcknowledgesOperand}
use Rattle.tss_names.proofs.RunLemmas.{law_from, IsKept, kept_by_front}

-- ---- the task of a number

-- where there is one more
pub from_task_at : (u : Task) (ts : List Task) (n : ℕ) (t : Task) → task_at (u ∷ ts) n ≡ Some t
    → ((n ≡ suc (length ts)) × (u ≡ t)) ⊎ (task_at ts n ≡ Some t)
from_task_at u ts n t = by (n == suc (length ts)) refl
  where
    by : (b : Bool) → (n == suc (length ts)) ≡ b → (if b then Some u else task_at ts n) ≡ Some t
        → ((n ≡ suc (length ts)) × (u ≡ t)) ⊎ (task_at ts n ≡ Some t)
    by true is e = inl (grind (arith, nat_tests), same_Some u t e)
    by false is e = inr e

-- the newest
pub at_newest : (u : Task) (ts : List Task) (n : ℕ) → n ≡ suc (length ts) → task_at (u ∷ ts) n ≡ Some u
at_newest u ts n e =
    let is : (n == suc (length ts)) ≡ true = grind (arith, nat_tests) in
    ap (λ b. if b then Some u else task_at ts n) is

-- numbers go from 1 to how many tasks there are
pub number_within : (ts : List Task) (n : ℕ) (t : Task) → task_at ts n ≡ Some t → (1 ≤ n) × (n ≤ length ts)
number_within [] n t e = absurd (none-some t e)
number_within (u ∷ ts) n t e =
    elim (from_task_at u ts n t e) [
      | inl new ↦ let is = new.0 in (omega (arith, is), omega (arith, is))
      | inr old ↦ let k = number_within ts n t old in (k.0, omega (arith, k.1))
    ]

-- a task keeps its number
pub still_at : (u : Task) (ts : List Task) (n : ℕ) (t : Task) → task_at ts n ≡ Some t → task_at (u ∷ ts) n ≡ Some t
still_at u ts n t e =
    let k = number_within ts n t e in
    let other : (n == suc (length ts)) ≡ false = grind (arith, nat_tests, k) in
    ap (λ b. if b then Some u else task_at ts n) other ∙ e

-- ---- where nothing of the front changes

-- tasks stay taken
taken_kept : (S T : State) → KeepsFront S T → (n : ℕ) → IsTaken S n → IsTaken T n
taken_kept S T k n h = subst (λ f. (1 ≤ n) × (n ≤ taken_by f.inbox f.spawned)) (sym k.front) h

-- a task in flight that went on
in_flight_still : (ts us : List Task) (S T : State) (n : ℕ) (x y : Flying) → IsSameTask x y
    → (IsTaken S n → IsTaken T n) → (task_at ts n ≡ Some x.task → task_at us n ≡ Some x.task)
    → IsInFlight ts S n x → IsInFlight us T n y
in_flight_still ts us S T n x y same taken at h = record {
  number = ap (λ (t : Task). t.number) same.task ∙ h.number;
  taken = taken h.taken;
  task = at h.task ∙ ap Some (sym same.task);
  operands = same.operands ∙ h.operands ∙ ap operands_of (sym same.task);
}

-- what leaves the front alone keeps it
pub numbers_kept : (m : Machine) (ts : List Task) (S T : State) → HasTaskNumbers m ts S → KeepsFront S T
    → HasTaskNumbers m ts T
numbers_kept m ts S T h k = record {
  spawned = ap (λ f. f.spawned) k.front ∙ h.spawned;
  few = subst (λ f. f.spawned ≤ m.limits.max_tasks) (sym k.front) h.few;
  each = h.each;
  inbox = λ t e.
      let newest = h.inbox t (ap (λ f. f.inbox) (sym k.front) ∙ e) in
      record { number = newest.number ∙ ap (λ f. f.spawned) (sym k.front); task = newest.task };
  flight = λ n y e.
      let before = k.flight n y e in
      in_flight_still ts ts S T n before.0 y before.2 (taken_kept S T k n) (λ at. at) (h.flight n before.0 before.1);
}

-- ---- main's event

-- a spawn keeps it, with its task
pub numbers_spawned : (m : Machine) (ts us : List Task) (S T : State) → HasTaskNumbers m ts S
    → (p : SpawnsOne m ts us S T) → HasTaskNumbers m (p.task ∷ ts) T
numbers_spawned m ts us S T h p = record {
  spawned = ap (λ f. f.spawned) p.front ∙ ap suc h.spawned;
  few = let s = ap (λ f. f.spawned) p.front in let room = p.next.room in omega (arith, s, room);
  each = λ n t e. elim (from_task_at p.task ts n t e) [
    | inl new ↦ subst (IsSpawned m n) new.1 (record {
      number = let a = p.next.number in let b = new.0 in let c = h.spawned in omega (arith, a, b, c);
      operands = p.next.operands;
    })
    | inr old ↦ h.each n t old
  ];
  inbox = λ t e.
      let is : p.task ≡ t = same_Some p.task t (sym (ap (λ f. f.inbox) p.front) ∙ e) in
      let number = ap (λ (x : Task). x.number) (sym is) ∙ p.next.number in
      record {
        number = number ∙ sym (ap (λ f. f.spawned) p.front);
        task = at_newest p.task ts t.number (number ∙ ap suc h.spawned) ∙ ap Some is;
      };
  flight = λ n x e.
      in_flight_still ts (p.task ∷ ts) S T n x x (record { task = refl; operands = refl })
      (λ taken. subst (λ f. (1 ≤ n) × (n ≤ taken_by f.inbox f.spawned)) (sym p.front)
      (taken.0, let a = ap (λ o. taken_by o S.main.spawned) p.empty in let b = taken.1 in omega (arith, a, b)))
      (still_at p.task ts n x.task)
      (h.flight n x (ap (λ b. get b.flight n) (sym p.back) ∙ e));
}

-- ---- take

-- new records are of their operands
operands-new : (os : List Operand) → map (λ r. r.operand) (map new_operand os) ≡ os
operands-new [] = refl
operands-new (o ∷ os) = ap (λ ps. o ∷ ps) (operands-new os)

module _ (m : Machine) (ts : List Task) (S T : State) (h : HasTaskNumbers m ts S) (p : TakesTask m S T) where
  -- the task was the last one spawned
  pub taken_newest : IsNewest ts S p.task
  taken_newest = h.inbox p.task p.there

  -- and is the last one taken
  pub last_taken_now : taken_by T.inbox T.main.spawned ≡ S.main.spawned
  last_taken_now = ap (λ f. taken_by f.inbox f.spawned) p.front

  -- one more than was taken before
  pub last_taken_before : taken_by S.inbox S.main.spawned + 1 ≡ S.main.spawned
  last_taken_before =
      let a = ap (λ o. taken_by o S.main.spawned) p.there in
      let b = (number_within ts p.task.number p.task taken_newest.task).0 in
      let c = taken_newest.number in
      omega (arith, a, b, c)

  -- each task that was taken still is
  taken_by_take : (n : ℕ) → IsTaken S n → IsTaken T n
  taken_by_take n taken = (
    taken.0,
    let a = last_taken_now in let b = last_taken_before in let c = taken.1 in omega (arith, a, b, c),
  )

  -- and this one is
  pub taken_itself : IsTaken T p.task.number
  taken_itself = (
    (number_within ts p.task.number p.task taken_newest.task).0,
    let a = last_taken_now in let b = taken_newest.number in omega (arith, a, b),
  )

  -- so take keeps it
  pub numbers_take : HasTaskNumbers m ts T
  numbers_take = record {
    spawned = ap (λ f. f.spawned) p.front ∙ h.spawned;
    few = subst (λ f. f.spawned ≤ m.limits.max_tasks) (sym p.front) h.few;
    each = h.each;
    inbox = λ t e. absurd (none-some t (sym (ap (λ f. f.inbox) p.front) ∙ e));
    flight = λ n y e.
        let there = ap (λ b. get b.flight n) (sym p.back) ∙ e in
        elim (from_inserted nat_order S.flight p.task.number (entered p.task) n y there) [
          | inl here ↦ record {
            number = ap (λ (x : Flying). x.task.number) here.1 ∙ sym here.0;
            taken = subst (IsTaken T) (sym here.0) taken_itself;
            task = ap (task_at ts) here.0 ∙ taken_newest.task ∙ ap (λ (x : Flying). Some x.task) (sym here.1);
            operands =
                ap (λ (x : Flying). map (λ r. r.operand) x.operands) here.1
                ∙ operands-new (operands_of p.task)
                ∙ ap (λ (x : Flying). operands_of x.task) (sym here.1);
          }
          | inr before ↦
              in_flight_still ts ts S T n y y (record { task = refl; operands = refl }) (taken_by_take n) (λ at. at)
              (h.flight n y before.1)
        ];
  }

-- ---- all events

-- the front's inbox and counter, and the tasks in flight, are all of which it speaks
pub numbers_same : (m : Machine) (ts : List Task) (S T : State) → HasTaskNumbers m ts S
    → T.main.spawned ≡ S.main.spawned → T.inbox ≡ S.inbox → T.flight ≡ S.flight → HasTaskNumbers m ts T
numbers_same m ts S T h spawned inbox flight = record {
  spawned = spawned ∙ h.spawned;
  few = subst (λ n. n ≤ m.limits.max_tasks) (sym spawned) h.few;
  each = h.each;
  inbox = λ t e.
      let newest = h.inbox t (sym inbox ∙ e) in
      record { number = newest.number ∙ sym spawned; task = newest.task };
  flight = λ n x e.
      in_flight_still ts ts S T n x x (record { task = refl; operands = refl })
      (λ taken. (
        taken.0,
        let a : taken_by T.inbox T.main.spawned ≡ taken_by S.inbox S.main.spawned =
            λ i. taken_by (inbox i) (spawned i) in let b = taken.1 in omega (arith, a, b),
      ))
      (λ at. at) (h.flight n x (ap (λ f. get f n) (sym flight) ∙ e));
}

-- decode keeps it
pub numbers_decode : (m : Machine) (ts : List Task) (S T : State) (o : OpName) → HasTaskNumbers m ts S
    → DecodesOperand m S T o → HasTaskNumbers m ts T
numbers_decode m ts S T o h d =
    numbers_same m ts S T h (ap (λ f. f.spawned) d.front) (ap (λ f. f.inbox) d.front) (ap (λ b. b.flight) d.back)

-- ack keeps it
pub numbers_ack : (m : Machine) (ts : List Task) (S T : State) (o : OpName) → HasTaskNumbers m ts S
    → AcknowledgesOperand S T o → HasTaskNumbers m ts T
numbers_ack m ts S T o h a =
    numbers_same m ts S T h (ap (λ f. f.spawned) a.front) (ap (λ f. f.inbox) a.front) (ap (λ b. b.flight) a.back)

-- every event keeps it
pub HasTaskNumbers-after_event : IsKept HasTaskNumbers
HasTaskNumbers-after_event =
    kept_by_front HasTaskNumbers HasTaskNumbers numbers_spawned numbers_take numbers_decode numbers_ack numbers_kept

-- the first state has it
pub HasTaskNumbers-initial_state : (m : Machine) (i : ImageState) → HasTaskNumbers m [] (initial_state i)
HasTaskNumbers-initial_state m i = record {
  spawned = refl;
  few = omega arith;
  each = λ n t e. absurd (none-some t e);
  inbox = λ t e. absurd (none-some t e);
  flight = λ n x e. absurd (none-some x (sym (get-empty nat_cmp n) ∙ e));
}

-- the law
pub numbers_of_runs : TaskNumbersLaw
numbers_of_runs =
    law_from HasTaskNumbers HasTaskNumbers HasTaskNumbers-initial_state HasTaskNumbers-after_event (λ m ts S h. h)
