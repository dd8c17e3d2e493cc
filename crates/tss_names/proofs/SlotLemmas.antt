-- No station has more tasks in flight than slots.
use Rattle.std.proofs.Common.{◌≡◌, ℕ, ◌<◌, ◌≤◌, Bool, true, false, List, [], ◌∷◌, Some, None, refl, sym, ap, ◌∙◌, subst}
use Rattle.std.proofs.Common.{arith}
use Rattle.std.specs.Prelude.{◌==◌}
use Rattle.std.specs.FinMap.{get, insert, remove}
use Rattle.std.proofs.lemmas.Bool.Decides.{nat_tests}
use Rattle.std.proofs.lemmas.Bool.{ltb-true}
use Rattle.tss_base.specs.declared.operand.Task.{Task}
use Rattle.tss_base.specs.declared.machine.Machine.{Machine}
use Rattle.tss_base.specs.Image.{ImageState}
use Rattle.tss_base.specs.Names.{Numbered}
use Rattle.tss_maps.specs.Sums.{count_of, one_if}
use Rattle.tss_maps.proofs.Keys.{nat_order}
use Rattle.tss_maps.proofs.Changes.{at_inserted, beside_inserted, apart_absent, beside_removed}
use Rattle.tss_maps.proofs.Entries.{map_induction}
use Rattle.tss_maps.proofs.Sums.{sum_inserted, sum_added, sum_removed, sum_empty}
use Rattle.tss_protocol.specs.Names.{station_of}
use Rattle.tss_protocol.specs.State.{State, Flying, initial_state}
use Rattle.tss_protocol.specs.Stations.{tasks_in, entered}
use Rattle.tss_names.specs.Tasks.{StaysWithinSlots, SlotsLaw}
use Rattle.tss_protocol.proofs.FrontLemmas.{KeepsFront}
use Rattle.tss_names.proofs.TakeLemmas.{TakesTask}
use Rattle.tss_names.proofs.RunLemmas.{IsKept, kept_by_front, law_from}

-- ---- a count of keys

module _ {X : Type 0} (p : ℕ → Bool) where
  -- how many keys pass
  abbrev passing : Numbered X → ℕ
  passing m = count_of (λ k x. p k) m

  fewer_more : (n : Numbered X) (k : ℕ) (v : X) → get n k ≡ None
      → ((m : Numbered X) → ((q : ℕ) (y : X) → get n q ≡ Some y → (x : X) × (get m q ≡ Some x)) → passing n ≤ passing m)
      → (m : Numbered X) → ((q : ℕ) (y : X) → get (insert n k v) q ≡ Some y → (x : X) × (get m q ≡ Some x))
      → passing (insert n k v) ≤ passing m
  fewer_more n k v new before m each =
      let here = each k v (at_inserted nat_order n k v) in
      let rest = before (remove m k) (λ q y e.
      let apart = apart_absent n q k y e new in
      let there = each q y (beside_inserted nat_order n k v q apart ∙ e) in
      (there.0, beside_removed nat_order m k q apart ∙ there.1)) in
      let more = sum_added nat_order (λ k (x : X). one_if (p k)) n k v new in
      let less = sum_removed nat_order (λ k (x : X). one_if (p k)) m k here.0 here.1 in
      omega (arith, rest, more, less)

  -- a map that has nothing but where another has, has no more keys that pass
  fewer_keys : (n m : Numbered X) → ((q : ℕ) (y : X) → get n q ≡ Some y → (x : X) × (get m q ≡ Some x))
      → passing n ≤ passing m
  fewer_keys =
      map_induction nat_order
      (λ n. (m : Numbered X)
      → ((q : ℕ) (y : X) → get n q ≡ Some y → (x : X) × (get m q ≡ Some x)) → passing n ≤ passing m)
      (λ m each. let z = sum_empty nat_order (λ k (x : X). one_if (p k)) in omega (arith, z))
      fewer_more

-- ---- events

slots_kept : (m : Machine) (ts : List Task) (S T : State) → StaysWithinSlots m ts S → KeepsFront S T
    → StaysWithinSlots m ts T
slots_kept m ts S T h k station =
    let fewer = fewer_keys (λ task. station_of m.sizes task == station) T.flight S.flight
    (λ q y e. let before = k.flight q y e in (before.0, before.1)) in
    let within = h station in
    omega (arith, fewer, within)

slots_same : (m : Machine) (ts us : List Task) (S T : State) → StaysWithinSlots m ts S → T.flight ≡ S.flight
    → StaysWithinSlots m us T
slots_same m ts us S T h same station =
    subst (λ flight. tasks_in m.sizes station flight ≤ m.sizes.slots) (sym same) (h station)

slots_take : (m : Machine) (ts : List Task) (S T : State) → StaysWithinSlots m ts S → TakesTask m S T
    → StaysWithinSlots m ts T
slots_take m ts S T h p station =
    subst (λ b. tasks_in m.sizes station b.flight ≤ m.sizes.slots) (sym p.back)
    (by (station_of m.sizes p.task.number == station) refl)
  where
    by : (b : Bool) → (station_of m.sizes p.task.number == station) ≡ b
        → tasks_in m.sizes station (insert S.flight p.task.number (entered p.task)) ≤ m.sizes.slots
    by true e =
        let more = sum_inserted nat_order (λ task (x : Flying). one_if (station_of m.sizes task == station)) S.flight
        p.task.number (entered p.task) in
        let one = ap one_if e in
        let same : station_of m.sizes p.task.number ≡ station = grind (arith, nat_tests) in
        let room : tasks_in m.sizes (station_of m.sizes p.task.number) S.flight < m.sizes.slots =
        ltb-true _ _ p.slot in
        let count = ap (λ s. tasks_in m.sizes s S.flight) same in
        omega (arith, more, one, room, count)
    by false e =
        let more = sum_inserted nat_order (λ task (x : Flying). one_if (station_of m.sizes task == station)) S.flight
        p.task.number (entered p.task) in
        let none = ap one_if e in
        let within = h station in
        omega (arith, more, none, within)

-- every event keeps it
StaysWithinSlots-after_event : IsKept StaysWithinSlots
StaysWithinSlots-after_event =
    kept_by_front StaysWithinSlots StaysWithinSlots
    (λ m ts us S T h p. slots_same m ts (p.task ∷ ts) S T h (ap (λ b. b.flight) p.back))
    slots_take
    (λ m ts S T o h d. slots_same m ts ts S T h (ap (λ b. b.flight) d.back))
    (λ m ts S T o h a. slots_same m ts ts S T h (ap (λ b. b.flight) a.back))
    slots_kept

-- no task is in flight at first
StaysWithinSlots-initial_state : (m : Machine) (i : ImageState) → StaysWithinSlots m [] (initial_state i)
StaysWithinSlots-initial_state m i station =
    let none = sum_empty {X = Flying} nat_order (λ task x. one_if (station_of m.sizes task == station)) in
    omega (arith, none)

-- the law
pub slots_of_runs : SlotsLaw
slots_of_runs =
    law_from StaysWithinSlots StaysWithinSlots StaysWithinSlots-initial_state StaysWithinSlots-after_event
    (λ m ts S h. h)
