-- What the calls leave of the facts of the slots: a slot more, one less, and one that is written.
use Rattle.std.proofs.Common.{◌≡◌, ◌≢◌, ℕ, ◌+◌, ◌-◌, ◌*◌, ◌<◌, ◌≤◌, Bool, true, false, List, length, get_or, set, Some, None, refl, sym, ap, ◌∙◌, inl, inr, arith}
use Rattle.std.specs.Prelude.{◌==◌, nat_lt, IsTrue}
use Rattle.std.specs.Ordering.{nat_cmp}
use Rattle.std.specs.FinMap.{get, insert, remove, len, empty}
use Rattle.std.proofs.Math.ListN.{replicate}
use Rattle.std.proofs.lemmas.Bool.Decides.{nat_tests}
use Rattle.std.proofs.lemmas.Nat.{mod_below}
use Rattle.std.proofs.lemmas.List.{get_or-set_same, get_or-set_other, get_or_default, length-set, get_or-replicate, length-replicate}
use Rattle.tss_base.specs.declared.bounds.TheConstants.{MAX_STATIONS}
use Rattle.tss_base.specs.declared.machine.Key.TheVariants as key
use Rattle.tss_base.specs.declared.machine.Sizes.{Sizes}
use Rattle.tss_base.specs.Machine.{IsInRange}
use Rattle.tss_maps.specs.Sums.{one_if}
use Rattle.tss_maps.proofs.Keys.{nat_order, decide_key}
use Rattle.tss_maps.proofs.Entries.{len_added}
use Rattle.tss_maps.proofs.Sums.{sum_added, sum_removed, sum_written, sum_empty}
use Rattle.tss_tables.specs.Table.{TableState}
use Rattle.tss_protocol.specs.Names.{station_of}
use Rattle.tss_stations.specs.declared.slot.Slot.{Slot}
use Rattle.tss_stations.specs.Slots.{taken_in, AreSlots}
use Rattle.tss_stations.proofs.CountLemmas.{len_by_parts}

-- no slot is taken at first
pub kept_open : (sizes : Sizes) (size : ℕ) → IsInRange key.Stations sizes.stations → IsInRange key.Slots sizes.slots →
    size ≡ sizes.stations * sizes.slots →
    AreSlots sizes (replicate MAX_STATIONS 0) (record { size = size; entries = empty })
kept_open sizes size stations slots room =
    record {
      stations = omega (arith, stations.0);
      few_stations = stations.1;
      few_slots = slots.1;
      stood = length-replicate {A = ℕ} MAX_STATIONS 0;
      counted = λ k h.
          get_or-replicate {A = ℕ} MAX_STATIONS k 0 0 h ∙ sym (sum_empty nat_order (λ (task : ℕ) (x : Slot). one_if (station_of sizes task == k)));
      within = λ k h. let e = get_or-replicate {A = ℕ} MAX_STATIONS k 0 0 h in omega (arith, e);
      room = room;
    }

module _ (sizes : Sizes) (counts : List ℕ) (table : TableState nat_cmp Slot) (are : AreSlots sizes counts table) where
  -- a task has a station
  pub station_within : (task : ℕ) → station_of sizes task < sizes.stations
  station_within task = mod_below (task - 1) sizes.stations are.stations

  pub station_counted : (task : ℕ) → station_of sizes task < MAX_STATIONS
  station_counted task = let w = station_within task in let f = are.few_stations in omega (arith, w, f)

  -- how many of its slots are taken
  pub count_read : (task d : ℕ) → get_or counts (station_of sizes task) d ≡ taken_in sizes table.entries (station_of sizes task)
  count_read task d =
      get_or_default counts (station_of sizes task) d 0 (let w = station_counted task in let l = are.stood in omega (arith, w, l))
      ∙ are.counted (station_of sizes task) (station_counted task)

  -- a station with room has a count below its slots
  pub room_read : (task d : ℕ) → IsTrue (nat_lt (taken_in sizes table.entries (station_of sizes task)) sizes.slots) →
      get_or counts (station_of sizes task) d < sizes.slots
  room_read task d h = let e = count_read task d in grind (arith, nat_tests, h, e)

  count_within : (task : ℕ) → station_of sizes task < length counts
  count_within task = let w = station_counted task in let l = are.stood in omega (arith, w, l)

  -- ---- a slot that is written

  pub kept_written : (task : ℕ) (x y : Slot) → get table.entries task ≡ Some x →
      AreSlots sizes counts (record table { entries = insert table.entries task y })
  kept_written task x y e = record {
    stations = are.stations;
    few_stations = are.few_stations;
    few_slots = are.few_slots;
    stood = are.stood;
    counted = λ k h.
        let same = sum_written nat_order (λ (task : ℕ) (x : Slot). one_if (station_of sizes task == k)) table.entries task x y e in
        let before = are.counted k h in
        omega (arith, same, before);
    within = are.within;
    room = are.room;
  }

  -- ---- a slot more

  module _ (task : ℕ) (x : Slot) (fresh : get table.entries task ≡ None) (n : ℕ)
      (now : n ≡ taken_in sizes table.entries (station_of sizes task)) (room : n < sizes.slots) where
    same_station : (k : ℕ) → k ≡ station_of sizes task → one_if (station_of sizes task == k) ≡ 1
    same_station k e = by (station_of sizes task == k) refl
      where
        by : (b : Bool) → (station_of sizes task == k) ≡ b → one_if b ≡ 1
        by true eb = refl
        by false eb = absurd (grind (arith, nat_tests, e, eb))

    other_station : (k : ℕ) → k ≢ station_of sizes task → one_if (station_of sizes task == k) ≡ 0
    other_station k apart = by (station_of sizes task == k) refl
      where
        by : (b : Bool) → (station_of sizes task == k) ≡ b → one_if b ≡ 0
        by true eb = absurd (apart (let e : station_of sizes task ≡ k = grind (arith, nat_tests, eb) in sym e))
        by false eb = refl

    counted_added : (k : ℕ) → k < MAX_STATIONS →
        get_or (set counts (station_of sizes task) (n + 1)) k 0 ≡ taken_in sizes (insert table.entries task x) k
    counted_added k h = elim (decide_key nat_order k (station_of sizes task)) [
      | inl same ↦
          let sum = sum_added nat_order (λ (task : ℕ) (x : Slot). one_if (station_of sizes task == k)) table.entries task x fresh in
          let one = same_station k same in
          let read = ap (λ q. get_or (set counts (station_of sizes task) (n + 1)) q 0) same ∙ get_or-set_same counts (station_of sizes task) (n + 1) 0 (count_within task) in
          let here = now ∙ ap (taken_in sizes table.entries) (sym same) in
          omega (arith, sum, one, read, here)
      | inr apart ↦
          let sum = sum_added nat_order (λ (task : ℕ) (x : Slot). one_if (station_of sizes task == k)) table.entries task x fresh in
          let none = other_station k apart in
          let read = get_or-set_other counts (station_of sizes task) k (n + 1) 0 apart in
          let before = are.counted k h in
          omega (arith, sum, none, read, before)
    ]

    within_added : (k : ℕ) → k < MAX_STATIONS → get_or (set counts (station_of sizes task) (n + 1)) k 0 ≤ sizes.slots
    within_added k h = elim (decide_key nat_order k (station_of sizes task)) [
      | inl same ↦
          let read = ap (λ q. get_or (set counts (station_of sizes task) (n + 1)) q 0) same ∙ get_or-set_same counts (station_of sizes task) (n + 1) 0 (count_within task) in
          omega (arith, read, room)
      | inr apart ↦
          let read = get_or-set_other counts (station_of sizes task) k (n + 1) 0 apart in
          let before = are.within k h in
          omega (arith, read, before)
    ]

    pub kept_added : AreSlots sizes (set counts (station_of sizes task) (n + 1)) (record table { entries = insert table.entries task x })
    kept_added = record {
      stations = are.stations;
      few_stations = are.few_stations;
      few_slots = are.few_slots;
      stood = length-set counts (station_of sizes task) (n + 1) ∙ are.stood;
      counted = counted_added;
      within = within_added;
      room = are.room;
    }

    -- the table has room for it
    pub room_added : len table.entries < table.size
    room_added =
        let all = len_by_parts nat_order (station_of sizes) (insert table.entries task x) sizes.slots sizes.stations
        (λ k h.
        let below : k < MAX_STATIONS = let f = are.few_stations in omega (arith, h, f) in
        let c = counted_added k below in
        let w = within_added k below in
        omega (arith, c, w))
        station_within
        in
        let more = len_added nat_order table.entries task x fresh in
        let size = are.room in
        omega (arith, all, more, size)

  -- ---- a slot less

  module _ (task : ℕ) (x : Slot) (there : get table.entries task ≡ Some x) (n : ℕ)
      (now : n ≡ taken_in sizes table.entries (station_of sizes task)) where
    one_here : one_if (station_of sizes task == station_of sizes task) ≡ 1
    one_here = by (station_of sizes task == station_of sizes task) refl
      where
        by : (b : Bool) → (station_of sizes task == station_of sizes task) ≡ b → one_if b ≡ 1
        by true eb = refl
        by false eb = absurd (grind (arith, nat_tests, eb))

    -- it was counted
    pub one_before : 1 ≤ n
    one_before =
        let sum = sum_removed nat_order (λ (q : ℕ) (y : Slot). one_if (station_of sizes q == station_of sizes task)) table.entries task x there in
        let one = one_here in
        omega (arith, sum, one, now)

    counted_freed : (k : ℕ) → k < MAX_STATIONS →
        get_or (set counts (station_of sizes task) (n - 1)) k 0 ≡ taken_in sizes (remove table.entries task) k
    counted_freed k h = elim (decide_key nat_order k (station_of sizes task)) [
      | inl same ↦
          let sum = sum_removed nat_order (λ (q : ℕ) (y : Slot). one_if (station_of sizes q == station_of sizes task)) table.entries task x there in
          let one = one_here in
          let read = ap (λ q. get_or (set counts (station_of sizes task) (n - 1)) q 0) same ∙ get_or-set_same counts (station_of sizes task) (n - 1) 0 (count_within task) in
          let after = ap (taken_in sizes (remove table.entries task)) same in
          omega (arith, sum, one, read, now, after)
      | inr apart ↦
          let sum = sum_removed nat_order (λ (q : ℕ) (y : Slot). one_if (station_of sizes q == k)) table.entries task x there in
          let none : one_if (station_of sizes task == k) ≡ 0 = elsewhere k apart (station_of sizes task == k) refl in
          let read = get_or-set_other counts (station_of sizes task) k (n - 1) 0 apart in
          let before = are.counted k h in
          omega (arith, sum, none, read, before)
    ]
      where
        elsewhere : (k : ℕ) → k ≢ station_of sizes task → (b : Bool) → (station_of sizes task == k) ≡ b → one_if b ≡ 0
        elsewhere k apart true eb = absurd (apart (let e : station_of sizes task ≡ k = grind (arith, nat_tests, eb) in sym e))
        elsewhere k apart false eb = refl

    within_freed : (k : ℕ) → k < MAX_STATIONS → get_or (set counts (station_of sizes task) (n - 1)) k 0 ≤ sizes.slots
    within_freed k h = elim (decide_key nat_order k (station_of sizes task)) [
      | inl same ↦
          let read = ap (λ q. get_or (set counts (station_of sizes task) (n - 1)) q 0) same ∙ get_or-set_same counts (station_of sizes task) (n - 1) 0 (count_within task) in
          let before = are.within (station_of sizes task) (station_counted task) in
          let is = are.counted (station_of sizes task) (station_counted task) in
          omega (arith, read, before, is, now)
      | inr apart ↦
          let read = get_or-set_other counts (station_of sizes task) k (n - 1) 0 apart in
          let before = are.within k h in
          omega (arith, read, before)
    ]

    pub kept_freed : AreSlots sizes (set counts (station_of sizes task) (n - 1)) (record table { entries = remove table.entries task })
    kept_freed = record {
      stations = are.stations;
      few_stations = are.few_stations;
      few_slots = are.few_slots;
      stood = length-set counts (station_of sizes task) (n - 1) ∙ are.stood;
      counted = counted_freed;
      within = within_freed;
      room = are.room;
    }
