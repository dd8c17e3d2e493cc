-- Bounds on messages and on tasks in flight, from the laws on who holds what.
use Rattle.std.proofs.Common.{◌≡◌, ℕ, zero, suc, ◌+◌, ◌-◌, ◌*◌, ◌/◌, ◌<◌, ◌≤◌, ◌⊎◌, inl, inr, true, List, [], ◌∷◌}
use Rattle.std.proofs.Common.{length, Some, refl, sym, ap, ◌∙◌, arith, mod-lt}
use Rattle.std.specs.Prelude.{nat_lt, is_some}
use Rattle.std.specs.Ordering.{nat_cmp}
use Rattle.std.specs.FinMap.{get, insert, empty, len, len-empty}
use Rattle.std.proofs.lemmas.Bool.{and_from, lt-ltb}
use Rattle.std.proofs.lemmas.Option.{none-some, same_Some, slice_get_within}
use Rattle.tss_base.specs.declared.range.Range.{Range}
use Rattle.tss_base.specs.declared.operand.OpName.{OpName}
use Rattle.tss_base.specs.declared.operand.Task.{Task}
use Rattle.tss_base.specs.declared.machine.Sizes.{Sizes}
use Rattle.tss_base.specs.declared.machine.Machine.{Machine}
use Rattle.tss_base.specs.declared.machine.Key.TheVariants.{Stations, Banks}
use Rattle.tss_base.specs.Names.{Numbered}
use Rattle.tss_maps.proofs.Keys.{nat_order, name_order, decide_key}
use Rattle.tss_maps.proofs.Changes.{at_inserted, beside_inserted}
use Rattle.tss_maps.proofs.Entries.{len_inserted}
use Rattle.tss_maps.proofs.Sums.{one_if-le-one, count_all}
use Rattle.tss_model.specs.Access.{operands_of}
use Rattle.tss_protocol.specs.Names.{bank_of, station_of}
use Rattle.tss_protocol.specs.State.{State, Flying, Version, initial_state}
use Rattle.tss_protocol.specs.Stations.{tasks_in}
use Rattle.tss_protocol.proofs.HeldTasks.{IsAmong, held_numbers, length-held_numbers, operand_held}
use Rattle.tss_names.specs.Asking.{AsksOnce}
use Rattle.tss_names.specs.Held.{HoldsPlaces}
use Rattle.tss_names.specs.MessageCounts.{gateway_messages, version_messages, MessagesLaw}
use Rattle.tss_names.proofs.NameCounts.{IsMeasure-map, those_in, those_at, those_all, in_tasks, few_in_tasks}
use Rattle.tss_names.proofs.RunLemmas.{kept_after}
use Rattle.tss_names.proofs.GatewayLemmas.{IsFrontSound, IsFrontSound-after_event, IsFrontSound-initial_state}
use Rattle.tss_names.proofs.SlotLemmas.{slots_of_runs}
use Rattle.tss_names.proofs.TableLemmas.{StaysWithinBanks, StaysWithinBanks-after_event, StaysWithinBanks-initial_state}
use Rattle.tss_names.proofs.HeldEvents.{held_places_of_runs}
use Rattle.tss_names.proofs.AskingEvents.{asking_of_runs}
use Rattle.tss_names.proofs.RoomLemmas.{IsAt, room_more, parts_below}

-- ---- parts

-- a station, or a bank, is one of the machine's
station_below : (sizes : Sizes) (task : ℕ) → 0 < sizes.stations → station_of sizes task < sizes.stations
station_below sizes task some = mod-lt (task - 1) some

bank_below : (sizes : Sizes) (object : Range) → 0 < sizes.banks → bank_of sizes object < sizes.banks
bank_below sizes object some = mod-lt (object.base / 64) some

flight_few : (sizes : Sizes) (flight : Numbered Flying) → 0 < sizes.stations
    → ((station : ℕ) → tasks_in sizes station flight ≤ sizes.slots) → len flight ≤ sizes.stations * sizes.slots
flight_few sizes flight some each =
    let below = parts_below nat_order (λ task
    (x : Flying). station_of sizes task) sizes.slots flight each sizes.stations in
    let all = count_all nat_order (λ task (x : Flying). nat_lt (station_of sizes task) sizes.stations) flight
    (λ task x e. lt-ltb _ _ (station_below sizes task some)) in
    omega (arith, below, all)

-- ---- the gateway

-- numbers as a map to nothing
map_of : List ℕ → Numbered (Unit {0})
map_of [] = empty
map_of (n ∷ ns) = insert (map_of ns) n tt

len-map_of : (ns : List ℕ) → len (map_of ns) ≤ length ns
unfolding map_of
len-map_of [] = let none = len-empty nat_cmp (Unit {0}) in omega (arith, none)
len-map_of (n ∷ ns) =
    let rest = len-map_of ns in
    let more = (len_inserted nat_order (map_of ns) n tt).1 in
    omega (arith, rest, more)

at_map_of : (ns : List ℕ) (n : ℕ) → IsAmong n ns → get (map_of ns) n ≡ Some tt
unfolding map_of
at_map_of [] n h = absurd h
at_map_of (k ∷ ns) n (inl same) = ap (get (insert (map_of ns) k tt)) (sym same) ∙ at_inserted nat_order (map_of ns) k tt
at_map_of (k ∷ ns) n (inr h) = elim (decide_key nat_order n k) [
  | inl same ↦ ap (get (insert (map_of ns) k tt)) same ∙ at_inserted nat_order (map_of ns) k tt
  | inr other ↦ beside_inserted nat_order (map_of ns) k tt n other ∙ at_map_of ns n h
]

-- more times a number is more
pub more_times : (a b n : ℕ) → a ≤ b → a * n ≤ b * n
more_times a b zero h = omega arith
more_times a b (suc n) h = let rest = more_times a b n h in omega (arith, rest, h)

module _ (m : Machine) (ts : List Task) (S : State) (h : IsFrontSound m ts S) where
  -- an operand in the gateway is at a place of one of the tasks held
  held_place : (o : OpName) (u : Unit {0}) → get S.gateway o ≡ Some u
      → in_tasks (map_of (held_numbers S.gateway)) m.limits.max_operands o ≡ true
  held_place o u e =
      let x = h.1.each o e in
      let within = slice_get_within (operands_of x.1.task) o.place x.0 x.1.place in
      let few = (h.0.each o.task x.1.task x.1.spawned).operands in
      let there = at_map_of (held_numbers S.gateway) o.task (operand_held S.gateway o e) in
      and_from (is_some (get (map_of (held_numbers S.gateway)) o.task)) (nat_lt o.place m.limits.max_operands)
      (ap is_some there) (lt-ltb o.place m.limits.max_operands (omega (arith, within, few)))

  gateway_few : len S.gateway ≤ m.sizes.window * m.limits.max_operands
  gateway_few =
      let ns = held_numbers S.gateway in
      let p = in_tasks (map_of ns) m.limits.max_operands in
      let all = those_all S.gateway p held_place in
      let few = few_in_tasks (those_in S.gateway) (IsMeasure-map S.gateway)
      (λ k.
      let a = those_at S.gateway k in
      let one = one_if-le-one (is_some (get S.gateway k)) in
      omega (arith, a, one))
      m.limits.max_operands (map_of ns) in
      let most = len-map_of ns in
      let many = length-held_numbers S.gateway in
      let held = h.1.few in
      let times = more_times (len (map_of ns)) m.sizes.window m.limits.max_operands (omega (arith, most, many, held)) in
      omega (arith, all, few, times)

  gateway_room : gateway_messages S.mail ≤ len S.gateway
  gateway_room =
      let room = room_more (Unit {0}) (λ o. ⊥ ⊎ IsAt S.mail.decodes o) (0 + len S.mail.decodes) S.mail.acks
      (λ o a b. elim a [
        | inl none ↦ none
        | inr d ↦ none-some tt (sym (h.1.decodes o d.0 d.1).1 ∙ b.1)
      ])
      (room_more (Unit {0}) (λ o. ⊥) 0 S.mail.decodes (λ o a b. a) (λ places has. omega arith))
      S.gateway
      (λ o a. elim a [
        | inl (inl none) ↦ absurd none
        | inl (inr d) ↦ (tt, (h.1.decodes o d.0 d.1).0)
        | inr k ↦ (tt, (h.1.acks o k.1).0)
      ])
      in omega (arith, room)

-- ---- places

module _ (sizes : Sizes) (S : State)
    (held : HoldsPlaces sizes S.places S.copies S.versions S.mail.opens S.mail.gones)
    (asks : AsksOnce S.versions S.mail.idles S.mail.nacks S.mail.retires) where
  -- a registered version holds a place, and has neither an open nor a gone message
  registered_place : (v : OpName) (x : Version) → get S.versions v ≡ Some x → IsAt S.places v
  registered_place v x e = (bank_of sizes x.object, (held.versions v x e).0)

  no_open : (v : OpName) (x : Version) → get S.versions v ≡ Some x → IsAt S.mail.opens v → ⊥
  no_open v x e c = none-some c.0 (sym (held.versions v x e).1 ∙ c.1)

  no_gone : (v : OpName) (x : Version) → get S.versions v ≡ Some x → IsAt S.mail.gones v → ⊥
  no_gone v x e g = none-some g.0 (sym (held.versions v x e).2 ∙ g.1)

  idle_version : (v : OpName) → IsAt S.mail.idles v → IsAt S.versions v
  idle_version v i = let r = (asks.idles v i.0 i.1).0 in (r.0, r.1)

  nack_version : (v : OpName) → IsAt S.mail.nacks v → IsAt S.versions v
  nack_version v n = let r = (asks.nacks v n.1).0 in (r.1.0, r.1.1)

  retire_version : (v : OpName) → IsAt S.mail.retires v → IsAt S.versions v
  retire_version v n = let r = asks.retires v n.1 in (r.1.0, r.1.1)

  abbrev Opens : OpName → Type 0
  Opens v = ⊥ ⊎ IsAt S.mail.opens v

  abbrev OpensIdles : OpName → Type 0
  OpensIdles v = Opens v ⊎ IsAt S.mail.idles v

  abbrev OpensNacks : OpName → Type 0
  OpensNacks v = OpensIdles v ⊎ IsAt S.mail.nacks v

  abbrev OpensRetires : OpName → Type 0
  OpensRetires v = OpensNacks v ⊎ IsAt S.mail.retires v

  -- none of these has a gone message
  none_gone : (v : OpName) → OpensRetires v → IsAt S.mail.gones v → ⊥
  none_gone v (inl (inl (inl (inl none)))) g = none
  none_gone v (inl (inl (inl (inr c)))) g = none-some g.0 (sym (held.opens v c.0 c.1).2 ∙ g.1)
  none_gone v (inl (inl (inr i))) g = let x = idle_version v i in no_gone v x.0 x.1 g
  none_gone v (inl (inr n)) g = let x = nack_version v n in no_gone v x.0 x.1 g
  none_gone v (inr r) g = let x = retire_version v r in no_gone v x.0 x.1 g

  none_retires : (v : OpName) → OpensNacks v → IsAt S.mail.retires v → ⊥
  none_retires v (inl (inl (inl none))) r = none
  none_retires v (inl (inl (inr c))) r = let x = retire_version v r in no_open v x.0 x.1 c
  none_retires v (inl (inr i)) r = none-some r.0 (sym (asks.idles v i.0 i.1).2 ∙ r.1)
  none_retires v (inr n) r = none-some r.0 (sym (asks.nacks v n.1).1 ∙ r.1)

  none_nacks : (v : OpName) → OpensIdles v → IsAt S.mail.nacks v → ⊥
  none_nacks v (inl (inl none)) n = none
  none_nacks v (inl (inr c)) n = let x = nack_version v n in no_open v x.0 x.1 c
  none_nacks v (inr i) n = none-some n.0 (sym (asks.idles v i.0 i.1).1 ∙ n.1)

  none_idles : (v : OpName) → Opens v → IsAt S.mail.idles v → ⊥
  none_idles v (inl none) i = none
  none_idles v (inr c) i = let x = idle_version v i in no_open v x.0 x.1 c

  has_place : (v : OpName) → OpensRetires v ⊎ IsAt S.mail.gones v → IsAt S.places v
  has_place v (inl (inl (inl (inl (inl none))))) = absurd none
  has_place v (inl (inl (inl (inl (inr c))))) = (bank_of sizes c.0.operand.object, (held.opens v c.0 c.1).0)
  has_place v (inl (inl (inl (inr i)))) = let x = idle_version v i in registered_place v x.0 x.1
  has_place v (inl (inl (inr n))) = let x = nack_version v n in registered_place v x.0 x.1
  has_place v (inl (inr r)) = let x = retire_version v r in registered_place v x.0 x.1
  has_place v (inr g) = (bank_of sizes g.0.object, (held.gones v g.0 g.1).0)

  version_room : version_messages S.mail ≤ len S.places
  version_room =
      let room = room_more ℕ OpensRetires _ S.mail.gones none_gone
      (room_more ℕ OpensNacks _ S.mail.retires none_retires
      (room_more ℕ OpensIdles _ S.mail.nacks none_nacks
      (room_more ℕ Opens _ S.mail.idles none_idles
      (room_more ℕ (λ o. ⊥) 0 S.mail.opens (λ o a b. a) (λ places has. omega arith)))))
      S.places has_place
      in omega (arith, room)

  -- each held place is in one of the machine's banks
  held_bank : 0 < sizes.banks → (v : OpName) (bank : ℕ) → get S.places v ≡ Some bank → bank < sizes.banks
  held_bank some v bank e = elim (held.held v bank e) [
    | inl c ↦
        let is = same_Some bank _ (sym e ∙ (held.opens v c.0 c.1).0) in
        let below = bank_below sizes c.0.operand.object some in omega (arith, is, below)
    | inr (inl x) ↦
        let is = same_Some bank _ (sym e ∙ (held.versions v x.0 x.1).0) in
        let below = bank_below sizes x.0.object some in omega (arith, is, below)
    | inr (inr (inl g)) ↦
        let is = same_Some bank _ (sym e ∙ (held.gones v g.0 g.1).0) in
        let below = bank_below sizes g.0.object some in omega (arith, is, below)
    | inr (inr (inr k)) ↦
        let r = held.copied k.0 k.1 k.2 in
        let is = same_Some bank k.0 (sym e ∙ ap (get S.places) (sym k.3) ∙ r.0) in
        let below = bank_below sizes k.1.object some in
        let here = r.1 in omega (arith, is, below, here)
  ]

-- ---- the law

-- with the laws of slots, asking and held places
pub messages_of_runs : MessagesLaw
messages_of_runs m i es S accepted admissible run =
    let front = kept_after IsFrontSound IsFrontSound-after_event m es [] (initial_state i) S
    (IsFrontSound-initial_state m i) run in
    let banks = kept_after StaysWithinBanks StaysWithinBanks-after_event m es [] (initial_state i) S
    (StaysWithinBanks-initial_state m i) run in
    let held = held_places_of_runs m i es S accepted admissible run in
    let asks = asking_of_runs m i es S accepted admissible run in
    let stations = (admissible.sizes Stations m.sizes.stations refl).0 in
    let some = (admissible.sizes Banks m.sizes.banks refl).0 in
    let few = gateway_few m _ S front in
    let fits = gateway_room m _ S front in
    let room = version_room m.sizes S held asks in
    let below = parts_below name_order (λ (v : OpName) b. b) m.sizes.versions S.places banks.places m.sizes.banks in
    let all = count_all name_order (λ (v : OpName) b. nat_lt b m.sizes.banks) S.places
    (λ v b e. lt-ltb _ _ (held_bank m.sizes S held asks some v b e)) in
    record {
      flight = flight_few m.sizes S.flight stations (slots_of_runs m i es S accepted admissible run);
      gateway = omega (arith, few, fits);
      versions = omega (arith, room, below, all);
    }
