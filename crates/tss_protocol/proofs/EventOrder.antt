-- The enabled events are exactly those of their list, which goes by kind and then by name, worker or bank, without
-- repetition.
use Rattle.std.proofs.Common.{◌≡◌, ℕ, zero, suc, ◌+◌, ◌<◌, ◌≤◌, Bool, true, false, cond, List, [], ◌∷◌, ◌++◌, Some}
use Rattle.std.proofs.Common.{refl, ap, arith}
use Rattle.std.specs.Prelude.{map, filter, slice_get}
use Rattle.std.specs.List.{range_with_len}
use Rattle.std.specs.declared.cmp.Ordering.{Ordering}
use Rattle.std.specs.declared.cmp.Ordering.TheVariants.{Less}
use Rattle.std.specs.Ordering.{nat_cmp, ordering_then}
use Rattle.std.specs.FinMap.{FinMap, keys}
use Rattle.tss_base.specs.declared.operand.OpName.{OpName}
use Rattle.tss_base.specs.declared.machine.Machine.{Machine}
use Rattle.tss_base.specs.declared.event.Event.{Event}
use Rattle.tss_base.specs.declared.event.Event.TheVariants as event
use Rattle.tss_base.specs.Kinds.{kind_of, number_of}
use Rattle.tss_base.specs.Names.{name_cmp}
use Rattle.tss_maps.specs.Ordered.{key_at}
use Rattle.tss_maps.proofs.Keys.{IsKeyOrder, nat_order, name_order, less_from_below}
use Rattle.tss_maps.proofs.OrderedLemmas.{keys_rise}
use Rattle.tss_protocol.specs.Mail.{Mail, early_names, late_names, gone_names}
use Rattle.tss_protocol.specs.State.{State}
use Rattle.tss_protocol.specs.UnitMachine.{is_enabled, worker_events, copy_events, candidate_events, enabled_events}

-- ---- the order of events

-- the place of an event's kind
abbrev event_rank : Event → ℕ
event_rank e = number_of (kind_of e)

abbrev unit_name : ℕ → OpName
unit_name n = record { task = n; place = 0 }

-- what tells events of one kind apart
abbrev event_subject : Event → OpName
event_subject event.Main = unit_name 0
event_subject event.Take = unit_name 0
event_subject (event.Decode o) = o
event_subject (event.Ack o) = o
event_subject (event.Open o) = o
event_subject (event.Use o) = o
event_subject (event.Ready o) = o
event_subject (event.Link o) = o
event_subject (event.Start w) = unit_name w
event_subject (event.Exec w) = unit_name w
event_subject (event.Finish w) = unit_name w
event_subject (event.Release o) = o
event_subject (event.Bye o) = o
event_subject (event.Idle v) = v
event_subject (event.Nack v) = v
event_subject (event.Retire v) = v
event_subject (event.Copy b) = unit_name b
event_subject (event.Gone v) = v

-- by kind, and then by what tells apart
abbrev event_cmp : Event → Event → Ordering
event_cmp d e = ordering_then (nat_cmp (event_rank d) (event_rank e)) (name_cmp (event_subject d) (event_subject e))

-- an event comes before each of a list
abbrev IsBefore : Event → List Event → Type 0
IsBefore d [] = Unit {0}
IsBefore d (e ∷ es) = (event_cmp d e ≡ Less) × IsBefore d es

-- each event of a list comes before all that follow it
abbrev Rises : List Event → Type 0
Rises [] = Unit {0}
Rises (e ∷ es) = IsBefore e es × Rises es

-- ---- bands: lists of events of some kinds in a row

abbrev HasRanks : ℕ → ℕ → List Event → Type 0
HasRanks low high [] = Unit {0}
HasRanks low high (e ∷ es) = (low ≤ event_rank e) × (event_rank e < high) × HasRanks low high es

record IsBand (low high : ℕ) (es : List Event) : Type 0 where
  ordered : low ≤ high
  ranks : HasRanks low high es
  rises : Rises es

before_by_rank : (d e : Event) → event_rank d < event_rank e → event_cmp d e ≡ Less
before_by_rank d e h =
    ap (λ r. ordering_then r (name_cmp (event_subject d) (event_subject e))) (less_from_below _ _ h)

before_band : (d : Event) (low high : ℕ) (es : List Event) → event_rank d < low → HasRanks low high es → IsBefore d es
before_band d low high [] h r = tt
before_band d low high (e ∷ es) h r = (before_by_rank d e (omega (arith, h, r.0)), before_band d low high es h r.2)

before_append : (d : Event) (es fs : List Event) → IsBefore d es → IsBefore d fs → IsBefore d (es ++ fs)
before_append d [] fs p q = q
before_append d (e ∷ es) fs p q = (p.0, before_append d es fs p.1 q)

ranks_append : (low high : ℕ) (es fs : List Event) → HasRanks low high es → HasRanks low high fs
    → HasRanks low high (es ++ fs)
ranks_append low high [] fs p q = q
ranks_append low high (e ∷ es) fs p q = (p.0, p.1, ranks_append low high es fs p.2 q)

wider_ranks : (low high a b : ℕ) (es : List Event) → a ≤ low → high ≤ b → HasRanks low high es → HasRanks a b es
wider_ranks low high a b [] l h r = tt
wider_ranks low high a b (e ∷ es) l h r =
    (omega (arith, l, r.0), omega (arith, h, r.1), wider_ranks low high a b es l h r.2)

rises_append : (low middle high : ℕ) (es fs : List Event) → HasRanks low middle es → HasRanks middle high fs
    → Rises es → Rises fs → Rises (es ++ fs)
rises_append low middle high [] fs r s p q = q
rises_append low middle high (e ∷ es) fs r s p q =
    (before_append e es fs p.0 (before_band e middle high fs r.1 s), rises_append low middle high es fs r.2 s p.1 q)

joined : (low middle high : ℕ) (es fs : List Event) → IsBand low middle es → IsBand middle high fs
    → IsBand low high (es ++ fs)
joined low middle high es fs b c = record {
  ordered = omega (arith, b.ordered, c.ordered);
  ranks = ranks_append low high es fs
      (wider_ranks low middle low high es (omega arith) c.ordered b.ranks)
      (wider_ranks middle high low high fs b.ordered (omega arith) c.ranks);
  rises = rises_append low middle high es fs b.ranks c.ranks b.rises c.rises;
}

-- ---- the events of one kind

module _ {K : Type 0} (f : K → Event) (r : ℕ) (ranked : (k : K) → event_rank (f k) ≡ r) where
  ranks_mapped : (ks : List K) → HasRanks r (suc r) (map f ks)
  ranks_mapped [] = tt
  ranks_mapped (k ∷ ks) = (omega (arith, ranked k), omega (arith, ranked k), ranks_mapped ks)

  module _ (R : K → K → Ordering) (rising : (k q : K) → R k q ≡ Less → event_cmp (f k) (f q) ≡ Less) where
    before_mapped : (k : K) (ks : List K) → ((j : ℕ) (q : K) → slice_get ks j ≡ Some q → R k q ≡ Less)
        → IsBefore (f k) (map f ks)
    before_mapped k [] h = tt
    before_mapped k (q ∷ ks) h = (rising k q (h 0 q refl), before_mapped k ks (λ j p e. h (suc j) p e))

    rises_mapped : (ks : List K)
        → ((i j : ℕ) (k q : K) → i < j → slice_get ks i ≡ Some k → slice_get ks j ≡ Some q → R k q ≡ Less)
        → Rises (map f ks)
    rises_mapped [] h = tt
    rises_mapped (k ∷ ks) h =
        let first = before_mapped k ks (λ j q e. h 0 (suc j) k q (omega arith) refl e) in
        (first, rises_mapped ks (λ i j p q l a b. h (suc i) (suc j) p q (omega (arith, l)) a b))

    band_mapped : {X : Type 0} (order : IsKeyOrder R) (m : FinMap R X) → IsBand r (suc r) (map f (keys m))
    unfolding key_at
    band_mapped order m = record {
      ordered = omega arith;
      ranks = ranks_mapped (keys m);
      rises = rises_mapped (keys m) (λ i j k q l a b. keys_rise order m i j k q l a b);
    }

-- a kind of message
band_of_names : {X : Type 0} (f : OpName → Event) (r : ℕ)
    → ((o : OpName) → event_rank (f o) ≡ r)
    → ((o p : OpName) → name_cmp o p ≡ Less → event_cmp (f o) (f p) ≡ Less)
    → (m : FinMap name_cmp X) → IsBand r (suc r) (map f (keys m))
band_of_names f r ranked rising m = band_mapped f r ranked name_cmp rising name_order m

by_number : (k q : ℕ) → nat_cmp k q ≡ Less → name_cmp (unit_name k) (unit_name q) ≡ Less
by_number k q e = ap (λ r. ordering_then r (nat_cmp 0 0)) e

-- a kind of event of workers or banks
band_of_units : {X : Type 0} (f : ℕ → Event) (r : ℕ)
    → ((n : ℕ) → event_rank (f n) ≡ r)
    → ((k q : ℕ) → nat_cmp k q ≡ Less → event_cmp (f k) (f q) ≡ Less)
    → (m : FinMap nat_cmp X) → IsBand r (suc r) (map f (keys m))
band_of_units f r ranked rising m = band_mapped f r ranked nat_cmp rising nat_order m

before_range : (b a n : ℕ) → b < a → IsBefore (event.Start b) (map event.Start (range_with_len a n))
before_range b a zero h = tt
before_range b a (suc n) h = (by_number b a (less_from_below b a h), before_range b (a + 1) n (omega (arith, h)))

rises_range : (a n : ℕ) → Rises (map event.Start (range_with_len a n))
rises_range a zero = tt
rises_range a (suc n) = (before_range a (a + 1) n (omega arith), rises_range (a + 1) n)

band_of_range : (n : ℕ) → IsBand 8 9 (map event.Start (range_with_len 0 n))
band_of_range n = record {
  ordered = omega arith;
  ranks = ranks_mapped event.Start 8 (λ k. refl) (range_with_len 0 n);
  rises = rises_range 0 n;
}

-- ---- all of them

early_band : (m : Mail) → IsBand 2 8 (early_names m)
early_band m =
    let first = band_of_names event.Decode 2 (λ o. refl) (λ o p e. e) m.decodes in
    let first = joined 2 3 4 _ _ first (band_of_names event.Ack 3 (λ o. refl) (λ o p e. e) m.acks) in
    let first = joined 2 4 5 _ _ first (band_of_names event.Open 4 (λ o. refl) (λ o p e. e) m.opens) in
    let first = joined 2 5 6 _ _ first (band_of_names event.Use 5 (λ o. refl) (λ o p e. e) m.uses) in
    let first = joined 2 6 7 _ _ first (band_of_names event.Ready 6 (λ o. refl) (λ o p e. e) m.readies) in
    joined 2 7 8 _ _ first (band_of_names event.Link 7 (λ o. refl) (λ o p e. e) m.links)

worker_band : (m : Machine) (S : State) → IsBand 8 11 (worker_events m S)
worker_band m S =
    let first = band_of_range m.sizes.workers in
    let first = joined 8 9 10 _ _ first (band_of_units event.Exec 9 (λ n. refl) by_number S.workers) in
    joined 8 10 11 _ _ first (band_of_units event.Finish 10 (λ n. refl) by_number S.workers)

late_band : (m : Mail) → IsBand 11 16 (late_names m)
late_band m =
    let first = band_of_names event.Release 11 (λ o. refl) (λ o p e. e) m.releases in
    let first = joined 11 12 13 _ _ first (band_of_names event.Bye 12 (λ o. refl) (λ o p e. e) m.byes) in
    let first = joined 11 13 14 _ _ first (band_of_names event.Idle 13 (λ o. refl) (λ o p e. e) m.idles) in
    let first = joined 11 14 15 _ _ first (band_of_names event.Nack 14 (λ o. refl) (λ o p e. e) m.nacks) in
    joined 11 15 16 _ _ first (band_of_names event.Retire 15 (λ o. refl) (λ o p e. e) m.retires)

abbrev later_events : Machine → State → List Event
later_events m S = early_names S.mail ++ worker_events m S ++ late_names S.mail ++ copy_events S ++ gone_names S.mail

rest_band : (m : Machine) (S : State) → IsBand 2 18 (later_events m S)
rest_band m S =
    let first = early_band S.mail in
    let first = joined 2 8 11 _ _ first (worker_band m S) in
    let first = joined 2 11 16 _ _ first (late_band S.mail) in
    let first = joined 2 16 17 _ _ first (band_of_units event.Copy 16 (λ n. refl) by_number S.copies) in
    joined 2 17 18 _ _ first (band_of_names event.Gone 17 (λ o. refl) (λ o p e. e) S.mail.gones)

candidates_rise : (m : Machine) (S : State) → Rises (candidate_events m S)
candidates_rise m S =
    let rest = rest_band m S in
    let after_main = before_band event.Main 2 18 (later_events m S) (omega arith) rest.ranks in
    let after_take = before_band event.Take 2 18 (later_events m S) (omega arith) rest.ranks in
    ((refl, after_main), (after_take, rest.rises))

before_filtered : (p : Event → Bool) (d : Event) (es : List Event) → IsBefore d es → IsBefore d (filter p es)
before_filtered p d [] h = tt
before_filtered p d (e ∷ es) h =
    elim (p e) as (λ b. IsBefore d (cond b (e ∷ filter p es) (filter p es))) [
      | true ↦ (h.0, before_filtered p d es h.1)
      | false ↦ before_filtered p d es h.1
    ]

rises_filtered : (p : Event → Bool) (es : List Event) → Rises es → Rises (filter p es)
rises_filtered p [] h = tt
rises_filtered p (e ∷ es) h =
    elim (p e) as (λ b. Rises (cond b (e ∷ filter p es) (filter p es))) [
      | true ↦ (before_filtered p e es h.0, rises_filtered p es h.1)
      | false ↦ rises_filtered p es h.1
    ]

-- the enabled events come in order, none twice
pub enabled_events_rise : (m : Machine) (S : State) → Rises (enabled_events m S)
unfolding enabled_events
enabled_events_rise m S = rises_filtered (is_enabled m S) (candidate_events m S) (candidates_rise m S)
