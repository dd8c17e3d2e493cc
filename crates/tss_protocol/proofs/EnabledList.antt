-- The list of enabled events has every enabled event and no other.
use Rattle.std.proofs.Common.{◌≡◌, ℕ, zero, suc, ◌+◌, ◌<◌, Bool, true, false, cond, List, [], ◌∷◌, ◌++◌, Option, Some}
use Rattle.std.proofs.Common.{None, refl, sym, ap, ◌∙◌, subst, arith, inl, inr, ◌⊎◌}
use Rattle.std.specs.Prelude.{map, filter, slice_get, is_some, nat_lt, is_none}
use Rattle.std.proofs.lemmas.Bool.Decides.{nat_tests}
use Rattle.std.specs.List.{range_with_len}
use Rattle.std.specs.declared.cmp.Ordering.{Ordering}
use Rattle.std.specs.FinMap.{FinMap, get, keys}
use Rattle.tss_base.specs.declared.operand.OpName.{OpName}
use Rattle.tss_base.specs.declared.machine.Machine.{Machine}
use Rattle.tss_base.specs.declared.event.Event.{Event}
use Rattle.tss_base.specs.declared.event.Event.TheVariants as event
use Rattle.tss_maps.specs.Ordered.{key_at}
use Rattle.tss_maps.proofs.Keys.{IsKeyOrder, nat_order, name_order}
use Rattle.tss_maps.proofs.OrderedLemmas.{key_from_get}
use Rattle.tss_protocol.specs.Mail.{Mail, early_names, late_names, gone_names}
use Rattle.tss_protocol.specs.State.{State, Busy}
use Rattle.tss_protocol.specs.Workers.{can_start, can_exec, can_finish}
use Rattle.tss_protocol.specs.UnitMachine.{is_enabled, can_decode_message, can_open_message, can_use_message}
use Rattle.tss_protocol.specs.UnitMachine.{can_retire, worker_events, copy_events, candidate_events, enabled_events}
use Rattle.tss_protocol.proofs.DrainedStates.{first_passes}

-- two answers
false_true : false ≡ true → ⊥
false_true e = cc

same_some : {X : Type 0} (x y : X) → Some x ≡ Some y → x ≡ y
same_some x y e = cc

number_from_test : (n m : ℕ) → nat_lt n m ≡ true → n < m
number_from_test n m e = grind (arith, nat_tests)

-- ---- membership

abbrev pub IsIn : Event → List Event → Type 0
IsIn e [] = ⊥
IsIn e (d ∷ ds) = (d ≡ e) ⊎ IsIn e ds

in_front : (e : Event) (ds fs : List Event) → IsIn e ds → IsIn e (ds ++ fs)
in_front e [] fs h = absurd h
in_front e (d ∷ ds) fs (inl h) = inl h
in_front e (d ∷ ds) fs (inr h) = inr (in_front e ds fs h)

in_back : (e : Event) (ds fs : List Event) → IsIn e fs → IsIn e (ds ++ fs)
in_back e [] fs h = h
in_back e (d ∷ ds) fs h = inr (in_back e ds fs h)

in_mapped : {K : Type 0} (f : K → Event) (ks : List K) (i : ℕ) (k : K) → slice_get ks i ≡ Some k → IsIn (f k) (map f ks)
in_mapped f [] i k e = absurd (cc)
in_mapped f (q ∷ ks) zero k e = inl (ap f (same_some q k e))
in_mapped f (q ∷ ks) (suc i) k e = inr (in_mapped f ks i k e)

in_keys : {K X : Type 0} {R : K → K → Ordering} (order : IsKeyOrder R) (f : K → Event) (m : FinMap R X) (k : K) (x : X)
    → get m k ≡ Some x → IsIn (f k) (map f (keys m))
unfolding key_at
in_keys order f m k x e = let place = key_from_get order m k x e in in_mapped f (keys m) place.0 k place.1

in_range : (a n w : ℕ) → w < n → IsIn (event.Start (a + w)) (map event.Start (range_with_len a n))
in_range a zero w h = absurd (omega arith)
in_range a (suc n) zero h = inl (ap event.Start (omega arith))
in_range a (suc n) (suc w) h =
    let rest = map event.Start (range_with_len (a + 1) n) in
    inr (subst (λ b. IsIn (event.Start b) rest) (omega arith) (in_range (a + 1) n w (omega arith)))

-- ---- a filter

in_filtered : (p : Event → Bool) (e : Event) (ds : List Event) → p e ≡ true → IsIn e ds → IsIn e (filter p ds)
in_filtered p e [] t h = absurd h
in_filtered p e (d ∷ ds) t (inl h) =
    subst (λ b. IsIn e (cond b (d ∷ filter p ds) (filter p ds))) (sym (ap p h ∙ t)) (inl h)
in_filtered p e (d ∷ ds) t (inr h) =
    elim (p d) as (λ b. IsIn e (cond b (d ∷ filter p ds) (filter p ds))) [
      | true ↦ inr (in_filtered p e ds t h)
      | false ↦ in_filtered p e ds t h
    ]

from_filtered : (p : Event → Bool) (e : Event) (ds : List Event) → IsIn e (filter p ds) → p e ≡ true
from_filtered p e [] h = absurd h
from_filtered p e (d ∷ ds) h =
    elim (p d) as (λ b. p d ≡ b → IsIn e (cond b (d ∷ filter p ds) (filter p ds)) → p e ≡ true) [
      | true ↦ λ is i. elim i [ inl same ↦ ap p (sym same) ∙ is | inr r ↦ from_filtered p e ds r ]
      | false ↦ λ is i. from_filtered p e ds i
    ] refl h

-- ---- what an enabled event finds

-- a test that nothing fails is passed by something
something : {X : Type 0} (t : Option X → Bool) → t None ≡ false → (o : Option X) → t o ≡ true → (x : X) × (o ≡ Some x)
something t fails None e = absurd (false_true (sym fails ∙ e))
something t fails (Some x) e = (x, refl)

-- a start needs a worker's number
start_number : (workers w : ℕ) (busy : Option Busy) (queue : List ℕ)
    → can_start workers w busy queue ≡ true → w < workers
start_number workers w busy [] e = absurd (false_true e)
start_number workers w busy (t ∷ ts) e = number_from_test w workers (first_passes (nat_lt w workers) (is_none busy) e)

-- ---- each kind among the names of messages

module _ (m : Mail) (o : OpName) where
  in_decodes : IsIn (event.Decode o) (map event.Decode (keys m.decodes)) → IsIn (event.Decode o) (early_names m)
  in_decodes h = search (in_front, in_back)

  in_acks : IsIn (event.Ack o) (map event.Ack (keys m.acks)) → IsIn (event.Ack o) (early_names m)
  in_acks h = search (in_front, in_back)

  in_opens : IsIn (event.Open o) (map event.Open (keys m.opens)) → IsIn (event.Open o) (early_names m)
  in_opens h = search (in_front, in_back)

  in_uses : IsIn (event.Use o) (map event.Use (keys m.uses)) → IsIn (event.Use o) (early_names m)
  in_uses h = search (in_front, in_back)

  in_readies : IsIn (event.Ready o) (map event.Ready (keys m.readies)) → IsIn (event.Ready o) (early_names m)
  in_readies h = search (in_front, in_back)

  in_links : IsIn (event.Link o) (map event.Link (keys m.links)) → IsIn (event.Link o) (early_names m)
  in_links h = search (in_front, in_back)

  in_releases : IsIn (event.Release o) (map event.Release (keys m.releases)) → IsIn (event.Release o) (late_names m)
  in_releases h = search (in_front, in_back)

  in_byes : IsIn (event.Bye o) (map event.Bye (keys m.byes)) → IsIn (event.Bye o) (late_names m)
  in_byes h = search (in_front, in_back)

  in_idles : IsIn (event.Idle o) (map event.Idle (keys m.idles)) → IsIn (event.Idle o) (late_names m)
  in_idles h = search (in_front, in_back)

  in_nacks : IsIn (event.Nack o) (map event.Nack (keys m.nacks)) → IsIn (event.Nack o) (late_names m)
  in_nacks h = search (in_front, in_back)

  in_retires : IsIn (event.Retire o) (map event.Retire (keys m.retires)) → IsIn (event.Retire o) (late_names m)
  in_retires h = search (in_front, in_back)

-- ---- each group among the candidates

module _ (e : Event) (a b c d f : List Event) where
  of_five_first : IsIn e a → IsIn e (a ++ b ++ c ++ d ++ f)
  of_five_first h = search (in_front, in_back)

  of_five_second : IsIn e b → IsIn e (a ++ b ++ c ++ d ++ f)
  of_five_second h = search (in_front, in_back)

  of_five_third : IsIn e c → IsIn e (a ++ b ++ c ++ d ++ f)
  of_five_third h = search (in_front, in_back)

  of_five_fourth : IsIn e d → IsIn e (a ++ b ++ c ++ d ++ f)
  of_five_fourth h = search (in_front, in_back)

  of_five_fifth : IsIn e f → IsIn e (a ++ b ++ c ++ d ++ f)
  of_five_fifth h = search (in_front, in_back)

module _ (m : Machine) (S : State) (e : Event) where
  abbrev early : List Event
  early = early_names S.mail

  abbrev workers : List Event
  workers = worker_events m S

  abbrev late : List Event
  late = late_names S.mail

  abbrev copies : List Event
  copies = copy_events S

  abbrev gones : List Event
  gones = gone_names S.mail

  from_early : IsIn e (early_names S.mail) → IsIn e (candidate_events m S)
  from_early h = inr (inr (of_five_first e early workers late copies gones h))

  from_workers : IsIn e (worker_events m S) → IsIn e (candidate_events m S)
  from_workers h = inr (inr (of_five_second e early workers late copies gones h))

  from_late : IsIn e (late_names S.mail) → IsIn e (candidate_events m S)
  from_late h = inr (inr (of_five_third e early workers late copies gones h))

  from_copies : IsIn e (copy_events S) → IsIn e (candidate_events m S)
  from_copies h = inr (inr (of_five_fourth e early workers late copies gones h))

  from_gones : IsIn e (gone_names S.mail) → IsIn e (candidate_events m S)
  from_gones h = inr (inr (of_five_fifth e early workers late copies gones h))

-- ---- each enabled event is a candidate

module _ (m : Machine) (S : State) where
  listed_decodes : (o : OpName) → is_enabled m S (event.Decode o) ≡ true → IsIn (event.Decode o) (candidate_events m S)
  unfolding is_enabled
  listed_decodes o e =
      let found = something (can_decode_message m S o) refl (get S.mail.decodes o) e in
      let key = in_keys name_order event.Decode S.mail.decodes o found.0 found.1 in
      from_early m S (event.Decode o) (in_decodes S.mail o key)

  listed_acks : (o : OpName) → is_enabled m S (event.Ack o) ≡ true → IsIn (event.Ack o) (candidate_events m S)
  unfolding is_enabled
  listed_acks o e =
      let found = something is_some refl (get S.mail.acks o) e in
      let key = in_keys name_order event.Ack S.mail.acks o found.0 found.1 in
      from_early m S (event.Ack o) (in_acks S.mail o key)

  listed_opens : (o : OpName) → is_enabled m S (event.Open o) ≡ true → IsIn (event.Open o) (candidate_events m S)
  unfolding is_enabled
  listed_opens o e =
      let found = something (can_open_message S) refl (get S.mail.opens o) e in
      let key = in_keys name_order event.Open S.mail.opens o found.0 found.1 in
      from_early m S (event.Open o) (in_opens S.mail o key)

  listed_uses : (o : OpName) → is_enabled m S (event.Use o) ≡ true → IsIn (event.Use o) (candidate_events m S)
  unfolding is_enabled
  listed_uses o e =
      let found = something (can_use_message S) refl (get S.mail.uses o) e in
      let key = in_keys name_order event.Use S.mail.uses o found.0 found.1 in
      from_early m S (event.Use o) (in_uses S.mail o key)

  listed_readies : (o : OpName) → is_enabled m S (event.Ready o) ≡ true → IsIn (event.Ready o) (candidate_events m S)
  unfolding is_enabled
  listed_readies o e =
      let found = something is_some refl (get S.mail.readies o) e in
      let key = in_keys name_order event.Ready S.mail.readies o found.0 found.1 in
      from_early m S (event.Ready o) (in_readies S.mail o key)

  listed_links : (o : OpName) → is_enabled m S (event.Link o) ≡ true → IsIn (event.Link o) (candidate_events m S)
  unfolding is_enabled
  listed_links o e =
      let found = something is_some refl (get S.mail.links o) e in
      let key = in_keys name_order event.Link S.mail.links o found.0 found.1 in
      from_early m S (event.Link o) (in_links S.mail o key)

  listed_releases : (o : OpName) → is_enabled m S (event.Release o) ≡ true
      → IsIn (event.Release o) (candidate_events m S)
  unfolding is_enabled
  listed_releases o e =
      let found = something is_some refl (get S.mail.releases o) e in
      let key = in_keys name_order event.Release S.mail.releases o found.0 found.1 in
      from_late m S (event.Release o) (in_releases S.mail o key)

  listed_byes : (o : OpName) → is_enabled m S (event.Bye o) ≡ true → IsIn (event.Bye o) (candidate_events m S)
  unfolding is_enabled
  listed_byes o e =
      let found = something is_some refl (get S.mail.byes o) e in
      let key = in_keys name_order event.Bye S.mail.byes o found.0 found.1 in
      from_late m S (event.Bye o) (in_byes S.mail o key)

  listed_idles : (o : OpName) → is_enabled m S (event.Idle o) ≡ true → IsIn (event.Idle o) (candidate_events m S)
  unfolding is_enabled
  listed_idles o e =
      let found = something is_some refl (get S.mail.idles o) e in
      let key = in_keys name_order event.Idle S.mail.idles o found.0 found.1 in
      from_late m S (event.Idle o) (in_idles S.mail o key)

  listed_nacks : (o : OpName) → is_enabled m S (event.Nack o) ≡ true → IsIn (event.Nack o) (candidate_events m S)
  unfolding is_enabled
  listed_nacks o e =
      let found = something is_some refl (get S.mail.nacks o) e in
      let key = in_keys name_order event.Nack S.mail.nacks o found.0 found.1 in
      from_late m S (event.Nack o) (in_nacks S.mail o key)

  listed_retires : (v : OpName) → is_enabled m S (event.Retire v) ≡ true → IsIn (event.Retire v) (candidate_events m S)
  unfolding is_enabled
  listed_retires v e =
      let there = first_passes (is_some (get S.mail.retires v)) (can_retire m S (get S.versions v)) e in
      let found = something is_some refl (get S.mail.retires v) there in
      let key = in_keys name_order event.Retire S.mail.retires v found.0 found.1 in
      from_late m S (event.Retire v) (in_retires S.mail v key)

  listed_gones : (v : OpName) → is_enabled m S (event.Gone v) ≡ true → IsIn (event.Gone v) (candidate_events m S)
  unfolding is_enabled
  listed_gones v e =
      let found = something is_some refl (get S.mail.gones v) e in
      from_gones m S (event.Gone v) (in_keys name_order event.Gone S.mail.gones v found.0 found.1)

  abbrev starts : List Event
  starts = map event.Start (range_with_len 0 m.sizes.workers)

  listed_start : (w : ℕ) → is_enabled m S (event.Start w) ≡ true → IsIn (event.Start w) (candidate_events m S)
  unfolding is_enabled
  listed_start w e =
      let number = start_number m.sizes.workers w (get S.workers w) S.queue e in
      let place = in_range 0 m.sizes.workers w number in
      let key : IsIn (event.Start w) starts = subst (λ v. IsIn (event.Start v) starts) (omega arith) place in
      from_workers m S (event.Start w) (search (in_front, in_back))

  listed_exec : (w : ℕ) → is_enabled m S (event.Exec w) ≡ true → IsIn (event.Exec w) (candidate_events m S)
  unfolding is_enabled
  listed_exec w e =
      let found = something can_exec refl (get S.workers w) e in
      let key = in_keys nat_order event.Exec S.workers w found.0 found.1 in
      from_workers m S (event.Exec w) (search (in_front, in_back))

  listed_finish : (w : ℕ) → is_enabled m S (event.Finish w) ≡ true → IsIn (event.Finish w) (candidate_events m S)
  unfolding is_enabled
  listed_finish w e =
      let found = something can_finish refl (get S.workers w) e in
      let key = in_keys nat_order event.Finish S.workers w found.0 found.1 in
      from_workers m S (event.Finish w) (search (in_front, in_back))

  listed_copy : (b : ℕ) → is_enabled m S (event.Copy b) ≡ true → IsIn (event.Copy b) (candidate_events m S)
  unfolding is_enabled
  listed_copy b e =
      let found = something is_some refl (get S.copies b) e in
      from_copies m S (event.Copy b) (in_keys nat_order event.Copy S.copies b found.0 found.1)

  candidate : (e : Event) → is_enabled m S e ≡ true → IsIn e (candidate_events m S)
  candidate event.Main h = inl refl
  candidate event.Take h = inr (inl refl)
  candidate (event.Decode o) h = listed_decodes o h
  candidate (event.Ack o) h = listed_acks o h
  candidate (event.Open o) h = listed_opens o h
  candidate (event.Use o) h = listed_uses o h
  candidate (event.Ready o) h = listed_readies o h
  candidate (event.Link o) h = listed_links o h
  candidate (event.Start w) h = listed_start w h
  candidate (event.Exec w) h = listed_exec w h
  candidate (event.Finish w) h = listed_finish w h
  candidate (event.Release o) h = listed_releases o h
  candidate (event.Bye o) h = listed_byes o h
  candidate (event.Idle v) h = listed_idles v h
  candidate (event.Nack v) h = listed_nacks v h
  candidate (event.Retire v) h = listed_retires v h
  candidate (event.Copy b) h = listed_copy b h
  candidate (event.Gone v) h = listed_gones v h

  -- an enabled event is in the list
  pub enabled_listed : (e : Event) → is_enabled m S e ≡ true → IsIn e (enabled_events m S)
  unfolding enabled_events
  enabled_listed e h = in_filtered (is_enabled m S) e (candidate_events m S) h (candidate e h)

  -- and what is in the list is enabled
  pub listed_enabled : (e : Event) → IsIn e (enabled_events m S) → is_enabled m S e ≡ true
  unfolding enabled_events
  listed_enabled e h = from_filtered (is_enabled m S) e (candidate_events m S) h
