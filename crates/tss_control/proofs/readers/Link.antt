-- Readers after a link: its operand holds it, or tells the reader that came right after it.
use Rattle.std.proofs.Common.{◌≡◌, ◌≢◌, ◌⊎◌, inl, inr, Bool, true, false, List, Option, Some, None, refl, sym, ap, ◌∙◌}
use Rattle.std.proofs.Common.{subst}
use Rattle.std.specs.Prelude.{is_some}
use Rattle.std.specs.FinMap.{get, remove}
use Rattle.std.proofs.lemmas.Option.{none-some, same_Some}
use Rattle.tss_base.specs.declared.operand.OpName.{OpName}
use Rattle.tss_base.specs.declared.operand.Task.{Task}
use Rattle.tss_base.specs.declared.machine.Machine.{Machine}
use Rattle.tss_base.specs.declared.event.Event.TheVariants as event
use Rattle.tss_base.specs.declared.marks.Farewell.TheVariants as farewell
use Rattle.tss_base.specs.declared.marks.LinkState.{LinkState}
use Rattle.tss_base.specs.declared.marks.LinkState.TheVariants as link
use Rattle.tss_maps.proofs.Keys.{name_order}
use Rattle.tss_maps.proofs.Changes.{at_removed, beside_removed}
use Rattle.tss_protocol.specs.Mail.{Source}
use Rattle.tss_protocol.specs.State.{State, OperandState, Flying, Version}
use Rattle.tss_protocol.specs.Stations.{operand_at, remaining_tasks, link_after_link, farewell_after_link}
use Rattle.tss_protocol.specs.Stations.{operand_after_link, sent_by_link}
use Rattle.tss_protocol.specs.UnitMachine.{IsEnabled, is_enabled, after_event, without, link_message_taken}
use Rattle.tss_phases.specs.Phase.{Phase, Ahead, Decoding, Sent, Waiting, Told, Ready, Releasing, Leaving, Promised}
use Rattle.tss_phases.specs.Phase.{Left, LookUps, look_ups, phase_at, phase_of, is_ahead}
use Rattle.tss_phases.specs.Alone.{HasRecord}
use Rattle.tss_phases.specs.Leaving.{phase_linked}
use Rattle.tss_phases.specs.Told.{tells, phase_told}
use Rattle.tss_phases.specs.Orderly.{FitsPhase, WasTold, IsOrderly, AreOrderly, TellWaiting, LinksWaiting}
use Rattle.tss_phases.proofs.Tests.{something}
use Rattle.tss_phases.proofs.OrderlyLemmas.{taken_by_record}
use Rattle.tss_phases.proofs.LinkEvent.{link_tells, link_tells_next, linked_task, flight-link, linked_record}
use Rattle.tss_phases.proofs.LinkEvent.{linked_record_other, phase_of-link, phase_of-link-other}
use Rattle.tss_locality.proofs.LeftFields.{Leaves-after_event}
use Rattle.tss_control.specs.Readers.{Arrivals, IsLinking, AreNeighbours, HasReaders}
use Rattle.tss_control.specs.Holders.{HasHolders}
use Rattle.tss_protocol.proofs.SentLemmas.{after_link-all}
use Rattle.tss_control.proofs.rounds.HoldersNext.{linking_waits}
use Rattle.tss_control.proofs.rounds.ReadersLists.{IsNext, next_apart, chained_at, newest_at}
use Rattle.tss_control.proofs.rounds.ReadersKept.{is_told, told_from_test, waited, LooksAlike, alike_same}
use Rattle.tss_control.proofs.readers.Links.{IsNoLink, links_kept}
use Rattle.tss_control.proofs.readers.Settled.{fails}
use Rattle.tss_control.proofs.readers.Stations.{IsEarly, early_record, record_from_remaining, record_stays}
use Rattle.tss_control.proofs.readers.Stations.{station_before, holds_after}
use Rattle.tss_control.proofs.readers.Ready.{told_not_waiting}
use Rattle.tss_control.proofs.readers.Wakes.{IsWoken, Wakes, readers_after_wake}

-- ---- phases

-- what readers see of a phase is the same after a link
linked_alike : (p : Phase) → LooksAlike p (phase_linked p)
linked_alike Ahead = record { waiting = refl; told = refl; released = refl; arrived = refl }
linked_alike other = record { waiting = refl; told = refl; released = refl; arrived = refl }

module _ (l : LookUps) (r : OperandState) (at : l.station ≡ Some r) (none : r.source ≡ None) where
  no_record : (s : Source) → HasRecord l (Some s) → ⊥
  no_record s h =
      none-some s
      (sym none ∙ ap (λ (r : OperandState). r.source) (same_Some r h.kept (sym at ∙ h.there)) ∙ h.told)

  stays_by : HasRecord l None → r.farewell ≡ farewell.Nothing
  stays_by h = ap (λ (r : OperandState). r.farewell) (same_Some r h.kept (sym at ∙ h.there)) ∙ h.stays

  was_not_told : WasTold l → ⊥
  was_not_told w =
      none-some w.2.0 (sym none ∙ ap (λ (r : OperandState). r.source) (same_Some r w.0 (sym at ∙ w.1)) ∙ w.2.1)

  stays_in : (p : Phase) → FitsPhase p l → r.farewell ≡ farewell.Nothing
  stays_in Ahead h = absurd (none-some r (sym h.0 ∙ at))
  stays_in Decoding h = stays_by h.0
  stays_in Sent h = stays_by h.0
  stays_in Waiting h = stays_by h.0
  stays_in Told h = stays_by h.0
  stays_in Ready h = absurd (no_record h.0.0 h.0.1)
  stays_in Releasing h = absurd (no_record h.0.0 h.0.1)
  stays_in Leaving h = absurd (no_record h.0.0 h.0.1)
  stays_in Promised h = absurd (was_not_told h.0)
  stays_in Left h = elim h.0 [
    | inl e ↦ absurd (none-some r (sym e ∙ at))
    | inr w ↦ absurd (was_not_told w)
  ]

  -- an operand that was told nothing hasn't said farewell
  untold_stays : IsOrderly l → r.farewell ≡ farewell.Nothing
  untold_stays orderly = stays_in (phase_at l) orderly.fits

passed_is : (s : Option Source) (next : OpName) (t : Source) → s ≡ Some t → link_after_link s next ≡ link.Passed
passed_is s next t e = ap (λ s. link_after_link s next) e

held_is : (s : Option Source) (next : OpName) → s ≡ None → link_after_link s next ≡ link.Held next
held_is s next e = ap (λ s. link_after_link s next) e

link_held : (s : Option Source) (next c : OpName) → link_after_link s next ≡ link.Held c → next ≡ c
link_held None next c e = cc
link_held (Some t) next c e = absurd (cc)

module _ (m : Machine) (ts : List Task) (g : Arrivals) (S : State) (h : HasReaders ts g S) (orderly : AreOrderly S)
    (holders : HasHolders ts g S) (o next : OpName) (r : OperandState) (there : get S.mail.links o ≡ Some next)
    (kept : operand_at S.flight o ≡ Some r) (waits : TellWaiting S (sent_by_link r.source next)) where
  abbrev After : State
  After = after_event m S (event.Link o)

  abbrev linked : Flying
  linked = linked_task m S o next r there kept

  abbrev flight : After.flight ≡ remaining_tasks S.flight o.task linked
  flight = flight-link m S o next r there kept

  links_now : After.mail.links ≡ remove S.mail.links o
  unfolding after_event
  links_now =
      ap (λ x. (link_message_taken (without S (event.Link o)) o x).mail.links) there
      ∙ links_kept (without S (event.Link o)).mail _
      (after_link-all IsNoLink (λ o source. tt) (λ o r. tt) S.flight o next)

  no_link_now : (c : OpName) → IsLinking After o c → ⊥
  no_link_now c e =
      none-some c (sym (ap (λ ls. get ls o) links_now ∙ at_removed name_order S.mail.links o) ∙ e)

  link_other : (a : OpName) → a ≢ o → get After.mail.links a ≡ get S.mail.links a
  link_other a apart = ap (λ ls. get ls a) links_now ∙ beside_removed name_order S.mail.links o a apart

  taken : is_ahead S o.task ≡ false
  taken = taken_by_record (look_ups S o) r (orderly o) kept

  own_phase : phase_of After o ≡ phase_linked (phase_of S o)
  own_phase = phase_of-link m S o next r there kept taken (waits o)

  own_alike : LooksAlike (phase_of S o) (phase_of After o)
  own_alike = subst (LooksAlike (phase_of S o)) (sym own_phase) (linked_alike (phase_of S o))

  other_by : (a : OpName) → a ≢ o → (b : Bool) → tells (sent_by_link r.source next) a ≡ b
      → phase_of After a ≡ phase_told b (phase_of S a)
  other_by a apart b e =
      phase_of-link-other m S o next r there kept taken a apart (waits a)
      ∙ ap (λ b. phase_told b (phase_of S a)) e

  woken_or_same : (a : OpName) → a ≢ o → (b : Bool) → tells (sent_by_link r.source next) a ≡ b
      → LooksAlike (phase_of S a) (phase_of After a) ⊎ IsWoken g S After o a
  woken_or_same a apart true e =
      let is = (link_tells r.source next a e).0 in
      let w = linking_waits ts g S h o next there in
      inr (record {
        before = ap (phase_of S) is ∙ w.waits;
        now = other_by a apart true e;
        version = w.version;
        state = w.state;
        there = w.there;
        next = subst (λ a. IsNext o a (g w.version)) (sym is) w.next;
      })
  woken_or_same a apart false e = inl (alike_same (phase_of S a) (phase_of After a) (other_by a apart false e))

  -- ---- records

  abbrev Other : OpName → Type 0
  Other q = q ≢ o

  station_other : (a : OpName) (q : OperandState) → a ≢ o → operand_at After.flight a ≡ Some q
      → (k : OperandState) × (operand_at S.flight a ≡ Some k) × (q.link ≡ k.link)
  station_other a q apart e =
      station_before S After o.task linked flight Other
      (λ a q apart same at. (q, sym (linked_record_other m S o next r there kept a apart same) ∙ at, refl)) a q apart e

  record_now : (q : OperandState) → operand_at After.flight o ≡ Some q → q ≡ operand_after_link r next
  record_now q e =
      same_Some q (operand_after_link r next)
      (sym (record_from_remaining S.flight o.task linked o refl q (sym (ap (λ f. operand_at f o) flight) ∙ e))
      ∙ linked_record m S o next r there kept)

  link_now : (q : OperandState) → operand_at After.flight o ≡ Some q → q.link ≡ link_after_link r.source next
  link_now q e = ap (λ (q : OperandState). q.link) (record_now q e)

  -- ---- the next reader

  module _ (v : OpName) (y : Version) (b : OpName) (at : get S.versions v ≡ Some y) (n : IsNext o b (g v)) where
    abbrev Old : AreNeighbours S o b
    Old = chained_at S (g v) (h.versions v y at).chained o b n

    b_apart : b ≢ o
    b_apart same = next_apart o b (g v) (h.versions v y at).once n (sym same)

    b_is : next ≡ b
    b_is = (Old.linking next there).0

    holds_it : r.source ≡ None → AreNeighbours After o b
    holds_it none =
        let silent = fails (tells (sent_by_link r.source next) b) (λ t.
        let k = (link_tells r.source next b t).1 in
        none-some k.0 (sym none ∙ k.1)) in
        let still : phase_of After b ≡ Waiting = other_by b b_apart false silent ∙ (Old.linking next there).1 in
        let goes = ap farewell_after_link (untold_stays (look_ups S o) r kept none (orderly o)) in
        let here : operand_at After.flight o ≡ Some (operand_after_link r next) =
        ap (λ f. operand_at f o) flight
        ∙ record_stays S.flight o.task linked o refl (operand_after_link r next) (linked_record m S o next r there kept)
        goes in record {
          waits = λ e. inr (operand_after_link r next, here, held_is r.source next none ∙ ap link.Held b_is);
          linking = λ d l. absurd (no_link_now d l);
          holding = λ d k. (sym (link_held r.source next d (sym (link_now k.0 k.1) ∙ k.2)) ∙ b_is, still);
          woken = λ none. absurd (none still);
          passed = λ q none e late. absurd (none still);
        }

    passes_it : (s : Source) → r.source ≡ Some s → AreNeighbours After o b
    passes_it s some =
        let told = other_by b b_apart true (ap (tells (sent_by_link r.source next)) (sym b_is)
        ∙ link_tells_next r.source next s some) in
        let late : IsEarly (phase_of S o) → ⊥ = λ early.
        none-some s (sym (early_record S orderly o r early kept).0 ∙ some) in record {
          waits = λ e. absurd (told_not_waiting (phase_of After b) told e);
          linking = λ d l. absurd (no_link_now d l);
          holding = λ d k.
              absurd (passed_apart (link_after_link r.source next) d (passed_is r.source next s some)
              (sym (link_now k.0 k.1) ∙ k.2));
          woken = λ none. (
            (λ e. late (inl (waited (phase_of S o) (phase_of After o) own_alike.waiting e))),
            (λ e. late (inr (told_from_test (phase_of S o) (sym own_alike.told ∙ ap is_told e)))),
          );
          passed = λ q none e stays. link_now q e ∙ passed_is r.source next s some;
        }
      where
        passed_apart : (l : LinkState) (c : OpName) → l ≡ link.Passed → l ≡ link.Held c → ⊥
        passed_apart l c e f = cc

    next_by : (s : Option Source) → r.source ≡ s → AreNeighbours After o b
    next_by None e = holds_it e
    next_by (Some s) e = passes_it s e

  link_wakes : Wakes ts g S After o
  link_wakes = record {
    versions = λ i. (Leaves-after_event m S (event.Link o) i).versions;
    links = link_other;
    station = station_other;
    holds = λ a c p apart at k. holds_after S After o.task linked flight Other ts g orderly holders
        (λ q k apart same at early. linked_record_other m S o next r there kept q apart same ∙ at) a c p apart at k;
    phases = λ a apart. woken_or_same a apart (tells (sent_by_link r.source next) a) refl;
    released = own_alike.released;
    arrived = own_alike.arrived;
    waiting = own_alike.waiting;
    next = λ v y b at n. next_by v y b at n r.source refl;
    newest = λ v y at e. absurd ((newest_at S (g v) (h.versions v y at).newest o e).linking next there);
    own_link = λ b l. elim l [
      | inl e ↦ absurd (no_link_now b e)
      | inr k ↦ inl (there ∙ ap Some (link_held r.source next b (sym (link_now k.0 k.1) ∙ k.2)))
    ];
  }

-- link
pub HasReaders-link : (m : Machine) (ts : List Task) (g : Arrivals) (S : State) → HasReaders ts g S → AreOrderly S
    → HasHolders ts g S → (o : OpName) → IsEnabled m S (event.Link o) → LinksWaiting S o
    → HasReaders ts g (after_event m S (event.Link o))
unfolding is_enabled
HasReaders-link m ts g S h orderly holders o enabled waits =
    let next = something is_some (get S.mail.links o) refl enabled in
    let k = waits next.0 next.1 in
    readers_after_wake ts g S (after_event m S (event.Link o)) o h
    (link_wakes m ts g S h orderly holders o next.0 k.0 next.1 k.1 k.2)
