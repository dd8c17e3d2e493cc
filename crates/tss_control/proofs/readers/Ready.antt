-- Readers after a ready: its operand passes a held link on to the reader that came right after it.
use Rattle.std.proofs.Common.{◌≡◌, ◌≢◌, ◌⊎◌, inl, inr, Bool, true, false, List, Some, refl, sym, ap, ◌∙◌}
use Rattle.std.specs.Prelude.{is_some}
use Rattle.std.specs.FinMap.{get}
use Rattle.std.proofs.lemmas.Option.{same_Some}
use Rattle.tss_base.specs.declared.operand.OpName.{OpName}
use Rattle.tss_base.specs.declared.operand.Task.{Task}
use Rattle.tss_base.specs.declared.machine.Machine.{Machine}
use Rattle.tss_base.specs.declared.event.Event.TheVariants as event
use Rattle.tss_base.specs.declared.marks.Farewell.TheVariants as farewell
use Rattle.tss_base.specs.declared.marks.LinkState.{LinkState}
use Rattle.tss_base.specs.declared.marks.LinkState.TheVariants as link
use Rattle.tss_protocol.specs.Mail.{Source, Message}
use Rattle.tss_protocol.specs.State.{State, OperandState, Version}
use Rattle.tss_protocol.specs.Stations.{operand_at, after_ready, link_after_ready, operand_after_ready, sent_by_ready}
use Rattle.tss_protocol.specs.UnitMachine.{IsEnabled, is_enabled, after_event, without, ready_message_taken}
use Rattle.tss_phases.specs.Phase.{Phase, Waiting, Told, Ready, look_ups, phase_of, has_released}
use Rattle.tss_phases.specs.Openers.{is_waiting}
use Rattle.tss_phases.specs.Told.{tells, phase_told}
use Rattle.tss_phases.specs.Orderly.{AreOrderly, ReadiesWaiting}
use Rattle.tss_phases.proofs.Tests.{something, not_both}
use Rattle.tss_phases.proofs.OrderlyLemmas.{telling_stands}
use Rattle.tss_phases.proofs.ReadyEvent.{ready_tells, ready_tells_next, ready_record, ready_record_other, told_before}
use Rattle.tss_phases.proofs.ReadyEvent.{phase_of-ready, phase_of-ready-other}
use Rattle.tss_locality.proofs.LeftFields.{Leaves-after_event}
use Rattle.tss_control.specs.Readers.{Arrivals, has_arrived, Holds, AreNeighbours, IsNewest, HasReaders}
use Rattle.tss_control.proofs.rounds.HoldersNext.{held_waits}
use Rattle.tss_control.proofs.rounds.ReadersLists.{newest_of, IsNext, next_apart, chained_at, newest_at}
use Rattle.tss_control.proofs.rounds.ReadersKept.{LooksAlike, alike_same, waiting_from_test}
use Rattle.tss_control.proofs.readers.Links.{links-ready}
use Rattle.tss_control.proofs.readers.Settled.{fails}
use Rattle.tss_control.proofs.readers.Wakes.{IsWoken, Wakes, readers_after_wake}

-- ---- links

-- a link is held for someone, or for nobody
held_or_free : (l : LinkState) → ((c : OpName) × (l ≡ link.Held c)) ⊎ ((c : OpName) → l ≡ link.Held c → ⊥)
held_or_free link.Nothing = inr (λ c e. cc)
held_or_free (link.Held c) = inl (c, refl)
held_or_free link.Passed = inr (λ c e. cc)

passed_not_held : (l : LinkState) (c : OpName) → link_after_ready l ≡ link.Held c → ⊥
passed_not_held link.Nothing c e = cc
passed_not_held (link.Held b) c e = cc
passed_not_held link.Passed c e = cc

-- who is told isn't waiting
pub told_not_waiting : (p : Phase) → p ≡ Told → p ≡ Waiting → ⊥
told_not_waiting p e f = cc

ready_not_early : (p : Phase) → p ≡ Ready → (p ≢ Waiting) × (p ≢ Told)
ready_not_early p e = (λ f. cc, λ f. cc)

module _ (m : Machine) (ts : List Task) (g : Arrivals) (S : State) (h : HasReaders ts g S) (orderly : AreOrderly S)
    (o : OpName) (waits : ReadiesWaiting S o) (s : Source) (r : OperandState) (there : get S.mail.readies o ≡ Some s)
    (kept : operand_at S.flight o ≡ Some r) (stays : r.farewell ≡ farewell.Nothing) where
  abbrev After : State
  After = after_event m S (event.Ready o)

  ready_flight : After.flight ≡ (after_ready S.flight o s).flight
  unfolding after_event
  ready_flight = ap (λ x. (ready_message_taken (without S (event.Ready o)) o x).flight) there

  links_same : (a : OpName) → get After.mail.links a ≡ get S.mail.links a
  links_same a = ap (λ ls. get ls a) (links-ready m S o)

  record_now : operand_at After.flight o ≡ Some (operand_after_ready r s)
  record_now = ap (λ f. operand_at f o) ready_flight ∙ ready_record m S o s r there kept

  link_now : (q : OperandState) → operand_at After.flight o ≡ Some q → q.link ≡ link_after_ready r.link
  link_now q e = ap (λ (q : OperandState). q.link) (same_Some q (operand_after_ready r s) (sym e ∙ record_now))

  holds_none : (c : OpName) → Holds After o c → ⊥
  holds_none c k = passed_not_held r.link c (sym (link_now k.0 k.1) ∙ k.2)

  record_other : (a : OpName) → a ≢ o → operand_at After.flight a ≡ operand_at S.flight a
  record_other a apart = ap (λ f. operand_at f a) ready_flight ∙ ready_record_other m S o s r there kept a apart

  was_told : phase_of S o ≡ Told
  was_told = told_before m S o s r there kept (orderly o).alone

  is_ready : phase_of After o ≡ Ready
  is_ready = phase_of-ready m S o s r there kept (orderly o).alone stays (waits s r there kept o)

  -- ---- others

  abbrev Sent : List Message
  Sent = sent_by_ready r.link s

  other_by : (a : OpName) → a ≢ o → (b : Bool) → tells Sent a ≡ b
      → phase_of After a ≡ phase_told b (phase_of S a)
  other_by a apart b e =
      phase_of-ready-other m S o s r there kept a apart (waits s r there kept a)
      ∙ ap (λ b. phase_told b (phase_of S a)) e

  woken_or_same : (a : OpName) → a ≢ o → (b : Bool) → tells Sent a ≡ b
      → LooksAlike (phase_of S a) (phase_of After a) ⊎ IsWoken g S After o a
  woken_or_same a apart true e =
      let w = held_waits ts g S h o a (r, kept, ready_tells r.link s a e) in
      inr (record {
        before = w.waits;
        now = other_by a apart true e;
        version = w.version;
        state = w.state;
        there = w.there;
        next = w.next;
      })
  woken_or_same a apart false e = inl (alike_same (phase_of S a) (phase_of After a) (other_by a apart false e))

  -- ---- the next reader

  module _ (v : OpName) (y : Version) (b : OpName) (at : get S.versions v ≡ Some y) (n : IsNext o b (g v)) where
    abbrev Old : AreNeighbours S o b
    Old = chained_at S (g v) (h.versions v y at).chained o b n

    b_apart : b ≢ o
    b_apart same = next_apart o b (g v) (h.versions v y at).once n (sym same)

    -- it waited
    b_waits : phase_of S b ≡ Waiting
    b_waits = by (is_waiting (phase_of S b)) refl
      where
        by : (t : Bool) → is_waiting (phase_of S b) ≡ t → phase_of S b ≡ Waiting
        by true e = waiting_from_test (phase_of S b) e
        by false e =
            absurd ((Old.woken (λ w. not_both (is_waiting (phase_of S b)) (ap is_waiting w) e)).1 was_told)

    passed_on : (c : OpName) → r.link ≡ link.Held c → AreNeighbours After o b
    passed_on c held =
        let same = (Old.holding c (r, kept, held)).0 in
        let told = other_by b b_apart true (ready_tells_next r.link s b (held ∙ ap link.Held same)) in record {
          waits = λ e. absurd (told_not_waiting (phase_of After b) told e);
          linking = λ d l. absurd ((Old.linking d (sym (links_same o) ∙ l)).2 c (r, kept, held));
          holding = λ d k. absurd (holds_none d k);
          woken = λ none. ready_not_early (phase_of After o) is_ready;
          passed = λ q none e late. link_now q e ∙ ap link_after_ready held;
        }

    stays_behind : ((c : OpName) → r.link ≡ link.Held c → ⊥) → AreNeighbours After o b
    stays_behind free =
        let silent = fails (tells Sent b) (λ t. free b (ready_tells r.link s b t)) in
        let still = other_by b b_apart false silent ∙ b_waits in record {
          waits = λ e. elim (Old.waits b_waits) [
            | inl l ↦ inl (links_same o ∙ l)
            | inr k ↦ absurd (free b (ap (λ (r : OperandState). r.link) (same_Some r k.0 (sym kept ∙ k.1)) ∙ k.2))
          ];
          linking = λ d l. ((Old.linking d (sym (links_same o) ∙ l)).0, still, λ c k. holds_none c k);
          holding = λ d k. absurd (holds_none d k);
          woken = λ none. absurd (none still);
          passed = λ q none e late. absurd (none still);
        }

    next_after : AreNeighbours After o b
    next_after = elim (held_or_free r.link) [
      | inl k ↦ passed_on k.0 k.1
      | inr free ↦ stays_behind free
    ]

  newest_after : (v : OpName) (y : Version) → get S.versions v ≡ Some y → newest_of (g v) ≡ Some o → IsNewest After o
  newest_after v y at e =
      let n = newest_at S (g v) (h.versions v y at).newest o e in
      record {
        linking = λ c l. n.linking c (sym (links_same o) ∙ l);
        record_link = λ q k. link_now q k ∙ ap link_after_ready (n.record_link r kept);
      }

  ready_wakes : Wakes ts g S After o
  ready_wakes = record {
    versions = λ i. (Leaves-after_event m S (event.Ready o) i).versions;
    links = λ a apart. links_same a;
    station = λ a q apart e. (q, sym (record_other a apart) ∙ e, refl);
    holds = λ a c p apart at k. (k.0, record_other a apart ∙ k.1, k.2);
    phases = λ a apart. woken_or_same a apart (tells Sent a) refl;
    released = ap has_released is_ready ∙ ap has_released (sym was_told);
    arrived = ap has_arrived is_ready ∙ ap has_arrived (sym was_told);
    waiting = ap is_waiting is_ready ∙ ap is_waiting (sym was_told);
    next = next_after;
    newest = newest_after;
    own_link = λ b l. elim l [
      | inl e ↦ inl (sym (links_same o) ∙ e)
      | inr k ↦ absurd (holds_none b k)
    ];
  }

-- ready
pub HasReaders-ready : (m : Machine) (ts : List Task) (g : Arrivals) (S : State) → HasReaders ts g S → AreOrderly S
    → (o : OpName) → IsEnabled m S (event.Ready o) → ReadiesWaiting S o
    → HasReaders ts g (after_event m S (event.Ready o))
unfolding is_enabled
HasReaders-ready m ts g S h orderly o enabled waits =
    let s = something is_some (get S.mail.readies o) refl enabled in
    let k = (telling_stands (look_ups S o) s.0 (orderly o) s.1).1.0 in
    readers_after_wake ts g S (after_event m S (event.Ready o)) o h
    (ready_wakes m ts g S h orderly o waits s.0 k.kept s.1 k.there k.stays)
