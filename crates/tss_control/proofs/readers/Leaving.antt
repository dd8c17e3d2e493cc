-- Finish and bye take no reader's link, whether their task leaves or not.
use Rattle.std.proofs.Common.{◌≡◌, inl, inr, ℕ, Bool, false, List, Option, Some, None, refl, sym, ap, ◌∙◌}
use Rattle.std.specs.Prelude.{is_some, slice_get, ◌&&◌, not}
use Rattle.std.specs.FinMap.{get}
use Rattle.std.proofs.lemmas.Option.{same_Some}
use Rattle.tss_base.specs.declared.operand.OpName.{OpName}
use Rattle.tss_base.specs.declared.operand.Task.{Task}
use Rattle.tss_base.specs.declared.machine.Machine.{Machine}
use Rattle.tss_base.specs.declared.event.Event.TheVariants as event
use Rattle.tss_maps.proofs.Keys.{nat_order, name_order, decide_key}
use Rattle.tss_protocol.specs.State.{State, OperandState, Flying, Busy}
use Rattle.tss_protocol.specs.Stations.{operand_at, has_passed, operand_after_bye}
use Rattle.tss_protocol.specs.Workers.{can_finish}
use Rattle.tss_protocol.specs.UnitMachine.{IsEnabled, is_enabled, after_event}
use Rattle.tss_phases.specs.Phase.{Phase, Ready, Releasing, Leaving, look_ups, phase_at, phase_of, is_ahead}
use Rattle.tss_phases.specs.Leaving.{phase_parted}
use Rattle.tss_phases.specs.Orderly.{AreOrderly, FinishesReady}
use Rattle.tss_phases.proofs.Tests.{something}
use Rattle.tss_phases.proofs.Records.{operand_in}
use Rattle.tss_phases.proofs.OrderlyLemmas.{leaving_stands, taken_by_record}
use Rattle.tss_phases.proofs.FinishEvent.{finished_task, flight-finish, phase_of-finish, phase_of-finish-other}
use Rattle.tss_phases.proofs.FinishEvent.{look_ups-finish-beyond}
use Rattle.tss_phases.proofs.ByeEvent.{parted_task, parted_record, parted_record_other, flight-bye, leaving_before}
use Rattle.tss_phases.proofs.ByeEvent.{phase_of-bye, phase_of-bye-other}
use Rattle.tss_locality.proofs.LeftFields.{Leaves-after_event}
use Rattle.tss_control.specs.Readers.{Arrivals, HasReaders}
use Rattle.tss_control.specs.Holders.{HasHolders}
use Rattle.tss_control.proofs.rounds.ReadersKept.{LooksAlike, alike_same}
use Rattle.tss_control.proofs.readers.Links.{links-finish, links-bye}
use Rattle.tss_control.proofs.readers.Stations.{IsEarly, station_before, holds_after}
use Rattle.tss_control.proofs.readers.Tasks.{alike_by, releasing_alike, parted_alike, readers_by}

-- a phase is another one than the two in which a link is held
abbrev IsLate : Phase → Type 0
IsLate p = IsEarly p → ⊥

-- every name
abbrev Any : OpName → Type 0
Any q = Unit {0}

late_ready : (p : Phase) → p ≡ Ready → IsLate p
late_ready p e (inl f) = cc
late_ready p e (inr f) = cc

late_leaving : (p : Phase) → p ≡ Leaving → IsLate p
late_leaving p e (inl f) = cc
late_leaving p e (inr f) = cc

module _ (m : Machine) (ts : List Task) (g : Arrivals) (S : State) (h : HasReaders ts g S) (orderly : AreOrderly S)
    (holders : HasHolders ts g S) where
  -- ---- finish

  module _ (w : ℕ) (b : Busy) (x : Flying) (busy : get S.workers w ≡ Some b)
      (flying : get S.flight b.task.number ≡ Some x)
      (ready : (q : OpName) (r : OperandState) → q.task ≡ b.task.number → operand_at S.flight q ≡ Some r
      → phase_of S q ≡ Ready) where
    abbrev Finished : State
    Finished = after_event m S (event.Finish w)

    in_task : (q : OpName) → q.task ≡ b.task.number → operand_at S.flight q ≡ slice_get x.operands q.place
    in_task q same = operand_in S.flight q x (ap (get S.flight) same ∙ flying)

    finish_own : (a : OpName) → a.task ≡ b.task.number → (r : Option OperandState) → slice_get x.operands a.place ≡ r
        → LooksAlike (phase_of S a) (phase_of Finished a)
    finish_own a same None e =
        alike_same (phase_of S a) (phase_of Finished a)
        (ap phase_at (look_ups-finish-beyond m S w b x busy flying a same e))
    finish_own a same (Some r) e =
        let was = ready a r same (in_task a same ∙ e) in
        alike_by (phase_of S a) (phase_of Finished a) Ready Releasing was
        (phase_of-finish m S w b x busy flying a same was) releasing_alike

    finish_alike : (a : OpName) → LooksAlike (phase_of S a) (phase_of Finished a)
    finish_alike a = elim (decide_key nat_order a.task b.task.number) [
      | inl same ↦ finish_own a same (slice_get x.operands a.place) refl
      | inr other ↦ alike_same (phase_of S a) (phase_of Finished a)
          (phase_of-finish-other m S w b x busy flying a other)
    ]

    finish_station : (q : OpName) (r : OperandState) → operand_at Finished.flight q ≡ Some r
        → (k : OperandState) × (operand_at S.flight q ≡ Some k) × (r.link ≡ k.link)
    finish_station q r e =
        station_before S Finished b.task.number (finished_task m S w b x busy flying)
        (flight-finish m S w b x busy flying) Any (λ q r fit same at. (r, in_task q same ∙ at, refl)) q r tt e

    readers_finished : HasReaders ts g Finished
    readers_finished =
        readers_by ts g S Finished h (λ i. (Leaves-after_event m S (event.Finish w) i).versions) (links-finish m S w)
        (λ a p at arrived. record {
          phase = finish_alike a;
          links = ap (λ ls. get ls a) (links-finish m S w);
          holds = λ c k. holds_after S Finished b.task.number (finished_task m S w b x busy flying)
              (flight-finish m S w b x busy flying) Any ts g orderly holders
              (λ q r fit same there early.
              absurd (late_ready (phase_of S q) (ready q r same there) early)) a c p tt at k;
          station = finish_station a;
        })
        (λ a c k. let s = finish_station a k.0 k.1 in (s.0, s.1, sym s.2 ∙ k.2))

  -- finish
  pub HasReaders-finish : (w : ℕ) → IsEnabled m S (event.Finish w) → FinishesReady S w
      → HasReaders ts g (after_event m S (event.Finish w))
  unfolding is_enabled
  HasReaders-finish w enabled needs =
      let b = something can_finish (get S.workers w) refl enabled in
      let f = needs b.0 b.1 in
      readers_finished w b.0 f.0.0 b.1 f.0.1 f.1

  -- ---- bye

  module _ (o : OpName) (promised : Bool) (r : OperandState) (there : get S.mail.byes o ≡ Some promised)
      (kept : operand_at S.flight o ≡ Some r) where
    abbrev Parted : State
    Parted = after_event m S (event.Bye o)

    leaving : phase_of S o ≡ Leaving
    leaving = leaving_before m S o promised r there kept (orderly o).alone

    taken : is_ahead S o.task ≡ false
    taken = taken_by_record (look_ups S o) r (orderly o) kept

    bye_alike : (a : OpName) → LooksAlike (phase_of S a) (phase_of Parted a)
    bye_alike a = elim (decide_key name_order a o) [
      | inl same ↦ alike_by (phase_of S a) (phase_of Parted a) Leaving
          (phase_parted (promised && not (has_passed r.link)))
          (ap (phase_of S) same ∙ leaving)
          (ap (phase_of Parted) same ∙ phase_of-bye m S o promised r there kept (orderly o).alone taken)
          (parted_alike (promised && not (has_passed r.link)))
      | inr apart ↦ alike_same (phase_of S a) (phase_of Parted a)
          (phase_of-bye-other m S o promised r there kept taken a apart)
    ]

    abbrev task : Flying
    task = parted_task m S o promised r there kept

    bye_mine : (q : OpName) (k : OperandState) → Any q → q.task ≡ o.task → slice_get task.operands q.place ≡ Some k
        → (l : OperandState) × (operand_at S.flight q ≡ Some l) × (k.link ≡ l.link)
    bye_mine q k fit same at = elim (decide_key name_order q o) [
      | inl is ↦ (
        r,
        ap (operand_at S.flight) is ∙ kept,
        sym (ap (λ (k : OperandState). k.link) (same_Some (operand_after_bye r promised) k
            (sym (parted_record m S o promised r there kept)
            ∙ ap (λ (q : OpName). slice_get task.operands q.place) (sym is)
            ∙ at))),
      )
      | inr apart ↦ (k, sym (parted_record_other m S o promised r there kept q apart same) ∙ at, refl)
    ]

    bye_early : (q : OpName) (k : OperandState) → Any q → q.task ≡ o.task → operand_at S.flight q ≡ Some k
        → IsEarly (phase_of S q) → slice_get task.operands q.place ≡ Some k
    bye_early q k fit same at early = elim (decide_key name_order q o) [
      | inl is ↦ absurd (late_leaving (phase_of S q) (ap (phase_of S) is ∙ leaving) early)
      | inr apart ↦ parted_record_other m S o promised r there kept q apart same ∙ at
    ]

    bye_station : (q : OpName) (k : OperandState) → operand_at Parted.flight q ≡ Some k
        → (l : OperandState) × (operand_at S.flight q ≡ Some l) × (k.link ≡ l.link)
    bye_station q k e =
        station_before S Parted o.task task (flight-bye m S o promised r there kept) Any bye_mine q k tt e

    readers_parted : HasReaders ts g Parted
    readers_parted =
        readers_by ts g S Parted h (λ i. (Leaves-after_event m S (event.Bye o) i).versions) (links-bye m S o)
        (λ a p at arrived. record {
          phase = bye_alike a;
          links = ap (λ ls. get ls a) (links-bye m S o);
          holds = λ c k. holds_after S Parted o.task task (flight-bye m S o promised r there kept) Any ts g orderly
              holders bye_early a c p tt at k;
          station = bye_station a;
        })
        (λ a c k. let s = bye_station a k.0 k.1 in (s.0, s.1, sym s.2 ∙ k.2))

  -- bye
  pub HasReaders-bye : (o : OpName) → IsEnabled m S (event.Bye o) → HasReaders ts g (after_event m S (event.Bye o))
  unfolding is_enabled
  HasReaders-bye o enabled =
      let p = something is_some (get S.mail.byes o) refl enabled in
      let s = (leaving_stands (look_ups S o) p.0 (orderly o) p.1).1.0 in
      readers_parted o p.0 s.1.kept p.1 s.1.there
