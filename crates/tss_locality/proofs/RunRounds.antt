-- After every event links stay within the objects of the tasks since the last barrier, and the objects in use are
-- named.
use Rattle.std.proofs.Common.{◌≡◌, ℕ, ◌<◌, List, [], Option, Some, None, refl, sym, ap, ◌∙◌}
use Rattle.std.specs.Ordering.{nat_cmp}
use Rattle.std.proofs.lemmas.Option.{none-some}
use Rattle.std.specs.FinMap.{get, get-empty}
use Rattle.tss_base.specs.declared.operand.Task.{Task}
use Rattle.tss_base.specs.declared.machine.Machine.{Machine}
use Rattle.tss_base.specs.declared.event.Event.{Event}
use Rattle.tss_base.specs.declared.event.Event.TheVariants as event
use Rattle.tss_base.specs.Names.{name_cmp}
use Rattle.tss_base.specs.Image.{ImageState}
use Rattle.tss_model.specs.MainStep.{MainState}
use Rattle.tss_protocol.specs.State.{Flying, State, initial_state}
use Rattle.tss_protocol.specs.UnitMachine.{after_take, IsEnabled, after_event}
use Rattle.tss_protocol.specs.Needs.{round_after_event}
use Rattle.tss_locality.specs.Objects.{StandNumbered, IsFitting}
use Rattle.tss_locality.specs.Rounds.{object_in, IsTaskOf, IsNumberOf, AreInUse, IsRounded}
use Rattle.tss_locality.proofs.LeftFields.{Leaves-after_event}
use Rattle.tss_locality.proofs.named.NamedEvents.{IsWithinObjects-initial_state, IsWithinObjects-after_event}
use Rattle.tss_locality.proofs.TasksInFlight.{AllTasks, TakesWell, AllTasks-initial_state, AllTasks-after_event}
use Rattle.tss_locality.proofs.TasksAtWork.{AllBusy-initial_state, AllBusy-after_event}
use Rattle.tss_locality.proofs.RoundObjects.{finds_own}
use Rattle.tss_locality.proofs.RoundFrames.{same_round}
use Rattle.tss_locality.proofs.RoundCalls.{main_event_round}
use Rattle.tss_locality.proofs.RoundUse.{quiet_in_use, idle_in_use, gone_in_use, acked_in_use, decoded_in_use}
use Rattle.tss_locality.proofs.RoundUse.{taken_in_use}

module _ (m : Machine) (S : State) (ts : List Task) (r : IsRounded S ts) where
  numbered : StandNumbered S
  numbered n x there = (r.flying n x there).0

  -- an event that isn't main's
  other_event_round : (e : Event) → IsEnabled m S e → IsFitting (object_in ts) m S e →
      AreInUse S.main.epoch (after_event m S e) → TakesWell (IsNumberOf ts) m S r.flying e →
      (after_event m S e).main ≡ S.main →
      ((t : Task) → (after_event m S e).inbox ≡ Some t → S.inbox ≡ Some t) →
      ((t : Task) → (after_event m S e).inbox ≡ Some t → (n : ℕ) (x : Flying) →
      get (after_event m S e).flight n ≡ Some x → n < t.number) →
      IsRounded (after_event m S e) ts
  other_event_round e on fit named well main inbox below =
      same_round m S ts r (after_event m S e)
      (record { spawned = ap (λ (x : MainState). x.spawned) main; epoch = ap (λ (x : MainState). x.epoch) main })
      named inbox (AllTasks-after_event (IsNumberOf ts) m S r.flying e well) below
      (AllBusy-after_event (IsTaskOf ts) m S r.busy (λ n x there. (r.flying n x there).1) e)
      (IsWithinObjects-after_event (object_in ts) m S r.within e on fit)

  -- numbers below that of the inbox's task
  abbrev IsBelow : ℕ → Task → Type 0
  IsBelow n u = (t : Task) → S.inbox ≡ Some t → n < t.number

  below_inbox : AllTasks IsBelow S.flight
  below_inbox n x there t arrived = r.below t arrived n x there

  -- an event that leaves main and the inbox
  later_event_round : (e : Event) → IsEnabled m S e → IsFitting (object_in ts) m S e →
      AreInUse S.main.epoch (after_event m S e) → TakesWell (IsNumberOf ts) m S r.flying e →
      TakesWell IsBelow m S below_inbox e →
      (after_event m S e).main ≡ S.main → (after_event m S e).inbox ≡ S.inbox → IsRounded (after_event m S e) ts
  later_event_round e on fit named well lower main inbox =
      other_event_round e on fit named well main (λ t there. sym inbox ∙ there)
      (λ t there n x at. AllTasks-after_event IsBelow m S below_inbox e lower n x at t (sym inbox ∙ there))

  -- ---- each event

  emptied : (i : Option Task) → S.inbox ≡ i → (t : Task) → (after_take S i).inbox ≡ Some t → ⊥
  emptied None there t e = none-some t (sym there ∙ e)
  emptied (Some u) there t e = none-some t e

  inbox_emptied : (t : Task) → (after_event m S event.Take).inbox ≡ Some t → ⊥
  unfolding after_event
  inbox_emptied t e = emptied S.inbox refl t e

  -- after every enabled event, of the round after it
  pub IsRounded-after_event : (e : Event) → IsEnabled m S e → IsRounded (after_event m S e) (round_after_event m S ts e)
  IsRounded-after_event event.Main on = main_event_round m S ts r on
  IsRounded-after_event event.Take on =
      other_event_round event.Take on tt (taken_in_use m S ts r) (λ t there. (refl, (r.arrived t there).1))
      (λ i. (Leaves-after_event m S event.Take i).main) (λ t e. absurd (inbox_emptied t e))
      (λ t e. absurd (inbox_emptied t e))
  IsRounded-after_event (event.Decode o) on =
      later_event_round (event.Decode o) on (finds_own S ts r o) (decoded_in_use m S ts r o) tt tt
      (λ i. (Leaves-after_event m S (event.Decode o) i).main)
      (λ i. (Leaves-after_event m S (event.Decode o) i).inbox)
  IsRounded-after_event (event.Ack o) on =
      later_event_round (event.Ack o) on tt (acked_in_use m S ts r o) tt tt
      (λ i. (Leaves-after_event m S (event.Ack o) i).main)
      (λ i. (Leaves-after_event m S (event.Ack o) i).inbox)
  IsRounded-after_event (event.Start w) on =
      later_event_round (event.Start w) on numbered
      (quiet_in_use m S ts r (event.Start w) refl (λ i. (Leaves-after_event m S (event.Start w) i).entries)) tt tt
      (λ i. (Leaves-after_event m S (event.Start w) i).main)
      (λ i. (Leaves-after_event m S (event.Start w) i).inbox)
  IsRounded-after_event (event.Idle v) on =
      later_event_round (event.Idle v) on tt (idle_in_use m S ts r v) tt tt
      (λ i. (Leaves-after_event m S (event.Idle v) i).main)
      (λ i. (Leaves-after_event m S (event.Idle v) i).inbox)
  IsRounded-after_event (event.Gone v) on =
      later_event_round (event.Gone v) on tt (gone_in_use m S ts r v) tt tt
      (λ i. (Leaves-after_event m S (event.Gone v) i).main)
      (λ i. (Leaves-after_event m S (event.Gone v) i).inbox)
  IsRounded-after_event e on =
      later_event_round e on tt
      (quiet_in_use m S ts r e refl (λ i. (Leaves-after_event m S e i).entries)) tt tt
      (λ i. (Leaves-after_event m S e i).main)
      (λ i. (Leaves-after_event m S e i).inbox)

-- ---- runs

-- the first state has an empty round
pub IsRounded-initial_state : (i : ImageState) → IsRounded (initial_state i) []
IsRounded-initial_state i = record {
  numbers = λ k t there. absurd (none-some t there);
  named = record {
    arriving = λ t there. absurd (none-some t there);
    decoding = λ o p e. absurd (none-some p (sym (get-empty name_cmp o) ∙ e));
    entered = λ b e at. absurd (none-some e (sym (get-empty nat_cmp b) ∙ at));
  };
  one = λ j k t u there. absurd (none-some t there);
  separate = record { some = λ x h. absurd h; one = λ x y h. absurd h };
  arrived = λ t there. absurd (none-some t there);
  flying = AllTasks-initial_state (IsNumberOf []) i;
  below = λ t there. absurd (none-some t there);
  busy = AllBusy-initial_state (IsTaskOf []) i;
  within = IsWithinObjects-initial_state (object_in []) i;
}
