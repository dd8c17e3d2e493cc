-- Where main has spawned and named the same, a state after the other has the same round.
use Rattle.std.proofs.Common.{◌≡◌, ℕ, ◌<◌, ◌≤◌, List, Option, Some, sym, ◌∙◌, subst}
use Rattle.std.proofs.lemmas.Option.{same_Some}
use Rattle.std.specs.FinMap.{get}
use Rattle.tss_base.specs.declared.operand.Task.{Task}
use Rattle.tss_base.specs.declared.machine.Machine.{Machine}
use Rattle.tss_base.specs.declared.event.Event.{Event}
use Rattle.tss_base.specs.declared.event.Event.TheVariants as event
use Rattle.tss_model.specs.Memory.{Memory}
use Rattle.tss_model.specs.MainStep.{MainState}
use Rattle.tss_protocol.specs.State.{Flying, State}
use Rattle.tss_locality.specs.Objects.{Objects, HasObjects, IsWithinObjects}
use Rattle.tss_locality.specs.Rounds.{object_in, AreSeparate, IsTaskOf, IsNumberOf, AreInUse, IsRounded}
use Rattle.tss_locality.proofs.MainCalls.{SameCalls}
use Rattle.tss_locality.proofs.TasksInFlight.{AllTasks}
use Rattle.tss_locality.proofs.TasksAtWork.{AllBusy}

-- main with another state, home or inbox
pub within_main : (f : Objects) (S : State) (x : MainState) (home : Memory) (inbox : Option Task) → HasObjects f inbox →
    IsWithinObjects f S → IsWithinObjects f (record S { main = x; home = home; inbox = inbox })
within_main f S x home inbox has within = record {
  named = record {
    arrivals = has;
    records = within.named.records;
    workers = within.named.workers;
    entries = within.named.entries;
    places = within.named.places;
    buffers = within.named.buffers;
    versions = within.named.versions;
    mail = within.named.mail;
    copies = within.named.copies;
  };
  links = λ o y fo.
      let c = within.links o y fo in
      record {
        arrivals = λ q p in_c e. same_Some p.object y (sym (has q p e) ∙ in_c);
        flight = c.flight;
        workers = c.workers;
        entries = c.entries;
        versions = c.versions;
        mail = c.mail;
        copies = c.copies;
      };
}

module _ (m : Machine) (S : State) (ts : List Task) (r : IsRounded S ts) where
  -- a state in which main has spawned and named the same
  pub same_round : (T : State) → SameCalls S.main T.main → AreInUse S.main.epoch T →
      ((t : Task) → T.inbox ≡ Some t → S.inbox ≡ Some t) → AllTasks (IsNumberOf ts) T.flight →
      ((t : Task) → T.inbox ≡ Some t → (n : ℕ) (x : Flying) → get T.flight n ≡ Some x → n < t.number) →
      AllBusy (IsTaskOf ts) T.workers → IsWithinObjects (object_in ts) T → IsRounded T ts
  same_round T k named inbox flying below busy within = record {
    numbers = λ i t there. subst (λ n. t.number ≤ n) (sym k.spawned) (r.numbers i t there);
    one = r.one;
    named = subst (λ epoch. AreInUse epoch T) (sym k.epoch) named;
    separate = subst AreSeparate (sym k.epoch) r.separate;
    arrived = λ t there. subst (λ n. IsNumberOf ts n t) (sym k.spawned) (r.arrived t (inbox t there));
    flying = flying;
    below = below;
    busy = busy;
    within = within;
  }

  still_in_use : (x : MainState) (home : Memory) → AreInUse S.main.epoch (record S { main = x; home = home })
  still_in_use x home =
      record { arriving = r.named.arriving; decoding = r.named.decoding; entered = r.named.entered }

  -- main with another state and home
  pub main_round : (x : MainState) (home : Memory) → SameCalls S.main x →
      IsRounded (record S { main = x; home = home }) ts
  main_round x home k =
      same_round (record S { main = x; home = home }) k (still_in_use x home) (λ t there. there) r.flying r.below
      r.busy
      (within_main (object_in ts) S x home S.inbox r.within.named.arrivals r.within)
