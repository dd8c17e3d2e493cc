-- In a controlled state every event finds what it needs, so that operands stay in order.
use Rattle.std.proofs.Common.{◌≡◌, Bool, true, false, List, Some, refl, sym, ap, ◌∙◌, inl, inr}
use Rattle.std.specs.FinMap.{get}
use Rattle.std.proofs.lemmas.Option.{none-some}
use Rattle.tss_base.specs.declared.operand.OpName.{OpName}
use Rattle.tss_base.specs.declared.operand.Task.{Task}
use Rattle.tss_base.specs.declared.machine.Machine.{Machine}
use Rattle.tss_base.specs.declared.event.Event.{Event}
use Rattle.tss_base.specs.declared.event.Event.TheVariants as event
use Rattle.tss_protocol.specs.State.{State, Version}
use Rattle.tss_protocol.specs.UnitMachine.{IsEnabled, after_event}
use Rattle.tss_phases.specs.Phase.{Waiting, phase_of}
use Rattle.tss_phases.specs.Told.{tells}
use Rattle.tss_phases.specs.Orderly.{AreOrderly, ReleasesRegistered, KeepsOrder}
use Rattle.tss_phases.proofs.ReleaseEvent.{version_released, release_tells, release_sends_here}
use Rattle.tss_phases.proofs.OrderlyEvents.{orderly-after_event}
use Rattle.tss_locality.specs.Rounds.{IsRounded}
use Rattle.tss_control.specs.Chains.{HasChains}
use Rattle.tss_control.specs.Entries.{HasRetirement}
use Rattle.tss_control.specs.Readers.{Arrivals, head_of, HasReaders}
use Rattle.tss_control.specs.Holders.{HasHolders}
use Rattle.tss_control.proofs.rounds.ReleaseFacts.{releases_facts}
use Rattle.tss_control.proofs.holders.Order.{takes_spawned, readies_waiting, links_waiting, finishes_ready}
use Rattle.tss_control.proofs.holders.Told.{settle_tells_waiting, nacks_waiting, opens_waiting}
use Rattle.tss_control.proofs.rounds.Facts.{Facts}

module _ (ts : List Task) (g : Arrivals) (S : State) (readers : HasReaders ts g S) (v : OpName) (x : Version)
    (there : get S.versions v ≡ Some x) where
  -- the head of a version waits
  pub head_waits : (q : OpName) → x.head ≡ Some q → phase_of S q ≡ Waiting
  head_waits q head = by x.produced refl
    where
      by : (b : Bool) → x.produced ≡ b → phase_of S q ≡ Waiting
      by true e =
          let h = readers.versions v x there in
          absurd (none-some q (sym (ap (λ b. head_of b (g v)) e) ∙ sym h.head ∙ head))
      by false e =
          let h = readers.versions v x there in
          (h.first q (sym (ap (λ b. head_of b (g v)) e) ∙ sym h.head ∙ head)).1 e

-- release
releases_registered : (m : Machine) (ts : List Task) (g : Arrivals) (S : State) → IsRounded S ts → AreOrderly S
    → HasChains ts S
    → HasRetirement S → HasReaders ts g S → HasHolders ts g S → (o : OpName) → ReleasesRegistered S o
releases_registered m ts g S round orderly chains retirement readers holders o r e =
    let k = releases_facts ts g S round orderly holders o r e in
    let x = k.version in (
      (x, k.there),
      λ q t. elim (release_tells S.versions o r.version x r.producer q
          (sym (ap (λ ms. tells ms q) (release_sends_here m S o r x e k.there)) ∙ t)) [
            | inl h ↦ head_waits ts g S readers r.version x k.there q h.1
            | inr h ↦
                settle_tells_waiting ts g S chains holders retirement r.version x
                (version_released o x r.producer) k.there
                (same_successor r.producer x) (same_predecessor r.producer x) q h
          ],
    )
  where
    same_successor : (b : Bool) (x : Version) → (version_released o x b).successor ≡ x.successor
    same_successor true x = refl
    same_successor false x = refl

    same_predecessor : (b : Bool) (x : Version) → (version_released o x b).predecessor ≡ x.predecessor
    same_predecessor true x = refl
    same_predecessor false x = refl

module _ (m : Machine) (S : State) (facts : Facts m S) where
  open facts use {all, ts, g, ground, control as h}

  -- every event
  pub keeps_order : (e : Event) → KeepsOrder S e
  keeps_order event.Take = takes_spawned m all S ground.numbers
  keeps_order (event.Open o) = opens_waiting ts S h.chains o
  keeps_order (event.Ready o) = readies_waiting ts g S h.readers o
  keeps_order (event.Link o) = links_waiting ts g S h.readers h.holders o
  keeps_order (event.Finish w) =
      finishes_ready m all S ground.stages h.orderly h.holders.runners w
  keeps_order (event.Release o) =
      releases_registered m ts g S ground.round h.orderly h.chains h.retirement h.readers h.holders o
  keeps_order (event.Nack v) = nacks_waiting ts g S h.chains h.holders h.retirement v
  keeps_order e = tt

-- so operands stay in order
pub AreOrderly-controlled : (m : Machine) (S : State) → Facts m S → (e : Event) → IsEnabled m S e
    → AreOrderly (after_event m S e)
AreOrderly-controlled m S facts e on =
    orderly-after_event m S facts.control.orderly e on (keeps_order m S facts e)
