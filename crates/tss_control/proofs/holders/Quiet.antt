-- Events that change nothing of which holders speak: ack, start, exec, idle, copy and gone.
use Rattle.std.proofs.Common.{◌≡◌, ℕ}
use Rattle.tss_base.specs.declared.operand.OpName.{OpName}
use Rattle.tss_base.specs.declared.machine.Machine.{Machine}
use Rattle.tss_base.specs.declared.event.Event.{Event}
use Rattle.tss_base.specs.declared.event.Event.TheVariants as event
use Rattle.tss_protocol.specs.State.{State}
use Rattle.tss_protocol.specs.UnitMachine.{IsEnabled, after_event}
use Rattle.tss_phases.specs.Phase.{look_ups}
use Rattle.tss_phases.specs.Orderly.{KeepsOrder}
use Rattle.tss_phases.proofs.QuietEvents.{look_ups-ack, look_ups-exec, look_ups-idle, look_ups-copy, look_ups-gone}
use Rattle.tss_phases.proofs.StartEvent.{look_ups-start}
use Rattle.tss_locality.proofs.LeftFields.{Leaves-after_event}
use Rattle.tss_control.specs.Holders.{HasHolders}
use Rattle.tss_control.proofs.holders.Fits.{HasHolders-same}
use Rattle.tss_control.proofs.holders.RunnerEvents.{HasRunners-after_event}
use Rattle.tss_control.proofs.readers.Links.{links-ack, links-start, links-exec, links-idle, links-copy, links-gone}
use Rattle.tss_control.proofs.rounds.Facts.{Facts}

module _ (m : Machine) (S : State) (facts : Facts m S) where
  open facts use {all, ts, g, ground, control as h}

  -- the same look-ups, links and versions
  same_holders : (e : Event) → IsEnabled m S e → KeepsOrder S e
      → ((q : OpName) → look_ups (after_event m S e) q ≡ look_ups S q)
      → (after_event m S e).mail.links ≡ S.mail.links → (after_event m S e).versions ≡ S.versions
      → HasHolders ts g (after_event m S e)
  same_holders e on order looked links versions =
      HasHolders-same ts g S (after_event m S e) looked links versions h.orderly
      (HasRunners-after_event m all S ground.numbers ground.stages h.orderly h.holders.runners e on order) h.holders

  -- ack
  pub HasHolders-ack : (o : OpName) → IsEnabled m S (event.Ack o) → HasHolders ts g (after_event m S (event.Ack o))
  HasHolders-ack o on =
      same_holders (event.Ack o) on tt (look_ups-ack m S o) (links-ack m S o)
      (λ i. (Leaves-after_event m S (event.Ack o) i).versions)

  -- start
  pub HasHolders-start : (w : ℕ) → IsEnabled m S (event.Start w) → HasHolders ts g (after_event m S (event.Start w))
  HasHolders-start w on =
      same_holders (event.Start w) on tt (look_ups-start m S w) (links-start m S w)
      (λ i. (Leaves-after_event m S (event.Start w) i).versions)

  -- exec
  pub HasHolders-exec : (w : ℕ) → IsEnabled m S (event.Exec w) → HasHolders ts g (after_event m S (event.Exec w))
  HasHolders-exec w on =
      same_holders (event.Exec w) on tt (look_ups-exec m S w) (links-exec m S w)
      (λ i. (Leaves-after_event m S (event.Exec w) i).versions)

  -- idle
  pub HasHolders-idle : (v : OpName) → IsEnabled m S (event.Idle v) → HasHolders ts g (after_event m S (event.Idle v))
  HasHolders-idle v on =
      same_holders (event.Idle v) on tt (look_ups-idle m S v) (links-idle m S v)
      (λ i. (Leaves-after_event m S (event.Idle v) i).versions)

  -- copy
  pub HasHolders-copy : (b : ℕ) → IsEnabled m S (event.Copy b) → HasHolders ts g (after_event m S (event.Copy b))
  HasHolders-copy b on =
      same_holders (event.Copy b) on tt (look_ups-copy m S b) (links-copy m S b)
      (λ i. (Leaves-after_event m S (event.Copy b) i).versions)

  -- gone
  pub HasHolders-gone : (v : OpName) → IsEnabled m S (event.Gone v) → HasHolders ts g (after_event m S (event.Gone v))
  HasHolders-gone v on =
      same_holders (event.Gone v) on tt (look_ups-gone m S v) (links-gone m S v)
      (λ i. (Leaves-after_event m S (event.Gone v) i).versions)
