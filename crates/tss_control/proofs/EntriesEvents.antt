-- Every event leaves the entries of a controlled state, and asks and refuses rightly.
use Rattle.tss_base.specs.declared.machine.Machine.{Machine}
use Rattle.tss_base.specs.declared.event.Event.{Event}
use Rattle.tss_base.specs.declared.event.Event.TheVariants as event
use Rattle.tss_protocol.specs.State.{State}
use Rattle.tss_protocol.specs.UnitMachine.{IsEnabled, after_event}
use Rattle.tss_phases.specs.Orderly.{AreOrderly, KeepsOrder}
use Rattle.tss_phases.proofs.OrderlyEvents.{orderly-after_event}
use Rattle.tss_control.specs.Entries.{HasEntries, HasRetirement}
use Rattle.tss_control.proofs.entries.QuietEvents.{HasEntries-quiet, HasRetirement-quiet}
use Rattle.tss_control.proofs.rounds.EntriesDecode.{HasEntries-decode}
use Rattle.tss_control.proofs.entries.RetirementDecode.{HasRetirement-decode}
use Rattle.tss_control.proofs.entries.Open.{HasEntries-open, HasRetirement-open}
use Rattle.tss_control.proofs.entries.Use.{HasEntries-use, HasRetirement-use}
use Rattle.tss_control.proofs.entries.Release.{HasEntries-release, HasRetirement-release}
use Rattle.tss_control.proofs.entries.Idle.{HasEntries-idle, HasRetirement-idle}
use Rattle.tss_control.proofs.entries.Nack.{HasEntries-nack, HasRetirement-nack}
use Rattle.tss_control.proofs.entries.RetireEvent.{HasEntries-retire, HasRetirement-retire}
use Rattle.tss_control.proofs.entries.Copy.{HasEntries-copy, HasRetirement-copy}
use Rattle.tss_control.proofs.entries.Gone.{HasEntries-gone, HasRetirement-gone}
use Rattle.tss_control.proofs.GroundworkJoin.{IsKept}
use Rattle.tss_control.proofs.GroundworkMain.{keeps_main}
use Rattle.tss_control.proofs.rounds.Facts.{Facts}

module _ (m : Machine) (S : State) (facts : Facts m S) (e : Event) (on : IsEnabled m S e)
    (order : KeepsOrder S e) where
  open facts use {control as k}

  -- operands are in order after it
  after : AreOrderly (after_event m S e)
  after = orderly-after_event m S k.orderly e on order

module _ (m : Machine) (S : State) (facts : Facts m S) where
  open facts use {basis, ts, control as h}

  -- every event leaves the entries
  pub keeps_entries : (e : Event) → IsKept m S facts e (λ ts g S. HasEntries ts S)
  keeps_entries event.Main on order = keeps_main.entries m S facts on order
  keeps_entries (event.Decode o) on order =
      HasEntries-decode m S basis h.orderly h.chains h.entries o on
  keeps_entries (event.Open o) on order =
      HasEntries-open m S facts o on (after m S facts (event.Open o) on order)
  keeps_entries (event.Use o) on order =
      HasEntries-use m S facts o on (after m S facts (event.Use o) on order)
  keeps_entries (event.Release o) on order =
      HasEntries-release m S facts o on (after m S facts (event.Release o) on order)
  keeps_entries (event.Idle v) on order =
      HasEntries-idle m S facts v on (after m S facts (event.Idle v) on order)
  keeps_entries (event.Nack v) on order =
      HasEntries-nack m S facts v on (after m S facts (event.Nack v) on order)
  keeps_entries (event.Retire v) on order =
      HasEntries-retire m S facts v on (after m S facts (event.Retire v) on order)
  keeps_entries (event.Copy b) on order =
      HasEntries-copy m S basis b on h.orderly (after m S facts (event.Copy b) on order) h.entries
  keeps_entries (event.Gone v) on order =
      HasEntries-gone m S basis h.orderly h.chains h.entries v on
      (after m S facts (event.Gone v) on order)
  keeps_entries e on order = HasEntries-quiet m S basis h.orderly e tt on (after m S facts e on order) h.entries

module _ (m : Machine) (S : State) (facts : Facts m S) where
  open facts use {basis, ts, control as h}

  -- and asks and refuses rightly
  pub keeps_retirement : (e : Event) → IsKept m S facts e (λ ts g S. HasRetirement S)
  keeps_retirement event.Main on order = keeps_main.retirement m S facts on order
  keeps_retirement (event.Decode o) on order =
      HasRetirement-decode m S basis h.orderly h.entries o on h.retirement
  keeps_retirement (event.Open o) on order =
      HasRetirement-open m S facts o on (after m S facts (event.Open o) on order)
  keeps_retirement (event.Use o) on order = HasRetirement-use m S facts o on
  keeps_retirement (event.Release o) on order =
      HasRetirement-release m S facts o on (after m S facts (event.Release o) on order)
  keeps_retirement (event.Idle v) on order = HasRetirement-idle m S facts v on
  keeps_retirement (event.Nack v) on order =
      HasRetirement-nack m S facts v on (after m S facts (event.Nack v) on order)
  keeps_retirement (event.Retire v) on order =
      HasRetirement-retire m S facts v on (after m S facts (event.Retire v) on order)
  keeps_retirement (event.Copy b) on order =
      HasRetirement-copy m S basis b on h.retirement
  keeps_retirement (event.Gone v) on order =
      HasRetirement-gone m S basis h.orderly h.chains h.entries v on h.retirement
  keeps_retirement e on order = HasRetirement-quiet m S e tt h.retirement
