-- In a controlled state each enabled event lowers the measure.
use Rattle.tss_base.specs.declared.machine.Machine.{Machine}
use Rattle.tss_base.specs.declared.event.Event.{Event}
use Rattle.tss_base.specs.declared.event.Event.TheVariants as event
use Rattle.tss_base.specs.Machine.{IsAdmissible}
use Rattle.tss_protocol.specs.State.{State}
use Rattle.tss_protocol.specs.UnitMachine.{IsEnabled, after_event}
use Rattle.tss_progress.proofs.bound.Measure.{IsLowered}
use Rattle.tss_progress.proofs.bound.Main.{lowered_main}
use Rattle.tss_progress.proofs.bound.Exec.{lowered_exec}
use Rattle.tss_progress.proofs.bound.Tables.{lowered_decode, lowered_ack, lowered_open, lowered_use, lowered_release}
use Rattle.tss_progress.proofs.bound.Tables.{lowered_idle, lowered_nack, lowered_gone}
use Rattle.tss_progress.proofs.bound.Stations.{lowered_take, lowered_ready, lowered_link, lowered_start, lowered_finish}
use Rattle.tss_progress.proofs.bound.Stations.{lowered_bye}
use Rattle.tss_control.proofs.rounds.FitObjects.{HaveFitObjects}
use Rattle.tss_progress.proofs.bound.Copies.{lowered_retire, lowered_copy}
use Rattle.tss_control.proofs.rounds.Facts.{Facts}

module _ (m : Machine) (admissible : IsAdmissible m) (S : State) (facts : Facts m S)
    (fit : HaveFitObjects m.limits facts.all) where
  open facts use {all, ts, g, ground, control as h}

  -- by the event
  pub lowered_event : (e : Event) → IsEnabled m S e → IsLowered m S (after_event m S e)
  lowered_event event.Main on = lowered_main m S admissible on
  lowered_event event.Take on = lowered_take m S all ground.numbers on
  lowered_event (event.Decode o) on = lowered_decode m S o on
  lowered_event (event.Ack o) on = lowered_ack m S o on
  lowered_event (event.Open o) on = lowered_open m S o on
  lowered_event (event.Use o) on = lowered_use m S o on
  lowered_event (event.Ready o) on = lowered_ready m S all ground.stages h.orderly o on
  lowered_event (event.Link o) on = lowered_link m S ts g h o on
  lowered_event (event.Start w) on = lowered_start m S h.holders.runners w on
  lowered_event (event.Exec w) on = lowered_exec m S admissible w on
  lowered_event (event.Finish w) on = lowered_finish m S h.holders.runners w on
  lowered_event (event.Release o) on = lowered_release m S o on
  lowered_event (event.Bye o) on = lowered_bye m S o on
  lowered_event (event.Idle v) on = lowered_idle m S v on
  lowered_event (event.Nack v) on = lowered_nack m S all ground.asking v on
  lowered_event (event.Retire v) on = lowered_retire m S all ts ground.known h.chains fit v on
  lowered_event (event.Copy b) on = lowered_copy m S b on
  lowered_event (event.Gone v) on = lowered_gone m S v on
