-- Every event keeps what operands hold.
use Rattle.tss_base.specs.declared.machine.Machine.{Machine}
use Rattle.tss_base.specs.declared.event.Event.{Event}
use Rattle.tss_base.specs.declared.event.Event.TheVariants as event
use Rattle.tss_protocol.specs.State.{State}
use Rattle.tss_control.specs.Holders.{HasHolders}
use Rattle.tss_control.proofs.holders.Quiet.{HasHolders-ack, HasHolders-start, HasHolders-exec, HasHolders-idle}
use Rattle.tss_control.proofs.holders.Quiet.{HasHolders-copy, HasHolders-gone}
use Rattle.tss_control.proofs.holders.Taken.{HasHolders-take, HasHolders-decode}
use Rattle.tss_control.proofs.holders.Parted.{HasHolders-bye}
use Rattle.tss_control.proofs.holders.Finished.{HasHolders-finish}
use Rattle.tss_control.proofs.holders.Retired.{HasHolders-retire}
use Rattle.tss_control.proofs.holders.Nacked.{HasHolders-nack}
use Rattle.tss_control.proofs.holders.Open.{HasHolders-open}
use Rattle.tss_control.proofs.holders.Released.{HasHolders-release}
use Rattle.tss_control.proofs.holders.Used.{HasHolders-use}
use Rattle.tss_control.proofs.holders.Ready.{HasHolders-ready}
use Rattle.tss_control.proofs.holders.Link.{HasHolders-link}
use Rattle.tss_control.proofs.GroundworkJoin.{IsKept}
use Rattle.tss_control.proofs.GroundworkMain.{keeps_main}
use Rattle.tss_control.proofs.rounds.Facts.{Facts}

module _ (m : Machine) (S : State) (facts : Facts m S) where
  -- each event does
  pub keeps_holders : (e : Event) → IsKept m S facts e HasHolders
  keeps_holders event.Main on order = keeps_main.holders m S facts on order
  keeps_holders event.Take on order = HasHolders-take m S facts on
  keeps_holders (event.Decode o) on order = HasHolders-decode m S facts o on
  keeps_holders (event.Ack o) on order = HasHolders-ack m S facts o on
  keeps_holders (event.Open o) on order = HasHolders-open m S facts o on
  keeps_holders (event.Use o) on order = HasHolders-use m S facts o on
  keeps_holders (event.Ready o) on order =
      HasHolders-ready m S facts o on order
  keeps_holders (event.Link o) on order = HasHolders-link m S facts o on order
  keeps_holders (event.Start w) on order = HasHolders-start m S facts w on
  keeps_holders (event.Exec w) on order = HasHolders-exec m S facts w on
  keeps_holders (event.Finish w) on order = HasHolders-finish m S facts w on
  keeps_holders (event.Release o) on order = HasHolders-release m S facts o on
  keeps_holders (event.Bye o) on order = HasHolders-bye m S facts o on
  keeps_holders (event.Idle v) on order = HasHolders-idle m S facts v on
  keeps_holders (event.Nack v) on order = HasHolders-nack m S facts v on
  keeps_holders (event.Retire v) on order = HasHolders-retire m S facts v on
  keeps_holders (event.Copy b) on order = HasHolders-copy m S facts b on
  keeps_holders (event.Gone v) on order = HasHolders-gone m S facts v on
