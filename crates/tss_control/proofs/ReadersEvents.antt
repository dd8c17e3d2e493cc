-- Every event keeps readers in order.
use Rattle.tss_base.specs.declared.machine.Machine.{Machine}
use Rattle.tss_base.specs.declared.event.Event.{Event}
use Rattle.tss_base.specs.declared.event.Event.TheVariants as event
use Rattle.tss_protocol.specs.State.{State}
use Rattle.tss_control.specs.Readers.{HasReaders}
use Rattle.tss_control.proofs.GroundworkJoin.{IsKept}
use Rattle.tss_control.proofs.GroundworkMain.{HasReaders-main}
use Rattle.tss_control.proofs.readers.Quiet.{HasReaders-ack, HasReaders-start, HasReaders-exec, HasReaders-idle}
use Rattle.tss_control.proofs.readers.Quiet.{HasReaders-copy, HasReaders-gone}
use Rattle.tss_control.proofs.readers.Tasks.{HasReaders-decode, HasReaders-take}
use Rattle.tss_control.proofs.readers.Leaving.{HasReaders-finish, HasReaders-bye}
use Rattle.tss_control.proofs.readers.Settled.{HasReaders-nack}
use Rattle.tss_control.proofs.readers.Retire.{HasReaders-retire}
use Rattle.tss_control.proofs.readers.Ready.{HasReaders-ready}
use Rattle.tss_control.proofs.readers.Link.{HasReaders-link}
use Rattle.tss_control.proofs.readers.Use.{HasReaders-use}
use Rattle.tss_control.proofs.readers.Release.{HasReaders-release}
use Rattle.tss_control.proofs.readers.Open.{HasReaders-open}
use Rattle.tss_control.proofs.rounds.Facts.{Facts}

module _ (m : Machine) (S : State) (facts : Facts m S) where
  open facts use {all, ts, g, ground, control as h}

  -- by the event
  pub keeps_readers : (e : Event) → IsKept m S facts e HasReaders
  keeps_readers event.Main on order = HasReaders-main m ts g S ground.round h on
  keeps_readers event.Take on order = HasReaders-take m ts g S h.readers h.orderly order
  keeps_readers (event.Decode o) on order = HasReaders-decode m ts g S h.readers o on
  keeps_readers (event.Ack o) on order = HasReaders-ack m ts g S h.readers o
  keeps_readers (event.Open o) on order =
      HasReaders-open m all ts g S h.readers h.orderly h.chains h.holders ground.openings o on order
  keeps_readers (event.Use o) on order =
      HasReaders-use m all ts g S h.readers h.orderly h.chains h.holders ground.openings o on
  keeps_readers (event.Ready o) on order =
      HasReaders-ready m ts g S h.readers h.orderly o on order
  keeps_readers (event.Link o) on order =
      HasReaders-link m ts g S h.readers h.orderly h.holders o on order
  keeps_readers (event.Start w) on order = HasReaders-start m ts g S h.readers w
  keeps_readers (event.Exec w) on order = HasReaders-exec m ts g S h.readers w
  keeps_readers (event.Finish w) on order =
      HasReaders-finish m ts g S h.readers h.orderly h.holders w on order
  keeps_readers (event.Release o) on order =
      HasReaders-release m ts g S h.readers h.orderly h.chains h.holders ground.round o on order
  keeps_readers (event.Bye o) on order =
      HasReaders-bye m ts g S h.readers h.orderly h.holders o on
  keeps_readers (event.Idle v) on order = HasReaders-idle m ts g S h.readers v
  keeps_readers (event.Nack v) on order =
      HasReaders-nack m all ts g S h.readers h.chains h.retirement ground.asking v on order
  keeps_readers (event.Retire v) on order =
      HasReaders-retire m S facts v on
  keeps_readers (event.Copy b) on order = HasReaders-copy m ts g S h.readers b
  keeps_readers (event.Gone v) on order = HasReaders-gone m ts g S h.readers v
