-- Every event changes only what it concerns.
use Rattle.tss_base.specs.declared.machine.Machine.{Machine}
use Rattle.tss_base.specs.declared.event.Event.{Event}
use Rattle.tss_base.specs.declared.event.Event.TheVariants as event
use Rattle.tss_protocol.specs.State.{State}
use Rattle.tss_protocol.specs.UnitMachine.{IsEnabled, after_event}
use Rattle.tss_locality.specs.Scopes.{Scope, ChangesOnly, Closed}
use Rattle.tss_locality.specs.Concerns.{Concerns}
use Rattle.tss_locality.proofs.ObjectEvents.{ChangesOnly-decode, ChangesOnly-ack, ChangesOnly-open, ChangesOnly-use}
use Rattle.tss_locality.proofs.ObjectEvents.{ChangesOnly-release, ChangesOnly-idle, ChangesOnly-nack, ChangesOnly-gone}
use Rattle.tss_locality.proofs.TaskEvents.{ChangesOnly-ready, ChangesOnly-link, ChangesOnly-bye}
use Rattle.tss_locality.proofs.TakeEvent.{ChangesOnly-take}
use Rattle.tss_locality.proofs.WorkerEvents.{ChangesOnly-start, ChangesOnly-exec, ChangesOnly-finish}
use Rattle.tss_locality.proofs.CopyEvents.{ChangesOnly-retire, ChangesOnly-copy}
use Rattle.tss_locality.proofs.MainEventLemmas.{ChangesOnly-main}

module _ (c : Scope) (m : Machine) (S : State) (closed : Closed c S) where
  -- an enabled event changes nothing beyond a closed scope in which lies what it concerns
  pub ChangesOnly-after_event : (e : Event) → IsEnabled m S e → Concerns c m S e → ChangesOnly c S (after_event m S e)
  ChangesOnly-after_event event.Main on p = ChangesOnly-main c m S p on
  ChangesOnly-after_event event.Take on p = ChangesOnly-take c m S p
  ChangesOnly-after_event (event.Decode o) on p = ChangesOnly-decode c m S closed o p.0 p.1
  ChangesOnly-after_event (event.Ack o) on p = ChangesOnly-ack c m S closed o p
  ChangesOnly-after_event (event.Open o) on p = ChangesOnly-open c m S closed o p
  ChangesOnly-after_event (event.Use o) on p = ChangesOnly-use c m S closed o p
  ChangesOnly-after_event (event.Ready o) on p = ChangesOnly-ready c m S closed o p
  ChangesOnly-after_event (event.Link o) on p = ChangesOnly-link c m S closed o p
  ChangesOnly-after_event (event.Start w) on p = ChangesOnly-start c m S closed w on p
  ChangesOnly-after_event (event.Exec w) on p = ChangesOnly-exec c m S closed w p
  ChangesOnly-after_event (event.Finish w) on p = ChangesOnly-finish c m S w p
  ChangesOnly-after_event (event.Release o) on p = ChangesOnly-release c m S closed o p
  ChangesOnly-after_event (event.Bye o) on p = ChangesOnly-bye c m S closed o p
  ChangesOnly-after_event (event.Idle v) on p = ChangesOnly-idle c m S closed v p
  ChangesOnly-after_event (event.Nack v) on p = ChangesOnly-nack c m S closed v p
  ChangesOnly-after_event (event.Retire v) on p = ChangesOnly-retire c m S closed v on p
  ChangesOnly-after_event (event.Copy b) on p = ChangesOnly-copy c m S closed b p
  ChangesOnly-after_event (event.Gone v) on p = ChangesOnly-gone c m S closed v p
