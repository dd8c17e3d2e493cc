-- Each event of the stations and of the workers concerns its task alone, and with it the operand, or the operands'
-- storages.
use Rattle.std.proofs.Common.{◌≡◌, Bool, Option, Some, None, refl}
use Rattle.std.specs.FinMap.{get}
use Rattle.tss_base.specs.declared.operand.OpName.{OpName}
use Rattle.tss_base.specs.declared.machine.Machine.{Machine}
use Rattle.tss_base.specs.declared.event.Event.TheVariants as event
use Rattle.tss_protocol.specs.Mail.{Source}
use Rattle.tss_protocol.specs.State.{State}
use Rattle.tss_protocol.specs.Stations.{after_ready, after_link, after_bye}
use Rattle.tss_protocol.specs.Workers.{Stores}
use Rattle.tss_protocol.specs.UnitMachine.{stores_of, with_stores, without, queue_with, ready_message_taken}
use Rattle.tss_protocol.specs.UnitMachine.{link_message_taken, bye_message_taken, after_event}
use Rattle.tss_locality.specs.Scopes.{Scope, IsOwn, beyond, ChangesOnly, Closed}
use Rattle.tss_locality.proofs.Messages.{named_from_all_in}
use Rattle.tss_locality.proofs.States.{state_home, state_flight, state_queue, state_contents}
use Rattle.tss_locality.proofs.Sending.{changes_taken, changes_sent}
use Rattle.tss_locality.proofs.Tasks.{times_queued, ready_only, link_only, bye_only}
use Rattle.tss_locality.proofs.stores.Stores.{StoresOnly}

module _ (c : Scope) (S : State) where
  -- storages are written after other changes
  pub changes_stores : (T : State) → ChangesOnly c S T → (u : Stores) → StoresOnly c (stores_of S) u →
      ChangesOnly c S (with_stores T u)
  changes_stores T f u p =
      state_contents (beyond c) S (record T { home = u.home }) (state_home (beyond c) S T f u.home p.home) u.contents
      p.contents

module _ (c : Scope) (m : Machine) (S : State) (closed : Closed c S) where
  -- ---- ready, link, bye

  ready_taken : (o : OpName) → IsOwn c o → (s : Option Source) → get S.mail.readies o ≡ s →
      ChangesOnly c S (ready_message_taken (without S (event.Ready o)) o s)
  ready_taken o own None there = changes_taken c S (event.Ready o) own.0
  ready_taken o own (Some s) there =
      let w = after_ready S.flight o s in
      let only = ready_only c S.flight closed.flight o s own (closed.mail.readies o s own.0 there) in
      let T = without S (event.Ready o) in
      let A : State = record T { flight = w.flight } in
      let queue = queue_with S.queue o.task w.queued in
      changes_sent c S (record A { queue = queue })
      (state_queue (beyond c) S A
      (state_flight (beyond c) S T (changes_taken c S (event.Ready o) own.0) w.flight only.flight)
      queue (times_queued c.tasks S.queue o.task w.queued own.1))
      w.sent (named_from_all_in c w.sent only.sent)

  -- ready changes only what its operand's scope has
  pub ChangesOnly-ready : (o : OpName) → IsOwn c o → ChangesOnly c S (after_event m S (event.Ready o))
  unfolding after_event
  ChangesOnly-ready o own = ready_taken o own (get S.mail.readies o) refl

  link_taken : (o : OpName) → IsOwn c o → (next : Option OpName) → get S.mail.links o ≡ next →
      ChangesOnly c S (link_message_taken (without S (event.Link o)) o next)
  link_taken o own None there = changes_taken c S (event.Link o) own.0
  link_taken o own (Some next) there =
      let d = after_link S.flight o next in
      let only = link_only c S.flight closed.flight o next own (closed.mail.links o next own.0 there) in
      let T = without S (event.Link o) in
      changes_sent c S (record T { flight = d.part })
      (state_flight (beyond c) S T (changes_taken c S (event.Link o) own.0) d.part only.flight)
      d.sent (named_from_all_in c d.sent only.sent)

  -- link changes only what its operand's scope has
  pub ChangesOnly-link : (o : OpName) → IsOwn c o → ChangesOnly c S (after_event m S (event.Link o))
  unfolding after_event
  ChangesOnly-link o own = link_taken o own (get S.mail.links o) refl

  bye_taken : (o : OpName) → IsOwn c o → (promised : Option Bool) →
      ChangesOnly c S (bye_message_taken (without S (event.Bye o)) o promised)
  bye_taken o own None = changes_taken c S (event.Bye o) own
  bye_taken o own (Some promised) =
      state_flight (beyond c) S (without S (event.Bye o)) (changes_taken c S (event.Bye o) own)
      (after_bye S.flight o promised) (bye_only c S.flight o promised own)

  -- bye changes only what its operand's scope has
  pub ChangesOnly-bye : (o : OpName) → IsOwn c o → ChangesOnly c S (after_event m S (event.Bye o))
  unfolding after_event
  ChangesOnly-bye o own = bye_taken o own (get S.mail.byes o)
