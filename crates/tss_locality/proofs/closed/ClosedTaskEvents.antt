-- Every closed scope stays closed after take, ack, start, exec, finish, bye, and an event of main whose new task's
-- operands agree with it.
use Rattle.std.proofs.Common.{◌≡◌, ℕ, suc, ◌+◌, add-zero, Bool, List, [], ◌∷◌, Option, Some, None, refl, sym, ap, ◌∙◌}
use Rattle.std.proofs.Common.{subst, inl, inr}
use Rattle.std.specs.Prelude.{slice_get}
use Rattle.std.specs.FinMap.{get, insert}
use Rattle.std.proofs.lemmas.Option.{none-some}
use Rattle.tss_base.specs.declared.operand.OpName.{OpName}
use Rattle.tss_base.specs.declared.operand.Operand.{Operand}
use Rattle.tss_base.specs.declared.operand.Task.{Task}
use Rattle.tss_base.specs.declared.machine.Machine.{Machine}
use Rattle.tss_base.specs.declared.event.Event.TheVariants as event
use Rattle.tss_base.specs.declared.marks.Stage.TheVariants as stage
use Rattle.tss_maps.proofs.Keys.{nat_order}
use Rattle.tss_maps.proofs.Changes.{from_inserted, from_removed}
use Rattle.tss_model.specs.Access.{operands_of}
use Rattle.tss_model.specs.MainStep.{MainState, Call, main_call}
use Rattle.tss_protocol.specs.Names.{operand_name}
use Rattle.tss_protocol.specs.Mail.{Source}
use Rattle.tss_protocol.specs.State.{Flying, Busy, State}
use Rattle.tss_protocol.specs.Gateway.{decodes_from, sent_by_take}
use Rattle.tss_protocol.specs.Stations.{flight_after_finish, storage_of}
use Rattle.tss_protocol.specs.Workers.{busy_at_start, exec_stretch, busy_after}
use Rattle.tss_protocol.specs.MainEvent.{call_next, after_call, main_by}
use Rattle.tss_protocol.specs.UnitMachine.{stores_of, without, take_task, after_take, bye_message_taken, start_task}
use Rattle.tss_protocol.specs.UnitMachine.{after_start, after_exec, finish_task, after_finish, after_event}
use Rattle.tss_locality.specs.Agreement.{operand_in}
use Rattle.tss_locality.specs.Scopes.{Scope, StorageIn, MaybeSourceIn, ClosedWorker, ClosedWorkers, Closed}
use Rattle.tss_locality.proofs.Flights.{from_mapped}
use Rattle.tss_locality.proofs.Tasks.{shifted, from_zero}
use Rattle.tss_locality.proofs.closed.ClosedMessages.{KeepAllIn}
use Rattle.tss_locality.proofs.closed.ClosedStates.{ClosedInbox, closed_by}
use Rattle.tss_locality.proofs.closed.ClosedFlights.{task_in, closed_flight_put, closed_bye, closed_finish}
use Rattle.tss_locality.proofs.closed.ClosedFlights.{finish_keeps, closed_entered}
use Rattle.tss_locality.proofs.TakeEvent.{own_arrival}
use Rattle.tss_locality.proofs.closed.ClosedObjectEvents.{closed_without, closed_sent}

module _ (c : Scope) (m : Machine) (S : State) (closed : Closed c S) where
  -- ---- ack, bye

  -- every closed scope stays closed after ack
  pub Closed-ack : (o : OpName) → Closed c (after_event m S (event.Ack o))
  unfolding after_event
  Closed-ack o =
      let f = closed_without c S closed (event.Ack o) in
      closed_by c _ f.arrivals f.flight f.workers f.entries f.versions f.mail f.copies

  bye_closed : (o : OpName) (promised : Option Bool) → Closed c (bye_message_taken (without S (event.Bye o)) o promised)
  bye_closed o None = closed_without c S closed (event.Bye o)
  bye_closed o (Some promised) =
      let f = closed_without c S closed (event.Bye o) in
      closed_by c (bye_message_taken (without S (event.Bye o)) o (Some promised)) f.arrivals
      (closed_bye c S.flight closed.flight o promised) f.workers f.entries f.versions f.mail f.copies

  -- every closed scope stays closed after bye
  pub Closed-bye : (o : OpName) → Closed c (after_event m S (event.Bye o))
  unfolding after_event
  Closed-bye o = bye_closed o (get S.mail.byes o)

  -- ---- take

  none_arrives : ClosedInbox c None
  none_arrives o p in_c e = absurd (none-some p e)

  decodes_keep : (n k : ℕ) (os : List Operand) →
      ((j : ℕ) (p : Operand) → c.names (operand_name n (k + j)) → slice_get os j ≡ Some p → c.objects p.object) →
      KeepAllIn c (decodes_from n k os)
  decodes_keep n k [] i = tt
  decodes_keep n k (o ∷ os) i = (
    λ p. i 0 o (subst (λ j. c.names (operand_name n j)) (sym (add-zero k)) p) refl,
    decodes_keep n (suc k) os (λ j q p e. i (suc j) q (subst (λ j. c.names (operand_name n j)) (shifted k j) p) e),
  )

  take_closed : (t : Option Task) → S.inbox ≡ t → Closed c (after_take S t)
  take_closed None there = closed
  take_closed (Some t) there =
      let n = t.number in
      let d = take_task S t in
      let A : State = record S { inbox = None; gateway = d.gateway; flight = d.flight; queue = d.queue } in
      closed_sent c A
      (closed_by c A none_arrives (closed_entered c S.flight closed.flight n t) closed.workers closed.entries
      closed.versions closed.mail closed.copies)
      (sent_by_take t)
      (decodes_keep n 0 (operands_of t) (λ j p in_c e. closed.arrivals (operand_name n j) p
      (subst (λ j. c.names (operand_name n j)) (from_zero j) in_c)
      (ap (λ i. operand_in i (operand_name n j)) there ∙ own_arrival t j ∙ e)))

  -- every closed scope stays closed after take
  pub Closed-take : Closed c (after_event m S event.Take)
  unfolding after_event
  Closed-take = take_closed S.inbox refl

  -- ---- start, exec, finish

  worker_put : (w : ℕ) (b : Busy) → ClosedWorker c b → ClosedWorkers c (insert S.workers w b)
  worker_put w b i q x there = elim (from_inserted nat_order S.workers w b q x there) [
    | inl new ↦ subst (ClosedWorker c) (sym new.1) i
    | inr old ↦ closed.workers q x old.1
  ]

  told_storage : (s : Option Source) → MaybeSourceIn c s → StorageIn c (storage_of s)
  told_storage None i = tt
  told_storage (Some s) i = i.1

  started_worker : (t : ℕ) (x : Flying) → get S.flight t ≡ Some x → x.task.number ≡ t → ClosedWorker c (busy_at_start x)
  started_worker t x there number k s p e =
      let told = from_mapped (λ r. storage_of r.source) x.operands k s e in
      subst (StorageIn c) told.2 (told_storage told.0.source
      (task_in c S.flight closed.flight t x there k told.0 (subst (λ n. c.names (operand_name n k)) number p)
      told.1).source)

  start_task_closed : (w t : ℕ) (ts : List ℕ) (x : Option Flying) → get S.flight t ≡ x →
      ((x : Flying) → get S.flight t ≡ Some x → x.task.number ≡ t) → Closed c (start_task m S w t ts x)
  start_task_closed w t ts None there number = closed
  start_task_closed w t ts (Some x) there number =
      closed_by c (start_task m S w t ts (Some x)) closed.arrivals
      (closed_flight_put c S.flight closed.flight t (record x { stage = stage.Running })
      (task_in c S.flight closed.flight t x there))
      (worker_put w (busy_at_start x) (started_worker t x there (number x there)))
      closed.entries closed.versions closed.mail closed.copies

  start_closed : (w : ℕ) (queue : List ℕ) → ((t : ℕ) (x : Flying) → get S.flight t ≡ Some x → x.task.number ≡ t) →
      Closed c (after_start m S w queue)
  start_closed w [] number = closed
  start_closed w (t ∷ ts) number = start_task_closed w t ts (get S.flight t) refl (number t)

  -- and after start, where tasks in flight stand under their numbers
  pub Closed-start : (w : ℕ) → ((t : ℕ) (x : Flying) → get S.flight t ≡ Some x → x.task.number ≡ t) →
      Closed c (after_event m S (event.Start w))
  unfolding after_event
  Closed-start w number = start_closed w S.queue number

  exec_closed : (w : ℕ) (b : Option Busy) → get S.workers w ≡ b → Closed c (after_exec m S w b)
  exec_closed w None there = closed
  exec_closed w (Some b) there =
      let after = exec_stretch S.code m.limits m.sizes.quantum b (stores_of S) in
      closed_by c (after_exec m S w (Some b)) closed.arrivals closed.flight
      (worker_put w (busy_after b after) (closed.workers w b there))
      closed.entries closed.versions closed.mail closed.copies

  -- every closed scope stays closed after exec
  pub Closed-exec : (w : ℕ) → Closed c (after_event m S (event.Exec w))
  unfolding after_event
  Closed-exec w = exec_closed w (get S.workers w) refl

  finish_closed : (w : ℕ) (b : Option Busy) → Closed c (after_finish S w b)
  finish_closed w None = closed
  finish_closed w (Some b) =
      let n = b.task.number in
      let d = flight_after_finish S.flight n in
      let T = finish_task S w b in
      let A : State = record S { workers = T.workers; trap = T.trap; flight = d.part } in
      closed_sent c A
      (closed_by c A closed.arrivals (closed_finish c S.flight closed.flight n)
      (λ q x there. closed.workers q x (from_removed nat_order S.workers w q x there).1)
      closed.entries closed.versions closed.mail closed.copies)
      d.sent (finish_keeps c S.flight closed.flight n)

  -- every closed scope stays closed after finish
  pub Closed-finish : (w : ℕ) → Closed c (after_event m S (event.Finish w))
  unfolding after_event
  Closed-finish w = finish_closed w (get S.workers w)

  -- ---- main

  called_closed : (r : MainState × Option Task) → ((t : Task) → r.1 ≡ Some t → ClosedInbox c (Some t)) →
      Closed c (after_call S r)
  called_closed (main, None) i = closed_by c (record S { main = main }) closed.arrivals closed.flight closed.workers
      closed.entries closed.versions closed.mail closed.copies
  called_closed (main, Some t) i = closed_by c (record S { main = main; inbox = Some t }) (i t refl) closed.flight
      closed.workers closed.entries closed.versions closed.mail closed.copies

  main_closed : (call : Option Call) →
      ((x : Call) → call ≡ Some x → (t : Task) → (main_call m.limits S.home S.main x).1 ≡ Some t →
      ClosedInbox c (Some t)) →
      Closed c (main_by m S call)
  main_closed None i = closed_by c (main_by m S None) closed.arrivals closed.flight closed.workers closed.entries
      closed.versions closed.mail closed.copies
  main_closed (Some x) i = called_closed (main_call m.limits S.home S.main x) (i x refl)

  -- the operands of a task that main's next call spawns agree with the scope
  abbrev SpawnsClosed : Type 0
  SpawnsClosed = (x : Call) → call_next m S ≡ Some x → (t : Task) →
      (main_call m.limits S.home S.main x).1 ≡ Some t → ClosedInbox c (Some t)

  -- and after main, where what it spawns agrees with the scope
  pub Closed-main : SpawnsClosed → Closed c (after_event m S event.Main)
  unfolding after_event
  Closed-main i = main_closed (call_next m S) i
