-- Events of the stations and the workers lower the measure: take, ready, link, start, finish and bye.
use Rattle.std.proofs.Common.{◌≡◌, ℕ, zero, suc, ◌+◌, ◌*◌, ◌≤◌, Bool, true, false, List, [], ◌∷◌, length, Option, Some}
use Rattle.std.proofs.Common.{None, refl, sym, ap, subst, ◌∙◌, arith}
use Rattle.std.specs.Prelude.{◌==◌, is_some, slice_get}
use Rattle.std.specs.List.{list_any}
use Rattle.std.specs.FinMap.{get, remove}
use Rattle.std.proofs.lemmas.Bool.{or_left, both_ways}
use Rattle.std.proofs.lemmas.Bool.Decides.{nat_tests}
use Rattle.tss_base.specs.declared.operand.OpName.{OpName}
use Rattle.tss_base.specs.declared.operand.Operand.{Operand}
use Rattle.tss_base.specs.declared.operand.Task.{Task}
use Rattle.tss_base.specs.declared.machine.Machine.{Machine}
use Rattle.tss_base.specs.declared.event.Event.TheVariants as event
use Rattle.tss_base.specs.declared.marks.LinkState.{LinkState}
use Rattle.tss_base.specs.declared.marks.LinkState.TheVariants as link
use Rattle.tss_base.specs.declared.marks.Stage.TheVariants as stage
use Rattle.tss_maps.proofs.Keys.{nat_order}
use Rattle.tss_maps.proofs.Sums.{sum_inserted, sum_removed}
use Rattle.tss_model.specs.Access.{operands_of}
use Rattle.tss_protocol.specs.Mail.{Source, taken}
use Rattle.tss_protocol.specs.State.{State, OperandState, Flying, Busy}
use Rattle.tss_protocol.specs.Gateway.{decodes_from, sent_by_take}
use Rattle.tss_protocol.specs.Counts.{pieces_of_object, task_events}
use Rattle.tss_protocol.specs.Stations.{has_finished, first_stage, entered, operand_at, with_operand, awaited}
use Rattle.tss_protocol.specs.Stations.{link_after_ready, operand_after_ready, sent_by_ready, task_after_ready}
use Rattle.tss_protocol.specs.Stations.{woken_by, woken_in, link_after_link, operand_after_link, sent_by_link}
use Rattle.tss_protocol.specs.Stations.{linked_by, linked_in, operand_after_bye, parted_by, parted_in, releases_from}
use Rattle.tss_protocol.specs.Stations.{finished_in}
use Rattle.tss_protocol.specs.Workers.{can_start, busy_at_start, can_finish, trap_after_finish}
use Rattle.tss_protocol.specs.UnitMachine.{IsEnabled, is_enabled, after_event, without, can_take, after_take}
use Rattle.tss_protocol.specs.UnitMachine.{with_woken, ready_message_taken, with_flight, link_message_taken}
use Rattle.tss_protocol.specs.UnitMachine.{bye_message_taken, start_task, after_start, after_finish}
use Rattle.tss_phases.specs.Phase.{look_ups}
use Rattle.tss_phases.specs.Orderly.{AreOrderly}
use Rattle.tss_phases.proofs.OrderlyLemmas.{telling_stands}
use Rattle.tss_phases.proofs.Records.{task_of_record}
use Rattle.tss_names.specs.Tasks.{HasTaskNumbers}
use Rattle.tss_names.specs.Stages.{HasStages}
use Rattle.tss_control.specs.Readers.{Arrivals}
use Rattle.tss_control.specs.Runners.{HasRunners}
use Rattle.tss_control.specs.Control.{IsControlled}
use Rattle.tss_progress.proofs.bound.Measure.{messages_left, left_posted_all, link_left, told_left, records_left}
use Rattle.tss_progress.proofs.bound.Measure.{stage_left, flight_left, busy_left, inbox_left, took_bye, IsLowered}
use Rattle.tss_progress.proofs.bound.Flight.{left_flying, left_entering, left_remaining, left_record, left_entered}
use Rattle.tss_progress.proofs.bound.Flight.{left_awaited, left_releases}
use Rattle.tss_names.proofs.UnreadyTasks.{unready}

-- what is looked up is there
something : {X : Type 0} (f : Option X → Bool) → f None ≡ false → (x : Option X) → f x ≡ true → (y : X) × (x ≡ Some y)
something f none None e = absurd (both_ways (f None) none e)
something f none (Some y) e = (y, refl)

-- ---- take

-- the decodes of a task, with what its records weigh
left_decodes : (c n place : ℕ) (os : List Operand)
    → messages_left c (decodes_from n place os) + length os * 4 ≡ length os * (10 + c)
left_decodes c n place [] = omega arith
left_decodes c n place (o ∷ os) = let rest = left_decodes c n (suc place) os in omega (arith, rest)

more_times : (a b n : ℕ) → a ≤ b → a * n ≤ b * n
more_times a b zero h = omega arith
more_times a b (suc n) h = let rest = more_times a b n h in omega (arith, rest, h)

module _ (m : Machine) (S : State) where
  abbrev pieces : ℕ
  pieces = pieces_of_object m

  abbrev budget : ℕ
  budget = m.limits.task_budget

  take_less : (all : List Task) → HasTaskNumbers m all S → (t : Option Task) → S.inbox ≡ t → can_take m S t ≡ true
      → IsLowered m S (after_take S t)
  take_less all numbers None e can = absurd (cc)
  take_less all numbers (Some t) e can =
      let newest = numbers.inbox t e in
      let few = (numbers.each t.number t newest.task).operands in
      let share = more_times (length (operands_of t)) m.limits.max_operands (10 + pieces) few in
      let box = ap (inbox_left (task_events m)) e in
      let enters = left_entering budget S.flight t.number (entered t) in
      let new = left_entered budget t.number (first_stage (operands_of t)) (operands_of t) refl in
      let sent = left_decodes pieces t.number 0 (operands_of t) in
      let p = left_posted_all pieces S.mail (sent_by_take t) in
      omega (arith, share, box, enters, new, sent, p)

  -- the share of the inbox's task pays for its decodes and records
  pub lowered_take : (all : List Task) → HasTaskNumbers m all S → IsEnabled m S event.Take
      → IsLowered m S (after_event m S event.Take)
  unfolding is_enabled after_event
  lowered_take all numbers on = take_less all numbers S.inbox refl on

  -- ---- ready

  left_told_link : (l : LinkState) → link_left (link_after_ready l) ≤ link_left l
  left_told_link link.Nothing = omega arith
  left_told_link (link.Held next) = omega arith
  left_told_link link.Passed = omega arith

  left_passed_on : (l : LinkState) (s : Source) → messages_left pieces (sent_by_ready l s) ≡ 0
  left_passed_on link.Nothing s = refl
  left_passed_on (link.Held next) s = refl
  left_passed_on link.Passed s = refl

  -- the record of an operand, with its task
  record HasTask (o : OpName) (r : OperandState) : Type 0 where
    pub task : Flying
    pub flies : get S.flight o.task ≡ Some task
    pub place : slice_get task.operands o.place ≡ Some r

  has_task : (o : OpName) (r : OperandState) → operand_at S.flight o ≡ Some r → HasTask o r
  has_task o r e = let t = task_of_record S.flight o r e in record { task = t.0; flies = t.1; place = t.2 }

  ready_less : (o : OpName) (s : Source) (r : OperandState) (h : HasTask o r) → r.source ≡ None
      → h.task.stage ≡ stage.Waiting
      → IsLowered m S (with_woken (without S (event.Ready o)) o.task (woken_by S.flight o s h.task (Some r)))
  ready_less o s r h none waits =
      let x = h.task in
      let y = task_after_ready x o.place r s in
      let old = ap (λ z. stage_left budget z + records_left (has_finished z) x.operands) waits in
      let new = left_awaited budget o.task y waits in
      let flies = left_flying budget S.flight o.task x (awaited y) h.flies in
      let set = left_record false x.operands o.place r (operand_after_ready r s) h.place in
      let was = ap (told_left false) none in
      let l = left_told_link r.link in
      let quiet = left_passed_on r.link s in
      let p = left_posted_all pieces (taken S.mail (event.Ready o)) (sent_by_ready r.link s) in
      omega (arith, old, new, flies, set, was, l, quiet, p)

  -- the operand's task waits, and its record was told nothing
  pub lowered_ready : (all : List Task) → HasStages m all S → AreOrderly S → (o : OpName)
      → IsEnabled m S (event.Ready o) → IsLowered m S (after_event m S (event.Ready o))
  unfolding is_enabled after_event
  lowered_ready all stages orderly o on =
      let s = something is_some refl (get S.mail.readies o) on in
      let untold = (telling_stands (look_ups S o) s.0 (orderly o) s.1).1.0 in
      let h = has_task o untold.kept untold.there in
      let waits = (stages.waiting o.task h.task h.flies).1
      (unready h.task.operands o.place untold.kept h.place untold.told) in
      let less = ready_less o s.0 untold.kept h untold.told waits in
      let first = ap (ready_message_taken (without S (event.Ready o)) o) s.1 in
      let second = ap (λ x. with_woken (without S (event.Ready o)) o.task (woken_in S.flight o s.0 x)) h.flies in
      let third = ap (λ x. with_woken (without S (event.Ready o)) o.task (woken_by S.flight o s.0 h.task x)) h.place in
      subst (IsLowered m S) (sym (first ∙ second ∙ third)) less

  -- ---- link

  left_linked : (s : Option Source) (next : OpName) → link_left (link_after_link s next) ≡ 0
  left_linked None next = refl
  left_linked (Some s) next = refl

  left_sent_on : (s : Option Source) (next : OpName) → messages_left pieces (sent_by_link s next) ≡ 0
  left_sent_on None next = refl
  left_sent_on (Some s) next = refl

  link_less : (o next : OpName) (r : OperandState) (h : HasTask o r) → r.link ≡ link.Nothing
      → IsLowered m S (with_flight (without S (event.Link o)) (linked_by S.flight o next h.task (Some r)))
  link_less o next r h none =
      let x = h.task in
      let s = operand_after_link r next in
      let flies = left_remaining budget S.flight o.task x (with_operand x o.place s) h.flies in
      let set = left_record (has_finished x.stage) x.operands o.place r s h.place in
      let was = ap link_left none in
      let l = left_linked r.source next in
      let quiet = left_sent_on r.source next in
      let p = left_posted_all pieces (taken S.mail (event.Link o)) (sent_by_link r.source next) in
      omega (arith, flies, set, was, l, quiet, p)

  -- the operand has a record without a link
  pub lowered_link : (ts : List Task) (g : Arrivals) → IsControlled ts g S → (o : OpName)
      → IsEnabled m S (event.Link o) → IsLowered m S (after_event m S (event.Link o))
  unfolding is_enabled after_event
  lowered_link ts g control o on =
      let next = something is_some refl (get S.mail.links o) on in
      let holder = control.holders.records o next.0 next.1 in
      let read = control.readers.links o next.0 next.1 in
      let reader = ((control.readers.versions read.0 read.1 read.2).each o read.3).on in
      let none = (control.holders.links o reader.operand holder.0 reader.there holder.1).under_way next.0 next.1 in
      let h = has_task o holder.0 holder.1 in
      let less = link_less o next.0 holder.0 h none in
      let first = ap (link_message_taken (without S (event.Link o)) o) next.1 in
      let second = ap (λ x. with_flight (without S (event.Link o)) (linked_in S.flight o next.0 x)) h.flies in
      let third = ap (λ x. with_flight (without S (event.Link o)) (linked_by S.flight o next.0 h.task x)) h.place in
      subst (IsLowered m S) (sym (first ∙ second ∙ third)) less

  -- ---- start

  start_less : (w t : ℕ) (ts : List ℕ) (x : Flying) → get S.flight t ≡ Some x → x.stage ≡ stage.Queued
      → IsLowered m S (start_task m S w t ts (Some x))
  start_less w t ts x e queued =
      let old = ap (λ z. stage_left budget z + records_left (has_finished z) x.operands) queued in
      let flies = left_flying budget S.flight t x (record x { stage = stage.Running }) e in
      let works = sum_inserted nat_order (busy_left budget) S.workers w (busy_at_start x) in
      omega (arith, old, flies, works)

  itself : (n : ℕ) → (n == n) ≡ true
  itself n = grind (arith, nat_tests)

  started_less : (runners : HasRunners S) (w : ℕ) (queue : List ℕ) → S.queue ≡ queue
      → can_start m.sizes.workers w (get S.workers w) queue ≡ true → IsLowered m S (after_start m S w queue)
  started_less runners w [] e can = absurd (cc)
  started_less runners w (t ∷ ts) e can =
      let at = runners.queued t
      (ap (λ ns. list_any (λ k. k == t) ns) e ∙ or_left (t == t) (list_any (λ k. k == t) ts) (itself t)) in
      let less = start_less w t ts at.0 at.1 at.2 in
      subst (IsLowered m S) (sym (ap (start_task m S w t ts) at.1)) less

  -- the front task of the queue is in flight, and queued
  pub lowered_start : HasRunners S → (w : ℕ) → IsEnabled m S (event.Start w)
      → IsLowered m S (after_event m S (event.Start w))
  unfolding is_enabled after_event
  lowered_start runners w on = started_less runners w S.queue refl on

  -- ---- finish

  -- the state where a worker's task finishes, by the task
  abbrev finished : ℕ → Busy → Option Flying → State
  finished w b x =
      with_flight (record S {
        workers = remove S.workers w;
        trap = trap_after_finish S.trap b.task.number b.trap;
      }) (finished_in S.flight b.task.number x)

  finish_less : (w : ℕ) (b : Busy) (x : Flying) → get S.workers w ≡ Some b → get S.flight b.task.number ≡ Some x
      → x.stage ≡ stage.Running → IsLowered m S (finished w b (Some x))
  finish_less w b x e flies running =
      let n = b.task.number in
      let old = ap (λ z. stage_left budget z + records_left (has_finished z) x.operands) running in
      let new = left_remaining budget S.flight n x (record x { stage = stage.Finished }) flies in
      let works = sum_removed nat_order (busy_left budget) S.workers w b e in
      let sent = left_releases pieces n 0 x.operands in
      let p = left_posted_all pieces S.mail (releases_from n 0 x.operands) in
      omega (arith, old, new, works, sent, p)

  finished_less : HasRunners S → (w : ℕ) (b : Option Busy) → get S.workers w ≡ b → can_finish b ≡ true
      → IsLowered m S (after_finish S w b)
  finished_less runners w None e can = absurd (cc)
  finished_less runners w (Some b) e can =
      let at = runners.running w b e in
      subst (IsLowered m S) (sym (ap (finished w b) at.1)) (finish_less w b at.0 e at.1 at.2)

  -- the worker's task runs
  pub lowered_finish : HasRunners S → (w : ℕ) → IsEnabled m S (event.Finish w)
      → IsLowered m S (after_event m S (event.Finish w))
  unfolding is_enabled after_event
  lowered_finish runners w on = finished_less runners w (get S.workers w) refl on

  -- ---- bye

  bye_record : (o : OpName) (promised : Bool) (x : Flying) (r : Option OperandState) → get S.flight o.task ≡ Some x
      → slice_get x.operands o.place ≡ r
      → flight_left budget (parted_by S.flight o promised x r) ≤ flight_left budget S.flight
  bye_record o promised x None e at = omega arith
  bye_record o promised x (Some r) e at =
      let s = operand_after_bye r promised in
      let flies = left_remaining budget S.flight o.task x (with_operand x o.place s) e in
      let set = left_record (has_finished x.stage) x.operands o.place r s at in
      omega (arith, flies, set)

  bye_flight : (o : OpName) (promised : Bool) (x : Option Flying) → get S.flight o.task ≡ x
      → flight_left budget (parted_in S.flight o promised x) ≤ flight_left budget S.flight
  bye_flight o promised None e = omega arith
  bye_flight o promised (Some x) e = bye_record o promised x (slice_get x.operands o.place) e refl

  bye_less : (o : OpName) (x : Option Bool) → get S.mail.byes o ≡ x → is_some x ≡ true
      → IsLowered m S (bye_message_taken (without S (event.Bye o)) o x)
  bye_less o None e can = absurd (cc)
  bye_less o (Some promised) e can =
      let t = took_bye pieces S.mail o promised e in
      let f = bye_flight o promised (get S.flight o.task) refl in
      omega (arith, t, f)

  -- a bye is spent
  pub lowered_bye : (o : OpName) → IsEnabled m S (event.Bye o) → IsLowered m S (after_event m S (event.Bye o))
  unfolding is_enabled after_event
  lowered_bye o on = bye_less o (get S.mail.byes o) refl on
