-- Take concerns the task that is taken alone, with the names of its operands.
use Rattle.std.proofs.Common.{◌≡◌, ℕ, ◌+◌, true, cond, Option, Some, None, refl, sym, ap, ◌∙◌, subst, arith}
use Rattle.std.specs.Prelude.{◌==◌, slice_get}
use Rattle.tss_base.specs.declared.operand.OpName.{OpName}
use Rattle.std.proofs.lemmas.Bool.Decides.{nat_tests}
use Rattle.tss_base.specs.declared.operand.Operand.{Operand}
use Rattle.tss_base.specs.declared.operand.Task.{Task}
use Rattle.tss_base.specs.declared.machine.Machine.{Machine}
use Rattle.tss_base.specs.declared.event.Event.TheVariants as event
use Rattle.tss_model.specs.Access.{operands_of}
use Rattle.tss_protocol.specs.Names.{operand_name}
use Rattle.tss_protocol.specs.State.{OperandState, State}
use Rattle.tss_protocol.specs.Gateway.{gateway_after_take, sent_by_take}
use Rattle.tss_protocol.specs.Stations.{new_operand, entered, flight_after_take}
use Rattle.tss_protocol.specs.UnitMachine.{queue_with, is_queued, take_task, after_take, after_event}
use Rattle.tss_locality.specs.Agreement.{Beyond, operand_in}
use Rattle.tss_locality.specs.Scopes.{Scope, IsOwn, beyond, ChangesOnly}
use Rattle.tss_locality.specs.Concerns.{ConcernsTask, ConcernsTake}
use Rattle.tss_locality.proofs.Agreements.{other_none, other_some, same_for_other, agree_same}
use Rattle.tss_locality.proofs.States.{InboxOn, state_inbox, state_gateway, state_flight, state_queue}
use Rattle.tss_locality.proofs.Sending.{changes_none, changes_sent}
use Rattle.tss_locality.proofs.Flights.{from_mapped}
use Rattle.tss_locality.proofs.Tasks.{from_zero, times_queued, decodes_sent, gateway_held, flight_entered}

same_number : (n : ℕ) → (n == n) ≡ true
same_number n = grind (arith, nat_tests)

-- an operand of the inbox's task under its own name
pub own_arrival : (t : Task) (k : ℕ) → operand_in (Some t) (operand_name t.number k) ≡ slice_get (operands_of t) k
own_arrival t k = ap (λ b. cond b (slice_get (operands_of t) k) None) (same_number t.number)

-- the operands of a task of the scope have names of it
own_names : (c : Scope) (t : Task) → ConcernsTask c t → (k : ℕ) (o : Operand) →
    slice_get (operands_of t) k ≡ Some o →
    c.names (operand_name t.number k)
own_names c t p k o e = p.names (operand_name t.number k) o (own_arrival t k ∙ e)

-- and no other name has an operand in it
no_arrival : (c : Scope) (t : Task) → ConcernsTask c t → (o : OpName) → Beyond c.names o → (p : Option Operand) →
    operand_in (Some t) o ≡ p → p ≡ None
no_arrival c t concern o out None e = refl
no_arrival c t concern o out (Some p) e = absurd (out (concern.names o p e))

-- the inbox with a task of the scope, or empty, before and after
pub inbox_arrived : (c : Scope) (t : Task) → ConcernsTask c t → InboxOn (beyond c) None (Some t)
inbox_arrived c t concern = record {
  task = same_for_other (λ t. Beyond c.tasks t.number) None (Some t) (other_none (λ t. Beyond c.tasks t.number))
      (other_some (λ t. Beyond c.tasks t.number) t (λ out. out concern.task));
  arrivals = λ o out. no_arrival c t concern o out (operand_in (Some t) o) refl;
}

inbox_emptied : (c : Scope) (t : Task) → ConcernsTask c t → InboxOn (beyond c) (Some t) None
inbox_emptied c t concern = record {
  task = same_for_other (λ t. Beyond c.tasks t.number) (Some t) None
      (other_some (λ t. Beyond c.tasks t.number) t (λ out. out concern.task))
      (other_none (λ t. Beyond c.tasks t.number));
  arrivals = λ o out. sym (no_arrival c t concern o out (operand_in (Some t) o) refl);
}

entered_names : (c : Scope) (t : Task) → ConcernsTask c t → (k : ℕ) (r : OperandState) →
    slice_get (entered t).operands k ≡ Some r → c.names (operand_name t.number k)
entered_names c t concern k r e =
    let made = from_mapped new_operand (operands_of t) k r e in
    own_names c t concern k made.0 made.1

module _ (c : Scope) (m : Machine) (S : State) where
  taken : (t : Task) → S.inbox ≡ Some t → ConcernsTake c S t → ChangesOnly c S (take_task S t)
  taken t there p =
      let n = t.number in
      let own = p.spawned.task in
      let os = operands_of t in
      let names : (j : ℕ) (o : Operand) → slice_get os j ≡ Some o → c.names (operand_name n (0 + j)) = λ j o e.
      subst (λ j. c.names (operand_name n j)) (sym (from_zero j)) (own_names c t p.spawned j o e) in
      let A : State = record S { inbox = None } in
      let B : State = record A { gateway = gateway_after_take S.gateway t } in
      let C : State = record B { flight = flight_after_take S.flight t } in
      let queue = queue_with S.queue n (is_queued (entered t).stage) in
      let in_inbox = state_inbox (beyond c) S S (changes_none c S) None
      (subst (λ i. InboxOn (beyond c) i None) (sym there) (inbox_emptied c t p.spawned)) in
      let in_gateway = state_gateway (beyond c) S A in_inbox (gateway_after_take S.gateway t)
      (gateway_held c S.flight n own S.gateway S.gateway (agree_same (Beyond (IsOwn c)) S.gateway) 0 os names) in
      let in_flight = state_flight (beyond c) S B in_gateway (flight_after_take S.flight t)
      (flight_entered c S.flight n own (entered t) p.fresh (entered_names c t p.spawned)) in
      changes_sent c S (record C { queue = queue })
      (state_queue (beyond c) S C in_flight queue (times_queued c.tasks S.queue n (is_queued (entered t).stage) own))
      (sent_by_take t) (decodes_sent c S.flight n own 0 os names)

  taken_by : (i : Option Task) → S.inbox ≡ i → ((t : Task) → S.inbox ≡ Some t → ConcernsTake c S t) →
      ChangesOnly c S (after_take S i)
  taken_by None there p = changes_none c S
  taken_by (Some t) there p = taken t there (p t there)

  -- take changes only the task in the inbox, with the names of its operands
  pub ChangesOnly-take : ((t : Task) → S.inbox ≡ Some t → ConcernsTake c S t) →
      ChangesOnly c S (after_event m S event.Take)
  unfolding after_event
  ChangesOnly-take p = taken_by S.inbox refl p
