-- What take finds follows from the laws.
use Rattle.std.proofs.Common.{◌≡◌, ℕ, suc, ◌+◌, ◌<◌, ◌≤◌, Bool, true, false, List, [], ◌∷◌, length, Some, None, sym, ap}
use Rattle.std.proofs.Common.{inl, inr, arith, true≢false}
use Rattle.std.specs.FinMap.{get, len}
use Rattle.std.proofs.lemmas.List.{length_push}
use Rattle.tss_base.specs.declared.operand.OpName.{OpName}
use Rattle.tss_base.specs.declared.operand.Operand.{Operand}
use Rattle.tss_base.specs.declared.operand.Task.{Task}
use Rattle.tss_base.specs.declared.machine.Machine.{Machine}
use Rattle.tss_base.specs.declared.event.Event.TheVariants as event
use Rattle.tss_maps.proofs.Keys.{name_order}
use Rattle.tss_maps.proofs.Changes.{decide_get}
use Rattle.tss_maps.proofs.Entries.{len_added}
use Rattle.tss_model.specs.Access.{operands_of}
use Rattle.tss_protocol.specs.Names.{operand_name}
use Rattle.tss_protocol.specs.Mail.{Decode, Mail, posted, posted_all}
use Rattle.tss_protocol.specs.State.{State}
use Rattle.tss_protocol.specs.Gateway.{decodes_from, sent_by_take}
use Rattle.tss_protocol.specs.Stations.{entered}
use Rattle.tss_protocol.specs.Renaming.{line_of}
use Rattle.tss_protocol.specs.Counts.{all_slots}
use Rattle.tss_protocol.specs.UnitMachine.{after_event, after_take, queue_with, is_queued}
use Rattle.tss_names.specs.Tasks.{task_at, taken_by, IsTaken, HasTaskNumbers}
use Rattle.tss_names.proofs.NumberLemmas.{number_within}
use Rattle.tss_conditions.proofs.Spawned.{CountRightly}
use Rattle.tss_names.proofs.MessageLemmas.{messages_of_runs}
use Rattle.tss_control.proofs.rounds.Facts.{Facts}
use Rattle.tss_control.proofs.GroundworkControl.{sizes_of_runs}
use Rattle.tss_conditions.specs.Posting.{ArePostable}
use Rattle.tss_conditions.specs.Taking.{IsProper, ArrivingLaw, TakingLaw, LinesLaw}
use Rattle.tss_conditions.proofs.Known.{reached_after, facts_reached, counts_reached}
use Rattle.tss_conditions.proofs.Lines.{from_line, no_line, few_in_line, window_room}
use Rattle.tss_conditions.proofs.Postable.{nothing_there}
use Rattle.tss_conditions.proofs.PostingTasks.{none_decoding, postable_take}

-- ---- the lines

pub short_lines : LinesLaw
short_lines m i S bank r =
    let few = (messages_of_runs m i r.reachable.0 S r.accepted r.admissible r.reachable.1).gateway in
    (few_in_line m.sizes bank S.mail.decodes, omega (arith, few))

-- ---- spawned tasks

-- a spawned task is as spawns make it
pub proper_task : (m : Machine) (all : List Task) (S : State) → HasTaskNumbers m all S → CountRightly m.limits all
    → (n : ℕ) (t : Task) → task_at all n ≡ Some t → IsProper m t
proper_task m all S numbers right n t at =
    let within = number_within all n t at in
    let spawned = numbers.each n t at in
    let own = right n t at in
    let low = within.0 in
    let high = within.1 in
    let number = spawned.number in
    let many = numbers.spawned in
    let few = numbers.few in
    let count = own.count in
    let operands = spawned.operands in
    record {
      first = omega (arith, low, number);
      last = omega (arith, high, number, many, few);
      count = count;
      few = omega (arith, count, operands);
      listed = own.listed;
    }

-- ---- the inbox's task

module _ (m : Machine) (S : State) (facts : Facts m S) (t : Task) (arrives : S.inbox ≡ Some t) where
  open facts use {all, ground}

  -- what was taken has a lower number
  taken_below : (n : ℕ) → IsTaken S n → n < t.number
  taken_below n taken =
      let last = ap (λ x. taken_by x S.main.spawned) arrives in
      let number = (ground.numbers.inbox t arrives).number in
      let low = taken.0 in
      let high = taken.1 in
      omega (arith, last, number, low, high)

  gate_below : (o : OpName) → get S.gateway o ≡ Some tt → o.task < t.number
  gate_below o at = taken_below o.task (ground.gateway.each o at).0

  decode_below : (o : OpName) (p : Operand) → get S.mail.decodes o ≡ Some p → o.task < t.number
  decode_below o p at = gate_below o (ground.gateway.decodes o p at).0

  not_flying : get S.flight t.number ≡ None
  not_flying = elim (decide_get S.flight t.number) [
    | inl none ↦ none
    | inr x ↦
        let low = taken_below t.number (ground.numbers.flight t.number x.0 x.1).taken in absurd (omega (arith, low))
  ]

  unlined : (bank : ℕ) (o : OpName) → o.task ≡ t.number → get (line_of m.sizes bank S.mail.decodes) o ≡ None
  unlined bank o own = no_line m.sizes bank S.mail.decodes o (none_decoding m S facts t arrives o own)

  above : (bank : ℕ) (o : OpName) → get (line_of m.sizes bank S.mail.decodes) o ≡ Some tt → o.task < t.number
  above bank o at = let p = from_line m.sizes bank S.mail.decodes o at in decode_below o p.0 p.1

pub arriving : ArrivingLaw
arriving m i S t r e =
    let facts = facts_reached m i S r in
    let newest = facts.ground.numbers.inbox t e in
    record {
      proper = proper_task m facts.all S facts.ground.numbers (counts_reached m i S r) t.number t newest.task;
      later = gate_below m S facts t e;
      fresh = not_flying m S facts t e;
      behind = decode_below m S facts t e;
      unlined = unlined m S facts t e;
      above = above m S facts t e;
    }

-- ---- room

-- decodes are as many more as a task has operands
len-decodes : (task place : ℕ) (os : List Operand) (m : Mail) → ArePostable m (decodes_from task place os)
    → len (posted_all m (decodes_from task place os)).decodes ≡ len m.decodes + length os
len-decodes task place [] m h = omega arith
len-decodes task place (o ∷ os) m h =
    let name = operand_name task place in
    let one = len_added name_order m.decodes name o (nothing_there (Decode name) (get m.decodes name) h.0) in
    let rest = len-decodes task (suc place) os (posted m (Decode name o)) h.1 in
    omega (arith, one, rest)

-- the queue with one more
pub queued_more : (queue : List ℕ) (t : ℕ) (b : Bool) (most : ℕ) → length (queue_with queue t b) ≤ most → b ≡ true
    → length queue < most
queued_more queue t true most few e = let more = length_push queue t in omega (arith, few, more)
queued_more queue t false most few e = absurd (true≢false (sym e))

module _ (m : Machine) (S : State) (t : Task) (arrives : S.inbox ≡ Some t) where
  mail_taken : (after_event m S event.Take).mail ≡ posted_all S.mail (sent_by_take t)
  unfolding after_event
  mail_taken = ap (λ x. (after_take S x).mail) arrives

  queue_taken : (after_event m S event.Take).queue ≡ queue_with S.queue t.number (is_queued (entered t).stage)
  unfolding after_event
  queue_taken = ap (λ x. (after_take S x).queue) arrives

pub room_to_take : TakingLaw
room_to_take m i S t r on e =
    let next = reached_after m i S event.Take r on in
    let T = after_event m S event.Take in
    let few = (messages_of_runs m i next.reachable.0 T r.accepted r.admissible next.reachable.1).gateway in
    let ready = (sizes_of_runs m i next.reachable.0 T r.accepted r.admissible next.reachable.1).ready in
    let fresh = postable_take m S (facts_reached m i S r) t e in
    let many = len-decodes t.number 0 (operands_of t) S.mail fresh in
    let mail = ap (λ (mail : Mail). len mail.decodes) (mail_taken m S t e) in
    let queue = ap length (queue_taken m S t e) in
    let window = window_room m r.admissible in
    record {
      decodes = omega (arith, few, many, mail);
      lines = omega (arith, few, many, mail, window);
      queue = queued_more S.queue t.number (is_queued (entered t).stage) (all_slots m) (omega (arith, ready, queue));
    }
