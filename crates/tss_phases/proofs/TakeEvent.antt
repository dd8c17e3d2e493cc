-- What a take does to phases: the operands of the task that is taken go from ahead to decoding.
use Rattle.std.proofs.Common.{◌≡◌, ◌≢◌, ℕ, zero, suc, ◌+◌, Bool, true, false, cond, List, [], ◌∷◌, Some, None, refl}
use Rattle.std.proofs.Common.{sym, ap, ◌∙◌, inl, inr, arith, nat_lt}
use Rattle.std.specs.Prelude.{◌==◌, ◌||◌, slice_get}
use Rattle.std.proofs.lemmas.Bool.Decides.{nat_tests}
use Rattle.std.proofs.lemmas.Option.{none-some}
use Rattle.tss_base.specs.declared.operand.OpName.{OpName}
use Rattle.tss_base.specs.declared.operand.Operand.{Operand}
use Rattle.tss_base.specs.declared.operand.Task.{Task}
use Rattle.tss_base.specs.declared.machine.Machine.{Machine}
use Rattle.tss_base.specs.declared.event.Event.TheVariants as event
use Rattle.tss_model.specs.Access.{operands_of}
use Rattle.tss_protocol.specs.Names.{operand_name, same_name}
use Rattle.tss_protocol.specs.Mail.{Decode}
use Rattle.tss_protocol.specs.State.{State}
use Rattle.tss_protocol.specs.Gateway.{gateway_after_take, decodes_from, sent_by_take}
use Rattle.tss_protocol.specs.Stations.{operand_at, entered, flight_after_take}
use Rattle.tss_protocol.specs.UnitMachine.{after_event, queue_with, is_queued, after_take}
use Rattle.tss_phases.specs.Phase.{Decoding, LookUps, look_ups, phase_at, inbox_has, is_ahead, phase_of}
use Rattle.tss_phases.proofs.Received.{own_name, received_all, received_other, look_ups-sent}
use Rattle.tss_phases.proofs.PhaseLemmas.{phase_decoding}
use Rattle.tss_phases.proofs.Records.{record_beside_put}
use Rattle.tss_phases.proofs.FinishEvent.{IsBefore, before_next, apart_before, apart_further}

-- ---- the decodes of a task's operands

-- of any other operand they say nothing
decodes_other : (task place : ℕ) (os : List Operand) (q : OpName) (l : LookUps) → IsBefore q task place
    → received_all (decodes_from task place os) q l ≡ l
decodes_other task place [] q l before = refl
decodes_other task place (o ∷ os) q l before =
    ap (received_all (decodes_from task (suc place) os) q)
    (received_other (Decode (operand_name task place) o) q l (apart_before q task place before))
    ∙ decodes_other task (suc place) os q l (before_next q task place before)

-- an operand at a place has its decode
pub decodes_own : (task place : ℕ) (os : List Operand) (j : ℕ) (o : Operand) (q : OpName) (l : LookUps)
    → slice_get os j ≡ Some o → q.task ≡ task → q.place ≡ place + j
    → received_all (decodes_from task place os) q l ≡ record l { decoding = Some o }
decodes_own task place [] j o q l at same here = absurd (none-some o at)
decodes_own task place (x ∷ os) zero o q l at same here =
    (λ i. received_all (decodes_from task (suc place) os) q (record l {
      decoding = cond (own i) (at i) l.decoding;
    }))
    ∙ decodes_other task (suc place) os q (record l { decoding = Some o }) (inr (omega (arith, here)))
  where
    place_is : q.place ≡ place + 0 → q.place ≡ place
    place_is e = omega (arith, e)

    name : q ≡ operand_name task place
    name = λ i. record { task = same i; place = place_is here i }

    own : same_name q (operand_name task place) ≡ true
    own = ap (λ p. same_name p (operand_name task place)) name ∙ own_name (operand_name task place)
decodes_own task place (x ∷ os) (suc j) o q l at same here =
    ap (received_all (decodes_from task (suc place) os) q)
    (received_other (Decode (operand_name task place) x) q l (apart_further task q place j here))
    ∙ decodes_own task (suc place) os j o q l at same (omega (arith, here))

-- past the operands there is none
pub decodes_beyond : (task place : ℕ) (os : List Operand) (j : ℕ) (q : OpName) (l : LookUps)
    → slice_get os j ≡ None → q.task ≡ task → q.place ≡ place + j → received_all (decodes_from task place os) q l ≡ l
decodes_beyond task place [] j q l at same here = refl
decodes_beyond task place (x ∷ os) zero q l at same here = absurd (none-some x (sym at))
decodes_beyond task place (x ∷ os) (suc j) q l at same here =
    ap (received_all (decodes_from task (suc place) os) q)
    (received_other (Decode (operand_name task place) x) q l (apart_further task q place j here))
    ∙ decodes_beyond task (suc place) os j q l at same (omega (arith, here))

-- ---- what a take does to phases

another_number : (a b : ℕ) → b ≢ a → (a == b) ≡ false
another_number a b apart = by (a == b) refl
  where
    to_same : (a b : ℕ) → (a == b) ≡ true → b ≡ a
    to_same a b e = grind (arith, nat_tests)

    by : (c : Bool) → (a == b) ≡ c → (a == b) ≡ false
    by false e = e
    by true e = absurd (apart (to_same a b e))

module _ (m : Machine) (S : State) (t : Task) (inbox : S.inbox ≡ Some t) where
  -- what is looked up after a take
  pub look_ups-take : (q : OpName) → look_ups (after_event m S event.Take) q
      ≡ received_all (sent_by_take t) q (record (look_ups S q) {
        station = operand_at (flight_after_take S.flight t) q;
        ahead = nat_lt S.main.spawned q.task || false;
      })
  unfolding after_event
  look_ups-take q =
      ap (λ x. look_ups (after_take S x) q) inbox
      ∙ look_ups-sent (record S {
        inbox = None;
        gateway = gateway_after_take S.gateway t;
        flight = flight_after_take S.flight t;
        queue = queue_with S.queue t.number (is_queued (entered t).stage);
      }) (sent_by_take t) q

  -- a task in the inbox hasn't been taken
  pub inbox_is_ahead : (q : OpName) → q.task ≡ t.number → is_ahead S q.task ≡ true
  inbox_is_ahead q same =
      ap (λ x. nat_lt S.main.spawned q.task || inbox_has x q.task) inbox
      ∙ ap (λ b. nat_lt S.main.spawned q.task || b) (same_number t.number q.task (sym same))
      ∙ or_true (nat_lt S.main.spawned q.task)
    where
      same_number : (a b : ℕ) → a ≡ b → (a == b) ≡ true
      same_number a b e = grind (arith, nat_tests)

      or_true : (b : Bool) → b || true ≡ true
      or_true true = refl
      or_true false = refl

  -- after it, each operand of its task is decoding
  pub phase_of-take : (q : OpName) (o : Operand) → q.task ≡ t.number → slice_get (operands_of t) q.place ≡ Some o
      → phase_of (after_event m S event.Take) q ≡ Decoding
  phase_of-take q o same at =
      let l : LookUps = record (look_ups S q) {
        station = operand_at (flight_after_take S.flight t) q;
        ahead = nat_lt S.main.spawned q.task || false;
      } in
      ap phase_at (look_ups-take q)
      ∙ ap phase_at (decodes_own t.number 0 (operands_of t) q.place o q l at same (omega arith))
      ∙ phase_decoding (record l { decoding = Some o }) o refl

  -- nothing is changed of an operand of another task
  pub look_ups-take-other : (q : OpName) → q.task ≢ t.number → look_ups (after_event m S event.Take) q ≡ look_ups S q
  look_ups-take-other q other =
      let l : LookUps = record (look_ups S q) {
        station = operand_at (flight_after_take S.flight t) q;
        ahead = nat_lt S.main.spawned q.task || false;
      } in
      let not_inbox = sym (ap (λ x. inbox_has x q.task) inbox ∙ another_number t.number q.task other) in
      look_ups-take q
      ∙ decodes_other t.number 0 (operands_of t) q l (inl other)
      ∙ (λ i. record (look_ups S q) {
        station = record_beside_put S.flight t.number (entered t) q other i;
        ahead = nat_lt S.main.spawned q.task || not_inbox i;
      })

  -- nor its phase
  pub phase_of-take-other : (q : OpName) → q.task ≢ t.number → phase_of (after_event m S event.Take) q ≡ phase_of S q
  phase_of-take-other q other = ap phase_at (look_ups-take-other q other)
