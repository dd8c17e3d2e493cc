-- What take, decode and ack do to the front, and what stands under the names of a task's operands after its take.
use Rattle.std.proofs.Common.{◌≡◌, ◌≢◌, ℕ, zero, suc, ◌+◌, ◌<◌, ◌⊎◌, inl, inr, true, List, [], ◌∷◌, Option, Some, None}
use Rattle.std.proofs.Common.{refl, ap, ◌∙◌, arith}
use Rattle.std.specs.Prelude.{slice_get}
use Rattle.std.specs.FinMap.{get, insert, remove}
use Rattle.std.proofs.lemmas.Bool.{and_parts}
use Rattle.tss_base.specs.declared.operand.OpName.{OpName}
use Rattle.tss_base.specs.declared.operand.Mode.{Mode}
use Rattle.tss_base.specs.declared.operand.Mode.TheVariants.{Input, Output, Inout}
use Rattle.tss_base.specs.declared.operand.Operand.{Operand}
use Rattle.tss_base.specs.declared.operand.Task.{Task}
use Rattle.tss_base.specs.declared.machine.Machine.{Machine}
use Rattle.tss_base.specs.declared.event.Event.TheVariants as event
use Rattle.tss_base.specs.Names.{Named}
use Rattle.tss_maps.proofs.Keys.{name_order}
use Rattle.tss_maps.proofs.Changes.{at_inserted, beside_inserted, from_inserted}
use Rattle.tss_model.specs.Access.{operands_of}
use Rattle.tss_protocol.specs.Names.{bank_of, operand_name}
use Rattle.tss_protocol.specs.Mail.{Mail, posted, posted_all}
use Rattle.tss_protocol.specs.State.{State, Entry}
use Rattle.tss_protocol.specs.Gateway.{names_from, held_with, decodes_from, has_window}
use Rattle.tss_protocol.specs.Stations.{has_slot, entered, flight_after_take}
use Rattle.tss_protocol.specs.Renaming.{HasTurn, Turn, fill_of, line_of, has_earlier, decode_wait, decode_message}
use Rattle.tss_protocol.specs.Renaming.{live_message}
use Rattle.tss_protocol.specs.UnitMachine.{IsEnabled, tables_of, queue_with, is_queued, is_enabled, after_event}
use Rattle.tss_protocol.specs.UnitMachine.{can_take, after_take, without, can_decode_message, decode_message_taken}
use Rattle.tss_protocol.proofs.TurnLemmas.{waits_for_neither}
use Rattle.tss_protocol.proofs.FrontLemmas.{front_of, back_of}
use Rattle.tss_names.proofs.PlainLemmas.{some_unit}

-- ---- something for each of a task's operands, under its name

-- from a place on
abbrev pub spread : {X : Type 0} → (Operand → X) → Named X → ℕ → ℕ → List Operand → Named X
spread f m task place [] = m
spread f m task place (o ∷ os) = spread f (insert m (operand_name task place) (f o)) task (suc place) os

module _ {X : Type 0} (f : Operand → X) where
  -- nothing changes at an earlier place
  beside_spread : (m : Named X) (task place : ℕ) (os : List Operand) (q : OpName) → q.place < place
      → get (spread f m task place os) q ≡ get m q
  beside_spread m task place [] q earlier = refl
  beside_spread m task place (o ∷ os) q earlier =
      let other : q ≢ operand_name task place = λ same. let p = ap (λ (o : OpName). o.place) same in omega (arith, p) in
      beside_spread (insert m (operand_name task place) (f o)) task (suc place) os q (omega (arith, earlier))
      ∙ beside_inserted name_order m (operand_name task place) (f o) q other

  -- nor under a name of another task
  pub outside_spread : (m : Named X) (task place : ℕ) (os : List Operand) (q : OpName) → q.task ≢ task
      → get (spread f m task place os) q ≡ get m q
  outside_spread m task place [] q apart = refl
  outside_spread m task place (o ∷ os) q apart =
      outside_spread (insert m (operand_name task place) (f o)) task (suc place) os q apart
      ∙ beside_inserted name_order m (operand_name task place) (f o) q
      (λ same. apart (ap (λ (o : OpName). o.task) same))

  -- it stands under the name of each operand
  pub at_spread : (m : Named X) (task place : ℕ) (os : List Operand) (i : ℕ) (x : Operand) → slice_get os i ≡ Some x
      → get (spread f m task place os) (operand_name task (place + i)) ≡ Some (f x)
  at_spread m task place [] i x e = absurd (cc)
  at_spread m task place (o ∷ os) zero x e =
      let is : o ≡ x = cc in
      let here : place + 0 ≡ place = omega arith in
      ap (λ p. get (spread f (insert m (operand_name task place) (f o)) task (suc place) os) (operand_name task p)) here
      ∙ beside_spread (insert m (operand_name task place) (f o)) task (suc place) os (operand_name task place)
      (omega arith)
      ∙ at_inserted name_order m (operand_name task place) (f o)
      ∙ ap (λ x. Some (f x)) is
  at_spread m task place (o ∷ os) (suc i) x e =
      let next : place + suc i ≡ suc place + i = omega arith in
      ap (λ p. get (spread f (insert m (operand_name task place) (f o)) task (suc place) os) (operand_name task p)) next
      ∙ at_spread (insert m (operand_name task place) (f o)) task (suc place) os i x e

  -- what stands under a name was spread, or stood there before
  pub from_spread : (m : Named X) (task place : ℕ) (os : List Operand) (q : OpName) (y : X)
      → get (spread f m task place os) q ≡ Some y
      → ((i : ℕ) × (x : Operand) × (q ≡ operand_name task (place + i)) × (slice_get os i ≡ Some x) × (y ≡ f x))
      ⊎ (get m q ≡ Some y)
  from_spread m task place [] q y e = inr e
  from_spread m task place (o ∷ os) q y e =
      elim (from_spread (insert m (operand_name task place) (f o)) task (suc place) os q y e) [
        | inl r ↦
            let next : suc place + r.0 ≡ place + suc r.0 = omega arith in
            inl (suc r.0, r.1, r.2 ∙ ap (operand_name task) next, r.3, r.4)
        | inr before ↦ elim (from_inserted name_order m (operand_name task place) (f o) q y before) [
          | inl here ↦
              let same : place ≡ place + 0 = omega arith in
              inl (0, o, here.0 ∙ ap (operand_name task) same, refl, here.1)
          | inr old ↦ inr old.1
        ]
      ]

-- the gateway after a take is such a map
held-spread : (m : Named (Unit {0})) (task place : ℕ) (os : List Operand)
    → held_with m (names_from task place os) ≡ spread (λ o. tt) m task place os
held-spread m task place [] = refl
held-spread m task place (o ∷ os) = held-spread (insert m (operand_name task place) tt) task (suc place) os

-- and so are its decodes
posted_all-decodes : (m : Mail) (task place : ℕ) (os : List Operand)
    → ((posted_all m (decodes_from task place os)).decodes ≡ spread (λ o. o) m.decodes task place os)
    × ((posted_all m (decodes_from task place os)).acks ≡ m.acks)
posted_all-decodes m task place [] = (refl, refl)
posted_all-decodes m task place (o ∷ os) =
    posted_all-decodes (record m { decodes = insert m.decodes (operand_name task place) o }) task (suc place) os

-- ---- the three events

-- a task is taken
pub record TakesTask (m : Machine) (S T : State) : Type 0 where
  pub task : Task
  pub there : S.inbox ≡ Some task
  pub window : has_window m.sizes S.gateway ≡ true
  pub slot : has_slot m.sizes S.flight task.number ≡ true
  pub front : front_of T ≡ record (front_of S) {
    inbox = None;
    gateway = spread (λ o. tt) S.gateway task.number 0 (operands_of task);
    decodes = spread (λ o. o) S.mail.decodes task.number 0 (operands_of task);
  }
  pub back : back_of T
      ≡ record (back_of S) {
        flight = flight_after_take S.flight task;
        queue = queue_with S.queue task.number (is_queued (entered task).stage);
      }

takes_by : (m : Machine) (S : State) (t : Option Task) → S.inbox ≡ t → can_take m S t ≡ true
    → TakesTask m S (after_take S t)
takes_by m S None e on = absurd (cc)
takes_by m S (Some t) e on =
    let may = and_parts (has_window m.sizes S.gateway) (has_slot m.sizes S.flight t.number) on in
    let sent = posted_all-decodes S.mail t.number 0 (operands_of t) in
    record {
      task = t;
      there = e;
      window = may.0;
      slot = may.1;
      front = λ i. record (front_of S) {
        inbox = None;
        gateway = held-spread S.gateway t.number 0 (operands_of t) i;
        decodes = sent.0 i;
        acks = sent.1 i;
      };
      back = refl;
    }

-- an operand is decoded, when it is its turn
pub record DecodesOperand (m : Machine) (S T : State) (o : OpName) : Type 0 where
  pub operand : Operand
  pub there : get S.mail.decodes o ≡ Some operand
  pub turn : HasTurn m.sizes S.mail.decodes o operand
  pub front : front_of T
      ≡ record (front_of S) { decodes = remove S.mail.decodes o; acks = insert S.mail.acks o tt }
  pub back : back_of T ≡ back_of S

-- what decode sends first is no decode and no ack
live_message-front : (m : Mail) (o : OpName) (operand : Operand) (e : Entry) (mode : Mode)
    → ((posted m (live_message o operand e mode)).decodes ≡ m.decodes)
    × ((posted m (live_message o operand e mode)).acks ≡ m.acks)
live_message-front m o operand e Input = (refl, refl)
live_message-front m o operand e Output = (refl, refl)
live_message-front m o operand e Inout = (refl, refl)

-- nor is it with the object's entry, or without one
pub decode_message-front : (m : Mail) (o : OpName) (operand : Operand) (e : Option Entry)
    → ((posted m (decode_message o operand e)).decodes ≡ m.decodes)
    × ((posted m (decode_message o operand e)).acks ≡ m.acks)
decode_message-front m o operand None = (refl, refl)
decode_message-front m o operand (Some e) = live_message-front m o operand e operand.mode

decodes_by : (m : Machine) (S : State) (o : OpName) (c : Option Operand) → get S.mail.decodes o ≡ c
    → can_decode_message m S o c ≡ true → DecodesOperand m S (decode_message_taken m (without S (event.Decode o)) o c) o
decodes_by m S o None e on = absurd (cc)
decodes_by m S o (Some operand) e on =
    let entry = get S.entries operand.object.base in
    let bank = bank_of m.sizes operand.object in
    let line = line_of m.sizes bank S.mail.decodes in
    let fill = fill_of m.sizes (tables_of S) bank in
    let sent = decode_message-front (record (S.mail) { decodes = remove S.mail.decodes o }) o operand entry in
    record {
      operand = operand;
      there = e;
      turn = (waits_for_neither (has_earlier o line) Turn (decode_wait m.sizes fill entry operand.mode) on).0;
      front = λ i. record (front_of S) { decodes = sent.0 i; acks = insert (sent.1 i) o tt };
      back = refl;
    }

-- an operand is acknowledged
pub record AcknowledgesOperand (S T : State) (o : OpName) : Type 0 where
  pub there : get S.mail.acks o ≡ Some tt
  pub front : front_of T ≡ record (front_of S) { gateway = remove S.gateway o; acks = remove S.mail.acks o }
  pub back : back_of T ≡ back_of S

module _ (m : Machine) (S : State) where
  -- take takes the inbox's task
  pub takes_take : IsEnabled m S event.Take → TakesTask m S (after_event m S event.Take)
  unfolding is_enabled after_event
  takes_take on = takes_by m S S.inbox refl on

  -- decode decodes its operand
  pub decodes_decode : (o : OpName) → IsEnabled m S (event.Decode o)
      → DecodesOperand m S (after_event m S (event.Decode o)) o
  unfolding is_enabled after_event
  decodes_decode o on = decodes_by m S o (get S.mail.decodes o) refl on

  -- ack acknowledges its operand
  pub acknowledges_ack : (o : OpName) → IsEnabled m S (event.Ack o)
      → AcknowledgesOperand S (after_event m S (event.Ack o)) o
  unfolding is_enabled after_event
  acknowledges_ack o on = record { there = some_unit (get S.mail.acks o) on; front = refl; back = refl }
