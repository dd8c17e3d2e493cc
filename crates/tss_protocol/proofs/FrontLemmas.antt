-- What an event leaves alone of the machine's front: the inbox, the gateway, decodes and acks, and the tasks in flight.
use Rattle.std.proofs.Common.{◌≡◌, ℕ, zero, suc, Bool, true, false, if◌then◌else◌, List, [], ◌∷◌, map, Option, Some}
use Rattle.std.proofs.Common.{None, refl, sym, ap, ◌∙◌, inl, inr, true≢false}
use Rattle.std.specs.Prelude.{slice_get, slice_set}
use Rattle.std.specs.FinMap.{get, insert, remove}
use Rattle.tss_base.specs.declared.operand.OpName.{OpName}
use Rattle.tss_base.specs.declared.operand.Operand.{Operand}
use Rattle.tss_base.specs.declared.operand.Task.{Task}
use Rattle.tss_base.specs.declared.machine.Machine.{Machine}
use Rattle.tss_base.specs.declared.event.Event.{Event}
use Rattle.tss_base.specs.declared.event.Event.TheVariants as event
use Rattle.tss_base.specs.declared.marks.Stage.TheVariants as stage
use Rattle.tss_base.specs.Names.{Named, Numbered}
use Rattle.tss_maps.proofs.Keys.{nat_order}
use Rattle.tss_maps.proofs.Changes.{from_inserted, from_removed}
use Rattle.tss_protocol.specs.Mail.{Source, OpenContents, ReleaseContents, IdleContents, GoneContents, Message}
use Rattle.tss_protocol.specs.State.{State, OperandState, Flying, Busy, Version, CopyState}
use Rattle.tss_protocol.specs.Stations.{is_complete, awaited, with_operand, is_gone, remaining_tasks, woken_in}
use Rattle.tss_protocol.specs.Stations.{woken_by, task_after_ready, linked_in, linked_by, operand_after_link}
use Rattle.tss_protocol.specs.Stations.{finished_in, parted_in, parted_by, operand_after_bye}
use Rattle.tss_protocol.specs.Buffers.{is_last_piece}
use Rattle.tss_protocol.specs.UnitMachine.{after_event, with_sent, without, open_message_taken, use_message_taken}
use Rattle.tss_protocol.specs.UnitMachine.{ready_message_taken, link_message_taken, after_start, start_task, after_exec}
use Rattle.tss_protocol.specs.UnitMachine.{after_finish, release_message_taken, bye_message_taken, idle_message_taken}
use Rattle.tss_protocol.specs.UnitMachine.{nack_message_taken, retire_version, after_copy, gone_message_taken}
use Rattle.tss_protocol.proofs.SentLemmas.{AllSent, IsLater, posted_all-later, after_open-later, after_use-later}
use Rattle.tss_protocol.proofs.SentLemmas.{after_release-later, after_nack-later, after_ready-later, after_link-later}
use Rattle.tss_protocol.proofs.SentLemmas.{flight_after_finish-later, after_idle-later, sent_by_retire-later}
use Rattle.tss_protocol.proofs.SentLemmas.{sent_by_copy-later}

-- ---- tasks in flight

-- the same task, with records for the same operands
pub record IsSameTask (x y : Flying) : Type 0 where
  pub task : y.task ≡ x.task
  pub operands : map (λ r. r.operand) y.operands ≡ map (λ r. r.operand) x.operands

-- each task in flight was in flight before
abbrev pub ComeFrom : Numbered Flying → Numbered Flying → Type 0
ComeFrom m n = (k : ℕ) (y : Flying) → get n k ≡ Some y → (x : Flying) × (get m k ≡ Some x) × IsSameTask x y

-- nothing changed
pub all_come : (m : Numbered Flying) → ComeFrom m m
all_come m k y e = (y, e, record { task = refl; operands = refl })

-- a change of one task
come_changed : (m : Numbered Flying) (t : ℕ) (x y : Flying) → get m t ≡ Some x → IsSameTask x y
    → ComeFrom m (insert m t y)
come_changed m t x y there same k z e =
    elim (from_inserted nat_order m t y k z e) [
      | inl here ↦ (
        x,
        ap (get m) here.0 ∙ there,
        record {
          task = ap (λ (w : Flying). w.task) here.1 ∙ same.task;
          operands = ap (λ (w : Flying). map (λ r. r.operand) w.operands) here.1 ∙ same.operands;
        },
      )
      | inr before ↦ all_come m k z before.1
    ]

-- a task leaves
come_left : (m : Numbered Flying) (t : ℕ) → ComeFrom m (remove m t)
come_left m t k y e = all_come m k y (from_removed nat_order m t k y e).1

-- a change of one task, which may leave
come_remaining : (m : Numbered Flying) (t : ℕ) (x y : Flying) → get m t ≡ Some x → IsSameTask x y
    → ComeFrom m (remaining_tasks m t y)
come_remaining m t x y there same =
    elim (is_gone y) as (λ b. ComeFrom m (if b then remove m t else insert m t y)) [
      | true ↦ come_left m t
      | false ↦ come_changed m t x y there same
    ]

-- a record that is written over with one of the same operand
map-slice_set : {X Y : Type 0} (f : X → Y) (xs : List X) (i : ℕ) (x y : X) → slice_get xs i ≡ Some x → f y ≡ f x
    → map f (slice_set xs i y) ≡ map f xs
map-slice_set f [] i x y e same = absurd (cc)
map-slice_set f (z ∷ xs) zero x y e same =
    let is : z ≡ x = cc in ap (λ w. w ∷ map f xs) (same ∙ ap f (sym is))
map-slice_set f (z ∷ xs) (suc i) x y e same = ap (λ ws. f z ∷ ws) (map-slice_set f xs i x y e same)

-- a task with another record of one of its operands
same_with_operand : (x : Flying) (i : ℕ) (r s : OperandState) → slice_get x.operands i ≡ Some r
    → s.operand ≡ r.operand → IsSameTask x (with_operand x i s)
same_with_operand x i r s e same =
    record { task = refl; operands = map-slice_set (λ r. r.operand) x.operands i r s e same }

same_awaited : (x y : Flying) → IsSameTask x y → IsSameTask x (awaited y)
same_awaited x y same =
    elim (is_complete y) as (λ b. IsSameTask x (if b then record y { stage = stage.Queued } else y)) [
      | true ↦ record { task = same.task; operands = same.operands }
      | false ↦ same
    ]

module _ (m : Numbered Flying) (o : OpName) where
  come_woken_by : (source : Source) (x : Flying) → get m o.task ≡ Some x → (r : Option OperandState)
      → slice_get x.operands o.place ≡ r → ComeFrom m (woken_by m o source x r).flight
  come_woken_by source x there None e = all_come m
  come_woken_by source x there (Some r) e =
      let y = task_after_ready x o.place r source in
      come_changed m o.task x (awaited y) there (same_awaited x y (same_with_operand x o.place r _ e refl))

  come_woken_in : (source : Source) (x : Option Flying) → get m o.task ≡ x → ComeFrom m (woken_in m o source x).flight
  come_woken_in source None there = all_come m
  come_woken_in source (Some x) there = come_woken_by source x there (slice_get x.operands o.place) refl

  come_linked_by : (next : OpName) (x : Flying) → get m o.task ≡ Some x → (r : Option OperandState)
      → slice_get x.operands o.place ≡ r → ComeFrom m (linked_by m o next x r).part
  come_linked_by next x there None e = all_come m
  come_linked_by next x there (Some r) e =
      come_remaining m o.task x (with_operand x o.place (operand_after_link r next)) there
      (same_with_operand x o.place r _ e refl)

  come_linked_in : (next : OpName) (x : Option Flying) → get m o.task ≡ x → ComeFrom m (linked_in m o next x).part
  come_linked_in next None there = all_come m
  come_linked_in next (Some x) there = come_linked_by next x there (slice_get x.operands o.place) refl

  come_parted_by : (promised : Bool) (x : Flying) → get m o.task ≡ Some x → (r : Option OperandState)
      → slice_get x.operands o.place ≡ r → ComeFrom m (parted_by m o promised x r)
  come_parted_by promised x there None e = all_come m
  come_parted_by promised x there (Some r) e =
      come_remaining m o.task x (with_operand x o.place (operand_after_bye r promised)) there
      (same_with_operand x o.place r _ e refl)

  come_parted_in : (promised : Bool) (x : Option Flying) → get m o.task ≡ x → ComeFrom m (parted_in m o promised x)
  come_parted_in promised None there = all_come m
  come_parted_in promised (Some x) there = come_parted_by promised x there (slice_get x.operands o.place) refl

come_finished_in : (m : Numbered Flying) (t : ℕ) (x : Option Flying) → get m t ≡ x
    → ComeFrom m (finished_in m t x).part
come_finished_in m t None there = all_come m
come_finished_in m t (Some x) there =
    come_remaining m t x (record x { stage = stage.Finished }) there (record { task = refl; operands = refl })

-- ---- states

-- the front of the machine
pub record Front : Type 0 where
  pub spawned : ℕ
  pub inbox : Option Task
  pub gateway : Named (Unit {0})
  pub decodes : Named Operand
  pub acks : Named (Unit {0})

-- that of a state
abbrev pub front_of : State → Front
front_of S = record {
  spawned = S.main.spawned;
  inbox = S.inbox;
  gateway = S.gateway;
  decodes = S.mail.decodes;
  acks = S.mail.acks;
}

-- the rest of what tells where tasks are: the tasks in flight, the queue and the workers
pub record Back : Type 0 where
  pub flight : Numbered Flying
  pub queue : List ℕ
  pub workers : Numbered Busy

-- that of a state
abbrev pub back_of : State → Back
back_of S = record { flight = S.flight; queue = S.queue; workers = S.workers }

-- the front hasn't changed, and each task in flight was in flight before
pub record KeepsFront (S T : State) : Type 0 where
  pub front : front_of T ≡ front_of S
  pub flight : ComeFrom S.flight T.flight

-- later messages keep it
front_sent : (S T : State) (ms : List Message) → KeepsFront S T → AllSent IsLater ms → KeepsFront S (with_sent T ms)
front_sent S T ms k later =
    let same = posted_all-later T.mail ms later in
    record {
      front = (λ i. record (front_of T) { decodes = same.decodes i; acks = same.acks i }) ∙ k.front;
      flight = k.flight;
    }

module _ (m : Machine) (S : State) where
  front_open : (o : OpName) (c : Option OpenContents)
      → KeepsFront S (open_message_taken (without S (event.Open o)) o c)
  front_open o None = record { front = refl; flight = all_come S.flight }
  front_open o (Some c) =
      front_sent S _ _ (record { front = refl; flight = all_come S.flight })
      (after_open-later S.versions o c)

  front_use : (o : OpName) (v : Option OpName) → KeepsFront S (use_message_taken (without S (event.Use o)) o v)
  front_use o None = record { front = refl; flight = all_come S.flight }
  front_use o (Some v) =
      front_sent S _ _ (record { front = refl; flight = all_come S.flight })
      (after_use-later S.versions o v)

  front_ready : (o : OpName) (c : Option Source) → KeepsFront S (ready_message_taken (without S (event.Ready o)) o c)
  front_ready o None = record { front = refl; flight = all_come S.flight }
  front_ready o (Some source) =
      front_sent S _ _ (record { front = refl; flight = come_woken_in S.flight o source (get S.flight o.task) refl })
      (after_ready-later S.flight o source)

  front_link : (o : OpName) (next : Option OpName) → KeepsFront S (link_message_taken (without S (event.Link o)) o next)
  front_link o None = record { front = refl; flight = all_come S.flight }
  front_link o (Some next) =
      front_sent S _ _ (record { front = refl; flight = come_linked_in S.flight o next (get S.flight o.task) refl })
      (after_link-later S.flight o next)

  front_bye : (o : OpName) (c : Option Bool) → KeepsFront S (bye_message_taken (without S (event.Bye o)) o c)
  front_bye o None = record { front = refl; flight = all_come S.flight }
  front_bye o (Some promised) =
      record { front = refl; flight = come_parted_in S.flight o promised (get S.flight o.task) refl }

  front_start_task : (w t : ℕ) (ts : List ℕ) (x : Option Flying) → get S.flight t ≡ x
      → KeepsFront S (start_task m S w t ts x)
  front_start_task w t ts None there = record { front = refl; flight = all_come S.flight }
  front_start_task w t ts (Some x) there = record {
    front = refl;
    flight = come_changed S.flight t x (record x { stage = stage.Running }) there
        (record { task = refl; operands = refl });
  }

  front_start : (w : ℕ) (queue : List ℕ) → KeepsFront S (after_start m S w queue)
  front_start w [] = record { front = refl; flight = all_come S.flight }
  front_start w (t ∷ ts) = front_start_task w t ts (get S.flight t) refl

  front_exec : (w : ℕ) (b : Option Busy) → KeepsFront S (after_exec m S w b)
  front_exec w None = record { front = refl; flight = all_come S.flight }
  front_exec w (Some b) = record { front = refl; flight = all_come S.flight }

  front_finish : (w : ℕ) (b : Option Busy) → KeepsFront S (after_finish S w b)
  front_finish w None = record { front = refl; flight = all_come S.flight }
  front_finish w (Some b) =
      front_sent S _ _
      (record { front = refl; flight = come_finished_in S.flight b.task.number (get S.flight b.task.number) refl })
      (flight_after_finish-later S.flight b.task.number)

  front_release : (o : OpName) (c : Option ReleaseContents)
      → KeepsFront S (release_message_taken (without S (event.Release o)) o c)
  front_release o None = record { front = refl; flight = all_come S.flight }
  front_release o (Some r) =
      front_sent S _ _ (record { front = refl; flight = all_come S.flight })
      (after_release-later S.versions o r)

  front_idle : (v : OpName) (c : Option IdleContents)
      → KeepsFront S (idle_message_taken (without S (event.Idle v)) v c)
  front_idle v None = record { front = refl; flight = all_come S.flight }
  front_idle v (Some i) =
      front_sent S _ _ (record { front = refl; flight = all_come S.flight })
      (after_idle-later S.entries v i.base i.count)

  front_nack : (v : OpName) → KeepsFront S (nack_message_taken (without S (event.Nack v)) v)
  front_nack v =
      front_sent S _ _ (record { front = refl; flight = all_come S.flight })
      (after_nack-later S.versions v)

  front_retire : (v : OpName) (x : Option Version) → KeepsFront S (retire_version m (without S (event.Retire v)) v x)
  front_retire v None = record { front = refl; flight = all_come S.flight }
  front_retire v (Some x) =
      front_sent S _ _ (record { front = refl; flight = all_come S.flight })
      (sent_by_retire-later v x.object x.storage)

  front_copy : (b : ℕ) (c : Option CopyState) → KeepsFront S (after_copy S b c)
  front_copy b None = record { front = refl; flight = all_come S.flight }
  front_copy b (Some c) =
      front_sent S _ _ (record { front = refl; flight = all_come S.flight })
      (sent_by_copy-later c (is_last_piece c))

  front_gone : (v : OpName) (c : Option GoneContents)
      → KeepsFront S (gone_message_taken (without S (event.Gone v)) v c)
  front_gone v None = record { front = refl; flight = all_come S.flight }
  front_gone v (Some g) = record { front = refl; flight = all_come S.flight }

-- main's event, take, decode and ack
abbrev pub is_of_front : Event → Bool
is_of_front event.Main = true
is_of_front event.Take = true
is_of_front (event.Decode o) = true
is_of_front (event.Ack o) = true
is_of_front e = false

-- each other event leaves the front alone
pub KeepsFront-after_event : (m : Machine) (S : State) (e : Event) → is_of_front e ≡ false
    → KeepsFront S (after_event m S e)
unfolding after_event
KeepsFront-after_event m S event.Main h = absurd (true≢false h)
KeepsFront-after_event m S event.Take h = absurd (true≢false h)
KeepsFront-after_event m S (event.Decode o) h = absurd (true≢false h)
KeepsFront-after_event m S (event.Ack o) h = absurd (true≢false h)
KeepsFront-after_event m S (event.Open o) h = front_open m S o (get S.mail.opens o)
KeepsFront-after_event m S (event.Use o) h = front_use m S o (get S.mail.uses o)
KeepsFront-after_event m S (event.Ready o) h = front_ready m S o (get S.mail.readies o)
KeepsFront-after_event m S (event.Link o) h = front_link m S o (get S.mail.links o)
KeepsFront-after_event m S (event.Start w) h = front_start m S w S.queue
KeepsFront-after_event m S (event.Exec w) h = front_exec m S w (get S.workers w)
KeepsFront-after_event m S (event.Finish w) h = front_finish m S w (get S.workers w)
KeepsFront-after_event m S (event.Release o) h = front_release m S o (get S.mail.releases o)
KeepsFront-after_event m S (event.Bye o) h = front_bye m S o (get S.mail.byes o)
KeepsFront-after_event m S (event.Idle v) h = front_idle m S v (get S.mail.idles v)
KeepsFront-after_event m S (event.Nack v) h = front_nack m S v
KeepsFront-after_event m S (event.Retire v) h = front_retire m S v (get S.versions v)
KeepsFront-after_event m S (event.Copy b) h = front_copy m S b (get S.copies b)
KeepsFront-after_event m S (event.Gone v) h = front_gone m S v (get S.mail.gones v)
