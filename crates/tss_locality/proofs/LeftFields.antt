-- Each event leaves the fields that aren't named in its row.
use Rattle.std.proofs.Common.{◌≡◌, ℕ, Bool, true, false, List, [], ◌∷◌, Option, Some, None, refl, ap, ◌∙◌}
use Rattle.std.specs.FinMap.{get}
use Rattle.tss_base.specs.declared.operand.OpName.{OpName}
use Rattle.tss_base.specs.declared.operand.Operand.{Operand}
use Rattle.tss_base.specs.declared.operand.Task.{Task}
use Rattle.tss_base.specs.declared.machine.Machine.{Machine}
use Rattle.tss_base.specs.declared.event.Event.{Event}
use Rattle.tss_base.specs.declared.event.Event.TheVariants as event
use Rattle.tss_model.specs.MainStep.{MainState, Call, main_call}
use Rattle.tss_protocol.specs.Mail.{Source, OpenContents, ReleaseContents, IdleContents, GoneContents}
use Rattle.tss_protocol.specs.State.{Flying, Busy, Entry, Version, CopyState, State}
use Rattle.tss_protocol.specs.Renaming.{idle_by, may_retire}
use Rattle.tss_protocol.specs.MainEvent.{call_next, after_call, main_by}
use Rattle.tss_protocol.specs.UnitMachine.{without, with_entries, after_take, decode_message_taken, open_message_taken}
use Rattle.tss_protocol.specs.UnitMachine.{use_message_taken, ready_message_taken, link_message_taken}
use Rattle.tss_protocol.specs.UnitMachine.{bye_message_taken, start_task, after_start, after_exec, after_finish}
use Rattle.tss_protocol.specs.UnitMachine.{release_message_taken, idle_message_taken, retire_version, after_copy}
use Rattle.tss_protocol.specs.UnitMachine.{gone_message_taken, after_event}
use Rattle.tss_locality.specs.Leaves.{changes, if_changed, Leaves}

module _ (m : Machine) (S : State) where
  called : (r : MainState × Option Task) → Leaves event.Main S (after_call S r)
  called (main, None) = refl
  called (main, Some t) = refl

  main_left : (call : Option Call) → Leaves event.Main S (main_by m S call)
  main_left None = refl
  main_left (Some call) = called (main_call m.limits S.home S.main call)

  take_left : (t : Option Task) → Leaves event.Take S (after_take S t)
  take_left None = refl
  take_left (Some t) = refl

  decode_left : (o : OpName) (p : Option Operand) →
      Leaves (event.Decode o) S (decode_message_taken m (without S (event.Decode o)) o p)
  decode_left o None = refl
  decode_left o (Some p) = refl

  open_left : (o : OpName) (x : Option OpenContents) →
      Leaves (event.Open o) S (open_message_taken (without S (event.Open o)) o x)
  open_left o None = refl
  open_left o (Some x) = refl

  use_left : (o : OpName) (v : Option OpName) → Leaves (event.Use o) S (use_message_taken (without S (event.Use o)) o v)
  use_left o None = refl
  use_left o (Some v) = refl

  ready_left : (o : OpName) (s : Option Source) →
      Leaves (event.Ready o) S (ready_message_taken (without S (event.Ready o)) o s)
  ready_left o None = refl
  ready_left o (Some s) = refl

  link_left : (o : OpName) (next : Option OpName) →
      Leaves (event.Link o) S (link_message_taken (without S (event.Link o)) o next)
  link_left o None = refl
  link_left o (Some next) = refl

  start_task_left : (w t : ℕ) (ts : List ℕ) (x : Option Flying) → Leaves (event.Start w) S (start_task m S w t ts x)
  start_task_left w t ts None = refl
  start_task_left w t ts (Some x) = refl

  start_left : (w : ℕ) (queue : List ℕ) → Leaves (event.Start w) S (after_start m S w queue)
  start_left w [] = refl
  start_left w (t ∷ ts) = start_task_left w t ts (get S.flight t)

  exec_left : (w : ℕ) (b : Option Busy) → Leaves (event.Exec w) S (after_exec m S w b)
  exec_left w None = refl
  exec_left w (Some b) = refl

  finish_left : (w : ℕ) (b : Option Busy) → Leaves (event.Finish w) S (after_finish S w b)
  finish_left w None = refl
  finish_left w (Some b) = refl

  release_left : (o : OpName) (r : Option ReleaseContents) →
      Leaves (event.Release o) S (release_message_taken (without S (event.Release o)) o r)
  release_left o None = refl
  release_left o (Some r) = refl

  bye_left : (o : OpName) (promised : Option Bool) →
      Leaves (event.Bye o) S (bye_message_taken (without S (event.Bye o)) o promised)
  bye_left o None = refl
  bye_left o (Some promised) = refl

  answered_left : (v : OpName) (base : ℕ) (e : Option Entry) (may : Bool) →
      Leaves (event.Idle v) S (with_entries (without S (event.Idle v)) (idle_by S.entries v base e may))
  answered_left v base e true = refl
  answered_left v base e false = refl

  idle_left : (v : OpName) (i : Option IdleContents) →
      Leaves (event.Idle v) S (idle_message_taken (without S (event.Idle v)) v i)
  idle_left v None = refl
  idle_left v (Some i) =
      answered_left v i.base (get S.entries i.base) (may_retire v i.count (get S.entries i.base))

  retire_left : (v : OpName) (x : Option Version) →
      Leaves (event.Retire v) S (retire_version m (without S (event.Retire v)) v x)
  retire_left v None = refl
  retire_left v (Some x) = refl

  copy_left : (b : ℕ) (k : Option CopyState) → Leaves (event.Copy b) S (after_copy S b k)
  copy_left b None = refl
  copy_left b (Some k) = refl

  gone_left : (v : OpName) (g : Option GoneContents) →
      Leaves (event.Gone v) S (gone_message_taken (without S (event.Gone v)) v g)
  gone_left v None = refl
  gone_left v (Some g) = refl

  -- every event leaves the other fields
  pub Leaves-after_event : (e : Event) → Leaves e S (after_event m S e)
  unfolding after_event
  Leaves-after_event event.Main = main_left (call_next m S)
  Leaves-after_event event.Take = take_left S.inbox
  Leaves-after_event (event.Decode o) = decode_left o (get S.mail.decodes o)
  Leaves-after_event (event.Ack o) = refl
  Leaves-after_event (event.Open o) = open_left o (get S.mail.opens o)
  Leaves-after_event (event.Use o) = use_left o (get S.mail.uses o)
  Leaves-after_event (event.Ready o) = ready_left o (get S.mail.readies o)
  Leaves-after_event (event.Link o) = link_left o (get S.mail.links o)
  Leaves-after_event (event.Start w) = start_left w S.queue
  Leaves-after_event (event.Exec w) = exec_left w (get S.workers w)
  Leaves-after_event (event.Finish w) = finish_left w (get S.workers w)
  Leaves-after_event (event.Release o) = release_left o (get S.mail.releases o)
  Leaves-after_event (event.Bye o) = bye_left o (get S.mail.byes o)
  Leaves-after_event (event.Idle v) = idle_left v (get S.mail.idles v)
  Leaves-after_event (event.Nack v) = refl
  Leaves-after_event (event.Retire v) = retire_left v (get S.versions v)
  Leaves-after_event (event.Copy b) = copy_left b (get S.copies b)
  Leaves-after_event (event.Gone v) = gone_left v (get S.mail.gones v)

  -- ---- a field that it may not change

  module _ (e : Event) where
    abbrev T : State
    T = after_event m S e

    pub left_home : (changes e).home ≡ false → T.home ≡ S.home
    left_home left = (λ j. (Leaves-after_event e j).home) ∙ ap (λ b. if_changed b T.home S.home) left

    pub left_flight : (changes e).flight ≡ false → T.flight ≡ S.flight
    left_flight left = (λ j. (Leaves-after_event e j).flight) ∙ ap (λ b. if_changed b T.flight S.flight) left

    pub left_queue : (changes e).queue ≡ false → T.queue ≡ S.queue
    left_queue left = (λ j. (Leaves-after_event e j).queue) ∙ ap (λ b. if_changed b T.queue S.queue) left

    pub left_workers : (changes e).workers ≡ false → T.workers ≡ S.workers
    left_workers left = (λ j. (Leaves-after_event e j).workers) ∙ ap (λ b. if_changed b T.workers S.workers) left

    pub left_entries : (changes e).entries ≡ false → T.entries ≡ S.entries
    left_entries left = (λ j. (Leaves-after_event e j).entries) ∙ ap (λ b. if_changed b T.entries S.entries) left

    pub left_places : (changes e).places ≡ false → T.places ≡ S.places
    left_places left = (λ j. (Leaves-after_event e j).places) ∙ ap (λ b. if_changed b T.places S.places) left

    pub left_buffers : (changes e).buffers ≡ false → T.buffers ≡ S.buffers
    left_buffers left = (λ j. (Leaves-after_event e j).buffers) ∙ ap (λ b. if_changed b T.buffers S.buffers) left

    pub left_versions : (changes e).versions ≡ false → T.versions ≡ S.versions
    left_versions left = (λ j. (Leaves-after_event e j).versions) ∙ ap (λ b. if_changed b T.versions S.versions) left

    pub left_copies : (changes e).copies ≡ false → T.copies ≡ S.copies
    left_copies left = (λ j. (Leaves-after_event e j).copies) ∙ ap (λ b. if_changed b T.copies S.copies) left
