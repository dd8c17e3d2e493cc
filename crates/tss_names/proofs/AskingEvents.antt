-- Every event leaves a version that asks with one message of its asking.
use Rattle.std.proofs.Common.{◌≡◌, ℕ, Bool, true, false, List, [], ◌∷◌, Option, Some, None, refl, sym, ◌∙◌, true≢false}
use Rattle.std.specs.Prelude.{is_some}
use Rattle.std.specs.FinMap.{get, get-empty}
use Rattle.std.proofs.lemmas.Option.{none-some}
use Rattle.std.proofs.lemmas.Bool.{and_parts}
use Rattle.tss_base.specs.declared.operand.OpName.{OpName}
use Rattle.tss_base.specs.declared.operand.Operand.{Operand}
use Rattle.tss_base.specs.declared.operand.Task.{Task}
use Rattle.tss_base.specs.declared.machine.Machine.{Machine}
use Rattle.tss_base.specs.declared.event.Event.{Event}
use Rattle.tss_base.specs.declared.event.Event.TheVariants as event
use Rattle.tss_base.specs.Names.{name_cmp}
use Rattle.tss_base.specs.Image.{ImageState}
use Rattle.tss_model.specs.Access.{operands_of}
use Rattle.tss_model.specs.MainStep.{MainState, Call, main_call}
use Rattle.tss_protocol.specs.Mail.{StorageName, Home, Buffer, Source, OpenContents, ReleaseContents, IdleContents}
use Rattle.tss_protocol.specs.Mail.{GoneContents, posted_all, taken}
use Rattle.tss_protocol.specs.State.{State, Flying, Busy, Version, CopyState, initial_state}
use Rattle.tss_protocol.specs.Renaming.{sent_by_decode, may_retire, idle_by}
use Rattle.tss_protocol.specs.Versions.{put_version, drop_version, refused_once, nacked_at}
use Rattle.tss_protocol.specs.Buffers.{is_last_piece, sent_by_retire, sent_by_copy}
use Rattle.tss_protocol.specs.MainEvent.{call_next, main_by, after_call}
use Rattle.tss_protocol.specs.UnitMachine.{IsEnabled, is_enabled, after_event, without, after_take}
use Rattle.tss_protocol.specs.UnitMachine.{decode_message_taken, open_message_taken, use_message_taken}
use Rattle.tss_protocol.specs.UnitMachine.{ready_message_taken, link_message_taken, after_start, start_task, after_exec}
use Rattle.tss_protocol.specs.UnitMachine.{after_finish, release_message_taken, bye_message_taken, idle_message_taken}
use Rattle.tss_protocol.specs.UnitMachine.{nack_message_taken, can_retire, retire_version, after_copy}
use Rattle.tss_protocol.specs.UnitMachine.{gone_message_taken}
use Rattle.tss_names.specs.Tasks.{TasksFact}
use Rattle.tss_names.specs.Asking.{HasAsking, AskingLaw}
use Rattle.tss_protocol.proofs.SentLemmas.{after_ready-all, after_link-all, flight_after_finish-all}
use Rattle.tss_names.proofs.RunLemmas.{IsKept, law_from}
use Rattle.tss_names.proofs.OpeningLemmas.{AreOpeningsSound}
use Rattle.tss_names.proofs.EnlistedNames.{AreOpeningsSound-after_event, AreOpeningsSound-initial_state}
use Rattle.tss_names.proofs.JointLemmas.{joint_settled, joint_open, joint_use, joint_release}
use Rattle.tss_names.proofs.AskingLemmas.{Asking, IsJoint-Asking, IsAside, asking_posted_all, decodes_aside}
use Rattle.tss_names.proofs.AskingLemmas.{decode_aside, asking_new, asking_nacked, asking_granted, asking_refused}
use Rattle.tss_names.proofs.AskingLemmas.{asking_retired}
use Rattle.tss_names.proofs.PlainLemmas.{some_unit}

-- ---- all events

-- of a state
abbrev AskingOf : State → Type 0
AskingOf S = Asking S.versions S.mail

module _ (m : Machine) (ts : List Task) (S : State) (s : AreOpeningsSound m ts S) (h : AskingOf S) where
  ask_call : (d : MainState × Option Task) → AskingOf (after_call S d)
  ask_call (main, None) = h
  ask_call (main, Some t) = h

  ask_main : (c : Option Call) → AskingOf (main_by m S c)
  ask_main None = h
  ask_main (Some call) = ask_call (main_call m.limits S.home S.main call)

  ask_take : (t : Option Task) → AskingOf (after_take S t)
  ask_take None = h
  ask_take (Some t) = asking_posted_all S.versions S.mail _ (decodes_aside t.number 0 (operands_of t)) h

  ask_decode : (o : OpName) (c : Option Operand) → AskingOf (decode_message_taken m (without S (event.Decode o)) o c)
  ask_decode o None = h
  ask_decode o (Some operand) =
      let entry = get S.entries operand.object.base in
      asking_posted_all S.versions (taken S.mail (event.Decode o)) (sent_by_decode o operand entry)
      (decode_aside o operand entry, (tt, tt)) h

  ask_open : (o : OpName) (c : Option OpenContents) → get S.mail.opens o ≡ c
      → AskingOf (open_message_taken (without S (event.Open o)) o c)
  ask_open o None e = h
  ask_open o (Some c) e =
      joint_open Asking IsJoint-Asking S.versions (taken S.mail (event.Open o)) o c
      (λ x object quiet. asking_new S.versions (taken S.mail (event.Open o)) h o x (s.1.opens o c e).2 quiet)

  ask_use : (o : OpName) (v : Option OpName) → AskingOf (use_message_taken (without S (event.Use o)) o v)
  ask_use o None = h
  ask_use o (Some v) = joint_use Asking IsJoint-Asking S.versions (taken S.mail (event.Use o)) h o v

  ask_ready : (o : OpName) (c : Option Source) → AskingOf (ready_message_taken (without S (event.Ready o)) o c)
  ask_ready o None = h
  ask_ready o (Some source) =
      asking_posted_all S.versions (taken S.mail (event.Ready o)) _
      (after_ready-all IsAside (λ o source. tt) (λ o r. tt) S.flight o source) h

  ask_link : (o : OpName) (next : Option OpName) → AskingOf (link_message_taken (without S (event.Link o)) o next)
  ask_link o None = h
  ask_link o (Some next) =
      asking_posted_all S.versions (taken S.mail (event.Link o)) _
      (after_link-all IsAside (λ o source. tt) (λ o r. tt) S.flight o next) h

  ask_bye : (o : OpName) (c : Option Bool) → AskingOf (bye_message_taken (without S (event.Bye o)) o c)
  ask_bye o None = h
  ask_bye o (Some promised) = h

  ask_start_task : (w t : ℕ) (ts : List ℕ) (x : Option Flying) → AskingOf (start_task m S w t ts x)
  ask_start_task w t ts None = h
  ask_start_task w t ts (Some x) = h

  ask_start : (w : ℕ) (queue : List ℕ) → AskingOf (after_start m S w queue)
  ask_start w [] = h
  ask_start w (t ∷ ts) = ask_start_task w t ts (get S.flight t)

  ask_exec : (w : ℕ) (b : Option Busy) → AskingOf (after_exec m S w b)
  ask_exec w None = h
  ask_exec w (Some b) = h

  ask_finish : (w : ℕ) (b : Option Busy) → AskingOf (after_finish S w b)
  ask_finish w None = h
  ask_finish w (Some b) =
      asking_posted_all S.versions S.mail _
      (flight_after_finish-all IsAside (λ o source. tt) (λ o r. tt) S.flight b.task.number) h

  ask_release : (o : OpName) (c : Option ReleaseContents)
      → AskingOf (release_message_taken (without S (event.Release o)) o c)
  ask_release o None = h
  ask_release o (Some r) = joint_release Asking IsJoint-Asking S.versions (taken S.mail (event.Release o)) h o r

  ask_idle_by : (v : OpName) (i : IdleContents) → get S.mail.idles v ≡ Some i → (may : Bool)
      → Asking S.versions
      (posted_all (taken S.mail (event.Idle v)) (idle_by S.entries v i.base (get S.entries i.base) may).sent)
  ask_idle_by v i e true = asking_granted S.versions S.mail h v i e
  ask_idle_by v i e false = asking_nacked S.versions S.mail h v i e

  ask_idle : (v : OpName) (c : Option IdleContents) → get S.mail.idles v ≡ c → is_some c ≡ true
      → AskingOf (idle_message_taken (without S (event.Idle v)) v c)
  ask_idle v None e on = absurd (true≢false (sym on))
  ask_idle v (Some i) e on = ask_idle_by v i e (may_retire v i.count (get S.entries i.base))

  ask_nack_by : (v : OpName) → get S.mail.nacks v ≡ Some tt → (x : Option Version) → get S.versions v ≡ x
      → Asking (nacked_at S.versions v x).part
      (posted_all (taken S.mail (event.Nack v)) (nacked_at S.versions v x).sent)
  ask_nack_by v there None e =
      let r = (h.nacks v there).0 in absurd (none-some r.1.0 (sym e ∙ r.1.1))
  ask_nack_by v there (Some x) e =
      joint_settled Asking IsJoint-Asking (put_version S.versions v (refused_once x)) (taken S.mail (event.Nack v)) v
      (asking_refused S.versions S.mail h v x there)

  ask_nack : (v : OpName) → is_some (get S.mail.nacks v) ≡ true
      → AskingOf (nack_message_taken (without S (event.Nack v)) v)
  ask_nack v on = ask_nack_by v (some_unit (get S.mail.nacks v) on) (get S.versions v) refl

  ask_retire_sent : (v : OpName) (x : Version) (storage : Option StorageName)
      → Asking (drop_version S.versions v) (taken S.mail (event.Retire v))
      → Asking (drop_version S.versions v)
      (posted_all (taken S.mail (event.Retire v)) (sent_by_retire v x.object storage))
  ask_retire_sent v x None k = k
  ask_retire_sent v x (Some Home) k = k
  ask_retire_sent v x (Some (Buffer n)) k = k

  ask_retire : (v : OpName) → is_some (get S.mail.retires v) ≡ true → (x : Option Version) → can_retire m S x ≡ true
      → AskingOf (retire_version m (without S (event.Retire v)) v x)
  ask_retire v there None on = absurd (true≢false (sym on))
  ask_retire v there (Some x) on =
      ask_retire_sent v x x.storage (asking_retired S.versions S.mail h v (some_unit (get S.mail.retires v) there))

  ask_copy_sent : (c : CopyState) (last : Bool) → Asking S.versions (posted_all S.mail (sent_by_copy c last))
  ask_copy_sent c true = h
  ask_copy_sent c false = h

  ask_copy : (b : ℕ) (c : Option CopyState) → AskingOf (after_copy S b c)
  ask_copy b None = h
  ask_copy b (Some c) = ask_copy_sent c (is_last_piece c)

  ask_gone : (v : OpName) (c : Option GoneContents) → AskingOf (gone_message_taken (without S (event.Gone v)) v c)
  ask_gone v None = h
  ask_gone v (Some g) = h

  ask_after_event : (e : Event) → IsEnabled m S e → AskingOf (after_event m S e)
  unfolding is_enabled after_event
  ask_after_event event.Main on = ask_main (call_next m S)
  ask_after_event event.Take on = ask_take S.inbox
  ask_after_event (event.Decode o) on = ask_decode o (get S.mail.decodes o)
  ask_after_event (event.Ack o) on = h
  ask_after_event (event.Open o) on = ask_open o (get S.mail.opens o) refl
  ask_after_event (event.Use o) on = ask_use o (get S.mail.uses o)
  ask_after_event (event.Ready o) on = ask_ready o (get S.mail.readies o)
  ask_after_event (event.Link o) on = ask_link o (get S.mail.links o)
  ask_after_event (event.Start w) on = ask_start w S.queue
  ask_after_event (event.Exec w) on = ask_exec w (get S.workers w)
  ask_after_event (event.Finish w) on = ask_finish w (get S.workers w)
  ask_after_event (event.Release o) on = ask_release o (get S.mail.releases o)
  ask_after_event (event.Bye o) on = ask_bye o (get S.mail.byes o)
  ask_after_event (event.Idle v) on = ask_idle v (get S.mail.idles v) refl on
  ask_after_event (event.Nack v) on = ask_nack v on
  ask_after_event (event.Retire v) on =
      let both = and_parts (is_some (get S.mail.retires v)) (can_retire m S (get S.versions v)) on in
      ask_retire v both.0 (get S.versions v) both.1
  ask_after_event (event.Copy b) on = ask_copy b (get S.copies b)
  ask_after_event (event.Gone v) on = ask_gone v (get S.mail.gones v)

-- with the openings
abbrev pub IsAskingSound : TasksFact
IsAskingSound m ts S = AreOpeningsSound m ts S × AskingOf S

-- every event keeps it
pub IsAskingSound-after_event : IsKept IsAskingSound
IsAskingSound-after_event m ts S e h on =
    (AreOpeningsSound-after_event m ts S e h.0 on, ask_after_event m ts S h.0 h.1 e on)

-- the first state has it
pub IsAskingSound-initial_state : (m : Machine) (i : ImageState) → IsAskingSound m [] (initial_state i)
IsAskingSound-initial_state m i = (
  AreOpeningsSound-initial_state m i,
  record {
    idles = λ v i e. absurd (none-some i (sym (get-empty name_cmp v) ∙ e));
    nacks = λ v e. absurd (none-some tt (sym (get-empty name_cmp v) ∙ e));
    retires = λ v e. absurd (none-some tt (sym (get-empty name_cmp v) ∙ e));
    asking = λ v count a. absurd (none-some a.0 (sym (get-empty name_cmp v) ∙ a.1));
  },
)

-- the law
pub asking_of_runs : AskingLaw
asking_of_runs =
    law_from IsAskingSound HasAsking IsAskingSound-initial_state IsAskingSound-after_event (λ m ts S h. h.1)
