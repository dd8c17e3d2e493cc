-- The mail after an event is the mail without the message that it takes, with those that it sends.
use Rattle.std.proofs.Common.{◌≡◌, ℕ, Bool, List, [], ◌∷◌, Option, Some, None, refl}
use Rattle.std.specs.FinMap.{get}
use Rattle.tss_base.specs.declared.operand.OpName.{OpName}
use Rattle.tss_base.specs.declared.operand.Operand.{Operand}
use Rattle.tss_base.specs.declared.operand.Task.{Task}
use Rattle.tss_base.specs.declared.machine.Machine.{Machine}
use Rattle.tss_base.specs.declared.event.Event.{Event}
use Rattle.tss_base.specs.declared.event.Event.TheVariants as event
use Rattle.tss_model.specs.MainStep.{Call, main_call}
use Rattle.tss_protocol.specs.Mail.{Source, OpenContents, ReleaseContents, IdleContents, GoneContents, posted_all}
use Rattle.tss_protocol.specs.Mail.{taken}
use Rattle.tss_protocol.specs.State.{State, Flying, Busy, Version, CopyState}
use Rattle.tss_protocol.specs.MainEvent.{call_next, after_call, main_by}
use Rattle.tss_protocol.specs.UnitMachine.{without, after_event, after_take, decode_message_taken, open_message_taken}
use Rattle.tss_protocol.specs.UnitMachine.{use_message_taken, ready_message_taken, link_message_taken}
use Rattle.tss_protocol.specs.UnitMachine.{bye_message_taken, start_task, after_start, after_exec, after_finish}
use Rattle.tss_protocol.specs.UnitMachine.{release_message_taken, idle_message_taken, retire_version, after_copy}
use Rattle.tss_protocol.specs.UnitMachine.{gone_message_taken}
use Rattle.tss_conditions.specs.Posting.{take_sends, decode_sends, open_sends, use_sends, ready_sends, link_sends}
use Rattle.tss_conditions.specs.Posting.{finish_sends, release_sends, idle_sends, retire_sends, copy_sends}
use Rattle.tss_conditions.specs.Posting.{sent_by_event}

module _ (m : Machine) (S : State) where
  -- ---- by what an event finds

  main_mail : (c : Option Call) → (main_by m S c).mail ≡ S.mail
  main_mail None = refl
  main_mail (Some call) = by (main_call m.limits S.home S.main call).0 (main_call m.limits S.home S.main call).1
    where
      by : (main : _) (t : Option Task) → (after_call S (main, t)).mail ≡ S.mail
      by main None = refl
      by main (Some t) = refl

  take_mail : (t : Option Task) → (after_take S t).mail ≡ posted_all S.mail (take_sends t)
  take_mail None = refl
  take_mail (Some t) = refl

  decode_mail : (o : OpName) (p : Option Operand) → (decode_message_taken m (without S (event.Decode o)) o p).mail
      ≡ posted_all (taken S.mail (event.Decode o)) (decode_sends m S o p)
  decode_mail o None = refl
  decode_mail o (Some p) = refl

  open_mail : (o : OpName) (c : Option OpenContents) → (open_message_taken (without S (event.Open o)) o c).mail
      ≡ posted_all (taken S.mail (event.Open o)) (open_sends S o c)
  open_mail o None = refl
  open_mail o (Some c) = refl

  use_mail : (o : OpName) (v : Option OpName) → (use_message_taken (without S (event.Use o)) o v).mail
      ≡ posted_all (taken S.mail (event.Use o)) (use_sends S o v)
  use_mail o None = refl
  use_mail o (Some v) = refl

  ready_mail : (o : OpName) (s : Option Source) → (ready_message_taken (without S (event.Ready o)) o s).mail
      ≡ posted_all (taken S.mail (event.Ready o)) (ready_sends S o s)
  ready_mail o None = refl
  ready_mail o (Some s) = refl

  link_mail : (o : OpName) (next : Option OpName) → (link_message_taken (without S (event.Link o)) o next).mail
      ≡ posted_all (taken S.mail (event.Link o)) (link_sends S o next)
  link_mail o None = refl
  link_mail o (Some next) = refl

  start_mail : (w : ℕ) (queue : List ℕ) → (after_start m S w queue).mail ≡ S.mail
  start_mail w [] = refl
  start_mail w (t ∷ ts) = by (get S.flight t)
    where
      by : (x : Option Flying) → (start_task m S w t ts x).mail ≡ S.mail
      by None = refl
      by (Some x) = refl

  exec_mail : (w : ℕ) (b : Option Busy) → (after_exec m S w b).mail ≡ S.mail
  exec_mail w None = refl
  exec_mail w (Some b) = refl

  finish_mail : (w : ℕ) (b : Option Busy) → (after_finish S w b).mail ≡ posted_all S.mail (finish_sends S b)
  finish_mail w None = refl
  finish_mail w (Some b) = refl

  release_mail : (o : OpName) (r : Option ReleaseContents)
      → (release_message_taken (without S (event.Release o)) o r).mail
      ≡ posted_all (taken S.mail (event.Release o)) (release_sends S o r)
  release_mail o None = refl
  release_mail o (Some r) = refl

  bye_mail : (o : OpName) (promised : Option Bool) → (bye_message_taken (without S (event.Bye o)) o promised).mail
      ≡ taken S.mail (event.Bye o)
  bye_mail o None = refl
  bye_mail o (Some promised) = refl

  idle_mail : (v : OpName) (i : Option IdleContents) → (idle_message_taken (without S (event.Idle v)) v i).mail
      ≡ posted_all (taken S.mail (event.Idle v)) (idle_sends S v i)
  idle_mail v None = refl
  idle_mail v (Some i) = refl

  retire_mail : (v : OpName) (x : Option Version) → (retire_version m (without S (event.Retire v)) v x).mail
      ≡ posted_all (taken S.mail (event.Retire v)) (retire_sends v x)
  retire_mail v None = refl
  retire_mail v (Some x) = refl

  copy_mail : (b : ℕ) (c : Option CopyState) → (after_copy S b c).mail ≡ posted_all S.mail (copy_sends c)
  copy_mail b None = refl
  copy_mail b (Some c) = refl

  gone_mail : (v : OpName) (g : Option GoneContents) → (gone_message_taken (without S (event.Gone v)) v g).mail
      ≡ taken S.mail (event.Gone v)
  gone_mail v None = refl
  gone_mail v (Some g) = refl

  -- ---- every event

  -- the mail after it
  pub mail_after : (e : Event) → (after_event m S e).mail ≡ posted_all (taken S.mail e) (sent_by_event m S e)
  unfolding after_event
  mail_after event.Main = main_mail (call_next m S)
  mail_after event.Take = take_mail S.inbox
  mail_after (event.Decode o) = decode_mail o (get S.mail.decodes o)
  mail_after (event.Ack o) = refl
  mail_after (event.Open o) = open_mail o (get S.mail.opens o)
  mail_after (event.Use o) = use_mail o (get S.mail.uses o)
  mail_after (event.Ready o) = ready_mail o (get S.mail.readies o)
  mail_after (event.Link o) = link_mail o (get S.mail.links o)
  mail_after (event.Start w) = start_mail w S.queue
  mail_after (event.Exec w) = exec_mail w (get S.workers w)
  mail_after (event.Finish w) = finish_mail w (get S.workers w)
  mail_after (event.Release o) = release_mail o (get S.mail.releases o)
  mail_after (event.Bye o) = bye_mail o (get S.mail.byes o)
  mail_after (event.Idle v) = idle_mail v (get S.mail.idles v)
  mail_after (event.Nack v) = refl
  mail_after (event.Retire v) = retire_mail v (get S.versions v)
  mail_after (event.Copy b) = copy_mail b (get S.copies b)
  mail_after (event.Gone v) = gone_mail v (get S.mail.gones v)
