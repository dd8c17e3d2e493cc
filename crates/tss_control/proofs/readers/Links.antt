-- No event but a use and a link changes which links are under way.
use Rattle.std.proofs.Common.{◌≡◌, ℕ, zero, suc, Bool, true, false, List, [], ◌∷◌, Option, Some, None, refl, ◌∙◌}
use Rattle.std.specs.Prelude.{◌++◌, if◌then◌else◌}
use Rattle.std.specs.FinMap.{get}
use Rattle.tss_base.specs.declared.range.Range.{Range}
use Rattle.tss_base.specs.declared.operand.OpName.{OpName}
use Rattle.tss_base.specs.declared.operand.Mode.{Mode}
use Rattle.tss_base.specs.declared.operand.Mode.TheVariants.{Input, Output, Inout}
use Rattle.tss_base.specs.declared.operand.Operand.{Operand}
use Rattle.tss_base.specs.declared.operand.Task.{Task}
use Rattle.tss_base.specs.declared.machine.Machine.{Machine}
use Rattle.tss_base.specs.declared.event.Event.TheVariants as event
use Rattle.tss_base.specs.declared.marks.How.{How}
use Rattle.tss_base.specs.declared.marks.How.TheVariants.{Beside, Over}
use Rattle.tss_base.specs.declared.marks.Follow.{Follow}
use Rattle.tss_base.specs.Names.{Named}
use Rattle.tss_model.specs.Access.{operands_of}
use Rattle.tss_protocol.specs.Mail.{StorageName, Home, Buffer, Source, OpenContents, ReleaseContents, IdleContents}
use Rattle.tss_protocol.specs.Mail.{GoneContents, Message, Link, Bye}
use Rattle.tss_protocol.specs.Mail.{Mail, posted, posted_all}
use Rattle.tss_protocol.specs.State.{State, Busy, Flying, Entry, Version, CopyState}
use Rattle.tss_protocol.specs.Gateway.{decodes_from}
use Rattle.tss_protocol.specs.Renaming.{decode_message, live_message, may_retire, idle_by}
use Rattle.tss_protocol.specs.Versions.{Settling, ready_with, may_die, may_ask, settle_asking, settle_how, settle_by}
use Rattle.tss_protocol.specs.Versions.{settle_at, settle, settled, unchanged, opened_how, opened_by, head_ready}
use Rattle.tss_protocol.specs.Versions.{released_by, released_at, nacked_at}
use Rattle.tss_protocol.specs.Buffers.{sent_by_retire, sent_by_copy, is_last_piece}
use Rattle.tss_protocol.specs.UnitMachine.{after_event, without, after_take, decode_message_taken, open_message_taken}
use Rattle.tss_protocol.specs.UnitMachine.{ready_message_taken, after_start, start_task, after_exec, after_finish}
use Rattle.tss_protocol.specs.UnitMachine.{release_message_taken, bye_message_taken, idle_message_taken, retire_version}
use Rattle.tss_protocol.specs.UnitMachine.{after_copy, gone_message_taken}
use Rattle.tss_protocol.proofs.SentLemmas.{AllSent, AllSent-append, after_ready-all, flight_after_finish-all}

-- ---- messages that are no links

-- any other kind
abbrev pub IsNoLink : Message → Type 0
IsNoLink (Link o next) = ⊥
IsNoLink m = Unit {0}

posted-no_link : (m : Mail) (x : Message) → IsNoLink x → (posted m x).links ≡ m.links
posted-no_link m (Link o next) h = absurd h
posted-no_link m other h = refl

-- such messages leave the links as they were
pub links_kept : (m : Mail) (xs : List Message) → AllSent IsNoLink xs → (posted_all m xs).links ≡ m.links
links_kept m [] h = refl
links_kept m (x ∷ xs) h = links_kept (posted m x) xs h.1 ∙ posted-no_link m x h.0

-- ---- what versions send

-- a ready is none
pub ready_with-no_link : (o v : OpName) (storage : Option StorageName) → AllSent IsNoLink (ready_with o v storage)
ready_with-no_link o v None = tt
ready_with-no_link o v (Some s) = (tt, tt)

module _ (vs : Named Version) (v : OpName) (next : Settling)
    (rest : (ws : Named Version) (w : OpName) → AllSent IsNoLink (next ws w).sent) where
  how-no_link : (x : Version) (f : Follow) (how : How) → AllSent IsNoLink (settle_how vs v x f next how).sent
  how-no_link x f Beside = (tt, rest _ _)
  how-no_link x f Over = (tt, ready_with-no_link f.version f.version x.storage)

  dying-no_link : (x : Version) (f : Follow) (b : Bool)
      → AllSent IsNoLink (if b then settle_how vs v x f next f.how else unchanged vs).sent
  dying-no_link x f true = how-no_link x f f.how
  dying-no_link x f false = tt

  asking-no_link : (x : Version) (b : Bool) → AllSent IsNoLink (if b then settle_asking vs v x else unchanged vs).sent
  asking-no_link x true = (tt, tt)
  asking-no_link x false = tt

  by-no_link : (x : Version) (f : Option Follow) → AllSent IsNoLink (settle_by vs v x next f).sent
  by-no_link x None = asking-no_link x (may_ask x)
  by-no_link x (Some f) = dying-no_link x f (may_die x f.last)

  at-no_link : (x : Option Version) → AllSent IsNoLink (settle_at vs v next x).sent
  at-no_link None = tt
  at-no_link (Some x) = by-no_link x x.successor

settle-no_link : (n : ℕ) (vs : Named Version) (v : OpName) → AllSent IsNoLink (settle n vs v).sent
unfolding settle
settle-no_link zero vs v = tt
settle-no_link (suc n) vs v = at-no_link vs v (settle n) (settle-no_link n) (get vs v)

settled-no_link : (vs : Named Version) (v : OpName) → AllSent IsNoLink (settled vs v).sent
settled-no_link vs v = settle-no_link _ vs v

module _ (vs : Named Version) (o : OpName) where
  opened_how-no_link : (c : OpenContents) (f : Follow) (how : How) → AllSent IsNoLink (opened_how vs o c f how).sent
  opened_how-no_link c f Beside =
      AllSent-append IsNoLink (ready_with o o c.storage) _ (ready_with-no_link o o c.storage) (settled-no_link _ _)
  opened_how-no_link c f Over = settled-no_link _ _

  opened_by-no_link : (c : OpenContents) (f : Option Follow) → AllSent IsNoLink (opened_by vs o c f).sent
  opened_by-no_link c None = ready_with-no_link o o c.storage
  opened_by-no_link c (Some f) = opened_how-no_link c f f.how

  head_ready-no_link : (v : OpName) (x : Version) (head : Option OpName) → AllSent IsNoLink (head_ready v x head)
  head_ready-no_link v x None = tt
  head_ready-no_link v x (Some h) = ready_with-no_link h v x.storage

  released_by-no_link : (v : OpName) (x : Version) (producer : Bool)
      → AllSent IsNoLink (released_by vs o v x producer).sent
  released_by-no_link v x true =
      AllSent-append IsNoLink (head_ready v x x.head ++ Bye o false ∷ []) _
      (AllSent-append IsNoLink (head_ready v x x.head) _ (head_ready-no_link v x x.head) (tt, tt))
      (settled-no_link _ _)
  released_by-no_link v x false = (tt, settled-no_link _ _)

  released_at-no_link : (v : OpName) (producer : Bool) (x : Option Version)
      → AllSent IsNoLink (released_at vs o v producer x).sent
  released_at-no_link v producer None = tt
  released_at-no_link v producer (Some x) = released_by-no_link v x producer

  nacked_at-no_link : (x : Option Version) → AllSent IsNoLink (nacked_at vs o x).sent
  nacked_at-no_link None = tt
  nacked_at-no_link (Some x) = settled-no_link _ _

-- ---- other events

decodes-no_link : (n place : ℕ) (os : List Operand) → AllSent IsNoLink (decodes_from n place os)
decodes-no_link n place [] = tt
decodes-no_link n place (o ∷ os) = (tt, decodes-no_link n (suc place) os)

live-no_link : (o : OpName) (p : Operand) (e : Entry) (mode : Mode) → IsNoLink (live_message o p e mode)
live-no_link o p e Input = tt
live-no_link o p e Output = tt
live-no_link o p e Inout = tt

decode-no_link : (o : OpName) (p : Operand) (e : Option Entry) → IsNoLink (decode_message o p e)
decode-no_link o p None = tt
decode-no_link o p (Some e) = live-no_link o p e p.mode

retire-no_link : (v : OpName) (x : Range) (s : Option StorageName) → AllSent IsNoLink (sent_by_retire v x s)
retire-no_link v x None = tt
retire-no_link v x (Some Home) = (tt, tt)
retire-no_link v x (Some (Buffer n)) = tt

copy-no_link : (c : CopyState) (last : Bool) → AllSent IsNoLink (sent_by_copy c last)
copy-no_link c true = (tt, tt)
copy-no_link c false = tt

module _ (m : Machine) (S : State) where
  -- after the events
  abbrev Kept : State → Type 0
  Kept T = T.mail.links ≡ S.mail.links

  take_links : (t : Option Task) → Kept (after_take S t)
  take_links None = refl
  take_links (Some t) = links_kept S.mail _ (decodes-no_link t.number 0 (operands_of t))

  -- take
  pub links-take : Kept (after_event m S event.Take)
  unfolding after_event
  links-take = take_links S.inbox

  decode_links : (o : OpName) (p : Option Operand) → Kept (decode_message_taken m (without S (event.Decode o)) o p)
  decode_links o None = refl
  decode_links o (Some p) =
      posted-no_link (without S (event.Decode o)).mail _ (decode-no_link o p (get S.entries p.object.base))

  -- decode
  pub links-decode : (o : OpName) → Kept (after_event m S (event.Decode o))
  unfolding after_event
  links-decode o = decode_links o (get S.mail.decodes o)

  -- ack
  pub links-ack : (o : OpName) → Kept (after_event m S (event.Ack o))
  unfolding after_event
  links-ack o = refl

  open_links : (o : OpName) (c : Option OpenContents) → Kept (open_message_taken (without S (event.Open o)) o c)
  open_links o None = refl
  open_links o (Some c) = links_kept _ _ (opened_by-no_link S.versions o c c.follows)

  -- open
  pub links-open : (o : OpName) → Kept (after_event m S (event.Open o))
  unfolding after_event
  links-open o = open_links o (get S.mail.opens o)

  ready_links : (o : OpName) (s : Option Source) → Kept (ready_message_taken (without S (event.Ready o)) o s)
  ready_links o None = refl
  ready_links o (Some s) = links_kept _ _ (after_ready-all IsNoLink (λ o source. tt) (λ o r. tt) S.flight o s)

  -- ready
  pub links-ready : (o : OpName) → Kept (after_event m S (event.Ready o))
  unfolding after_event
  links-ready o = ready_links o (get S.mail.readies o)

  start_task_links : (w t : ℕ) (ts : List ℕ) (x : Option Flying) → Kept (start_task m S w t ts x)
  start_task_links w t ts None = refl
  start_task_links w t ts (Some x) = refl

  start_links : (w : ℕ) (ts : List ℕ) → Kept (after_start m S w ts)
  start_links w [] = refl
  start_links w (t ∷ ts) = start_task_links w t ts (get S.flight t)

  -- start
  pub links-start : (w : ℕ) → Kept (after_event m S (event.Start w))
  unfolding after_event
  links-start w = start_links w S.queue

  exec_links : (w : ℕ) (b : Option Busy) → Kept (after_exec m S w b)
  exec_links w None = refl
  exec_links w (Some b) = refl

  -- exec
  pub links-exec : (w : ℕ) → Kept (after_event m S (event.Exec w))
  unfolding after_event
  links-exec w = exec_links w (get S.workers w)

  finish_links : (w : ℕ) (b : Option Busy) → Kept (after_finish S w b)
  finish_links w None = refl
  finish_links w (Some b) =
      links_kept S.mail _ (flight_after_finish-all IsNoLink (λ o source. tt) (λ o r. tt) S.flight b.task.number)

  -- finish
  pub links-finish : (w : ℕ) → Kept (after_event m S (event.Finish w))
  unfolding after_event
  links-finish w = finish_links w (get S.workers w)

  release_links : (o : OpName) (r : Option ReleaseContents)
      → Kept (release_message_taken (without S (event.Release o)) o r)
  release_links o None = refl
  release_links o (Some r) =
      links_kept _ _ (released_at-no_link S.versions o r.version r.producer (get S.versions r.version))

  -- release
  pub links-release : (o : OpName) → Kept (after_event m S (event.Release o))
  unfolding after_event
  links-release o = release_links o (get S.mail.releases o)

  bye_links : (o : OpName) (b : Option Bool) → Kept (bye_message_taken (without S (event.Bye o)) o b)
  bye_links o None = refl
  bye_links o (Some b) = refl

  -- bye
  pub links-bye : (o : OpName) → Kept (after_event m S (event.Bye o))
  unfolding after_event
  links-bye o = bye_links o (get S.mail.byes o)

  idle_answered : (v : OpName) (i : IdleContents) (e : Option Entry) (b : Bool)
      → AllSent IsNoLink (idle_by S.entries v i.base e b).sent
  idle_answered v i e true = (tt, tt)
  idle_answered v i e false = (tt, tt)

  idle_links : (v : OpName) (i : Option IdleContents) → Kept (idle_message_taken (without S (event.Idle v)) v i)
  idle_links v None = refl
  idle_links v (Some i) = links_kept _ _ (idle_answered v i (get S.entries i.base)
      (may_retire v i.count (get S.entries i.base)))

  -- idle
  pub links-idle : (v : OpName) → Kept (after_event m S (event.Idle v))
  unfolding after_event
  links-idle v = idle_links v (get S.mail.idles v)

  -- nack
  pub links-nack : (v : OpName) → Kept (after_event m S (event.Nack v))
  unfolding after_event
  links-nack v = links_kept _ _ (nacked_at-no_link S.versions v (get S.versions v))

  retire_links : (v : OpName) (x : Option Version) → Kept (retire_version m (without S (event.Retire v)) v x)
  retire_links v None = refl
  retire_links v (Some x) = links_kept _ _ (retire-no_link v x.object x.storage)

  -- retire
  pub links-retire : (v : OpName) → Kept (after_event m S (event.Retire v))
  unfolding after_event
  links-retire v = retire_links v (get S.versions v)

  copy_links : (b : ℕ) (c : Option CopyState) → Kept (after_copy S b c)
  copy_links b None = refl
  copy_links b (Some c) = links_kept S.mail _ (copy-no_link c (is_last_piece c))

  -- copy
  pub links-copy : (b : ℕ) → Kept (after_event m S (event.Copy b))
  unfolding after_event
  links-copy b = copy_links b (get S.copies b)

  gone_links : (v : OpName) (g : Option GoneContents) → Kept (gone_message_taken (without S (event.Gone v)) v g)
  gone_links v None = refl
  gone_links v (Some g) = refl

  -- gone
  pub links-gone : (v : OpName) → Kept (after_event m S (event.Gone v))
  unfolding after_event
  links-gone v = gone_links v (get S.mail.gones v)
