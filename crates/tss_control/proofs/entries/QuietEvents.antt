-- Events that change nothing of which entries and refusals speak keep them.
use Rattle.std.proofs.Common.{◌≡◌, ℕ, Bool, List, [], ◌∷◌, Option, Some, None, refl, ◌∙◌}
use Rattle.std.specs.FinMap.{get}
use Rattle.tss_base.specs.declared.operand.OpName.{OpName}
use Rattle.tss_base.specs.declared.operand.Task.{Task}
use Rattle.tss_base.specs.declared.machine.Machine.{Machine}
use Rattle.tss_base.specs.declared.event.Event.{Event}
use Rattle.tss_base.specs.declared.event.Event.TheVariants as event
use Rattle.tss_model.specs.Access.{operands_of}
use Rattle.tss_protocol.specs.Mail.{Source, Message, Idle, Nack}
use Rattle.tss_protocol.specs.Mail.{Retire, Mail, posted, posted_all}
use Rattle.tss_protocol.specs.State.{State, Flying, Busy}
use Rattle.tss_protocol.specs.UnitMachine.{IsEnabled, after_event, without, after_take, ready_message_taken}
use Rattle.tss_protocol.specs.UnitMachine.{link_message_taken, after_start, start_task, after_exec, after_finish}
use Rattle.tss_protocol.specs.UnitMachine.{bye_message_taken}
use Rattle.tss_phases.specs.Orderly.{AreOrderly}
use Rattle.tss_control.specs.Entries.{HasEntries, HasRetirement}
use Rattle.tss_protocol.proofs.SentLemmas.{AllSent, after_ready-all, after_link-all, flight_after_finish-all}
use Rattle.tss_names.proofs.AskingLemmas.{IsAside, decodes_aside}
use Rattle.tss_control.proofs.rounds.EntriesFrames.{DecodesNoMore, HasEntries-same}
use Rattle.tss_control.proofs.rounds.EntriesQuiet.{IsQuietEvent, quiet_objects, quiet_entries}
use Rattle.tss_control.proofs.entries.Decoded.{later_decodes_none, ack_decodes_none, take_decodes_none}
use Rattle.tss_control.proofs.rounds.RetirementFrames.{HasRetirement-same}
use Rattle.tss_control.proofs.rounds.Facts.{Basis}

-- ---- entries

module _ (m : Machine) (S : State) (basis : Basis m S) (before : AreOrderly S) where
  open basis use {all, ts, ground}

  quiet_decodes_none : (e : Event) → IsQuietEvent e → IsEnabled m S e → AreOrderly (after_event m S e)
      → DecodesNoMore ts S (after_event m S e)
  quiet_decodes_none event.Take q on after =
      λ o p at. take_decodes_none m all S before ground.numbers on o p (ground.known.operands o p at)
  quiet_decodes_none (event.Ack a) q on after = λ o p at. ack_decodes_none m all S before a o
  quiet_decodes_none (event.Ready a) q on after =
      λ o p at. later_decodes_none m all S before (event.Ready a) refl after o
  quiet_decodes_none (event.Link a) q on after = λ o p at. later_decodes_none m all S before (event.Link a) refl after o
  quiet_decodes_none (event.Start w) q on after =
      λ o p at. later_decodes_none m all S before (event.Start w) refl after o
  quiet_decodes_none (event.Exec w) q on after = λ o p at. later_decodes_none m all S before (event.Exec w) refl after o
  quiet_decodes_none (event.Finish w) q on after =
      λ o p at. later_decodes_none m all S before (event.Finish w) refl after o
  quiet_decodes_none (event.Bye a) q on after = λ o p at. later_decodes_none m all S before (event.Bye a) refl after o
  quiet_decodes_none e q on after = absurd q

  -- entries after such an event
  pub HasEntries-quiet : (e : Event) → IsQuietEvent e → IsEnabled m S e → AreOrderly (after_event m S e)
      → HasEntries ts S → HasEntries ts (after_event m S e)
  HasEntries-quiet e q on after h =
      HasEntries-same ts S (after_event m S e) (quiet_objects m S e q) (quiet_entries m S e q)
      (quiet_decodes_none e q on after) h

-- ---- nacks

posted_aside : (m : Mail) (x : Message) → IsAside x → (posted m x).nacks ≡ m.nacks
posted_aside m (Idle v i) q = absurd q
posted_aside m (Nack v) q = absurd q
posted_aside m (Retire v) q = absurd q
posted_aside m other q = refl

-- messages that aren't of one that asks leave the nacks
pub nacks_aside : (m : Mail) (xs : List Message) → AllSent IsAside xs → (posted_all m xs).nacks ≡ m.nacks
nacks_aside m [] q = refl
nacks_aside m (x ∷ xs) q = nacks_aside (posted m x) xs q.1 ∙ posted_aside m x q.0

module _ (m : Machine) (S : State) where
  nacks_taken : (t : Option Task) → (after_take S t).mail.nacks ≡ S.mail.nacks
  nacks_taken None = refl
  nacks_taken (Some t) = nacks_aside S.mail _ (decodes_aside t.number 0 (operands_of t))

  nacks_ready : (o : OpName) (s : Option Source)
      → (ready_message_taken (without S (event.Ready o)) o s).mail.nacks ≡ S.mail.nacks
  nacks_ready o None = refl
  nacks_ready o (Some s) = nacks_aside _ _ (after_ready-all IsAside (λ o s. tt) (λ o r. tt) S.flight o s)

  nacks_link : (o : OpName) (next : Option OpName)
      → (link_message_taken (without S (event.Link o)) o next).mail.nacks ≡ S.mail.nacks
  nacks_link o None = refl
  nacks_link o (Some next) = nacks_aside _ _ (after_link-all IsAside (λ o s. tt) (λ o r. tt) S.flight o next)

  nacks_bye : (o : OpName) (p : Option Bool)
      → (bye_message_taken (without S (event.Bye o)) o p).mail.nacks ≡ S.mail.nacks
  nacks_bye o None = refl
  nacks_bye o (Some p) = refl

  nacks_start_task : (w t : ℕ) (ts : List ℕ) (x : Option Flying)
      → (start_task m S w t ts x).mail.nacks ≡ S.mail.nacks
  nacks_start_task w t ts None = refl
  nacks_start_task w t ts (Some x) = refl

  nacks_start : (w : ℕ) (queue : List ℕ) → (after_start m S w queue).mail.nacks ≡ S.mail.nacks
  nacks_start w [] = refl
  nacks_start w (t ∷ ts) = nacks_start_task w t ts (get S.flight t)

  nacks_exec : (w : ℕ) (b : Option Busy) → (after_exec m S w b).mail.nacks ≡ S.mail.nacks
  nacks_exec w None = refl
  nacks_exec w (Some b) = refl

  nacks_finish : (w : ℕ) (b : Option Busy) → (after_finish S w b).mail.nacks ≡ S.mail.nacks
  nacks_finish w None = refl
  nacks_finish w (Some b) =
      nacks_aside _ _ (flight_after_finish-all IsAside (λ o s. tt) (λ o r. tt) S.flight b.task.number)

  quiet_nacks : (e : Event) → IsQuietEvent e → (after_event m S e).mail.nacks ≡ S.mail.nacks
  unfolding after_event
  quiet_nacks event.Take q = nacks_taken S.inbox
  quiet_nacks (event.Ack o) q = refl
  quiet_nacks (event.Ready o) q = nacks_ready o (get S.mail.readies o)
  quiet_nacks (event.Link o) q = nacks_link o (get S.mail.links o)
  quiet_nacks (event.Start w) q = nacks_start w S.queue
  quiet_nacks (event.Exec w) q = nacks_exec w (get S.workers w)
  quiet_nacks (event.Finish w) q = nacks_finish w (get S.workers w)
  quiet_nacks (event.Bye o) q = nacks_bye o (get S.mail.byes o)
  quiet_nacks e q = absurd q

  -- asking and refusing after such an event
  pub HasRetirement-quiet : (e : Event) → IsQuietEvent e → HasRetirement S → HasRetirement (after_event m S e)
  HasRetirement-quiet e q h =
      HasRetirement-same S (after_event m S e) (quiet_objects m S e q).versions (quiet_entries m S e q)
      (quiet_nacks e q) h
