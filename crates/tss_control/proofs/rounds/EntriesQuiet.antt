-- Events that change no version, no copy, and no message of which entries speak: entries are as they were.
use Rattle.std.proofs.Common.{◌≡◌, ◌≢◌, ℕ, suc, Bool, true, false, List, [], ◌∷◌, Option, Some, None, refl, sym, ap}
use Rattle.std.proofs.Common.{◌∙◌, true≢false}
use Rattle.std.specs.FinMap.{get}
use Rattle.tss_base.specs.declared.operand.OpName.{OpName}
use Rattle.tss_base.specs.declared.operand.Operand.{Operand}
use Rattle.tss_base.specs.declared.operand.Task.{Task}
use Rattle.tss_base.specs.declared.machine.Machine.{Machine}
use Rattle.tss_base.specs.declared.event.Event.{Event}
use Rattle.tss_base.specs.declared.event.Event.TheVariants as event
use Rattle.tss_base.specs.declared.marks.Farewell.{Farewell}
use Rattle.tss_base.specs.declared.marks.Farewell.TheVariants as farewell
use Rattle.tss_model.specs.Access.{operands_of}
use Rattle.tss_protocol.specs.Mail.{Source, Message, Open, Use}
use Rattle.tss_protocol.specs.Mail.{Retire, Gone, Mail, posted, posted_all}
use Rattle.tss_protocol.specs.State.{State, OperandState, Flying, Busy}
use Rattle.tss_protocol.specs.Gateway.{decodes_from}
use Rattle.tss_protocol.specs.UnitMachine.{after_event, with_sent, without, after_take, ready_message_taken}
use Rattle.tss_protocol.specs.UnitMachine.{link_message_taken, after_start, start_task, after_exec, after_finish}
use Rattle.tss_protocol.specs.UnitMachine.{bye_message_taken}
use Rattle.tss_phases.specs.Phase.{Phase, Ahead, Decoding, Sent, Told, Releasing, Leaving}
use Rattle.tss_phases.specs.Phase.{LookUps, look_ups, where_there, absent_phase, record_phase, station_phase}
use Rattle.tss_phases.specs.Phase.{phase_at, phase_of, is_ahead, is_decoded}
use Rattle.tss_phases.specs.Orderly.{FitsPhase, IsOrderly, AreOrderly}
use Rattle.tss_phases.proofs.PhaseLemmas.{phase_decoding}
use Rattle.tss_phases.proofs.Tests.{not_both}
use Rattle.tss_locality.proofs.LeftFields.{Leaves-after_event}
use Rattle.tss_protocol.proofs.SentLemmas.{AllSent, after_ready-all, after_link-all, flight_after_finish-all}
use Rattle.tss_control.proofs.rounds.EntriesFrames.{SameObjects}

-- ---- decoded operands

module _ (l : LookUps) (o : IsOrderly l) where
  ahead_by : (p : Phase) → FitsPhase p l → is_decoded p ≡ true → l.ahead ≡ false
  ahead_by Ahead f d = absurd (true≢false (sym d))
  ahead_by Decoding f d = absurd (true≢false (sym d))
  ahead_by other f d = f.1

  -- of an operand that has been decoded no decode is under way, and its task was taken
  pub decoded_shows : is_decoded (phase_at l) ≡ true → (l.decoding ≡ None) × (l.ahead ≡ false)
  decoded_shows d = (by l.decoding refl, ahead_by (phase_at l) o.fits d)
    where
      by : (x : Option Operand) → l.decoding ≡ x → l.decoding ≡ None
      by None e = e
      by (Some x) e = absurd (not_both (is_decoded (phase_at l)) d (ap is_decoded (phase_decoding l x e)))

-- a look-up of another phase
past_decoding : {X : Type 0} (x : Option X) (p rest : Phase) → p ≢ Decoding → rest ≢ Decoding
    → where_there x p rest ≢ Decoding
past_decoding None p rest a b = b
past_decoding (Some x) p rest a b = a

absent_apart : (b : Bool) → absent_phase b ≢ Decoding
absent_apart true e = cc
absent_apart false e = cc

record_apart : (f : Farewell) (s : Option Source) → record_phase f s ≢ Decoding
record_apart farewell.Nothing None e = cc
record_apart farewell.Nothing (Some s) e = cc
record_apart farewell.Promised s e = cc
record_apart farewell.Left s e = cc

station_apart : (r : Option OperandState) (b : Bool) → station_phase r b ≢ Decoding
station_apart None b = absent_apart b
station_apart (Some r) b = record_apart r.farewell r.source

-- without a decode the rest gives the phase
phase_undecoded : (l : LookUps) → l.decoding ≡ None → phase_at l
    ≡ where_there l.opening Sent (where_there l.using Sent (where_there l.telling Told
    (where_there l.releasing Releasing (where_there l.leaving Leaving (station_phase l.station l.ahead)))))
phase_undecoded l e = λ i.
    where_there (e i) Decoding
    (where_there l.opening Sent
    (where_there l.using Sent
    (where_there l.telling Told
    (where_there l.releasing Releasing (where_there l.leaving Leaving (station_phase l.station l.ahead))))))

module _ (l : LookUps) (o : IsOrderly l) (none : l.decoding ≡ None) (taken : l.ahead ≡ false) where
  decoded_by : (p : Phase) → FitsPhase p l → p ≢ Decoding → is_decoded p ≡ true
  decoded_by Ahead f apart = absurd (not_both l.ahead f.1 taken)
  decoded_by Decoding f apart = absurd (apart refl)
  decoded_by other f apart = refl

  -- and the other way round
  pub decoded_from : is_decoded (phase_at l) ≡ true
  decoded_from =
      decoded_by (phase_at l) o.fits
      (λ e. past_decoding l.opening Sent _ (λ e. cc)
      (past_decoding l.using Sent _ (λ e. cc)
      (past_decoding l.telling Told _ (λ e. cc)
      (past_decoding l.releasing Releasing _ (λ e. cc)
      (past_decoding l.leaving Leaving _ (λ e. cc) (station_apart l.station l.ahead)))))
      (sym (phase_undecoded l none) ∙ e))

-- an operand that is decoded after an event was decoded before, where its decode and its task are left
pub decoded_before : (S T : State) → AreOrderly S → AreOrderly T → (o : OpName)
    → get T.mail.decodes o ≡ get S.mail.decodes o → is_ahead T o.task ≡ is_ahead S o.task
    → is_decoded (phase_of T o) ≡ true → is_decoded (phase_of S o) ≡ true
decoded_before S T before after o same ahead d =
    let shown = decoded_shows (look_ups T o) (after o) d in
    decoded_from (look_ups S o) (before o) (sym same ∙ shown.0) (sym ahead ∙ shown.1)

-- ---- messages

-- a message of which entries don't speak
abbrev pub IsQuiet : Message → Type 0
IsQuiet (Open o c) = ⊥
IsQuiet (Use o v) = ⊥
IsQuiet (Retire v) = ⊥
IsQuiet (Gone v g) = ⊥
IsQuiet other = Unit {0}

-- the messages of which they do are left
pub record SameMail (m n : Mail) : Type 0 where
  pub opens : n.opens ≡ m.opens
  pub uses : n.uses ≡ m.uses
  pub retires : n.retires ≡ m.retires
  pub gones : n.gones ≡ m.gones

mail_itself : (m : Mail) → SameMail m m
mail_itself m = record { opens = refl; uses = refl; retires = refl; gones = refl }

mail_posted : (m : Mail) (x : Message) → IsQuiet x → SameMail m (posted m x)
mail_posted m (Open o c) q = absurd q
mail_posted m (Use o v) q = absurd q
mail_posted m (Retire v) q = absurd q
mail_posted m (Gone v g) q = absurd q
mail_posted m other q = record { opens = refl; uses = refl; retires = refl; gones = refl }

-- by quiet messages
pub mail_posted_all : (m : Mail) (xs : List Message) → AllSent IsQuiet xs → SameMail m (posted_all m xs)
mail_posted_all m [] q = mail_itself m
mail_posted_all m (x ∷ xs) q =
    let one = mail_posted m x q.0 in
    let rest = mail_posted_all (posted m x) xs q.1 in
    record {
      opens = rest.opens ∙ one.opens;
      uses = rest.uses ∙ one.uses;
      retires = rest.retires ∙ one.retires;
      gones = rest.gones ∙ one.gones;
    }

decodes_quiet : (n place : ℕ) (os : List Operand) → AllSent IsQuiet (decodes_from n place os)
decodes_quiet n place [] = tt
decodes_quiet n place (o ∷ os) = (tt, decodes_quiet n (suc place) os)

-- ---- events

objects_itself : (S : State) → SameObjects S S
objects_itself S =
    record { versions = refl; copies = refl; opens = refl; uses = refl; retires = refl; gones = refl }

objects_sent : (S T : State) (ms : List Message) → SameObjects S T → AllSent IsQuiet ms → SameObjects S (with_sent T ms)
objects_sent S T ms s q =
    let k = mail_posted_all T.mail ms q in
    record {
      versions = s.versions;
      copies = s.copies;
      opens = k.opens ∙ s.opens;
      uses = k.uses ∙ s.uses;
      retires = k.retires ∙ s.retires;
      gones = k.gones ∙ s.gones;
    }

module _ (m : Machine) (S : State) where
  quiet_taken : (t : Option Task) → SameObjects S (after_take S t)
  quiet_taken None = objects_itself S
  quiet_taken (Some t) = objects_sent S _ _
      (record { versions = refl; copies = refl; opens = refl; uses = refl; retires = refl; gones = refl })
      (decodes_quiet t.number 0 (operands_of t))

  quiet_ready : (o : OpName) (s : Option Source) → SameObjects S (ready_message_taken (without S (event.Ready o)) o s)
  quiet_ready o None =
      record { versions = refl; copies = refl; opens = refl; uses = refl; retires = refl; gones = refl }
  quiet_ready o (Some s) = objects_sent S _ _
      (record { versions = refl; copies = refl; opens = refl; uses = refl; retires = refl; gones = refl })
      (after_ready-all IsQuiet (λ o s. tt) (λ o r. tt) S.flight o s)

  quiet_link : (o : OpName) (next : Option OpName)
      → SameObjects S (link_message_taken (without S (event.Link o)) o next)
  quiet_link o None =
      record { versions = refl; copies = refl; opens = refl; uses = refl; retires = refl; gones = refl }
  quiet_link o (Some next) = objects_sent S _ _
      (record { versions = refl; copies = refl; opens = refl; uses = refl; retires = refl; gones = refl })
      (after_link-all IsQuiet (λ o s. tt) (λ o r. tt) S.flight o next)

  quiet_bye : (o : OpName) (p : Option Bool) → SameObjects S (bye_message_taken (without S (event.Bye o)) o p)
  quiet_bye o None =
      record { versions = refl; copies = refl; opens = refl; uses = refl; retires = refl; gones = refl }
  quiet_bye o (Some p) =
      record { versions = refl; copies = refl; opens = refl; uses = refl; retires = refl; gones = refl }

  quiet_start_task : (w t : ℕ) (ts : List ℕ) (x : Option Flying) → SameObjects S (start_task m S w t ts x)
  quiet_start_task w t ts None = objects_itself S
  quiet_start_task w t ts (Some x) =
      record { versions = refl; copies = refl; opens = refl; uses = refl; retires = refl; gones = refl }

  quiet_start : (w : ℕ) (queue : List ℕ) → SameObjects S (after_start m S w queue)
  quiet_start w [] = objects_itself S
  quiet_start w (t ∷ ts) = quiet_start_task w t ts (get S.flight t)

  quiet_exec : (w : ℕ) (b : Option Busy) → SameObjects S (after_exec m S w b)
  quiet_exec w None = objects_itself S
  quiet_exec w (Some b) =
      record { versions = refl; copies = refl; opens = refl; uses = refl; retires = refl; gones = refl }

  quiet_finish : (w : ℕ) (b : Option Busy) → SameObjects S (after_finish S w b)
  quiet_finish w None = objects_itself S
  quiet_finish w (Some b) = objects_sent S _ _
      (record { versions = refl; copies = refl; opens = refl; uses = refl; retires = refl; gones = refl })
      (flight_after_finish-all IsQuiet (λ o s. tt) (λ o r. tt) S.flight b.task.number)

-- the events that change nothing of which entries speak
abbrev pub IsQuietEvent : Event → Type 0
IsQuietEvent event.Take = Unit {0}
IsQuietEvent (event.Ack o) = Unit {0}
IsQuietEvent (event.Ready o) = Unit {0}
IsQuietEvent (event.Link o) = Unit {0}
IsQuietEvent (event.Start w) = Unit {0}
IsQuietEvent (event.Exec w) = Unit {0}
IsQuietEvent (event.Finish w) = Unit {0}
IsQuietEvent (event.Bye o) = Unit {0}
IsQuietEvent e = ⊥

-- none of it is changed by one of them
pub quiet_objects : (m : Machine) (S : State) (e : Event) → IsQuietEvent e → SameObjects S (after_event m S e)
unfolding after_event
quiet_objects m S event.Take q = quiet_taken m S S.inbox
quiet_objects m S (event.Ack o) q =
    record { versions = refl; copies = refl; opens = refl; uses = refl; retires = refl; gones = refl }
quiet_objects m S (event.Ready o) q = quiet_ready m S o (get S.mail.readies o)
quiet_objects m S (event.Link o) q = quiet_link m S o (get S.mail.links o)
quiet_objects m S (event.Start w) q = quiet_start m S w S.queue
quiet_objects m S (event.Exec w) q = quiet_exec m S w (get S.workers w)
quiet_objects m S (event.Finish w) q = quiet_finish m S w (get S.workers w)
quiet_objects m S (event.Bye o) q = quiet_bye m S o (get S.mail.byes o)
quiet_objects m S e q = absurd q

-- nor are the entries
pub quiet_entries : (m : Machine) (S : State) (e : Event) → IsQuietEvent e → (after_event m S e).entries ≡ S.entries
quiet_entries m S event.Take q = λ i. (Leaves-after_event m S event.Take i).entries
quiet_entries m S (event.Ack o) q = λ i. (Leaves-after_event m S (event.Ack o) i).entries
quiet_entries m S (event.Ready o) q = λ i. (Leaves-after_event m S (event.Ready o) i).entries
quiet_entries m S (event.Link o) q = λ i. (Leaves-after_event m S (event.Link o) i).entries
quiet_entries m S (event.Start w) q = λ i. (Leaves-after_event m S (event.Start w) i).entries
quiet_entries m S (event.Exec w) q = λ i. (Leaves-after_event m S (event.Exec w) i).entries
quiet_entries m S (event.Finish w) q = λ i. (Leaves-after_event m S (event.Finish w) i).entries
quiet_entries m S (event.Bye o) q = λ i. (Leaves-after_event m S (event.Bye o) i).entries
quiet_entries m S e q = absurd q
