-- The messages of every enabled event may be posted.
use Rattle.std.proofs.Common.{◌≡◌, true, Option, Some, None, refl, sym, ap, ◌∙◌, arith}
use Rattle.std.specs.FinMap.{get}
use Rattle.tss_base.specs.declared.operand.OpName.{OpName}
use Rattle.tss_base.specs.declared.operand.Operand.{Operand}
use Rattle.tss_base.specs.declared.operand.Task.{Task}
use Rattle.tss_base.specs.declared.machine.Machine.{Machine}
use Rattle.tss_base.specs.declared.event.Event.{Event}
use Rattle.tss_base.specs.declared.event.Event.TheVariants as event
use Rattle.tss_base.specs.declared.marks.Follow.{Follow}
use Rattle.tss_protocol.specs.Mail.{Source, OpenContents, ReleaseContents, IdleContents, taken, message_count}
use Rattle.tss_protocol.specs.State.{State, Busy, Version, CopyState}
use Rattle.tss_protocol.specs.Versions.{is_followable}
use Rattle.tss_protocol.specs.UnitMachine.{can_open_message, is_enabled, IsEnabled, after_event}
use Rattle.tss_names.proofs.PlainLemmas.{some_unit}
use Rattle.tss_control.proofs.rounds.Facts.{Facts}
use Rattle.tss_control.proofs.rounds.ReleaseFacts.{releases_facts}
use Rattle.tss_phases.proofs.Tests.{something}
use Rattle.std.specs.Prelude.{is_some}
use Rattle.std.proofs.lemmas.Option.{none-some, same_Some}
use Rattle.tss_control.proofs.GroundworkControl.{sizes_of_runs}
use Rattle.tss_conditions.specs.Posting.{take_sends, decode_sends, open_sends, use_sends, ready_sends, link_sends}
use Rattle.tss_conditions.specs.Posting.{finish_sends, release_sends, idle_sends, retire_sends, copy_sends}
use Rattle.tss_conditions.specs.Posting.{sent_by_event, ArePostable, PostingLaw}
use Rattle.tss_conditions.proofs.Known.{reached_after, facts_reached}
use Rattle.tss_conditions.proofs.Postable.{message_count-posted_all}
use Rattle.tss_conditions.proofs.PostingVersions.{postable_open, postable_use, postable_release, postable_nack}
use Rattle.tss_conditions.proofs.PostingVersions.{postable_retire}
use Rattle.tss_conditions.proofs.PostingTasks.{postable_take, postable_decode, postable_ready, postable_link}
use Rattle.tss_conditions.proofs.PostingTasks.{postable_finish, postable_idle, postable_copy}
use Rattle.tss_conditions.proofs.PostingMail.{mail_after}

module _ (m : Machine) (S : State) (facts : Facts m S) where
  open facts use {ground, ts, g, control as h}

  -- the version that an open follows is registered where the open may happen
  front_of : (k : Option Follow) → is_followable S.versions k ≡ true → (f : Follow) → k ≡ Some f
      → (x : Version) × (get S.versions f.version ≡ Some x)
  front_of None on f to = absurd (none-some f to)
  front_of (Some j) on f to =
      let x = something is_some (get S.versions j.version) refl on in
      (x.0, ap (λ (k : Follow). get S.versions k.version) (sym (same_Some j f to)) ∙ x.1)

  -- by what an event finds
  fresh_for : (e : Event) → IsEnabled m S e → ArePostable (taken S.mail e) (sent_by_event m S e)
  unfolding is_enabled
  fresh_for event.Main on = tt
  fresh_for event.Take on = by S.inbox refl
    where
      by : (t : Option Task) → S.inbox ≡ t → ArePostable S.mail (take_sends t)
      by None e = tt
      by (Some t) e = postable_take m S facts t e
  fresh_for (event.Decode o) on = by (get S.mail.decodes o) refl
    where
      by : (p : Option Operand) → get S.mail.decodes o ≡ p
          → ArePostable (taken S.mail (event.Decode o)) (decode_sends m S o p)
      by None e = tt
      by (Some p) e = postable_decode m S facts o p e
  fresh_for (event.Ack o) on = tt
  fresh_for (event.Open o) on = by (get S.mail.opens o) refl on
    where
      by : (c : Option OpenContents) → get S.mail.opens o ≡ c → can_open_message S c ≡ true
          → ArePostable (taken S.mail (event.Open o)) (open_sends S o c)
      by None e on = tt
      by (Some c) e on = postable_open m S facts o c e (front_of c.follows on)
  fresh_for (event.Use o) on = by (get S.mail.uses o) refl
    where
      by : (v : Option OpName) → get S.mail.uses o ≡ v → ArePostable (taken S.mail (event.Use o)) (use_sends S o v)
      by None e = tt
      by (Some v) e = postable_use m S facts o v e
  fresh_for (event.Ready o) on = by (get S.mail.readies o) refl
    where
      by : (s : Option Source) → get S.mail.readies o ≡ s
          → ArePostable (taken S.mail (event.Ready o)) (ready_sends S o s)
      by None e = tt
      by (Some s) e = postable_ready m S facts o s e
  fresh_for (event.Link o) on = by (get S.mail.links o) refl
    where
      by : (next : Option OpName) → get S.mail.links o ≡ next
          → ArePostable (taken S.mail (event.Link o)) (link_sends S o next)
      by None e = tt
      by (Some next) e = postable_link m S facts o next e
  fresh_for (event.Start w) on = tt
  fresh_for (event.Exec w) on = tt
  fresh_for (event.Finish w) on = by (get S.workers w) refl
    where
      by : (b : Option Busy) → get S.workers w ≡ b → ArePostable S.mail (finish_sends S b)
      by None e = tt
      by (Some b) e = postable_finish m S facts w b e
  fresh_for (event.Release o) on = by (get S.mail.releases o) refl
    where
      by : (c : Option ReleaseContents) → get S.mail.releases o ≡ c
          → ArePostable (taken S.mail (event.Release o)) (release_sends S o c)
      by None e = tt
      by (Some c) e =
          let k = releases_facts ts g S ground.round h.orderly h.holders o c e in
          postable_release m S facts o c e k.version k.there
  fresh_for (event.Bye o) on = tt
  fresh_for (event.Idle v) on = by (get S.mail.idles v) refl
    where
      by : (i : Option IdleContents) → get S.mail.idles v ≡ i
          → ArePostable (taken S.mail (event.Idle v)) (idle_sends S v i)
      by None e = tt
      by (Some i) e = postable_idle m S facts v i e
  fresh_for (event.Nack v) on = postable_nack m S facts v (some_unit (get S.mail.nacks v) on)
  fresh_for (event.Retire v) on = by (get S.versions v) refl
    where
      by : (x : Option Version) → get S.versions v ≡ x
          → ArePostable (taken S.mail (event.Retire v)) (retire_sends v x)
      by None e = tt
      by (Some x) e = postable_retire m S facts v x e
  fresh_for (event.Copy b) on = by (get S.copies b) refl
    where
      by : (c : Option CopyState) → get S.copies b ≡ c → ArePostable S.mail (copy_sends c)
      by None e = tt
      by (Some c) e = postable_copy m S facts b c e
  fresh_for (event.Gone v) on = tt

-- so every enabled event's
pub may_post : PostingLaw
may_post m i S e r on =
    let fresh = fresh_for m S (facts_reached m i S r) e on in
    let mail = mail_after m S e in
    let many = message_count-posted_all (taken S.mail e) (sent_by_event m S e) fresh in
    let next = reached_after m i S e r on in
    let T = after_event m S e in
    let few = (sizes_of_runs m i next.reachable.0 T r.accepted r.admissible next.reachable.1).messages in
    let same = ap message_count mail in
    record {
      fresh = fresh;
      mail = mail;
      room = omega (arith, many, few, same);
    }
