-- Where operands are in order, an event leaves each phase as it is or takes it to one that comes next: no phase goes
-- back.
use Rattle.std.proofs.Common.{◌≡◌, ℕ, List, Bool, Option, Some, None, refl, ap, ◌∙◌, inl, inr, arith}
use Rattle.std.specs.Prelude.{◌&&◌, not, slice_get, option_map}
use Rattle.std.specs.FinMap.{get}
use Rattle.tss_base.specs.declared.operand.OpName.{OpName}
use Rattle.tss_base.specs.declared.operand.Operand.{Operand}
use Rattle.tss_base.specs.declared.operand.Task.{Task}
use Rattle.tss_base.specs.declared.machine.Machine.{Machine}
use Rattle.tss_base.specs.declared.event.Event.{Event}
use Rattle.tss_base.specs.declared.event.Event.TheVariants as event
use Rattle.tss_maps.proofs.Keys.{nat_order, decide_key}
use Rattle.tss_model.specs.Access.{operands_of}
use Rattle.tss_protocol.specs.Mail.{Message, Source, OpenContents, ReleaseContents}
use Rattle.tss_protocol.specs.State.{State, OperandState, Flying, Busy, Version}
use Rattle.tss_protocol.specs.Stations.{new_operand, has_passed, sent_by_ready, sent_by_link}
use Rattle.tss_protocol.specs.Versions.{after_open, after_use, after_nack}
use Rattle.tss_protocol.specs.Workers.{can_finish}
use Rattle.tss_protocol.specs.UnitMachine.{is_enabled, IsEnabled, after_event, after_take, can_decode_message}
use Rattle.tss_protocol.specs.UnitMachine.{can_open_message, can_use_message}
use Rattle.std.specs.Prelude.{is_some}
use Rattle.tss_phases.specs.Phase.{Ahead, Decoding, Sent, Waiting, Told, Ready, Releasing, Leaving, Left, look_ups}
use Rattle.tss_phases.specs.Phase.{phase_at, phase_of}
use Rattle.tss_phases.specs.Told.{tells, phase_told, WaitsIfTold}
use Rattle.tss_phases.specs.Leaving.{phase_linked, phase_parted}
use Rattle.tss_phases.specs.Forward.{may_follow}
use Rattle.tss_phases.specs.Orderly.{AreOrderly, KeepsOrder, TakesSpawned, OpensForWaiting, ReadiesWaiting}
use Rattle.tss_phases.specs.Orderly.{LinksWaiting, FinishesReady, ReleasesRegistered, TellWaiting, TellOthersWaiting}
use Rattle.tss_phases.proofs.QuietEvents.{phase_of-ack, phase_of-exec, phase_of-idle, phase_of-retire, phase_of-copy}
use Rattle.tss_phases.proofs.QuietEvents.{phase_of-gone}
use Rattle.tss_phases.proofs.MainEvent.{phase_of-main}
use Rattle.tss_phases.proofs.StartEvent.{phase_of-start}
use Rattle.tss_phases.proofs.PhaseLemmas.{phase_opening, phase_using}
use Rattle.tss_phases.proofs.TakeEvent.{decodes_beyond, look_ups-take, inbox_is_ahead, phase_of-take}
use Rattle.tss_phases.proofs.TakeEvent.{phase_of-take-other}
use Rattle.tss_phases.proofs.DecodeEvent.{decoding_before, phase_of-decode, phase_of-decode-other}
use Rattle.tss_phases.proofs.OpenEvent.{phase_of-open, phase_of-open-other}
use Rattle.tss_phases.proofs.UseEvent.{phase_of-use, phase_of-use-other}
use Rattle.tss_phases.proofs.ReadyEvent.{told_before, phase_of-ready, phase_of-ready-other}
use Rattle.tss_phases.proofs.LinkEvent.{phase_of-link, phase_of-link-other}
use Rattle.tss_phases.proofs.FinishEvent.{phase_of-finish, look_ups-finish-beyond, phase_of-finish-other}
use Rattle.tss_phases.proofs.ReleaseEvent.{sent_by_release, release_sends_here, releasing_before, phase_of-release}
use Rattle.tss_phases.proofs.ReleaseEvent.{phase_of-release-other}
use Rattle.tss_phases.proofs.ByeEvent.{leaving_before, phase_of-bye, phase_of-bye-other}
use Rattle.tss_phases.proofs.NackEvent.{phase_of-nack}
use Rattle.tss_phases.proofs.Records.{operand_in}
use Rattle.tss_phases.proofs.OrderlyLemmas.{opening_stands, using_stands, telling_stands, leaving_stands, ahead_by_test}
use Rattle.tss_phases.proofs.OrderlyLemmas.{taken_by_record, left_by_absence, at_and_beside}
use Rattle.tss_phases.proofs.OrderlyDecode.{taken_look_ups, new_record, not_ahead, orderly-take}
use Rattle.tss_phases.proofs.Tests.{something}
use Rattle.tss_phases.proofs.ForwardPhases.{GoesOnFrom, stay, linked, parted, from_sent, stays_same, goes_between}
use Rattle.tss_phases.proofs.ForwardPhases.{goes_told}

module _ (m : Machine) (S : State) (orderly : AreOrderly S) where
  forward_taken : (t : Task) → S.inbox ≡ Some t → TakesSpawned S → (q : OpName)
      → GoesOnFrom S (after_event m S event.Take) q
  forward_taken t inbox spawned q = elim (decide_key nat_order q.task t.number) [
    | inl same ↦ own same (slice_get (operands_of t) q.place) refl
    | inr other ↦ stays_same S T q (phase_of-take-other m S t inbox q other)
  ]
    where
      T : State
      T = after_event m S event.Take

      before : q.task ≡ t.number → phase_of S q ≡ Ahead
      before same = ahead_by_test (look_ups S q) (orderly q) (inbox_is_ahead m S t inbox q same)

      own : q.task ≡ t.number → (x : Option Operand) → slice_get (operands_of t) q.place ≡ x → GoesOnFrom S T q
      own same (Some o) at =
          goes_between S T q Ahead Decoding (before same) (phase_of-take m S t inbox q o same at) refl
      own same None at =
          let l = taken_look_ups m S orderly t inbox (spawned t inbox) q in
          let taken = look_ups-take m S t inbox q
          ∙ decodes_beyond t.number 0 (operands_of t) q.place q l at same (omega arith) in
          let none = new_record m S orderly t inbox (spawned t inbox) q same ∙ ap (option_map new_operand) at in
          goes_between S T q Ahead Left (before same)
          (left_by_absence (look_ups T q) (orderly-take m S orderly spawned q)
          ((λ i. (taken i).station) ∙ none)
          ((λ i. (taken i).ahead) ∙ not_ahead m S orderly t inbox (spawned t inbox) q same)) refl

  -- take
  forward-take : TakesSpawned S → (q : OpName) → GoesOnFrom S (after_event m S event.Take) q
  unfolding after_event
  forward-take spawned q = by S.inbox refl
    where
      by : (x : Option Task) → S.inbox ≡ x → GoesOnFrom S (after_take S S.inbox) q
      by None e = ap (λ x. may_follow (phase_of S q) (phase_of (after_take S x) q)) e ∙ stay (phase_of S q)
      by (Some t) e = forward_taken t e spawned q

  -- decode
  forward-decode : (o : OpName) (operand : Operand) → get S.mail.decodes o ≡ Some operand → (q : OpName)
      → GoesOnFrom S (after_event m S (event.Decode o)) q
  forward-decode o operand there =
      let T = after_event m S (event.Decode o) in
      at_and_beside (GoesOnFrom S T) o
      (goes_between S T o Decoding Sent (decoding_before m S o operand there)
      (phase_of-decode m S o operand there) refl)
      (λ q apart. stays_same S T q (phase_of-decode-other m S o operand there q apart))

  -- open
  forward-open : (o : OpName) (c : OpenContents) → get S.mail.opens o ≡ Some c
      → TellOthersWaiting S o (after_open S.versions o c).sent → (q : OpName)
      → GoesOnFrom S (after_event m S (event.Open o)) q
  forward-open o c there waits =
      let T = after_event m S (event.Open o) in
      let ms = (after_open S.versions o c).sent in
      let stands = opening_stands (look_ups S o) c (orderly o) there in
      at_and_beside (GoesOnFrom S T) o
      (goes_between S T o Sent (phase_told (tells ms o) Waiting)
      (phase_opening (look_ups S o) c stands.0.decoding there)
      (phase_of-open m S o c there (orderly o).alone stands.1.0) (from_sent (tells ms o)))
      (λ q apart. goes_told S T q (tells ms q) (waits q apart)
      (phase_of-open-other m S o c there q apart (waits q apart)))

  -- use
  forward-use : (o v : OpName) → get S.mail.uses o ≡ Some v → (q : OpName)
      → GoesOnFrom S (after_event m S (event.Use o)) q
  forward-use o v there =
      let T = after_event m S (event.Use o) in
      let ms = (after_use S.versions o v).sent in
      let stands = using_stands (look_ups S o) v (orderly o) there in
      at_and_beside (GoesOnFrom S T) o
      (goes_between S T o Sent (phase_told (tells ms o) Waiting)
      (phase_using (look_ups S o) v stands.0.decoding there)
      (phase_of-use m S o v there (orderly o).alone stands.1.0) (from_sent (tells ms o)))
      (λ q apart. stays_same S T q (phase_of-use-other m S o v there q apart))

  -- ready
  forward-ready : (o : OpName) (s : Source) → get S.mail.readies o ≡ Some s → ReadiesWaiting S o → (q : OpName)
      → GoesOnFrom S (after_event m S (event.Ready o)) q
  forward-ready o s there needs =
      let T = after_event m S (event.Ready o) in
      let h = (telling_stands (look_ups S o) s (orderly o) there).1.0 in
      let r = h.kept in
      let ms = sent_by_ready r.link s in
      let waits = needs s r there h.there in
      at_and_beside (GoesOnFrom S T) o
      (goes_between S T o Told Ready (told_before m S o s r there h.there (orderly o).alone)
      (phase_of-ready m S o s r there h.there (orderly o).alone h.stays (waits o)) refl)
      (λ q apart. goes_told S T q (tells ms q) (waits q)
      (phase_of-ready-other m S o s r there h.there q apart (waits q)))

  -- link
  forward-link : (o next : OpName) → get S.mail.links o ≡ Some next → LinksWaiting S o → (q : OpName)
      → GoesOnFrom S (after_event m S (event.Link o)) q
  forward-link o next there needs =
      let T = after_event m S (event.Link o) in
      let found = needs next there in
      let r = found.0 in
      let kept = found.1 in
      let waits = found.2 in
      let ms = sent_by_link r.source next in
      let taken = taken_by_record (look_ups S o) r (orderly o) kept in
      at_and_beside (GoesOnFrom S T) o
      (goes_between S T o (phase_of S o) (phase_linked (phase_of S o)) refl
      (phase_of-link m S o next r there kept taken (waits o)) (linked (phase_of S o)))
      (λ q apart. goes_told S T q (tells ms q) (waits q)
      (phase_of-link-other m S o next r there kept taken q apart (waits q)))

  -- finish
  forward-finish : (w : ℕ) (b : Busy) → get S.workers w ≡ Some b → FinishesReady S w → (q : OpName)
      → GoesOnFrom S (after_event m S (event.Finish w)) q
  forward-finish w b busy needs q = elim (decide_key nat_order q.task b.task.number) [
    | inl same ↦ own same (slice_get x.operands q.place) refl
    | inr other ↦ stays_same S T q (phase_of-finish-other m S w b x busy flying q other)
  ]
    where
      T : State
      T = after_event m S (event.Finish w)

      x : Flying
      x = (needs b busy).0.0

      flying : get S.flight b.task.number ≡ Some x
      flying = (needs b busy).0.1

      own : q.task ≡ b.task.number → (r : Option OperandState) → slice_get x.operands q.place ≡ r → GoesOnFrom S T q
      own same None at = stays_same S T q (ap phase_at (look_ups-finish-beyond m S w b x busy flying q same at))
      own same (Some r) at =
          let ready = (needs b busy).1 q r same (operand_in S.flight q x (ap (get S.flight) same ∙ flying) ∙ at) in
          goes_between S T q Ready Releasing ready (phase_of-finish m S w b x busy flying q same ready) refl

  -- release
  forward-release : (o : OpName) (r : ReleaseContents) → get S.mail.releases o ≡ Some r → ReleasesRegistered S o
      → (q : OpName) → GoesOnFrom S (after_event m S (event.Release o)) q
  forward-release o r there needs =
      at_and_beside (GoesOnFrom S T) o
      (goes_between S T o Releasing Leaving (releasing_before m S o r x there version (orderly o).alone)
      (phase_of-release m S o r x there version (orderly o).alone (waits o)) refl)
      (λ q apart. goes_told S T q (tells ms q) (waits q)
      (phase_of-release-other m S o r x there version q apart (waits q)))
    where
      T : State
      T = after_event m S (event.Release o)

      x : Version
      x = (needs r there).0.0

      version : get S.versions r.version ≡ Some x
      version = (needs r there).0.1

      ms : List Message
      ms = sent_by_release S.versions o r.version x r.producer

      waits : (q : OpName) → WaitsIfTold S ms q
      waits q t = (needs r there).1 q (ap (λ ms. tells ms q) (release_sends_here m S o r x there version) ∙ t)

  -- bye
  forward-bye : (o : OpName) (promised : Bool) → get S.mail.byes o ≡ Some promised → (q : OpName)
      → GoesOnFrom S (after_event m S (event.Bye o)) q
  forward-bye o promised there =
      let T = after_event m S (event.Bye o) in
      let stands = leaving_stands (look_ups S o) promised (orderly o) there in
      let h = stands.1.0.1 in
      let r = h.kept in
      let b = promised && not (has_passed r.link) in
      at_and_beside (GoesOnFrom S T) o
      (goes_between S T o Leaving (phase_parted b) (leaving_before m S o promised r there h.there (orderly o).alone)
      (phase_of-bye m S o promised r there h.there (orderly o).alone stands.1.1) (parted b))
      (λ q apart. stays_same S T q (phase_of-bye-other m S o promised r there h.there stands.1.1 q apart))

  -- nack
  forward-nack : (v : OpName) → TellWaiting S (after_nack S.versions v).sent → (q : OpName)
      → GoesOnFrom S (after_event m S (event.Nack v)) q
  forward-nack v waits q =
      goes_told S (after_event m S (event.Nack v)) q (tells (after_nack S.versions v).sent q) (waits q)
      (phase_of-nack m S v q (waits q))

  decode_forward : (o : OpName) → IsEnabled m S (event.Decode o) → (q : OpName)
      → GoesOnFrom S (after_event m S (event.Decode o)) q
  unfolding is_enabled
  decode_forward o enabled =
      let x = something (can_decode_message m S o) (get S.mail.decodes o) refl enabled in
      forward-decode o x.0 x.1

  open_forward : (o : OpName) → IsEnabled m S (event.Open o) → OpensForWaiting S o → (q : OpName)
      → GoesOnFrom S (after_event m S (event.Open o)) q
  unfolding is_enabled
  open_forward o enabled needs =
      let c = something (can_open_message S) (get S.mail.opens o) refl enabled in
      forward-open o c.0 c.1 (needs c.0 c.1)

  use_forward : (o : OpName) → IsEnabled m S (event.Use o) → (q : OpName)
      → GoesOnFrom S (after_event m S (event.Use o)) q
  unfolding is_enabled
  use_forward o enabled =
      let v = something (can_use_message S) (get S.mail.uses o) refl enabled in
      forward-use o v.0 v.1

  ready_forward : (o : OpName) → IsEnabled m S (event.Ready o) → ReadiesWaiting S o → (q : OpName)
      → GoesOnFrom S (after_event m S (event.Ready o)) q
  unfolding is_enabled
  ready_forward o enabled needs =
      let s = something is_some (get S.mail.readies o) refl enabled in
      forward-ready o s.0 s.1 needs

  link_forward : (o : OpName) → IsEnabled m S (event.Link o) → LinksWaiting S o → (q : OpName)
      → GoesOnFrom S (after_event m S (event.Link o)) q
  unfolding is_enabled
  link_forward o enabled needs =
      let next = something is_some (get S.mail.links o) refl enabled in
      forward-link o next.0 next.1 needs

  finish_forward : (w : ℕ) → IsEnabled m S (event.Finish w) → FinishesReady S w → (q : OpName)
      → GoesOnFrom S (after_event m S (event.Finish w)) q
  unfolding is_enabled
  finish_forward w enabled needs =
      let b = something can_finish (get S.workers w) refl enabled in
      forward-finish w b.0 b.1 needs

  release_forward : (o : OpName) → IsEnabled m S (event.Release o) → ReleasesRegistered S o → (q : OpName)
      → GoesOnFrom S (after_event m S (event.Release o)) q
  unfolding is_enabled
  release_forward o enabled needs =
      let r = something is_some (get S.mail.releases o) refl enabled in
      forward-release o r.0 r.1 needs

  bye_forward : (o : OpName) → IsEnabled m S (event.Bye o) → (q : OpName)
      → GoesOnFrom S (after_event m S (event.Bye o)) q
  unfolding is_enabled
  bye_forward o enabled =
      let p = something is_some (get S.mail.byes o) refl enabled in
      forward-bye o p.0 p.1

  -- each event that finds what it needs
  pub forward-after_event : (e : Event) → IsEnabled m S e → KeepsOrder S e → (q : OpName)
      → GoesOnFrom S (after_event m S e) q
  forward-after_event event.Main enabled needs q =
      stays_same S (after_event m S event.Main) q (phase_of-main m S q enabled)
  forward-after_event event.Take enabled needs q = forward-take needs q
  forward-after_event (event.Decode o) enabled needs q = decode_forward o enabled q
  forward-after_event (event.Ack o) enabled needs q =
      stays_same S (after_event m S (event.Ack o)) q (phase_of-ack m S o q)
  forward-after_event (event.Open o) enabled needs q = open_forward o enabled needs q
  forward-after_event (event.Use o) enabled needs q = use_forward o enabled q
  forward-after_event (event.Ready o) enabled needs q = ready_forward o enabled needs q
  forward-after_event (event.Link o) enabled needs q = link_forward o enabled needs q
  forward-after_event (event.Start w) enabled needs q =
      stays_same S (after_event m S (event.Start w)) q (phase_of-start m S w q)
  forward-after_event (event.Exec w) enabled needs q =
      stays_same S (after_event m S (event.Exec w)) q (phase_of-exec m S w q)
  forward-after_event (event.Finish w) enabled needs q = finish_forward w enabled needs q
  forward-after_event (event.Release o) enabled needs q = release_forward o enabled needs q
  forward-after_event (event.Bye o) enabled needs q = bye_forward o enabled q
  forward-after_event (event.Idle v) enabled needs q =
      stays_same S (after_event m S (event.Idle v)) q (phase_of-idle m S v q)
  forward-after_event (event.Nack v) enabled needs q = forward-nack v needs q
  forward-after_event (event.Retire v) enabled needs q =
      stays_same S (after_event m S (event.Retire v)) q (phase_of-retire m S v q)
  forward-after_event (event.Copy b) enabled needs q =
      stays_same S (after_event m S (event.Copy b)) q (phase_of-copy m S b q)
  forward-after_event (event.Gone v) enabled needs q =
      stays_same S (after_event m S (event.Gone v)) q (phase_of-gone m S v q)
