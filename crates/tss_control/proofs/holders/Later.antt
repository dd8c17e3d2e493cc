-- No event but a finish lets an operand go that wasn't let go before.
use Rattle.std.proofs.Common.{◌≡◌, Bool, true, false, refl, ap, ◌∙◌}
use Rattle.std.specs.Prelude.{is_some}
use Rattle.std.specs.FinMap.{get}
use Rattle.tss_base.specs.declared.operand.OpName.{OpName}
use Rattle.tss_base.specs.declared.machine.Machine.{Machine}
use Rattle.tss_base.specs.declared.event.Event.TheVariants as event
use Rattle.tss_protocol.specs.State.{State}
use Rattle.tss_protocol.specs.Stations.{sent_by_ready, sent_by_link}
use Rattle.tss_protocol.specs.Versions.{after_open, after_use, after_nack}
use Rattle.tss_protocol.specs.UnitMachine.{is_enabled, IsEnabled, after_event, can_decode_message, can_open_message}
use Rattle.tss_protocol.specs.UnitMachine.{can_use_message}
use Rattle.tss_phases.specs.Phase.{Sent, Waiting, Ready, Releasing, Leaving, look_ups}
use Rattle.tss_phases.specs.Told.{tells, phase_told, WaitsIfTold}
use Rattle.tss_phases.specs.Orderly.{AreOrderly, TellWaiting, OpensForWaiting, ReadiesWaiting, LinksWaiting}
use Rattle.tss_phases.specs.Orderly.{ReleasesRegistered}
use Rattle.tss_phases.proofs.DecodeEvent.{phase_of-decode, phase_of-decode-other}
use Rattle.tss_phases.proofs.OpenEvent.{phase_of-open, phase_of-open-other}
use Rattle.tss_phases.proofs.UseEvent.{phase_of-use, phase_of-use-other}
use Rattle.tss_phases.proofs.ReadyEvent.{phase_of-ready, phase_of-ready-other}
use Rattle.tss_phases.proofs.LinkEvent.{phase_of-link, phase_of-link-other}
use Rattle.tss_phases.proofs.ReleaseEvent.{sent_by_release, release_sends_here, releasing_before}
use Rattle.tss_phases.proofs.ReleaseEvent.{phase_of-release-other}
use Rattle.tss_phases.proofs.ByeEvent.{leaving_before, phase_of-bye-other}
use Rattle.tss_phases.proofs.NackEvent.{phase_of-nack}
use Rattle.tss_phases.proofs.OrderlyLemmas.{opening_stands, using_stands, telling_stands, leaving_stands}
use Rattle.tss_phases.proofs.OrderlyLemmas.{taken_by_record, at_and_beside}
use Rattle.tss_phases.proofs.Tests.{something}
use Rattle.tss_control.specs.Runners.{is_late}
use Rattle.tss_control.proofs.holders.Late.{NoLater, late_same, late_told, late_early, late_before, late_link}

told_early : (b : Bool) → is_late (phase_told b Waiting) ≡ false
told_early true = refl
told_early false = refl

module _ (m : Machine) (S : State) (orderly : AreOrderly S) where
  -- decode
  pub later-decode : (o : OpName) → IsEnabled m S (event.Decode o) → (q : OpName)
      → NoLater S (after_event m S (event.Decode o)) q
  unfolding is_enabled
  later-decode o on =
      let T = after_event m S (event.Decode o) in
      let x = something (can_decode_message m S o) (get S.mail.decodes o) refl on in
      at_and_beside (NoLater S T) o (late_early S T o Sent refl (phase_of-decode m S o x.0 x.1))
      (λ q apart. late_same S T q (phase_of-decode-other m S o x.0 x.1 q apart))

  -- open
  pub later-open : (o : OpName) → IsEnabled m S (event.Open o) → OpensForWaiting S o → (q : OpName)
      → NoLater S (after_event m S (event.Open o)) q
  unfolding is_enabled
  later-open o on needs =
      let T = after_event m S (event.Open o) in
      let c = something (can_open_message S) (get S.mail.opens o) refl on in
      let ms = (after_open S.versions o c.0).sent in
      let stands = opening_stands (look_ups S o) c.0 (orderly o) c.1 in
      at_and_beside (NoLater S T) o
      (late_early S T o (phase_told (tells ms o) Waiting) (told_early (tells ms o))
      (phase_of-open m S o c.0 c.1 (orderly o).alone stands.1.0))
      (λ q apart. late_told S T q (tells ms q)
      (phase_of-open-other m S o c.0 c.1 q apart (needs c.0 c.1 q apart)))

  -- use
  pub later-use : (o : OpName) → IsEnabled m S (event.Use o) → (q : OpName)
      → NoLater S (after_event m S (event.Use o)) q
  unfolding is_enabled
  later-use o on =
      let T = after_event m S (event.Use o) in
      let v = something (can_use_message S) (get S.mail.uses o) refl on in
      let ms = (after_use S.versions o v.0).sent in
      let stands = using_stands (look_ups S o) v.0 (orderly o) v.1 in
      at_and_beside (NoLater S T) o
      (late_early S T o (phase_told (tells ms o) Waiting) (told_early (tells ms o))
      (phase_of-use m S o v.0 v.1 (orderly o).alone stands.1.0))
      (λ q apart. late_same S T q (phase_of-use-other m S o v.0 v.1 q apart))

  -- ready
  pub later-ready : (o : OpName) → IsEnabled m S (event.Ready o) → ReadiesWaiting S o → (q : OpName)
      → NoLater S (after_event m S (event.Ready o)) q
  unfolding is_enabled
  later-ready o on needs =
      let T = after_event m S (event.Ready o) in
      let s = something is_some (get S.mail.readies o) refl on in
      let h = (telling_stands (look_ups S o) s.0 (orderly o) s.1).1.0 in
      let r = h.kept in
      let ms = sent_by_ready r.link s.0 in
      let waits = needs s.0 r s.1 h.there in
      at_and_beside (NoLater S T) o
      (late_early S T o Ready refl (phase_of-ready m S o s.0 r s.1 h.there (orderly o).alone h.stays (waits o)))
      (λ q apart. late_told S T q (tells ms q) (phase_of-ready-other m S o s.0 r s.1 h.there q apart (waits q)))

  -- link
  pub later-link : (o : OpName) → IsEnabled m S (event.Link o) → LinksWaiting S o → (q : OpName)
      → NoLater S (after_event m S (event.Link o)) q
  unfolding is_enabled
  later-link o on needs =
      let T = after_event m S (event.Link o) in
      let next = something is_some (get S.mail.links o) refl on in
      let found = needs next.0 next.1 in
      let r = found.0 in
      let ms = sent_by_link r.source next.0 in
      let taken = taken_by_record (look_ups S o) r (orderly o) found.1 in
      at_and_beside (NoLater S T) o
      (late_link S T o (phase_of-link m S o next.0 r next.1 found.1 taken (found.2 o)))
      (λ q apart. late_told S T q (tells ms q)
      (phase_of-link-other m S o next.0 r next.1 found.1 taken q apart (found.2 q)))

  -- release
  pub later-release : (o : OpName) → IsEnabled m S (event.Release o) → ReleasesRegistered S o → (q : OpName)
      → NoLater S (after_event m S (event.Release o)) q
  unfolding is_enabled
  later-release o on needs =
      let T = after_event m S (event.Release o) in
      let r = something is_some (get S.mail.releases o) refl on in
      let n = needs r.0 r.1 in
      let x = n.0.0 in
      let ms = sent_by_release S.versions o r.0.version x r.0.producer in
      let waits : (q : OpName) → WaitsIfTold S ms q =
      λ q t. n.1 q (ap (λ ms. tells ms q) (release_sends_here m S o r.0 x r.1 n.0.1) ∙ t) in
      at_and_beside (NoLater S T) o
      (late_before S T o Releasing refl (releasing_before m S o r.0 x r.1 n.0.1 (orderly o).alone))
      (λ q apart. late_told S T q (tells ms q)
      (phase_of-release-other m S o r.0 x r.1 n.0.1 q apart (waits q)))

  -- bye
  pub later-bye : (o : OpName) → IsEnabled m S (event.Bye o) → (q : OpName)
      → NoLater S (after_event m S (event.Bye o)) q
  unfolding is_enabled
  later-bye o on =
      let T = after_event m S (event.Bye o) in
      let p = something is_some (get S.mail.byes o) refl on in
      let stands = leaving_stands (look_ups S o) p.0 (orderly o) p.1 in
      let h = stands.1.0.1 in
      at_and_beside (NoLater S T) o
      (late_before S T o Leaving refl (leaving_before m S o p.0 h.kept p.1 h.there (orderly o).alone))
      (λ q apart. late_same S T q (phase_of-bye-other m S o p.0 h.kept p.1 h.there stands.1.1 q apart))

  -- nack
  pub later-nack : (v : OpName) → TellWaiting S (after_nack S.versions v).sent → (q : OpName)
      → NoLater S (after_event m S (event.Nack v)) q
  later-nack v waits q =
      late_told S (after_event m S (event.Nack v)) q (tells (after_nack S.versions v).sent q)
      (phase_of-nack m S v q (waits q))
