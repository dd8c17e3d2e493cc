-- Operands stay in order where a version is opened, used, released, or refused to retire.
use Rattle.std.proofs.Common.{◌≡◌, ◌++◌, Some, None, refl, sym, ap, ◌∙◌, subst}
use Rattle.std.specs.FinMap.{get}
use Rattle.tss_base.specs.declared.operand.OpName.{OpName}
use Rattle.tss_base.specs.declared.machine.Machine.{Machine}
use Rattle.tss_base.specs.declared.event.Event.TheVariants as event
use Rattle.tss_protocol.specs.Mail.{OpenContents, ReleaseContents}
use Rattle.tss_protocol.specs.State.{State, Version}
use Rattle.tss_protocol.specs.Versions.{settled, after_open, after_use, after_release, after_nack}
use Rattle.tss_protocol.specs.UnitMachine.{after_event}
use Rattle.tss_phases.specs.Phase.{Waiting, Releasing, LookUps, look_ups, phase_at}
use Rattle.tss_phases.specs.Alone.{IsSilent}
use Rattle.tss_phases.specs.Told.{tells, WaitsIfTold}
use Rattle.tss_phases.specs.Orderly.{IsUntold, IsOrderly, AreOrderly, TellWaiting, TellOthersWaiting}
use Rattle.tss_phases.proofs.News.{news_both}
use Rattle.tss_phases.proofs.PhaseLemmas.{phase_silent, phase_releasing, station_told}
use Rattle.tss_phases.proofs.ToldPhases.{not_told, bye_tells}
use Rattle.tss_phases.proofs.OpenEvent.{news_open, look_ups-open-own, look_ups-open-other}
use Rattle.tss_phases.proofs.UseEvent.{news_use, look_ups-use-own, look_ups-use-other}
use Rattle.tss_phases.proofs.ReleaseEvent.{versions_released, heads_told, bye_promised, sent_by_release, news_heads}
use Rattle.tss_phases.proofs.ReleaseEvent.{news_released, release_sends_here, look_ups-release-own}
use Rattle.tss_phases.proofs.ReleaseEvent.{look_ups-release-other}
use Rattle.tss_phases.proofs.NackEvent.{news_nack, look_ups-nack}
use Rattle.tss_phases.proofs.OrderlyLemmas.{orderly_waiting, orderly_leaving, orderly_news, opening_stands}
use Rattle.tss_phases.proofs.OrderlyLemmas.{using_stands, releasing_stands, same_untold, same_informed, at_and_beside}

waiting_phase : (l : LookUps) → IsSilent l → IsUntold l → phase_at l ≡ Waiting
waiting_phase l s h = phase_silent l s ∙ station_told l None h.0

-- open
pub orderly-open : (m : Machine) (S : State) (o : OpName) (c : OpenContents) → get S.mail.opens o ≡ Some c
    → AreOrderly S → TellOthersWaiting S o (after_open S.versions o c).sent
    → AreOrderly (after_event m S (event.Open o))
orderly-open m S o c there orderly waits =
    let ms = (after_open S.versions o c).sent in
    let l : LookUps = record (look_ups S o) { opening = None } in
    let stands = opening_stands (look_ups S o) c (orderly o) there in
    let h = same_untold (look_ups S o) l refl refl stands.1 in
    at_and_beside (λ q. IsOrderly (look_ups (after_event m S (event.Open o)) q)) o
    (subst IsOrderly (sym (look_ups-open-own m S o c there))
    (orderly_news ms o l (orderly_waiting l stands.0 h) (news_open S.versions o c) (λ t. waiting_phase l stands.0 h)))
    (λ q apart. subst IsOrderly (sym (look_ups-open-other m S o c there q apart))
    (orderly_news ms q (look_ups S q) (orderly q) (news_open S.versions o c) (waits q apart)))

-- use
pub orderly-use : (m : Machine) (S : State) (o v : OpName) → get S.mail.uses o ≡ Some v → AreOrderly S
    → AreOrderly (after_event m S (event.Use o))
orderly-use m S o v there orderly =
    let ms = (after_use S.versions o v).sent in
    let l : LookUps = record (look_ups S o) { using = None } in
    let stands = using_stands (look_ups S o) v (orderly o) there in
    let h = same_untold (look_ups S o) l refl refl stands.1 in
    at_and_beside (λ q. IsOrderly (look_ups (after_event m S (event.Use o)) q)) o
    (subst IsOrderly (sym (look_ups-use-own m S o v there))
    (orderly_news ms o l (orderly_waiting l stands.0 h) (news_use S.versions o v) (λ t. waiting_phase l stands.0 h)))
    (λ q apart. subst IsOrderly (sym (look_ups-use-other m S o v there q apart)) (orderly q))

-- nack
pub orderly-nack : (m : Machine) (S : State) (v : OpName) → AreOrderly S
    → TellWaiting S (after_nack S.versions v).sent → AreOrderly (after_event m S (event.Nack v))
orderly-nack m S v orderly waits q =
    subst IsOrderly (sym (look_ups-nack m S v q))
    (orderly_news (after_nack S.versions v).sent q (look_ups S q) (orderly q) (news_nack S.versions v) (waits q))

module _ (m : Machine) (S : State) (o : OpName) (r : ReleaseContents) (x : Version)
    (there : get S.mail.releases o ≡ Some r) (version : get S.versions r.version ≡ Some x) (orderly : AreOrderly S)
    (waits : TellWaiting S (after_release S.versions o r).sent) where
  told_waits : (q : OpName) → WaitsIfTold S (sent_by_release S.versions o r.version x r.producer) q
  told_waits q t = waits q (ap (λ ms. tells ms q) (release_sends_here m S o r x there version) ∙ t)

  released_own : IsOrderly (look_ups (after_event m S (event.Release o)) o)
  released_own =
      let stands = releasing_stands (look_ups S o) r (orderly o) there in
      let s = stands.0 in
      let p = bye_promised o x r.producer in
      let l : LookUps = record (look_ups S o) { releasing = None; leaving = Some p } in
      let before = phase_releasing (look_ups S o) r s.decoding s.opening s.using s.telling there in
      let silent = not_told (sent_by_release S.versions o r.version x r.producer) o (look_ups S o) Releasing before
      (λ e. cc) (told_waits o) in
      subst IsOrderly (sym (look_ups-release-own m S o r x there version silent))
      (orderly_leaving l p (record {
        decoding = s.decoding;
        opening = s.opening;
        using = s.using;
        telling = s.telling;
        releasing = refl;
        leaving = refl;
      }) refl (same_informed (look_ups S o) l refl refl stands.1))

  -- release
  pub orderly-release : AreOrderly (after_event m S (event.Release o))
  orderly-release =
      let hs = heads_told r.version x r.producer in
      let ns = (settled (versions_released S.versions o r.version x r.producer) r.version).sent in
      at_and_beside (λ q. IsOrderly (look_ups (after_event m S (event.Release o)) q)) o released_own
      (λ q apart. subst IsOrderly (sym (look_ups-release-other m S o r x there version q apart))
      (orderly_news (hs ++ ns) q (look_ups S q) (orderly q)
      (news_both hs ns (news_heads S.versions o r.version x r.producer)
      (news_released S.versions o r.version x r.producer))
      (λ t. told_waits q (bye_tells hs ns o (bye_promised o x r.producer) q ∙ t))))
