-- What a nack does to phases: its version is settled, which may tell its successor.
use Rattle.std.proofs.Common.{◌≡◌, true, Option, Some, None, refl, ap, ◌∙◌, suc}
use Rattle.std.specs.FinMap.{get, len}
use Rattle.tss_base.specs.declared.operand.OpName.{OpName}
use Rattle.tss_base.specs.declared.machine.Machine.{Machine}
use Rattle.tss_base.specs.declared.event.Event.TheVariants as event
use Rattle.tss_base.specs.Names.{Named}
use Rattle.tss_protocol.specs.State.{State, Version}
use Rattle.tss_protocol.specs.Versions.{put_version, refused_once, nacked_at, after_nack}
use Rattle.tss_protocol.specs.UnitMachine.{after_event, without}
use Rattle.tss_phases.specs.Phase.{look_ups, phase_at, phase_of}
use Rattle.tss_phases.specs.Told.{tells, phase_told, WaitsIfTold}
use Rattle.tss_phases.specs.Settling.{SettleTells}
use Rattle.tss_phases.proofs.Received.{received_all, look_ups-sent}
use Rattle.tss_phases.proofs.News.{AreNews}
use Rattle.tss_phases.proofs.SettlingLemmas.{news_settle, settle_tells}
use Rattle.tss_phases.proofs.ToldPhases.{phase_news}

module _ (vs : Named Version) (v : OpName) where
  at_news : (x : Option Version) → AreNews (nacked_at vs v x).sent
  at_news None = tt
  at_news (Some x) =
      let us = put_version vs v (refused_once x) in
      news_settle (suc (len us)) us v

  -- a nack sends news
  pub news_nack : AreNews (after_nack vs v).sent
  news_nack = at_news (get vs v)

  at_tells : (x : Option Version) (q : OpName) → get vs v ≡ x → tells (nacked_at vs v x).sent q ≡ true
      → (x : Version) × (get vs v ≡ Some x)
      × SettleTells (suc (len (put_version vs v (refused_once x)))) (put_version vs v (refused_once x)) v q
  at_tells None q at e = absurd (cc)
  at_tells (Some x) q at e =
      let us = put_version vs v (refused_once x) in
      (x, at, settle_tells (suc (len us)) us v q e)

  -- whom it tells: whom the settle of the version tells
  pub nack_tells : (q : OpName) → tells (after_nack vs v).sent q ≡ true
      → (x : Version) × (get vs v ≡ Some x)
      × SettleTells (suc (len (put_version vs v (refused_once x)))) (put_version vs v (refused_once x)) v q
  nack_tells q e = at_tells (get vs v) q refl e

module _ (m : Machine) (S : State) (v : OpName) where
  -- what is looked up after a nack
  pub look_ups-nack : (q : OpName) → look_ups (after_event m S (event.Nack v)) q
      ≡ received_all (after_nack S.versions v).sent q (look_ups S q)
  unfolding after_event
  look_ups-nack q =
      let T = without S (event.Nack v) in
      let d = after_nack S.versions v in
      look_ups-sent (record T { versions = d.part }) d.sent q

  -- an operand is told, or stays as it was
  pub phase_of-nack : (q : OpName) → WaitsIfTold S (after_nack S.versions v).sent q
      → phase_of (after_event m S (event.Nack v)) q
      ≡ phase_told (tells (after_nack S.versions v).sent q) (phase_of S q)
  phase_of-nack q waits =
      let ms = (after_nack S.versions v).sent in
      ap phase_at (look_ups-nack q) ∙ phase_news ms q (look_ups S q) (news_nack S.versions v) waits
