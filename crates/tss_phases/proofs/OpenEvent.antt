-- What an open does to phases: its operand goes from sent to told where its version follows none, or another one beside
-- it, and else to waiting. The version that is followed is settled, which may tell its successor.
use Rattle.std.proofs.Common.{◌≡◌, ◌≢◌, true, cond, Option, Some, None, refl, ap, ◌∙◌, inl, inr, ◌⊎◌, suc}
use Rattle.std.specs.FinMap.{get, len}
use Rattle.tss_base.specs.declared.operand.OpName.{OpName}
use Rattle.tss_base.specs.declared.machine.Machine.{Machine}
use Rattle.tss_base.specs.declared.event.Event.TheVariants as event
use Rattle.tss_base.specs.declared.marks.How.{How}
use Rattle.tss_base.specs.declared.marks.How.TheVariants.{Beside, Over}
use Rattle.tss_base.specs.declared.marks.Follow.{Follow}
use Rattle.tss_base.specs.Names.{Named}
use Rattle.tss_protocol.specs.Mail.{StorageName, OpenContents}
use Rattle.tss_protocol.specs.State.{State, Version}
use Rattle.tss_protocol.specs.Versions.{ready_with, settled, followed, opened_how, opened_by, after_open}
use Rattle.tss_protocol.specs.UnitMachine.{after_event, without, open_message_taken}
use Rattle.tss_phases.specs.Phase.{Waiting, LookUps, look_ups, phase_at, phase_of}
use Rattle.tss_phases.specs.Alone.{IsAlone, IsFresh}
use Rattle.tss_phases.specs.Told.{tells, phase_told, WaitsIfTold}
use Rattle.tss_phases.specs.Settling.{SettleTells}
use Rattle.tss_phases.proofs.Received.{own_name, other_name, received_all, look_ups-sent, missing, missing_other}
use Rattle.tss_phases.proofs.Received.{look_ups-without}
use Rattle.tss_phases.proofs.News.{AreNews, news_both}
use Rattle.tss_phases.proofs.PhaseLemmas.{phase_silent, station_told}
use Rattle.tss_phases.proofs.AloneLemmas.{silent_but_opening}
use Rattle.tss_phases.proofs.SettlingLemmas.{news_ready_with, ready_with_tells, news_settle, settle_tells}
use Rattle.tss_phases.proofs.SettlingLemmas.{ready_with_told}
use Rattle.tss_phases.proofs.ToldPhases.{phase_news, either_tells}

-- ---- what an open sends

-- whom an open tells: its own operand with the storage that its version has, or whom the settle of the followed version
-- tells
abbrev OpenTells : Named Version → OpName → OpenContents → OpName → Type 0
OpenTells vs o opening q =
    ((q ≡ o) × ((t : StorageName) × (opening.storage ≡ Some t)))
    ⊎ ((f : Follow) × (opening.follows ≡ Some f)
    × SettleTells (suc (len (followed vs o opening f))) (followed vs o opening f) f.version q)

module _ (vs : Named Version) (o : OpName) (opening : OpenContents) where
  how_news : (f : Follow) (h : How) → AreNews (opened_how vs o opening f h).sent
  how_news f Beside =
      news_both (ready_with o o opening.storage) (settled (followed vs o opening f) f.version).sent
      (news_ready_with o o opening.storage)
      (news_settle (suc (len (followed vs o opening f))) (followed vs o opening f) f.version)
  how_news f Over = news_settle (suc (len (followed vs o opening f))) (followed vs o opening f) f.version

  by_news : (f : Option Follow) → AreNews (opened_by vs o opening f).sent
  by_news None = news_ready_with o o opening.storage
  by_news (Some f) = how_news f f.how

  -- it sends news
  pub news_open : AreNews (after_open vs o opening).sent
  news_open = by_news opening.follows

  how_tells : (f : Follow) (h : How) (q : OpName) → opening.follows ≡ Some f
      → tells (opened_how vs o opening f h).sent q ≡ true → OpenTells vs o opening q
  how_tells f Over q to e =
      inr (f, to, settle_tells (suc (len (followed vs o opening f))) (followed vs o opening f) f.version q e)
  how_tells f Beside q to e =
      let us = followed vs o opening f in
      elim
      (either_tells (ready_with o o opening.storage) (settled (followed vs o opening f) f.version).sent q e) [
        | inl h ↦ inl (ready_with_tells o o opening.storage q h)
        | inr h ↦ inr (f, to, settle_tells (suc (len us)) us f.version q h)
      ]

  by_tells : (f : Option Follow) (q : OpName) → opening.follows ≡ f → tells (opened_by vs o opening f).sent q ≡ true
      → OpenTells vs o opening q
  by_tells None q to e = inl (ready_with_tells o o opening.storage q e)
  by_tells (Some f) q to e = how_tells f f.how q to e

  -- whom it tells
  pub open_tells : (q : OpName) → tells (after_open vs o opening).sent q ≡ true → OpenTells vs o opening q
  open_tells q e = by_tells opening.follows q refl e

  -- where its version follows none, its operand is told
  pub first_open_tells : (t : StorageName) → opening.follows ≡ None → opening.storage ≡ Some t
      → tells (after_open vs o opening).sent o ≡ true
  first_open_tells t none e =
      ap (λ f. tells (opened_by vs o opening f).sent o) none ∙ ready_with_told o o opening.storage t e

-- ---- what it does to phases

module _ (m : Machine) (S : State) (o : OpName) (opening : OpenContents)
    (there : get S.mail.opens o ≡ Some opening) where
  -- what is looked up after an open
  look_ups-open : (q : OpName) → look_ups (after_event m S (event.Open o)) q
      ≡ received_all (after_open S.versions o opening).sent q (missing (event.Open o) q (look_ups S q))
  unfolding after_event
  look_ups-open q =
      let T = without S (event.Open o) in
      let d = after_open S.versions o opening in
      ap (λ x. look_ups (open_message_taken T o x) q) there
      ∙ look_ups-sent (record T { versions = d.part }) d.sent q
      ∙ ap (received_all d.sent q) (look_ups-without S (event.Open o) q)

  -- of its operand: the open is gone, and it may be told
  pub look_ups-open-own : look_ups (after_event m S (event.Open o)) o
      ≡ received_all (after_open S.versions o opening).sent o (record (look_ups S o) { opening = None })
  look_ups-open-own =
      look_ups-open o
      ∙ (λ i. received_all (after_open S.versions o opening).sent o (record (look_ups S o) {
        opening = cond (own_name o i) None (get S.mail.opens o);
      }))

  -- of another operand: it may be told
  pub look_ups-open-other : (q : OpName) → q ≢ o → look_ups (after_event m S (event.Open o)) q
      ≡ received_all (after_open S.versions o opening).sent q (look_ups S q)
  look_ups-open-other q apart =
      look_ups-open q
      ∙ ap (received_all (after_open S.versions o opening).sent q)
      (missing_other (event.Open o) q (look_ups S q) (other_name q o apart))

  -- its operand is told, or waits
  pub phase_of-open : IsAlone S o → IsFresh S o
      → phase_of (after_event m S (event.Open o)) o
      ≡ phase_told (tells (after_open S.versions o opening).sent o) Waiting
  phase_of-open alone fresh =
      let d = after_open S.versions o opening in
      let l : LookUps = record (look_ups S o) { opening = None } in
      let waits : phase_at l ≡ Waiting =
      phase_silent l (silent_but_opening (look_ups S o) opening alone there)
      ∙ station_told (look_ups S o) None fresh in
      ap phase_at look_ups-open-own
      ∙ phase_news d.sent o l (news_open S.versions o opening) (λ t. waits)
      ∙ ap (phase_told (tells d.sent o)) waits

  -- another operand is told, or stays as it was
  pub phase_of-open-other : (q : OpName) → q ≢ o → WaitsIfTold S (after_open S.versions o opening).sent q
      → phase_of (after_event m S (event.Open o)) q
      ≡ phase_told (tells (after_open S.versions o opening).sent q) (phase_of S q)
  phase_of-open-other q apart waits =
      let d = after_open S.versions o opening in
      ap phase_at (look_ups-open-other q apart)
      ∙ phase_news d.sent q (look_ups S q) (news_open S.versions o opening) waits
