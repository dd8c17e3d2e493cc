-- What a release leaves: the versions, whom it tells, and the phases.
use Rattle.std.proofs.Common.{◌≡◌, ◌≢◌, ◌⊎◌, Bool, true, false, ◌++◌, Some, None, refl, sym, ap, ◌∙◌, inl, inr}
use Rattle.std.specs.FinMap.{get}
use Rattle.std.proofs.lemmas.Option.{none-some}
use Rattle.tss_base.specs.declared.operand.OpName.{OpName}
use Rattle.tss_base.specs.declared.machine.Machine.{Machine}
use Rattle.tss_base.specs.declared.event.Event.TheVariants as event
use Rattle.tss_maps.proofs.Keys.{name_order}
use Rattle.tss_maps.proofs.Changes.{at_inserted, beside_inserted, one_value}
use Rattle.tss_protocol.specs.State.{State, OperandState, Version}
use Rattle.tss_protocol.specs.Stations.{operand_at}
use Rattle.tss_protocol.specs.Versions.{released_by, released_at, settled}
use Rattle.tss_protocol.specs.UnitMachine.{after_event, without, release_message_taken}
use Rattle.tss_phases.specs.Phase.{Waiting, Releasing, Leaving, LookUps, look_ups, phase_of}
use Rattle.tss_phases.specs.Told.{tells, WaitsIfTold, phase_told}
use Rattle.tss_phases.specs.Openers.{version_opener}
use Rattle.tss_phases.specs.Alone.{IsSilent}
use Rattle.tss_phases.specs.Orderly.{IsInformed, AreOrderly, ReleasesRegistered}
use Rattle.tss_phases.proofs.Received.{received_all}
use Rattle.tss_phases.proofs.News.{AreNews, news_both}
use Rattle.tss_phases.proofs.ToldPhases.{not_told, bye_tells}
use Rattle.tss_phases.proofs.ReleaseEvent.{versions_released, bye_promised, sent_by_release, news_heads, news_released}
use Rattle.tss_phases.proofs.ReleaseEvent.{release_sends_here, look_ups-release-own, look_ups-release-other}
use Rattle.tss_phases.proofs.ReleaseEvent.{phase_of-release, phase_of-release-other}
use Rattle.tss_phases.proofs.OrderlyLemmas.{releasing_stands}
use Rattle.tss_control.proofs.readers.Links.{links-release}
use Rattle.tss_control.proofs.holders.Sent.{waiting_opener}
use Rattle.tss_control.proofs.holders.Settled.{from_alike, SettlesHeld}
use Rattle.tss_control.proofs.holders.Releases.{z_parts, release_settles}
use Rattle.tss_control.proofs.holders.KeepsOrder.{AreOrderly-controlled, keeps_order}
use Rattle.tss_control.proofs.holders.Release.{Release, released}

module _ (m : Machine) (S : State) (release : Release m S) where
  open release use {facts, control as h, o, on, c, there, k}
  open released m S release use {T, v, x, vs, d, hs}

  -- what its settle does
  pub settles : SettlesHeld vs v d
  settles = release_settles m S release

  released_part : (b : Bool)
      → (released_by S.versions o v x b).part ≡ (settled (versions_released S.versions o v x b) v).part
  released_part true = refl
  released_part false = refl

  -- the versions
  pub versions : T.versions ≡ d.part
  unfolding after_event
  versions =
      ap (λ y. (release_message_taken (without S (event.Release o)) o y).versions) there
      ∙ ap (λ y. (released_at S.versions o v c.producer y).part) k.there
      ∙ released_part c.producer

  -- operands are in order after it
  pub after : AreOrderly T
  after = AreOrderly-controlled m S facts (event.Release o) on

  -- it finds what it needs
  pub order : ReleasesRegistered S o
  order = keeps_order m S facts (event.Release o)

  -- whom its messages tell waits
  told_waits : (q : OpName) → WaitsIfTold S (sent_by_release S.versions o v x c.producer) q
  told_waits q t = (order c there).1 q (ap (λ ms. tells ms q) (release_sends_here m S o c x there k.there) ∙ t)

  -- whom it tells, the bye aside, waits
  pub waits : (q : OpName) → tells (hs ++ d.sent) q ≡ true → phase_of S q ≡ Waiting
  waits q t = told_waits q (bye_tells hs d.sent o (bye_promised o x c.producer) q ∙ t)

  -- the messages but the bye are news
  pub news : AreNews (hs ++ d.sent)
  news =
      news_both hs d.sent (news_heads S.versions o v x c.producer) (news_released S.versions o v x c.producer)

  -- the links under way stay
  pub same_link : (q : OpName) → get T.mail.links q ≡ get S.mail.links q
  same_link q = ap (λ ks. get ks q) (links-release m S o)

  -- what is looked up of another operand
  pub looked : (q : OpName) → q ≢ o → look_ups T q ≡ received_all (hs ++ d.sent) q (look_ups S q)
  looked q apart = look_ups-release-other m S o c x there k.there q apart

  -- ---- versions

  -- one that waits hasn't opened the version that is released
  pub not_waiting : phase_of S v ≡ Waiting → ⊥
  not_waiting e =
      let p = h.chains.opener v x k.there in
      let w = waiting_opener x p.0.mode
      (ap (version_opener x p.0.mode) (sym e) ∙ h.holders.openers v x p.0 k.there p.1) in
      none-some k.storage (sym w.1 ∙ k.stored)

  -- where a version came from
  pub came : (w : OpName) → w ≢ v → (y : Version) → get d.part w ≡ Some y
      → (b : Version) × (get S.versions w ≡ Some b) × (y.object ≡ b.object) × (y.produced ≡ b.produced)
      × ((y.storage ≡ b.storage) ⊎ ((y.storage ≡ x.storage) × (tells d.sent w ≡ true)))
  came w apart y e = elim (settles.others w apart) [
    | inl alike ↦
        let n = from_alike vs d.part w alike y e in
        (n.0, sym (beside_inserted name_order S.versions v _ w apart) ∙ n.1, n.2.object, n.2.produced, inl n.2.storage)
    | inr t ↦
        let is = one_value d.part w y t.after e t.stands in
        let z_is = one_value vs v t.version _ t.there (at_inserted name_order S.versions v _) in
        let stored = ap (λ (y : Version). y.storage) z_is ∙ (z_parts m S release).1 in (
          t.before,
          sym (beside_inserted name_order S.versions v _ w apart) ∙ t.was,
          ap (λ (y : Version). y.object) is ∙ t.object,
          ap (λ (y : Version). y.produced) is ∙ t.produced,
          inr (
            ap (λ (y : Version). y.storage) is ∙ t.storage ∙ stored,
            t.told k.storage (stored ∙ k.stored),
          ),
        )
  ]

  -- ---- the operand itself

  -- what stands of its operand
  abbrev stands : IsSilent (record (look_ups S o) { releasing = None }) × IsInformed (look_ups S o)
  stands = releasing_stands (look_ups S o) c (h.orderly o) there

  abbrev r : OperandState
  r = stands.1.0.1.kept

  -- its record
  pub kept : operand_at S.flight o ≡ Some r
  kept = stands.1.0.1.there

  abbrev own_look_ups : LookUps
  own_look_ups = record (look_ups S o) { releasing = None; leaving = Some (bye_promised o x c.producer) }

  -- what is looked up of it then
  pub own_looked : look_ups T o ≡ own_look_ups
  own_looked =
      look_ups-release-own m S o c x there k.there
      (not_told (sent_by_release S.versions o v x c.producer) o (look_ups S o) Releasing k.phase (λ e. cc)
      (told_waits o))

  -- it is leaving
  pub now_leaving : phase_of T o ≡ Leaving
  now_leaving = phase_of-release m S o c x there k.there (h.orderly o).alone (told_waits o)

  -- ---- the others

  -- another operand is told, or stays as it was
  pub other_phase : (q : OpName) → q ≢ o
      → phase_of T q ≡ phase_told (tells (sent_by_release S.versions o v x c.producer) q) (phase_of S q)
  other_phase q apart = phase_of-release-other m S o c x there k.there q apart (told_waits q)

  -- the bye tells nobody
  pub same_tells : (q : OpName) → tells (sent_by_release S.versions o v x c.producer) q ≡ tells (hs ++ d.sent) q
  same_tells q = bye_tells hs d.sent o (bye_promised o x c.producer) q
