-- What operands hold after a retire: the version that goes is needed by nobody.
use Rattle.std.proofs.Common.{◌≡◌, ◌≢◌, ◌≤◌, true, Option, Some, None, refl, sym, ap, ◌∙◌, subst, inl, inr, true≢false}
use Rattle.std.specs.Prelude.{is_some}
use Rattle.std.specs.FinMap.{get}
use Rattle.std.proofs.lemmas.Option.{same_Some}
use Rattle.tss_base.specs.declared.operand.OpName.{OpName}
use Rattle.tss_base.specs.declared.machine.Machine.{Machine}
use Rattle.tss_base.specs.declared.event.Event.TheVariants as event
use Rattle.tss_maps.proofs.Keys.{name_order, decide_key}
use Rattle.tss_maps.proofs.Changes.{from_removed, beside_removed}
use Rattle.tss_model.specs.Access.{writes}
use Rattle.tss_protocol.specs.State.{State, Version}
use Rattle.tss_protocol.specs.Versions.{drop_version}
use Rattle.tss_protocol.specs.UnitMachine.{is_enabled, IsEnabled, after_event, can_retire, retire_version, without}
use Rattle.tss_phases.specs.Phase.{LookUps, look_ups, phase_at}
use Rattle.tss_phases.specs.Openers.{version_opener}
use Rattle.tss_phases.proofs.Tests.{something, both}
use Rattle.tss_phases.proofs.QuietEvents.{look_ups-retire}
use Rattle.tss_control.specs.Holders.{IsTrue, HasHolders}
use Rattle.tss_control.proofs.readers.Links.{links-retire}
use Rattle.tss_control.proofs.readers.Retire.{retires_last, retires_released}
use Rattle.tss_control.proofs.holders.Fits.{Holding, HasOpened, HasCome, holders_by}
use Rattle.tss_control.proofs.holders.Thinned.{ThinsHeld, holding_still}
use Rattle.tss_control.proofs.holders.RunnerEvents.{HasRunners-after_event}
use Rattle.tss_control.proofs.rounds.Facts.{Facts}

module _ (m : Machine) (S : State) (facts : Facts m S) (v : OpName) (x : Version)
    (retires : get S.mail.retires v ≡ Some tt) (there : get S.versions v ≡ Some x)
    (on : IsEnabled m S (event.Retire v)) where
  open facts use {basis, all, ts, g, ground, control as h}

  abbrev Retired : State
  Retired = after_event m S (event.Retire v)

  retired_versions : Retired.versions ≡ drop_version S.versions v
  unfolding after_event
  retired_versions = ap (λ y. (retire_version m (without S (event.Retire v)) v y).versions) there

  produced : x.produced ≡ true
  produced =
      let last = (retires_last m S basis h.orderly h.chains h.entries v x retires there).last in
      (h.retirement.asked v x _ there last.asked).produced

  kept : (w : OpName) → w ≢ v → get Retired.versions w ≡ get S.versions w
  kept w apart =
      ap (λ vs. get vs w) retired_versions ∙ beside_removed name_order S.versions v w apart

  thins : ThinsHeld S.versions Retired.versions
  thins w y e = elim (decide_key name_order w v) [
    | inr apart ↦ inl (y, kept w apart ∙ e, refl, λ s k. k)
    | inl same ↦
        let is : x ≡ y = same_Some x y (sym there ∙ ap (get S.versions) (sym same) ∙ e) in
        inr (subst (λ (y : Version). (y.produced ≡ true) × (y.registered ≤ y.released)) is (
          produced,
          retires_released m S basis h.orderly h.chains h.entries v x retires there,
        ))
  ]

  -- a version without a storage stays
  opened_still : (o : OpName) → HasOpened S o → HasOpened Retired o
  opened_still o y = elim (decide_key name_order o v) [
    | inr apart ↦ (y.0, kept o apart ∙ y.1, y.2)
    | inl same ↦
        let is : y.0 ≡ x = same_Some y.0 x (sym y.1 ∙ ap (get S.versions) same ∙ there) in
        let none = ap (λ (y : Version). y.storage) (sym is) ∙ y.2 in
        absurd (true≢false (sym produced ∙ ((h.chains.storages v x there).waits none).0))
  ]

  before : (w : OpName) (z : Version) → get Retired.versions w ≡ Some z → get S.versions w ≡ Some z
  before w z e = (from_removed name_order S.versions v w z (sym (ap (λ vs. get vs w) retired_versions) ∙ e)).1

  holders_retired : HasHolders ts g Retired
  holders_retired =
      holders_by ts g Retired
      (λ o p e.
      subst (λ l. Holding (IsTrue g Retired o p) (HasOpened Retired o) (HasCome g Retired o) (writes p.mode) l
      (get Retired.mail.links o)) (sym (look_ups-retire m S v o))
      (subst (λ k. Holding (IsTrue g Retired o p) (HasOpened Retired o) (HasCome g Retired o) (writes p.mode)
      (look_ups S o) (get k o)) (sym (links-retire m S v))
      (holding_still ts g S Retired h thins o p e (HasOpened Retired o) (λ w waits. opened_still o))))
      (λ w z p e at.
      ap (λ l. version_opener z p.mode (phase_at l)) (look_ups-retire m S v w)
      ∙ h.holders.openers w z p (before w z e) at)
      (λ o next e.
      let r = h.holders.records o next (sym (ap (λ ks. get ks o) (links-retire m S v)) ∙ e) in (
        r.0,
        ap (λ (l : LookUps). l.station) (look_ups-retire m S v o) ∙ r.1,
        λ left. r.2 (sym (ap phase_at (look_ups-retire m S v o)) ∙ left),
      ))
      (HasRunners-after_event m all S ground.numbers ground.stages h.orderly h.holders.runners (event.Retire v) on tt)

some_unit : (o : Option (Unit {0})) → is_some o ≡ true → o ≡ Some tt
some_unit None e = absurd (true≢false (sym e))
some_unit (Some tt) e = refl

module _ (m : Machine) (S : State) (facts : Facts m S) where
  open facts use {ts, g}

  -- retire
  pub HasHolders-retire : (v : OpName) → IsEnabled m S (event.Retire v)
      → HasHolders ts g (after_event m S (event.Retire v))
  unfolding is_enabled
  HasHolders-retire v on =
      let t = both (is_some (get S.mail.retires v)) (can_retire m S (get S.versions v)) on in
      let x = something (can_retire m S) (get S.versions v) refl t.1 in
      holders_retired m S facts v x.0 (some_unit (get S.mail.retires v) t.0) x.1 on
