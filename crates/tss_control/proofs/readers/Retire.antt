-- A version that may retire is the last of its object, and all its readers have released it.
use Rattle.std.proofs.Common.{◌≡◌, inl, inr, ℕ, ◌≤◌, Bool, true, false, Some, refl, sym, ap, ◌∙◌, subst, arith}
use Rattle.std.specs.Prelude.{is_some}
use Rattle.std.specs.FinMap.{get}
use Rattle.std.proofs.lemmas.Option.{same_Some}
use Rattle.tss_base.specs.declared.operand.OpName.{OpName}
use Rattle.tss_base.specs.declared.machine.Machine.{Machine}
use Rattle.tss_base.specs.declared.event.Event.TheVariants as event
use Rattle.tss_maps.proofs.Keys.{name_order, decide_key}
use Rattle.tss_maps.proofs.Changes.{from_removed, beside_removed}
use Rattle.tss_protocol.specs.State.{State, Entry, Version}
use Rattle.tss_protocol.specs.Stations.{operand_at}
use Rattle.tss_protocol.specs.Versions.{drop_version}
use Rattle.tss_protocol.specs.UnitMachine.{IsEnabled, is_enabled, after_event, can_retire, retire_version, without}
use Rattle.tss_phases.specs.Phase.{phase_of}
use Rattle.tss_phases.specs.Orderly.{AreOrderly}
use Rattle.tss_phases.proofs.Tests.{something, both}
use Rattle.tss_phases.proofs.QuietEvents.{phase_of-retire}
use Rattle.tss_locality.proofs.LeftFields.{Leaves-after_event}
use Rattle.tss_control.proofs.rounds.EntryOf.{decide_entry_of}
use Rattle.tss_control.specs.Chains.{HasChains}
use Rattle.tss_control.specs.Entries.{HasEntryOf, IsLastVersion, HasEntries}
use Rattle.tss_control.specs.Readers.{Arrivals, HasReaders}
use Rattle.tss_control.proofs.rounds.ReadersKept.{alike_same, same_version}
use Rattle.tss_control.proofs.rounds.ReadersStates.{StaysOrGone, readers_kept, readers_fewer}
use Rattle.tss_control.proofs.readers.Links.{links-retire}
use Rattle.tss_control.proofs.readers.Settled.{some_unit}
use Rattle.tss_control.proofs.rounds.Facts.{Basis, Facts}

-- ---- the entry of a version that may retire

-- it is the latest version of an entry that retires, and the only one of its object
pub record IsRetired (S : State) (v : OpName) (x : Version) : Type 0 where
  pub entry : Entry
  pub there : get S.entries x.object.base ≡ Some entry
  pub object : entry.object ≡ x.object
  pub retiring : entry.retiring ≡ true
  pub latest : v ≡ entry.latest
  pub last : IsLastVersion S entry.object entry x

module _ (m : Machine) (S : State) (basis : Basis m S) (orderly : AreOrderly S) (chains : HasChains basis.ts S)
    (h : HasEntries basis.ts S) (v : OpName) (x : Version) (retires : get S.mail.retires v ≡ Some tt)
    (there : get S.versions v ≡ Some x) where
  open basis use {ts}

  retired_of : (e : Entry) → get S.entries x.object.base ≡ Some e → e.object ≡ x.object → (b : Bool)
      → e.retiring ≡ b → IsRetired S v x
  retired_of e at object false live =
      absurd ((h.live x.object.base e at live).stays v (inl (retires, (x, there, sym object))))
  retired_of e at object true going =
      let r = h.retiring x.object.base e at going in
      let latest = r.only v (inl (retires, (x, there, sym object))) in record {
        entry = e;
        there = at;
        object = object;
        retiring = going;
        latest = latest;
        last = r.last x (ap (get S.mail.retires) (sym latest) ∙ retires) (ap (get S.versions) (sym latest) ∙ there);
      }

  -- its entry retires, and it is the only version
  pub retires_last : IsRetired S v x
  retires_last =
      let p = chains.opener v x there in
      elim (decide_entry_of S x.object) [
        | inl f ↦ retired_of f.entry f.there f.object f.entry.retiring refl
        | inr none ↦
            absurd ((h.absent v p.0 p.1 (λ f. none (subst (HasEntryOf S) p.2 f))).members v (inl (x, there, sym p.2)))
      ]

  -- as many readers have released it as have registered
  pub retires_released : x.registered ≤ x.released
  retires_released =
      let last = retires_last.last in
      by x.registered x.released retires_last.entry.sent last.registered last.released
    where
      by : (a b c : ℕ) → a ≡ c → b ≡ c → a ≤ b
      by a b c e f = omega (arith, e, f)

  -- ---- retire

  module _ (g : Arrivals) (readers : HasReaders ts g S) where
    abbrev Retired : State
    Retired = after_event m S (event.Retire v)

    retired_versions : Retired.versions ≡ drop_version S.versions v
    unfolding after_event
    retired_versions = ap (λ y. (retire_version m (without S (event.Retire v)) v y).versions) there

    retired_flight : Retired.flight ≡ S.flight
    retired_flight = λ i. (Leaves-after_event m S (event.Retire v) i).flight

    -- the state in which the version is still there
    before_drop : HasReaders ts g (record Retired { versions = S.versions })
    before_drop = readers_kept ts g S (record Retired { versions = S.versions }) (record {
      versions = λ w z e. (z, e, same_version z z refl);
      stay = λ w y e. (y, e);
      each = λ w y a e k. record {
        phase = alike_same (phase_of S a) (phase_of Retired a) (phase_of-retire m S v a);
        links = ap (λ ls. get ls a) (links-retire m S v);
        holds = λ c k. (k.0, ap (λ f. operand_at f a) retired_flight ∙ k.1, k.2);
        station = λ r e. (r, sym (ap (λ f. operand_at f a) retired_flight) ∙ e, refl);
      };
      links = λ a b e. sym (ap (λ ls. get ls a) (links-retire m S v)) ∙ e;
      held = λ a b k. (k.0, sym (ap (λ f. operand_at f a) retired_flight) ∙ k.1, k.2);
    }) readers

    stays_or_gone : (w : OpName) (y : Version) → get S.versions w ≡ Some y
        → StaysOrGone (drop_version S.versions v) w y
    stays_or_gone w y e = elim (decide_key name_order w v) [
      | inr apart ↦ inl (y, beside_removed name_order S.versions v w apart ∙ e)
      | inl same ↦ inr (subst (λ (z : Version). z.registered ≤ z.released)
          (same_Some x y (sym there ∙ ap (get S.versions) (sym same) ∙ e)) retires_released)
    ]

    readers_retired : HasReaders ts g Retired
    readers_retired =
        subst (λ vs. HasReaders ts g (record Retired { versions = vs })) (sym retired_versions)
        (readers_fewer ts g (record Retired { versions = S.versions }) (drop_version S.versions v)
        (λ w z e. let p = from_removed name_order S.versions v w z e in (z, p.1, same_version z z refl))
        stays_or_gone before_drop)

-- retire
pub HasReaders-retire : (m : Machine) (S : State) (facts : Facts m S) (v : OpName) → IsEnabled m S (event.Retire v)
    → HasReaders facts.ts facts.g (after_event m S (event.Retire v))
unfolding is_enabled
HasReaders-retire m S facts v enabled =
    let h = facts.control in
    let t = both (is_some (get S.mail.retires v)) (can_retire m S (get S.versions v)) enabled in
    let x = something (can_retire m S) (get S.versions v) refl t.1 in
    readers_retired m S facts.basis h.orderly h.chains h.entries v x.0 (some_unit (get S.mail.retires v) t.0) x.1
    facts.g h.readers
