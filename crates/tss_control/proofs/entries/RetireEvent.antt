-- What a retire leaves of copies and gone messages, and that every retire keeps the entries.
use Rattle.std.proofs.Common.{◌≡◌, ◌≢◌, ℕ, ◌⊎◌, inl, inr, true, Option, Some, None, refl, sym, ap, ◌∙◌, true≢false}
use Rattle.std.specs.Prelude.{is_some, is_none}
use Rattle.std.specs.FinMap.{get, insert, remove}
use Rattle.std.proofs.lemmas.Bool.{and_parts}
use Rattle.std.proofs.lemmas.Option.{none-some}
use Rattle.tss_base.specs.declared.range.Range.{Range}
use Rattle.tss_base.specs.declared.operand.OpName.{OpName}
use Rattle.tss_base.specs.declared.machine.Machine.{Machine}
use Rattle.tss_base.specs.declared.event.Event.TheVariants as event
use Rattle.tss_maps.proofs.Keys.{nat_order, name_order}
use Rattle.tss_maps.proofs.Changes.{at_inserted, beside_inserted, from_inserted}
use Rattle.tss_protocol.specs.Names.{bank_of}
use Rattle.tss_protocol.specs.Mail.{StorageName, Home, Buffer, GoneContents, Mail, posted_all, taken}
use Rattle.tss_protocol.specs.State.{State, Version, CopyState}
use Rattle.tss_protocol.specs.Versions.{retired}
use Rattle.tss_protocol.specs.Buffers.{can_retire_from, sent_by_retire, new_copy, copies_after_retire}
use Rattle.tss_protocol.specs.UnitMachine.{IsEnabled, is_enabled, after_event, without, can_retire, retire_version}
use Rattle.tss_phases.specs.Orderly.{AreOrderly}
use Rattle.tss_phases.proofs.Tests.{something}
use Rattle.tss_locality.proofs.LeftFields.{Leaves-after_event}
use Rattle.tss_control.specs.Entries.{IsGoingHome, HasEntries, HasRetirement}
use Rattle.tss_control.proofs.rounds.EntriesFrames.{DecodesNoMore}
use Rattle.tss_control.proofs.entries.Decoded.{later_decodes_none}
use Rattle.tss_control.proofs.entries.Retire.{Retires, entries_retired, retirement_retired}
use Rattle.tss_control.proofs.rounds.Facts.{Basis, Facts}

module _ (m : Machine) (S : State) (basis : Basis m S) (orderly : AreOrderly S) (v : OpName) (x : Version)
    (at : get S.versions v ≡ Some x) where
  open basis use {all, ts, ground}

  abbrev U : State
  U = after_event m S (event.Retire v)

  abbrev bank : ℕ
  bank = bank_of m.sizes x.object

  module _ (storage : Option StorageName) (lies : x.storage ≡ storage) where
    retired_copies : U.copies ≡ copies_after_retire S.copies bank v x.object storage
    unfolding after_event
    retired_copies =
        ap (λ x. (retire_version m (without S (event.Retire v)) v x).copies) at
        ∙ ap (copies_after_retire S.copies bank v x.object) lies

    retired_mail : U.mail ≡ posted_all (taken S.mail (event.Retire v)) (sent_by_retire v x.object storage)
    unfolding after_event
    retired_mail =
        ap (λ x. (retire_version m (without S (event.Retire v)) v x).mail) at
        ∙ ap (λ s. posted_all (taken S.mail (event.Retire v)) (sent_by_retire v x.object s)) lies

  retired_versions : U.versions ≡ remove S.versions v
  unfolding after_event
  retired_versions = ap (λ x. (retire_version m (without S (event.Retire v)) v x).versions) at

  module _ (after : AreOrderly U) where
    decoded : DecodesNoMore ts S U
    decoded o p among = later_decodes_none m all S orderly (event.Retire v) refl after o

    -- at home
    module _ (lies : x.storage ≡ Some Home) where
      home_gones : U.mail.gones ≡ insert S.mail.gones v (retired x.object None)
      home_gones = ap (λ (m : Mail). m.gones) (retired_mail (Some Home) lies)

      home_back : (y : Range) (w : OpName) → IsGoingHome U y w → IsGoingHome S y w ⊎ ((w ≡ v) × (x.object ≡ y))
      home_back y w (inl k) =
          inl (inl (k.0, k.1, ap (λ m. get m k.0) (sym (retired_copies (Some Home) lies)) ∙ k.2, k.3, k.4))
      home_back y w (inr k) =
          elim (from_inserted name_order S.mail.gones v (retired x.object None) w k.0
          (ap (λ m. get m w) (sym home_gones) ∙ k.1)) [
            | inl new ↦ inr (new.0, ap (λ (g : GoneContents). g.object) (sym new.1) ∙ k.3)
            | inr old ↦ inl (inr (k.0, old.1, k.2, k.3))
          ]

      home_still : (y : Range) (w : OpName) → IsGoingHome S y w → IsGoingHome U y w
      home_still y w (inl k) = inl (k.0, k.1, ap (λ m. get m k.0) (retired_copies (Some Home) lies) ∙ k.2, k.3, k.4)
      home_still y w (inr k) =
          let apart : w ≢ v = λ same.
          none-some k.0 (sym (ground.places.versions v x at).2 ∙ ap (get S.mail.gones) (sym same) ∙ k.1) in
          inr (
            k.0,
            ap (λ m. get m w) home_gones ∙ beside_inserted name_order S.mail.gones v (retired x.object None) w apart
                ∙ k.1,
            k.2,
            k.3,
          )

      retires_home : Retires ts S U v x
      retires_home = record {
        versions = retired_versions;
        opens = ap (λ (m : Mail). m.opens) (retired_mail (Some Home) lies);
        uses = ap (λ (m : Mail). m.uses) (retired_mail (Some Home) lies);
        retires = ap (λ (m : Mail). m.retires) (retired_mail (Some Home) lies);
        nacks = ap (λ (m : Mail). m.nacks) (retired_mail (Some Home) lies);
        entries = λ i. (Leaves-after_event m S (event.Retire v) i).entries;
        back = home_back;
        still = home_still;
        goes = inr (
          retired x.object None,
          ap (λ m. get m v) home_gones ∙ at_inserted name_order S.mail.gones v (retired x.object None),
          refl,
          refl,
        );
        decoded = decoded;
      }

    -- in a buffer
    module _ (n : OpName) (lies : x.storage ≡ Some (Buffer n)) (idle : get S.copies bank ≡ None) where
      abbrev copy : CopyState
      copy = new_copy v x.object n

      copies : U.copies ≡ insert S.copies bank copy
      copies = retired_copies (Some (Buffer n)) lies

      buffer_back : (y : Range) (w : OpName) → IsGoingHome U y w → IsGoingHome S y w ⊎ ((w ≡ v) × (x.object ≡ y))
      buffer_back y w (inr k) =
          inl (inr (k.0, ap (λ (m : Mail). get m.gones w) (sym (retired_mail (Some (Buffer n)) lies)) ∙ k.1, k.2, k.3))
      buffer_back y w (inl k) =
          elim (from_inserted nat_order S.copies bank copy k.0 k.1 (ap (λ m. get m k.0) (sym copies) ∙ k.2)) [
            | inl new ↦
                inr (
                  sym k.3 ∙ ap (λ (c : CopyState). c.version) new.1,
                  ap (λ (c : CopyState). c.object) (sym new.1) ∙ k.4,
                )
            | inr old ↦ inl (inl (k.0, k.1, old.1, k.3, k.4))
          ]

      buffer_still : (y : Range) (w : OpName) → IsGoingHome S y w → IsGoingHome U y w
      buffer_still y w (inr k) =
          inr (k.0, ap (λ (m : Mail). get m.gones w) (retired_mail (Some (Buffer n)) lies) ∙ k.1, k.2, k.3)
      buffer_still y w (inl k) =
          let apart : k.0 ≢ bank = λ same. none-some k.1 (sym idle ∙ ap (get S.copies) (sym same) ∙ k.2) in
          inl (
            k.0,
            k.1,
            ap (λ m. get m k.0) copies ∙ beside_inserted nat_order S.copies bank copy k.0 apart ∙ k.2,
            k.3,
            k.4,
          )

      retires_buffer : Retires ts S U v x
      retires_buffer = record {
        versions = retired_versions;
        opens = ap (λ (m : Mail). m.opens) (retired_mail (Some (Buffer n)) lies);
        uses = ap (λ (m : Mail). m.uses) (retired_mail (Some (Buffer n)) lies);
        retires = ap (λ (m : Mail). m.retires) (retired_mail (Some (Buffer n)) lies);
        nacks = ap (λ (m : Mail). m.nacks) (retired_mail (Some (Buffer n)) lies);
        entries = λ i. (Leaves-after_event m S (event.Retire v) i).entries;
        back = buffer_back;
        still = buffer_still;
        goes = inl (bank, copy, ap (λ m. get m bank) copies ∙ at_inserted nat_order S.copies bank copy, refl, refl);
        decoded = decoded;
      }

    none_by : {X : Type 0} (o : Option X) → is_none o ≡ true → o ≡ None
    none_by None e = refl
    none_by (Some y) e = absurd (true≢false (sym e))

    retires_by : (storage : Option StorageName) → x.storage ≡ storage
        → can_retire_from storage (get S.copies bank) ≡ true → Retires ts S U v x
    retires_by None lies on = absurd (true≢false (sym on))
    retires_by (Some Home) lies on = retires_home lies
    retires_by (Some (Buffer n)) lies on = retires_buffer n lies (none_by (get S.copies bank) on)

module _ (m : Machine) (S : State) (facts : Facts m S) (v : OpName) (on : IsEnabled m S (event.Retire v)) where
  open facts use {basis, ts, control as h}

  -- what may retire is there
  record Finds : Type 0 where
    pub version : Version
    pub there : get S.versions v ≡ Some version
    pub may : get S.mail.retires v ≡ Some tt
    pub from : can_retire_from version.storage (get S.copies (bank_of m.sizes version.object)) ≡ true

  unit_there : (o : Option (Unit {0})) → is_some o ≡ true → o ≡ Some tt
  unit_there None e = absurd (true≢false (sym e))
  unit_there (Some tt) e = refl

  finds : Finds
  unfolding is_enabled
  finds =
      let both = and_parts (is_some (get S.mail.retires v)) (can_retire m S (get S.versions v)) on in
      let x = something (can_retire m S) (get S.versions v) refl both.1 in
      record {
        version = x.0;
        there = x.1;
        may = unit_there (get S.mail.retires v) both.0;
        from = sym (ap (can_retire m S) x.1) ∙ both.1;
      }

  retires_then : AreOrderly (after_event m S (event.Retire v))
      → Retires ts S (after_event m S (event.Retire v)) v finds.version
  retires_then after =
      retires_by m S basis h.orderly v finds.version finds.there after finds.version.storage refl finds.from

  -- entries after a retire
  pub HasEntries-retire : AreOrderly (after_event m S (event.Retire v))
      → HasEntries ts (after_event m S (event.Retire v))
  HasEntries-retire after =
      entries_retired m S facts v finds.version finds.there finds.may (after_event m S (event.Retire v))
      (retires_then after)

  -- asking and refusing after it
  pub HasRetirement-retire : AreOrderly (after_event m S (event.Retire v))
      → HasRetirement (after_event m S (event.Retire v))
  HasRetirement-retire after =
      retirement_retired m S facts v finds.version finds.there finds.may (after_event m S (event.Retire v))
      (retires_then after)
