-- Every answer to a version that asks keeps the entries, and a refusal has a cause.
use Rattle.std.proofs.Common.{◌≡◌, ◌≢◌, ℕ, ◌<◌, ◌≤◌, ◌⊎◌, inl, inr, Bool, true, false, Some, None, refl, sym, ap, ◌∙◌}
use Rattle.std.proofs.Common.{subst, arith}
use Rattle.std.proofs.lemmas.Bool.Decides.{nat_tests}
use Rattle.std.specs.Prelude.{is_some, ◌==◌, ◌&&◌}
use Rattle.std.specs.FinMap.{get, insert}
use Rattle.std.proofs.lemmas.Bool.{and_parts}
use Rattle.std.proofs.lemmas.Option.{same_Some}
use Rattle.tss_base.specs.declared.range.Range.{Range}
use Rattle.tss_base.specs.declared.operand.OpName.{OpName}
use Rattle.tss_base.specs.declared.machine.Machine.{Machine}
use Rattle.tss_base.specs.declared.event.Event.TheVariants as event
use Rattle.tss_base.specs.Names.{Numbered}
use Rattle.tss_maps.proofs.Keys.{name_order, decide_key}
use Rattle.tss_maps.proofs.Changes.{from_inserted}
use Rattle.tss_protocol.specs.Names.{same_name}
use Rattle.tss_protocol.specs.Mail.{IdleContents}
use Rattle.tss_protocol.specs.State.{State, Entry, Version, Outcome}
use Rattle.tss_protocol.specs.Renaming.{may_retire, idle_by}
use Rattle.tss_protocol.specs.UnitMachine.{IsEnabled, is_enabled, after_event, without, with_entries}
use Rattle.tss_protocol.specs.UnitMachine.{idle_message_taken}
use Rattle.tss_phases.specs.Orderly.{AreOrderly}
use Rattle.tss_phases.proofs.Received.{own_name}
use Rattle.tss_phases.proofs.SettlingLemmas.{name_from_test}
use Rattle.tss_phases.proofs.Tests.{something, not_both}
use Rattle.tss_control.specs.Members.{total}
use Rattle.tss_control.specs.Entries.{HasEntryOf, HasCause, HasEntries, HasRetirement}
use Rattle.tss_control.proofs.rounds.EntriesFrames.{DecodesNoMore, HasEntries-same}
use Rattle.tss_control.proofs.entries.Decoded.{later_decodes_none}
use Rattle.tss_control.proofs.entries.OfVersions.{entry_of_version, entry_awake_of, released_within, registered_within}
use Rattle.tss_control.proofs.entries.Granted.{Grants, entries_granted}
use Rattle.tss_control.proofs.rounds.RetirementFrames.{retirement_kept, cause_same}
use Rattle.tss_control.proofs.entries.RetirementDecode.{cause_written}
use Rattle.tss_control.proofs.rounds.Facts.{Facts}

same_count : (a b : ℕ) → (a == b) ≡ true → a ≡ b
same_count a b e = grind (arith, nat_tests)

other_count : (a b : ℕ) → (a == b) ≡ false → b ≤ a → b < a
other_count a b e h = grind (arith, nat_tests)

module _ (m : Machine) (S : State) (facts : Facts m S) (v : OpName) where
  open facts use {all, ts, ground, control as h}

  abbrev T : State
  T = after_event m S (event.Idle v)

  module _ (i : IdleContents) (there : get S.mail.idles v ≡ Some i) where
    -- the version that asks
    abbrev x : Version
    x = (ground.asking.idles v i there).0.0

    at : get S.versions v ≡ Some x
    at = (ground.asking.idles v i there).0.1

    asked : x.asked ≡ Some i.count
    asked = (ground.asking.idles v i there).0.2

    base : i.base ≡ x.object.base
    base = (ground.asking.idles v i there).0.3

    quiet : get S.mail.retires v ≡ None
    quiet = (ground.asking.idles v i there).2

    f : HasEntryOf S x.object
    f = entry_of_version m S facts v x at

    awake : f.entry.retiring ≡ false
    awake = entry_awake_of m S facts v x at f quiet

    -- what is left, by the answer
    module _ (b : Bool) (answer : may_retire v i.count (Some f.entry) ≡ b) where
      abbrev outcome : Outcome (Numbered Entry)
      outcome = idle_by S.entries v i.base (Some f.entry) b

      idle_state : T ≡ with_entries (without S (event.Idle v)) outcome
      unfolding after_event
      idle_state =
          ap (idle_message_taken (without S (event.Idle v)) v) there
          ∙ (λ j. with_entries (without S (event.Idle v))
          (idle_by S.entries v i.base ((ap (get S.entries) base ∙ f.there) j)
          (may_retire v i.count ((ap (get S.entries) base ∙ f.there) j))))
          ∙ ap (λ b. with_entries (without S (event.Idle v)) (idle_by S.entries v i.base (Some f.entry) b)) answer

    decoded : AreOrderly T → DecodesNoMore ts S T
    decoded after q p among = later_decodes_none m all S h.orderly (event.Idle v) refl after q

    -- ---- it may

    module _ (may : may_retire v i.count (Some f.entry) ≡ true) where
      tests : (f.entry.latest ≡ v) × (f.entry.sent ≡ i.count)
      tests =
          let both = and_parts (same_name f.entry.latest v) (f.entry.sent == i.count) may in
          (name_from_test f.entry.latest v both.0, same_count f.entry.sent i.count both.1)

      to_base : i.base ≡ f.entry.object.base
      to_base = base ∙ ap (λ (x : Range). x.base) (sym f.object)

      grants : AreOrderly T → Grants ts S T v f.entry
      grants after =
          let is = idle_state true may in
          record {
            versions = λ j. (is j).versions;
            copies = λ j. (is j).copies;
            opens = λ j. (is j).mail.opens;
            uses = λ j. (is j).mail.uses;
            retires = λ j. (is j).mail.retires;
            gones = λ j. (is j).mail.gones;
            entries = (λ j. (is j).entries)
                ∙ ap (λ b. insert S.entries b (record (f.entry) { retiring = true })) to_base;
            decoded = decoded after;
          }

      granted : AreOrderly T → HasEntries ts T
      granted after =
          entries_granted m S facts v x at quiet f tests.0 (asked ∙ ap Some (sym tests.1)) T (grants after)

      granted_retirement : HasRetirement T
      granted_retirement =
          let is = idle_state true may in
          retirement_kept S T (λ j. (is j).versions) (λ j. (is j).mail.nacks)
          (λ w y count version.
          cause_written S T i.base (record (f.entry) { retiring = true }) (λ j. (is j).entries) w y count
          (λ e entry why. subst (λ (e : Entry). (e.latest ≢ w) ⊎ (count < e.sent))
          (same_Some e f.entry (sym entry ∙ ap (get S.entries) base ∙ f.there)) why))
          h.retirement

    -- ---- it may not

    module _ (may : may_retire v i.count (Some f.entry) ≡ false) where
      refused_entries : AreOrderly T → HasEntries ts T
      refused_entries after =
          let is = idle_state false may in
          HasEntries-same ts S T (record {
            versions = λ j. (is j).versions;
            copies = λ j. (is j).copies;
            opens = λ j. (is j).mail.opens;
            uses = λ j. (is j).mail.uses;
            retires = λ j. (is j).mail.retires;
            gones = λ j. (is j).mail.gones;
          }) (λ j. (is j).entries) (decoded after) h.entries

      -- the count that it asked for is at most what the entry knows
      few : f.entry.latest ≡ v → i.count ≤ f.entry.sent
      few latest =
          let live = h.entries.live x.object.base f.entry f.there awake in
          let a = (h.retirement.asked v x i.count at asked).released in
          let b = released_within m S facts v x at in
          let c = registered_within m S facts v x at in
          let d = live.sent ∙ ap (total S) latest in
          omega (arith, a, b, c, d)

      cause : HasCause S v x i.count
      cause = (
        f.entry,
        f.there,
        elim (decide_key name_order f.entry.latest v) [
          | inl same ↦
              inr (other_count f.entry.sent i.count
              (rest (same_name f.entry.latest v) (f.entry.sent == i.count)
              (ap (λ q. same_name q v) same ∙ own_name v) may) (few same))
          | inr apart ↦ inl apart
        ],
      )
        where
          rest : (a b : Bool) → a ≡ true → (a && b) ≡ false → b ≡ false
          rest true b e f = f
          rest false b e f = absurd (not_both false e refl)

      refused_retirement : HasRetirement T
      refused_retirement =
          let is = idle_state false may in
          let r = h.retirement in
          let before : (w : OpName) (y : Version) → get T.versions w ≡ Some y → get S.versions w ≡ Some y =
          λ w y t. ap (λ m. get m w) (sym (λ j. (is j).versions)) ∙ t in
          record {
            asked = λ w y count t asks.
                let a = r.asked w y count (before w y t) asks in
                record { produced = a.produced; oldest = a.oldest; released = a.released };
            refused = λ w y count t no_more.
                cause_same S T (λ j. (is j).entries) w y count (r.refused w y count (before w y t) no_more);
            refusing = λ w y count t asks nack.
                let old = before w y t in
                cause_same S T (λ j. (is j).entries) w y count
                (elim (from_inserted name_order S.mail.nacks v tt w tt
                (ap (λ m. get m w) (sym (λ j. (is j).mail.nacks)) ∙ nack)) [
                  | inl new ↦
                      let one = same_Some x y (sym at ∙ ap (get S.versions) (sym new.0) ∙ old) in
                      let number = same_Some i.count count (sym asked ∙ ap (λ (y : Version). y.asked) one ∙ asks) in
                      subst (λ w. HasCause S w y count) (sym new.0)
                      (subst (λ (y : Version). HasCause S v y count) one (subst (HasCause S v x) number cause))
                  | inr earlier ↦ r.refusing w y count old asks earlier.1
                ]);
            settled = λ w y t. r.settled w y (before w y t);
          }

    -- ---- either

    entries_by : AreOrderly T → (b : Bool) → may_retire v i.count (Some f.entry) ≡ b → HasEntries ts T
    entries_by after true may = granted may after
    entries_by after false may = refused_entries may after

    retirement_by : (b : Bool) → may_retire v i.count (Some f.entry) ≡ b → HasRetirement T
    retirement_by true may = granted_retirement may
    retirement_by false may = refused_retirement may

  -- entries after an idle
  pub HasEntries-idle : IsEnabled m S (event.Idle v) → AreOrderly T → HasEntries ts T
  unfolding is_enabled
  HasEntries-idle on after =
      let i = something is_some (get S.mail.idles v) refl on in
      entries_by i.0 i.1 after (may_retire v i.0.count (Some (f i.0 i.1).entry)) refl

  -- asking and refusing after it
  pub HasRetirement-idle : IsEnabled m S (event.Idle v) → HasRetirement T
  unfolding is_enabled
  HasRetirement-idle on =
      let i = something is_some (get S.mail.idles v) refl on in
      retirement_by i.0 i.1 (may_retire v i.0.count (Some (f i.0 i.1).entry)) refl
