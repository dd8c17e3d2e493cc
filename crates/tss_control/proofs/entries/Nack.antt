-- A nack keeps the entries, and its refusal has a cause.
use Rattle.std.proofs.Common.{◌≡◌, inl, inr, true, Option, Some, None, refl, sym, ap, ◌∙◌, subst, true≢false}
use Rattle.std.specs.Prelude.{is_some}
use Rattle.std.specs.FinMap.{get}
use Rattle.std.proofs.lemmas.Option.{none-some}
use Rattle.tss_base.specs.declared.operand.OpName.{OpName}
use Rattle.tss_base.specs.declared.machine.Machine.{Machine}
use Rattle.tss_base.specs.declared.event.Event.TheVariants as event
use Rattle.tss_maps.proofs.Keys.{name_order}
use Rattle.tss_maps.proofs.Changes.{beside_inserted, from_inserted, from_removed}
use Rattle.tss_protocol.specs.Mail.{Mail}
use Rattle.tss_protocol.specs.State.{State, Version}
use Rattle.tss_protocol.specs.Versions.{put_version, settled, refused_once, nacked_at}
use Rattle.tss_protocol.specs.UnitMachine.{IsEnabled, is_enabled, after_event, without, with_versioned}
use Rattle.tss_phases.specs.Orderly.{AreOrderly}
use Rattle.tss_control.specs.Members.{total}
use Rattle.tss_control.specs.Chains.{HasChains}
use Rattle.tss_control.specs.Entries.{HasCause, HasEntries, HasRetirement}
use Rattle.tss_control.proofs.chains.Alike.{AreAlike}
use Rattle.tss_control.proofs.chains.Settled.{HasChains-written}
use Rattle.tss_control.proofs.chains.Released.{others_written}
use Rattle.tss_control.proofs.entries.Decoded.{later_decodes_none}
use Rattle.tss_control.proofs.entries.OfVersions.{entry_awake_of}
use Rattle.tss_control.proofs.entries.Written.{total_written, entries_written}
use Rattle.tss_control.proofs.entries.SettleCases.{KeepsSettled, posted_all_settled, settles_with}
use Rattle.tss_control.proofs.entries.Settled.{AsksSoundly}
use Rattle.tss_control.proofs.entries.RetirementWritten.{cause_alike, AfterSettle, entries_then, retirement_then}
use Rattle.tss_control.proofs.rounds.Facts.{Facts}

module _ (m : Machine) (S : State) (facts : Facts m S) (v : OpName) where
  open facts use {all, ts, ground, control as h}

  abbrev T : State
  T = after_event m S (event.Nack v)

  module _ (there : get S.mail.nacks v ≡ Some tt) (x : Version) (at : get S.versions v ≡ Some x)
      (after : AreOrderly T) where
    -- the state before the settle
    abbrev U : State
    U = record (without S (event.Nack v)) { versions = put_version S.versions v (refused_once x) }

    quiet : get S.mail.retires v ≡ None
    quiet = (ground.asking.nacks v there).1

    refused_like : AreAlike x (refused_once x)
    refused_like =
        record { object = refl; storage = refl; predecessor = refl; successor = refl; produced = λ e. refl }

    chains : HasChains ts U
    chains =
        HasChains-written S U v x (refused_once x)
        (record { there = at; put = refl; like = refused_like; registered = refl; opens = refl; uses = refl })
        ts h.chains

    totals : (w : OpName) → total U w ≡ total S w
    totals w = total_written S U v x (refused_once x) at refl refl refl refl w

    entries : HasEntries ts U
    entries = entries_written ts S U h.chains h.entries v x (refused_once x)
        (record {
          there = at;
          versions = refl;
          object = refl;
          copies = refl;
          opens = refl;
          uses = λ o w e. e;
          retires = refl;
          gones = refl;
          entries = refl;
          totals = totals;
          decoded = λ o p among d. d;
        })
        (λ e entry object.
        entry_awake_of m S facts v x at (record { entry = e; there = entry; object = object }) quiet)

    sound : AsksSoundly U
    sound =
        let r = h.retirement in
        record {
          asked = λ w z count k asks. elim (from_inserted name_order S.versions v (refused_once x) w z k) [
            | inl new ↦ absurd (none-some count (ap (λ (z : Version). z.asked) (sym new.1) ∙ asks))
            | inr old ↦
                let a = r.asked w z count old.1 asks in
                record { produced = a.produced; oldest = a.oldest; released = a.released }
          ];
          refused = λ w z count k no_more. elim (from_inserted name_order S.versions v (refused_once x) w z k) [
            | inl new ↦
                let asks = ap (λ (z : Version). z.refused) (sym new.1) ∙ no_more in
                subst (λ w. HasCause U w z count) (sym new.0)
                (cause_alike S U refl v x z (ap (λ (z : Version). z.object) new.1) count
                (r.refusing v x count at asks there))
            | inr old ↦ cause_alike S U refl w z z refl count (r.refused w z count old.1 no_more)
          ];
          refusing = λ w z count k asks nack.
              let other = from_removed name_order S.mail.nacks v w tt nack in
              elim (from_inserted name_order S.versions v (refused_once x) w z k) [
                | inl new ↦ absurd (other.0 new.0)
                | inr old ↦ cause_alike S U refl w z z refl count (r.refusing w z count old.1 asks other.1)
              ];
          nacks = λ w nack.
              let other = from_removed name_order S.mail.nacks v w tt nack in
              let a = (ground.asking.nacks w other.1).0 in (
                a.0,
                (a.1.0, beside_inserted name_order S.versions v (refused_once x) w other.0 ∙ a.1.1, a.1.2),
              );
        }

    nacked : T ≡ with_versioned (without S (event.Nack v)) (settled U.versions v)
    unfolding after_event
    nacked = ap (λ x. with_versioned (without S (event.Nack v)) (nacked_at S.versions v x)) at

    settled_after : AfterSettle ts U T v
    settled_after =
        let w = settles_with ts U chains v (others_written S h.retirement v (refused_once x)) in
        record {
          versions = λ i. (nacked i).versions;
          copies = λ i. (nacked i).copies;
          entries = λ i. (nacked i).entries;
          mail = subst (λ (n : Mail). KeepsSettled v U.mail n) (sym (λ i. (nacked i).mail))
              (posted_all_settled v U.mail (settled U.versions v).sent w.sent);
          stays = (ground.places.versions v x at).2;
          decoded = λ o p among d. later_decodes_none m all S h.orderly (event.Nack v) refl after o d;
        }

    nack_entries : HasEntries ts T
    nack_entries =
        entries_then ts U T v settled_after chains (others_written S h.retirement v (refused_once x)) entries

    nack_retirement : HasRetirement T
    nack_retirement =
        retirement_then ts U T v settled_after chains (others_written S h.retirement v (refused_once x)) sound

  unit_there : (o : Option (Unit {0})) → is_some o ≡ true → o ≡ Some tt
  unit_there None e = absurd (true≢false (sym e))
  unit_there (Some tt) e = refl

  nack_there : IsEnabled m S (event.Nack v) → get S.mail.nacks v ≡ Some tt
  unfolding is_enabled
  nack_there on = unit_there (get S.mail.nacks v) on

  -- entries after a nack
  pub HasEntries-nack : IsEnabled m S (event.Nack v) → AreOrderly T → HasEntries ts T
  HasEntries-nack on after =
      let there = nack_there on in
      let a = (ground.asking.nacks v there).0.1 in
      nack_entries there a.0 a.1 after

  -- asking and refusing after a nack
  pub HasRetirement-nack : IsEnabled m S (event.Nack v) → AreOrderly T → HasRetirement T
  HasRetirement-nack on after =
      let there = nack_there on in
      let a = (ground.asking.nacks v there).0.1 in
      nack_retirement there a.0 a.1 after
