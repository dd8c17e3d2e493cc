-- Asking and refusing where one version is written over with one that asks as it did, and then is settled.
use Rattle.std.proofs.Common.{◌≡◌, ℕ, ◌≤◌, inl, inr, true, List, Some, None, refl, sym, ap, ◌∙◌, subst, arith}
use Rattle.std.specs.FinMap.{get, insert}
use Rattle.std.proofs.lemmas.Option.{same_Some}
use Rattle.tss_base.specs.declared.range.Range.{Range}
use Rattle.tss_base.specs.declared.operand.OpName.{OpName}
use Rattle.tss_base.specs.declared.operand.Task.{Task}
use Rattle.tss_maps.proofs.Keys.{name_order, decide_key}
use Rattle.tss_maps.proofs.Changes.{at_inserted, beside_inserted, from_inserted}
use Rattle.tss_protocol.specs.State.{State, Version}
use Rattle.tss_protocol.specs.Versions.{settled}
use Rattle.tss_control.specs.Chains.{HasChains}
use Rattle.tss_names.specs.Asking.{AsksFor}
use Rattle.tss_control.specs.Entries.{HasCause, HasEntries, HasRetirement}
use Rattle.tss_protocol.proofs.SettleCases.{OthersSettled}
use Rattle.tss_control.proofs.rounds.EntriesFrames.{DecodesNoMore}
use Rattle.tss_control.proofs.entries.Settling.{SettlesTo}
use Rattle.tss_control.proofs.entries.SettleCases.{KeepsSettled, settles_with}
use Rattle.tss_control.proofs.entries.Settled.{Settled, AsksSoundly, entries_settled, retirement_settled}

-- a version asks, and was refused, as another did
pub record AsksAlike (x y : Version) : Type 0 where
  pub object : y.object ≡ x.object
  pub asked : y.asked ≡ x.asked
  pub refused : y.refused ≡ x.refused
  pub oldest : y.predecessor ≡ x.predecessor
  pub produced : x.produced ≡ true → y.produced ≡ true
  pub released : x.released ≤ y.released

-- a cause is one of a version of the same object
pub cause_alike : (S T : State) → T.entries ≡ S.entries → (v : OpName) (x y : Version) → y.object ≡ x.object
    → (count : ℕ) → HasCause S v x count → HasCause T v y count
cause_alike S T es v x y object count c =
    (c.0, ap (λ (r : Range). get T.entries r.base) object ∙ ap (λ m. get m x.object.base) es ∙ c.1, c.2)

module _ (S T : State) (v : OpName) (x y : Version) (there : get S.versions v ≡ Some x) (k : AsksAlike x y)
    (versions : T.versions ≡ insert S.versions v y) (entries : T.entries ≡ S.entries)
    (nacks : T.mail.nacks ≡ S.mail.nacks)
    (asking : (w : OpName) → get S.mail.nacks w ≡ Some tt → (count : ℕ) × AsksFor S.versions w count)
    (h : HasRetirement S) where
  -- what stands in a version's place
  written_from : (w : OpName) (z : Version) → get T.versions w ≡ Some z
      → (u : Version) × (get S.versions w ≡ Some u) × AsksAlike u z
  written_from w z at =
      elim (from_inserted name_order S.versions v y w z (ap (λ m. get m w) (sym versions) ∙ at)) [
        | inl new ↦ (x, ap (get S.versions) new.0 ∙ there, subst (AsksAlike x) (sym new.1) k)
        | inr old ↦ (
          z,
          old.1,
          record {
            object = refl;
            asked = refl;
            refused = refl;
            oldest = refl;
            produced = λ e. e;
            released = omega arith;
          },
        )
      ]

  asks_still : (w : OpName) (count : ℕ) → AsksFor S.versions w count → AsksFor T.versions w count
  asks_still w count a = elim (decide_key name_order w v) [
    | inl same ↦
        let one = same_Some x a.0 (sym there ∙ ap (get S.versions) (sym same) ∙ a.1) in (
          y,
          ap (λ m. get m w) versions ∙ ap (get (insert S.versions v y)) same ∙ at_inserted name_order S.versions v y,
          k.asked ∙ ap (λ (x : Version). x.asked) one ∙ a.2,
        )
    | inr other ↦
        (a.0, ap (λ m. get m w) versions ∙ beside_inserted name_order S.versions v y w other ∙ a.1, a.2)
  ]

  at_most : (a b c : ℕ) → a ≤ b → b ≤ c → a ≤ c
  at_most a b c p q = omega (arith, p, q)

  -- each version still asks rightly
  pub sound_written : AsksSoundly T
  sound_written = record {
    asked = λ w z count at asks.
        let f = written_from w z at in
        let a = h.asked w f.0 count f.1 (sym f.2.asked ∙ asks) in
        record {
          produced = f.2.produced a.produced;
          oldest = f.2.oldest ∙ a.oldest;
          released = at_most count f.0.released z.released a.released f.2.released;
        };
    refused = λ w z count at refused.
        let f = written_from w z at in
        cause_alike S T entries w f.0 z f.2.object count (h.refused w f.0 count f.1 (sym f.2.refused ∙ refused));
    refusing = λ w z count at asks nack.
        let f = written_from w z at in
        cause_alike S T entries w f.0 z f.2.object count
        (h.refusing w f.0 count f.1 (sym f.2.asked ∙ asks) (ap (λ m. get m w) (sym nacks) ∙ nack));
    nacks = λ w nack.
        let a = asking w (ap (λ m. get m w) (sym nacks) ∙ nack) in
        (a.0, asks_still w a.0 (a.1.0, a.1.1, a.1.2));
  }

-- ---- and it is settled

-- what a settle leaves of a state
pub record AfterSettle (ts : List Task) (S T : State) (v : OpName) : Type 0 where
  pub versions : T.versions ≡ (settled S.versions v).part
  pub copies : T.copies ≡ S.copies
  pub entries : T.entries ≡ S.entries
  pub mail : KeepsSettled v S.mail T.mail
  pub stays : get S.mail.gones v ≡ None
  pub decoded : DecodesNoMore ts S T

module _ (ts : List Task) (S T : State) (v : OpName) (d : AfterSettle ts S T v) (chains : HasChains ts S)
    (others : OthersSettled S.versions v) where
  is_settled : Settled ts S T v
  is_settled =
      let w = settles_with ts S chains v others in
      record {
        versions = subst (SettlesTo S.versions) (sym d.versions) w.versions;
        copies = d.copies;
        entries = d.entries;
        mail = d.mail;
        stays = d.stays;
        decoded = d.decoded;
      }

  -- entries
  pub entries_then : HasEntries ts S → HasEntries ts T
  entries_then h = entries_settled ts S T v is_settled chains h

  -- asking and refusing
  pub retirement_then : AsksSoundly S → HasRetirement T
  retirement_then h = retirement_settled ts S T v is_settled h
