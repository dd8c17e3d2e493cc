-- The chains after a release, and after a nack.
use Rattle.std.proofs.Common.{◌≡◌, ◌≤◌, Bool, true, false, List, Option, Some, None, refl, sym, ap, ◌∙◌, subst, inl}
use Rattle.std.proofs.Common.{inr}
use Rattle.std.specs.FinMap.{get}
use Rattle.std.proofs.lemmas.Option.{none-some, same_Some}
use Rattle.tss_base.specs.declared.operand.OpName.{OpName}
use Rattle.tss_base.specs.declared.operand.Task.{Task}
use Rattle.tss_base.specs.declared.machine.Machine.{Machine}
use Rattle.tss_base.specs.declared.event.Event.TheVariants as event
use Rattle.tss_maps.proofs.Keys.{name_order}
use Rattle.tss_maps.proofs.Changes.{at_inserted, from_inserted}
use Rattle.tss_model.specs.Access.{writes}
use Rattle.tss_protocol.specs.Mail.{ReleaseContents, taken}
use Rattle.tss_protocol.specs.State.{State, Version}
use Rattle.tss_protocol.specs.Versions.{put_version, produced_now, released_once, settled, released_by, released_at}
use Rattle.tss_protocol.specs.Versions.{after_release, refused_once, nacked_at, after_nack}
use Rattle.tss_protocol.specs.UnitMachine.{after_event, with_versioned, without, release_message_taken}
use Rattle.tss_protocol.specs.UnitMachine.{nack_message_taken}
use Rattle.tss_phases.specs.Phase.{has_released}
use Rattle.tss_control.specs.Chains.{HasChains}
use Rattle.tss_control.specs.Entries.{HasRetirement}
use Rattle.tss_control.specs.Readers.{Arrivals}
use Rattle.tss_control.specs.Holders.{IsOwnOrRead}
use Rattle.tss_control.specs.Control.{IsControlled}
use Rattle.tss_protocol.proofs.SentLemmas.{posted_all-later, after_release-later, after_nack-later}
use Rattle.tss_protocol.proofs.SettleCases.{OthersSettled}
use Rattle.tss_control.proofs.chains.Alike.{AreAlike}
use Rattle.tss_control.proofs.chains.Frames.{HasChains-same}
use Rattle.tss_control.proofs.chains.Settled.{with_versions, HasChains-written, HasChains-settled}
use Rattle.tss_control.proofs.rounds.ReleaseFacts.{Releases, releases_facts, released_few, released_fewer}
use Rattle.tss_control.proofs.rounds.Facts.{Facts}

-- ---- a version is written over, and then settled

-- other versions are settled where one of a settled state is written over
pub others_written : (S : State) → HasRetirement S → (v : OpName) (y : Version)
    → OthersSettled (put_version S.versions v y) v
others_written S h v y q t e apart = elim (from_inserted name_order S.versions v y q t e) [
  | inl same ↦ absurd (apart same.0)
  | inr old ↦ h.settled q t old.1
]

module _ (ts : List Task) (S T : State) (c : HasChains ts S) (h : HasRetirement S) (v : OpName) (x y : Version)
    (there : get S.versions v ≡ Some x) (like : AreAlike x y) (registered : y.registered ≡ x.registered)
    (few : y.released ≤ y.registered) where
  -- the chains after it
  HasChains-written_settled : T.versions ≡ (settled (put_version S.versions v y) v).part
      → T.mail.opens ≡ S.mail.opens → T.mail.uses ≡ S.mail.uses → HasChains ts T
  HasChains-written_settled part opens uses =
      let vs = put_version S.versions v y in
      HasChains-settled ts (with_versions S vs) T
      (HasChains-written S (with_versions S vs) v x y
      (record {
        there = there;
        put = refl;
        like = like;
        registered = registered;
        opens = refl;
        uses = refl;
      })
      ts c)
      v part opens uses
      (λ t e.
      subst (λ (k : Version). k.released ≤ k.registered)
      (same_Some y t (sym (at_inserted name_order S.versions v y) ∙ e)) few)
      (others_written S h v y)

-- ---- release

-- a version that is produced now, and one that one more reader has released
pub produced_like : (x : Version) → (x.storage ≡ None → ⊥) → AreAlike x (produced_now x)
produced_like x stored = record {
  object = refl;
  storage = refl;
  predecessor = refl;
  successor = refl;
  produced = λ e. absurd (stored e);
}

-- the same of one that one more reader has released
pub released_like : (x : Version) (o : OpName) → AreAlike x (released_once x o)
released_like x o =
    record { object = refl; storage = refl; predecessor = refl; successor = refl; produced = λ e. refl }

-- one that was refused
pub refused_like : (x : Version) → AreAlike x (refused_once x)
refused_like x =
    record { object = refl; storage = refl; predecessor = refl; successor = refl; produced = λ e. refl }

module _ (ts : List Task) (g : Arrivals) (S T : State) (k : IsControlled ts g S) (o : OpName) (c : ReleaseContents)
    (f : Releases ts g S o c) (opens : T.mail.opens ≡ S.mail.opens) (uses : T.mail.uses ≡ S.mail.uses) where
  stored : f.version.storage ≡ None → ⊥
  stored e = none-some f.storage (sym e ∙ f.stored)

  chains_produced : T.versions ≡ (settled (put_version S.versions c.version (produced_now f.version)) c.version).part
      → HasChains ts T
  chains_produced part =
      HasChains-written_settled ts S T k.chains k.retirement c.version f.version (produced_now f.version) f.there
      (produced_like f.version stored) refl (released_few ts g S k.readers c.version f.version f.there) part opens uses

  chains_released : IsOwnOrRead g o false c.version
      → T.versions ≡ (settled (put_version S.versions c.version (released_once f.version o)) c.version).part
      → HasChains ts T
  chains_released own part =
      HasChains-written_settled ts S T k.chains k.retirement c.version f.version (released_once f.version o) f.there
      (released_like f.version o) refl
      (released_fewer ts g S k.readers c.version o f.version f.there own (ap has_released f.phase)) part opens uses

  chains_by : (producer : Bool) → writes f.operand.mode ≡ producer
      → T.versions ≡ (released_by S.versions o c.version f.version producer).part → HasChains ts T
  chains_by true e part = chains_produced part
  chains_by false e part = chains_released (subst (λ b. IsOwnOrRead g o b c.version) e f.own) part

module _ (m : Machine) (S : State) (facts : Facts m S) where
  open facts use {ts, g, ground, control as k}

  chains_release : (o : OpName) (c : Option ReleaseContents) → get S.mail.releases o ≡ c
      → HasChains ts (release_message_taken (without S (event.Release o)) o c)
  chains_release o None e =
      HasChains-same ts S _ (record { versions = refl; opens = refl; uses = refl }) k.chains
  chains_release o (Some c) e =
      let f = releases_facts ts g S ground.round k.orderly k.holders o c e in
      let d = after_release S.versions o c in
      let same = posted_all-later (taken S.mail (event.Release o)) d.sent (after_release-later S.versions o c) in
      chains_by ts g S (with_versioned (without S (event.Release o)) d) k o c f same.opens same.uses c.producer
      (sym f.producer)
      (ap (λ x. (released_at S.versions o c.version c.producer x).part) f.there)

  -- release
  pub HasChains-release : (o : OpName) → HasChains ts (after_event m S (event.Release o))
  unfolding after_event
  HasChains-release o = chains_release o (get S.mail.releases o) refl

  -- ---- nack

  chains_nack : (v : OpName) (T : State) (x : Option Version) → get S.versions v ≡ x
      → T.versions ≡ (nacked_at S.versions v x).part → T.mail.opens ≡ S.mail.opens → T.mail.uses ≡ S.mail.uses
      → HasChains ts T
  chains_nack v T None e part opens uses =
      HasChains-same ts S T (record { versions = part; opens = opens; uses = uses }) k.chains
  chains_nack v T (Some x) e part opens uses =
      HasChains-written_settled ts S T k.chains k.retirement v x (refused_once x) e (refused_like x) refl
      (released_few ts g S k.readers v x e) part opens uses

  -- nack
  pub HasChains-nack : (v : OpName) → HasChains ts (after_event m S (event.Nack v))
  unfolding after_event
  HasChains-nack v =
      let d = after_nack S.versions v in
      let same = posted_all-later (taken S.mail (event.Nack v)) d.sent (after_nack-later S.versions v) in
      chains_nack v (nack_message_taken (without S (event.Nack v)) v) (get S.versions v) refl refl same.opens same.uses
