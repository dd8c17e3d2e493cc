-- What a release does to phases: its operand goes from releasing to leaving. A producer's release tells the version's
-- head, and the version is settled, which may tell its successor.
use Rattle.std.proofs.Common.{◌≡◌, ◌≢◌, Bool, true, false, cond, List, [], ◌∷◌, ◌++◌, Option, Some, None, refl, sym, ap}
use Rattle.std.proofs.Common.{◌∙◌, inl, inr, ◌⊎◌, suc}
use Rattle.std.specs.Prelude.{not}
use Rattle.std.specs.FinMap.{get, len}
use Rattle.tss_base.specs.declared.operand.OpName.{OpName}
use Rattle.tss_base.specs.declared.machine.Machine.{Machine}
use Rattle.tss_base.specs.declared.event.Event.TheVariants as event
use Rattle.tss_base.specs.Names.{Named}
use Rattle.tss_protocol.specs.Mail.{StorageName, ReleaseContents, Message, Bye}
use Rattle.tss_protocol.specs.State.{State, Version}
use Rattle.tss_protocol.specs.Versions.{put_version, settled, head_ready, produced_now, released_once, is_last}
use Rattle.tss_protocol.specs.Versions.{released_by, released_at, after_release}
use Rattle.tss_protocol.specs.UnitMachine.{after_event, without, release_message_taken}
use Rattle.tss_phases.specs.Phase.{Releasing, Leaving, LookUps, look_ups, phase_at, phase_of}
use Rattle.tss_phases.specs.Alone.{IsAlone}
use Rattle.tss_phases.specs.Told.{tells, phase_told, WaitsIfTold}
use Rattle.tss_phases.specs.Settling.{SettleTells}
use Rattle.tss_phases.proofs.Received.{own_name, other_name, received_all, look_ups-sent, missing, missing_other}
use Rattle.tss_phases.proofs.Received.{look_ups-without}
use Rattle.tss_phases.proofs.News.{AreNews, news_both}
use Rattle.tss_phases.proofs.PhaseLemmas.{phase_releasing, phase_leaving}
use Rattle.tss_phases.proofs.AloneLemmas.{silent_but_releasing}
use Rattle.tss_phases.proofs.SettlingLemmas.{news_ready_with, ready_with_tells, news_settle, settle_tells}
use Rattle.tss_phases.proofs.SettlingLemmas.{ready_with_told}
use Rattle.tss_phases.proofs.ToldPhases.{phase_news, not_told, either_tells, first_tells, beside_bye, bye_tells}
use Rattle.tss_phases.proofs.ToldPhases.{own_bye}

-- ---- what a release sends

-- a version that is released: its producer makes it produced, and a reader is one more that has released it
abbrev pub version_released : OpName → Version → Bool → Version
version_released o x true = produced_now x
version_released o x false = released_once x o

-- the head is told where the producer releases
abbrev pub heads_told : OpName → Version → Bool → List Message
heads_told v x true = head_ready v x x.head
heads_told v x false = []

-- a bye is promised where a reader releases that isn't the last
abbrev pub bye_promised : OpName → Version → Bool → Bool
bye_promised o x true = false
bye_promised o x false = not (is_last o x.tail)

-- the versions with the one that is released
abbrev pub versions_released : Named Version → OpName → OpName → Version → Bool → Named Version
versions_released vs o v x producer = put_version vs v (version_released o x producer)

-- the messages: the head is told, the operand has its bye, and the version is settled
abbrev pub sent_by_release : Named Version → OpName → OpName → Version → Bool → List Message
sent_by_release vs o v x producer =
    (heads_told v x producer ++ Bye o (bye_promised o x producer) ∷ [])
    ++ (settled (versions_released vs o v x producer) v).sent

-- whom a release tells: the head of a version that its producer releases, or whom the settle tells
abbrev ReleaseTells : Named Version → OpName → OpName → Version → Bool → OpName → Type 0
ReleaseTells vs o v x producer q =
    ((producer ≡ true) × (x.head ≡ Some q) × ((t : StorageName) × (x.storage ≡ Some t)))
    ⊎ SettleTells (suc (len (versions_released vs o v x producer))) (versions_released vs o v x producer) v q

module _ (vs : Named Version) (o v : OpName) (x : Version) where
  -- these are the messages
  release_sends : (producer : Bool) → (released_by vs o v x producer).sent ≡ sent_by_release vs o v x producer
  release_sends true = refl
  release_sends false = refl

  head_news : (h : Option OpName) → AreNews (head_ready v x h)
  head_news None = tt
  head_news (Some q) = news_ready_with q v x.storage

  -- what the head is told is news
  pub news_heads : (producer : Bool) → AreNews (heads_told v x producer)
  news_heads true = head_news x.head
  news_heads false = tt

  -- and so is what the settle sends
  pub news_released : (producer : Bool) → AreNews (settled (versions_released vs o v x producer) v).sent
  news_released producer =
      news_settle (suc (len (versions_released vs o v x producer))) (versions_released vs o v x producer) v

  head_tells : (h : Option OpName) (q : OpName) → tells (head_ready v x h) q ≡ true
      → (h ≡ Some q) × ((t : StorageName) × (x.storage ≡ Some t))
  head_tells None q e = absurd (cc)
  head_tells (Some p) q e =
      let found = ready_with_tells p v x.storage q e in
      (ap Some (sym found.0), found.1)

  heads_tell : (producer : Bool) (q : OpName) → tells (heads_told v x producer) q ≡ true
      → (producer ≡ true) × (x.head ≡ Some q) × ((t : StorageName) × (x.storage ≡ Some t))
  heads_tell true q e = let found = head_tells x.head q e in (refl, found.0, found.1)
  heads_tell false q e = absurd (cc)

  -- whom it tells
  pub release_tells : (producer : Bool) (q : OpName) → tells (sent_by_release vs o v x producer) q ≡ true
      → ReleaseTells vs o v x producer q
  release_tells producer q e =
      let us = versions_released vs o v x producer in
      let hs = heads_told v x producer in
      elim (either_tells hs (settled us v).sent q
      (sym (bye_tells hs (settled us v).sent o (bye_promised o x producer) q) ∙ e)) [
        | inl h ↦ inl (heads_tell producer q h)
        | inr h ↦ inr (settle_tells (suc (len us)) us v q h)
      ]

  -- a producer's release tells the head
  pub release_tells_head : (q : OpName) (t : StorageName) → x.head ≡ Some q → x.storage ≡ Some t
      → tells (sent_by_release vs o v x true) q ≡ true
  release_tells_head q t head kept =
      bye_tells (head_ready v x x.head) (settled (versions_released vs o v x true) v).sent o false q
      ∙ first_tells (head_ready v x x.head) (settled (versions_released vs o v x true) v).sent q
      (ap (λ h. tells (head_ready v x h) q) head ∙ ready_with_told q v x.storage t kept)

-- ---- what it does to phases

module _ (m : Machine) (S : State) (o : OpName) (r : ReleaseContents) (x : Version)
    (there : get S.mail.releases o ≡ Some r) (version : get S.versions r.version ≡ Some x) where
  -- what it sends, by its version
  pub release_sends_here : (after_release S.versions o r).sent ≡ sent_by_release S.versions o r.version x r.producer
  release_sends_here =
      ap (λ x. (released_at S.versions o r.version r.producer x).sent) version
      ∙ release_sends S.versions o r.version x r.producer

  -- what is looked up after a release
  look_ups-release : (q : OpName) → look_ups (after_event m S (event.Release o)) q
      ≡ received_all (sent_by_release S.versions o r.version x r.producer) q
      (missing (event.Release o) q (look_ups S q))
  unfolding after_event
  look_ups-release q =
      let T = without S (event.Release o) in
      let d = after_release S.versions o r in
      ap (λ x. look_ups (release_message_taken T o x) q) there
      ∙ look_ups-sent (record T { versions = d.part }) d.sent q
      ∙ ap (received_all d.sent q) (look_ups-without S (event.Release o) q)
      ∙ ap (λ ms. received_all ms q (missing (event.Release o) q (look_ups S q))) release_sends_here

  -- of its operand, where it isn't told: the release is gone, and it has a bye
  pub look_ups-release-own : tells (sent_by_release S.versions o r.version x r.producer) o ≡ false
      → look_ups (after_event m S (event.Release o)) o ≡ record (look_ups S o) {
        releasing = None;
        leaving = Some (bye_promised o x r.producer);
      }
  look_ups-release-own silent =
      let us = versions_released S.versions o r.version x r.producer in
      look_ups-release o
      ∙ (λ i. received_all (sent_by_release S.versions o r.version x r.producer) o (record (look_ups S o) {
        releasing = cond (own_name o i) None (get S.mail.releases o);
      }))
      ∙ own_bye (heads_told r.version x r.producer) (settled us r.version).sent o (bye_promised o x r.producer)
      (record (look_ups S o) { releasing = None }) (news_heads S.versions o r.version x r.producer)
      (news_released S.versions o r.version x r.producer) silent

  -- of another operand: it may be told
  pub look_ups-release-other : (q : OpName) → q ≢ o → look_ups (after_event m S (event.Release o)) q
      ≡ received_all (heads_told r.version x r.producer
      ++ (settled (versions_released S.versions o r.version x r.producer) r.version).sent) q (look_ups S q)
  look_ups-release-other q apart =
      let us = versions_released S.versions o r.version x r.producer in
      look_ups-release q
      ∙ ap (received_all (sent_by_release S.versions o r.version x r.producer) q)
      (missing_other (event.Release o) q (look_ups S q) (other_name q o apart))
      ∙ beside_bye (heads_told r.version x r.producer) (settled us r.version).sent o (bye_promised o x r.producer) q
      (look_ups S q) apart

  -- before it, its operand is releasing
  pub releasing_before : IsAlone S o → phase_of S o ≡ Releasing
  releasing_before alone =
      let s = silent_but_releasing (look_ups S o) r alone there in
      phase_releasing (look_ups S o) r s.decoding s.opening s.using s.telling there

  -- after it, it is leaving
  pub phase_of-release : IsAlone S o → WaitsIfTold S (sent_by_release S.versions o r.version x r.producer) o
      → phase_of (after_event m S (event.Release o)) o ≡ Leaving
  phase_of-release alone waits =
      let ms = sent_by_release S.versions o r.version x r.producer in
      let p = bye_promised o x r.producer in
      let s = silent_but_releasing (look_ups S o) r alone there in
      let l : LookUps = record (look_ups S o) { releasing = None; leaving = Some p } in
      let silent = not_told ms o (look_ups S o) Releasing (releasing_before alone) (λ e. cc) waits in
      ap phase_at (look_ups-release-own silent)
      ∙ phase_leaving l p s.decoding s.opening s.using s.telling refl refl

  -- another operand is told, or stays as it was
  pub phase_of-release-other : (q : OpName) → q ≢ o
      → WaitsIfTold S (sent_by_release S.versions o r.version x r.producer) q
      → phase_of (after_event m S (event.Release o)) q
      ≡ phase_told (tells (sent_by_release S.versions o r.version x r.producer) q) (phase_of S q)
  phase_of-release-other q apart waits =
      let us = versions_released S.versions o r.version x r.producer in
      let hs = heads_told r.version x r.producer in
      let ns = (settled us r.version).sent in
      let same = bye_tells hs ns o (bye_promised o x r.producer) q in
      ap phase_at (look_ups-release-other q apart)
      ∙ phase_news (hs ++ ns) q (look_ups S q)
      (news_both hs ns (news_heads S.versions o r.version x r.producer)
      (news_released S.versions o r.version x r.producer))
      (λ t. waits (same ∙ t))
      ∙ ap (λ b. phase_told b (phase_of S q)) (sym same)
