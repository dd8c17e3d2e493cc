-- Readers after events that settle a version: a nack, and what the others share with it.
use Rattle.std.proofs.Common.{◌≡◌, inl, inr, ℕ, suc, ◌+◌, ◌≤◌, Bool, true, false, List, Option, Some, None, refl, sym}
use Rattle.std.proofs.Common.{ap, ◌∙◌, subst, arith}
use Rattle.std.specs.Prelude.{is_some}
use Rattle.std.specs.FinMap.{get, len}
use Rattle.std.proofs.lemmas.Option.{same_Some}
use Rattle.tss_base.specs.declared.operand.OpName.{OpName}
use Rattle.tss_base.specs.declared.operand.Task.{Task}
use Rattle.tss_base.specs.declared.machine.Machine.{Machine}
use Rattle.tss_base.specs.declared.event.Event.TheVariants as event
use Rattle.tss_base.specs.declared.marks.Follow.{Follow}
use Rattle.tss_base.specs.Names.{Named}
use Rattle.tss_maps.proofs.Keys.{name_order}
use Rattle.tss_maps.proofs.Changes.{from_inserted, still_inserted}
use Rattle.tss_protocol.specs.State.{State, Version}
use Rattle.tss_protocol.specs.Stations.{operand_at}
use Rattle.tss_protocol.specs.Versions.{put_version, settled, refused_once, nacked_at, after_nack}
use Rattle.tss_protocol.specs.UnitMachine.{IsEnabled, is_enabled, after_event}
use Rattle.tss_phases.specs.Phase.{phase_of}
use Rattle.tss_phases.specs.Told.{tells, phase_told}
use Rattle.tss_phases.specs.Settling.{SettleTells}
use Rattle.tss_phases.specs.Orderly.{TellWaiting}
use Rattle.tss_phases.proofs.NackEvent.{nack_tells, phase_of-nack}
use Rattle.tss_locality.proofs.LeftFields.{Leaves-after_event}
use Rattle.tss_control.specs.Members.{registered_of, opening_reader, uses_of, total}
use Rattle.tss_control.specs.Chains.{HasChains}
use Rattle.tss_control.specs.Entries.{HasRetirement}
use Rattle.tss_names.specs.Asking.{HasAsking}
use Rattle.tss_control.specs.Readers.{Arrivals, Has, HasReaders}
use Rattle.tss_control.proofs.rounds.ReadersKept.{SameForReaders, LooksAlike, alike_same, same_version}
use Rattle.tss_control.proofs.rounds.ReadersStates.{KeepsReaders, readers_kept, readers_fewer}
use Rattle.tss_control.proofs.readers.Links.{links-nack}
use Rattle.tss_control.proofs.readers.Settle.{Thins, thins_settle}
use Rattle.tss_control.proofs.readers.Told.{FollowsOver, StandsBeside, settle_tells_over, IsTaker, taker_writes}
use Rattle.tss_control.proofs.readers.Told.{followed_by_takers, with_storage_beside, produced_has_storage}

-- ---- a settle

-- a version with a successor has no more readers than were to come
abbrev pub HasFewReaders : Named Version → Type 0
HasFewReaders vs =
    (w : OpName) (x : Version) (f : Follow) → get vs w ≡ Some x → x.successor ≡ Some f → x.registered ≤ f.last

-- no fewer were directed to a version than have registered
pub registered_in_total : (S : State) (v : OpName) (x : Version) → get S.versions v ≡ Some x → x.registered ≤ total S v
registered_in_total S v x e =
    by x.registered (registered_of (get S.versions v)) (opening_reader (get S.mail.opens v)) (uses_of S.mail.uses v)
    (ap registered_of e)
  where
    by : (a b c d : ℕ) → b ≡ a → a ≤ b + c + d
    by a b c d h = omega (arith, h)

-- so it is in each state
pub few_readers : (ts : List Task) (S : State) → HasChains ts S → HasFewReaders S.versions
few_readers ts S h w x f e to =
    by x.registered (total S w) f.last (registered_in_total S w x e) ((h.linked w x e).followed f to).last
  where
    by : (a b c : ℕ) → a ≤ b → c ≡ b → a ≤ c
    by a b c less same = omega (arith, less, same)

-- readers stay in order where a version is settled
pub readers_settled : (ts : List Task) (g : Arrivals) (T : State) (us : Named Version) (v : OpName)
    → T.versions ≡ (settled us v).part → HasFewReaders us → HasReaders ts g (record T { versions = us })
    → HasReaders ts g T
readers_settled ts g T us v is few h =
    subst (λ vs. HasReaders ts g (record T { versions = vs })) (sym is)
    (readers_fewer ts g (record T { versions = us }) (settled us v).part
    (λ w z e. let f = thin.from w z e in (f.0, f.1, f.2.same))
    (λ w y e. elim (thin.stay w y e) [
      | inl s ↦ inl (s.0, s.1)
      | inr d ↦ inr (by y.registered y.released d.0.last (few w y d.0 e d.1) d.2)
    ]) h)
  where
    thin : Thins us (settled us v).part
    thin = thins_settle (suc (len us)) us v

    by : (a b c : ℕ) → a ≤ c → b ≡ c → a ≤ b
    by a b c less same = omega (arith, less, same)

-- ---- one version is written

-- what is known of the links of another version and of its produced state carries over to a written one
module _ (vs : Named Version) (v : OpName) (x z : Version) (there : get vs v ≡ Some x)
    (successor : z.successor ≡ x.successor) (predecessor : z.predecessor ≡ x.predecessor) where
  abbrev Written : Named Version
  Written = put_version vs v z

  was_there : (q : OpName) (y : Version) → get Written q ≡ Some y
      → (w : Version) × (get vs q ≡ Some w) × (y.successor ≡ w.successor) × (y.predecessor ≡ w.predecessor)
  was_there q y e = elim (from_inserted name_order vs v z q y e) [
    | inl p ↦ (
      x,
      ap (get vs) p.0 ∙ there,
      ap (λ (y : Version). y.successor) p.1 ∙ successor,
      ap (λ (y : Version). y.predecessor) p.1 ∙ predecessor,
    )
    | inr p ↦ (y, p.1, refl, refl)
  ]

  -- what holds of all that a version gives way over to holds where one version is written
  follows_over_written : (Q : OpName → Type 0) → FollowsOver Q vs → FollowsOver Q Written
  follows_over_written Q over q y f e to way = let w = was_there q y e in over q w.0 f w.1 (sym w.2 ∙ to) way

  -- and so does what stands beside
  beside_written : StandsBeside vs x → (y : Version) → get Written v ≡ Some y → StandsBeside Written y
  beside_written beside y e q w f back at to =
      let k = was_there q w at in
      let h = was_there v y e in
      let same = same_Some h.0 x (sym h.1 ∙ there) in
      beside q k.0 f (ap (λ (y : Version). y.predecessor) (sym same) ∙ sym h.3 ∙ back) k.1 (sym k.2 ∙ to)

  -- and how few readers there are
  pub few_written : z.registered ≡ x.registered → HasFewReaders vs → HasFewReaders Written
  few_written same few w y f e to = elim (from_inserted name_order vs v z w y e) [
    | inr p ↦ few w y f p.1 to
    | inl p ↦
        subst (λ n. n ≤ f.last) (sym same ∙ sym (ap (λ (y : Version). y.registered) p.1))
        (few v x f there (sym successor ∙ sym (ap (λ (y : Version). y.successor) p.1) ∙ to))
  ]

-- ---- who is told

module _ (ts : List Task) (S : State) (chains : HasChains ts S) (v : OpName) (x z : Version)
    (there : get S.versions v ≡ Some x) (successor : z.successor ≡ x.successor)
    (predecessor : z.predecessor ≡ x.predecessor) (some : x.storage ≡ None → ⊥) where
  -- after a version with a storage is written, its settle tells a writer
  pub settle_tells_taker : (n : ℕ) (s : OpName) → SettleTells n (put_version S.versions v z) v s → IsTaker ts s
  settle_tells_taker n s t =
      settle_tells_over (IsTaker ts) n (put_version S.versions v z) v s
      (follows_over_written S.versions v x z there successor predecessor (IsTaker ts) (followed_by_takers ts S chains))
      (λ y e produced. beside_written S.versions v x z there successor predecessor
      (with_storage_beside ts S chains v x there some) y e) t

-- a test that can't pass fails
pub fails : (b : Bool) → (b ≡ true → ⊥) → b ≡ false
fails true h = absurd (h refl)
fails false h = refl

-- ---- nack

module _ (m : Machine) (ts : List Task) (g : Arrivals) (S : State) (h : HasReaders ts g S) (chains : HasChains ts S)
    (retirement : HasRetirement S) (v : OpName) (waits : TellWaiting S (after_nack S.versions v).sent)
    (x : Version) (count : ℕ) (there : get S.versions v ≡ Some x) (asked : x.asked ≡ Some count) where
  abbrev Nacked : State
  Nacked = after_event m S (event.Nack v)

  abbrev Refused : Named Version
  Refused = put_version S.versions v (refused_once x)

  nacked_versions : Nacked.versions ≡ (settled Refused v).part
  unfolding after_event
  nacked_versions = ap (λ x. (nacked_at S.versions v x).part) there

  nack_flight : Nacked.flight ≡ S.flight
  nack_flight = λ i. (Leaves-after_event m S (event.Nack v) i).flight

  stored : x.storage ≡ None → ⊥
  stored = produced_has_storage ts S chains v x there (retirement.asked v x count there asked).produced

  tells_taker : (q : OpName) → tells (after_nack S.versions v).sent q ≡ true → IsTaker ts q
  tells_taker q e =
      let k = nack_tells S.versions v q e in
      let same = same_Some k.0 x (sym k.1 ∙ there) in
      settle_tells_taker ts S chains v (k.0) (refused_once (k.0)) k.1 refl refl
      (λ none. stored (ap (λ (x : Version). x.storage) (sym same) ∙ none))
      (suc (len (put_version S.versions v (refused_once (k.0))))) q k.2

  nack_alike : (w : OpName) (y : Version) (a : OpName) → get S.versions w ≡ Some y → Has a (g w)
      → LooksAlike (phase_of S a) (phase_of Nacked a)
  nack_alike w y a e k =
      let on = ((h.versions w y e).each a k).on in
      let silent = fails (tells (after_nack S.versions v).sent a)
      (λ t. taker_writes ts a y.object (tells_taker a t) on) in
      alike_same (phase_of S a) (phase_of Nacked a)
      (phase_of-nack m S v a (waits a) ∙ ap (λ b. phase_told b (phase_of S a)) silent)

  nack_keeps : KeepsReaders g S (record Nacked { versions = Refused })
  nack_keeps = record {
    versions = λ w z e. elim (from_inserted name_order S.versions v (refused_once x) w z e) [
      | inl p ↦ (
        x,
        ap (get S.versions) p.0 ∙ there,
        subst (SameForReaders x) (sym p.1)
            (record { object = refl; produced = refl; registered = refl; released = refl; head = refl; tail = refl }),
      )
      | inr p ↦ (z, p.1, same_version z z refl)
    ];
    stay = λ w y e. still_inserted name_order S.versions v (refused_once x) w y e;
    each = λ w y a e k. record {
      phase = nack_alike w y a e k;
      links = ap (λ ls. get ls a) (links-nack m S v);
      holds = λ c k. (k.0, ap (λ f. operand_at f a) nack_flight ∙ k.1, k.2);
      station = λ r e. (r, sym (ap (λ f. operand_at f a) nack_flight) ∙ e, refl);
    };
    links = λ a b e. sym (ap (λ ls. get ls a) (links-nack m S v)) ∙ e;
    held = λ a b k. (k.0, sym (ap (λ f. operand_at f a) nack_flight) ∙ k.1, k.2);
  }

  readers_nacked : HasReaders ts g Nacked
  readers_nacked =
      readers_settled ts g Nacked Refused v nacked_versions
      (few_written S.versions v x (refused_once x) there refl refl refl (few_readers ts S chains))
      (readers_kept ts g S (record Nacked { versions = Refused }) nack_keeps h)

-- a set has what it is asked for, where the test passes
pub some_unit : (o : Option (Unit {0})) → is_some o ≡ true → o ≡ Some tt
some_unit None e = absurd (cc)
some_unit (Some tt) e = refl

-- nack
pub HasReaders-nack : (m : Machine) (all ts : List Task) (g : Arrivals) (S : State) → HasReaders ts g S → HasChains ts S
    → HasRetirement S → HasAsking m all S → (v : OpName) → IsEnabled m S (event.Nack v)
    → TellWaiting S (after_nack S.versions v).sent → HasReaders ts g (after_event m S (event.Nack v))
unfolding is_enabled
HasReaders-nack m all ts g S h chains retirement asking v enabled waits =
    let a = (asking.nacks v (some_unit (get S.mail.nacks v) enabled)).0 in
    readers_nacked m ts g S h chains retirement v waits a.1.0 a.0 a.1.1 a.1.2
