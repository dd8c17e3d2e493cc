-- Readers after a release: by a reader of the version, or by its producer, which tells the first of them.
use Rattle.std.proofs.Common.{◌≡◌, ◌≢◌, ◌⊎◌, inl, inr, suc, Bool, true, false, List, Some, None, refl, sym, ap, ◌∙◌}
use Rattle.std.proofs.Common.{subst}
use Rattle.std.specs.Prelude.{is_some}
use Rattle.std.specs.FinMap.{get, len}
use Rattle.std.proofs.lemmas.Option.{none-some, same_Some}
use Rattle.tss_base.specs.declared.range.Range.{Range}
use Rattle.tss_base.specs.declared.operand.OpName.{OpName}
use Rattle.tss_base.specs.declared.operand.Mode.TheVariants.{Input}
use Rattle.tss_base.specs.declared.operand.Operand.{Operand}
use Rattle.tss_base.specs.declared.operand.Task.{Task}
use Rattle.tss_base.specs.declared.machine.Machine.{Machine}
use Rattle.tss_base.specs.declared.event.Event.TheVariants as event
use Rattle.tss_base.specs.Names.{Named}
use Rattle.tss_model.specs.Access.{writes}
use Rattle.tss_protocol.specs.Mail.{ReleaseContents}
use Rattle.tss_protocol.specs.State.{State, Version}
use Rattle.tss_protocol.specs.Stations.{operand_at}
use Rattle.tss_protocol.specs.Versions.{put_version, produced_now, released_by, released_at, settled}
use Rattle.tss_protocol.specs.UnitMachine.{IsEnabled, is_enabled, after_event, without, release_message_taken}
use Rattle.tss_phases.specs.Phase.{Waiting, Told, Leaving, phase_of, has_released}
use Rattle.tss_phases.specs.Openers.{is_waiting}
use Rattle.tss_phases.specs.Told.{tells, phase_told, WaitsIfTold}
use Rattle.tss_phases.specs.Settling.{SettleTells}
use Rattle.tss_phases.specs.Orderly.{AreOrderly, ReleasesRegistered}
use Rattle.tss_phases.proofs.Tests.{something, not_both}
use Rattle.tss_phases.proofs.ReleaseEvent.{version_released, sent_by_release, release_tells, release_tells_head}
use Rattle.tss_phases.proofs.ReleaseEvent.{release_sends_here, phase_of-release, phase_of-release-other}
use Rattle.tss_locality.specs.Rounds.{IsRounded}
use Rattle.tss_locality.proofs.LeftFields.{Leaves-after_event}
use Rattle.tss_control.specs.Members.{operand_among, IsOn}
use Rattle.tss_control.specs.Chains.{HasChains}
use Rattle.tss_control.specs.Readers.{Arrivals, Has, oldest_of, head_of, has_arrived, AreNeighbours, HasArrivals}
use Rattle.tss_control.specs.Readers.{HasReaders}
use Rattle.tss_control.specs.Holders.{IsOwnOrRead, HasHolders}
use Rattle.tss_control.proofs.rounds.ReleaseFacts.{Releases, releases_facts}
use Rattle.tss_control.proofs.rounds.ReadersLists.{IsNext, has_older, has_newer, has_oldest, none_before_oldest}
use Rattle.tss_control.proofs.rounds.ReadersLists.{chained_at, chained_by, newest_at, newest_by}
use Rattle.tss_control.proofs.rounds.ReadersCounts.{same_released, same_tail}
use Rattle.tss_control.proofs.rounds.ReadersKept.{alike_same, still_waits, neighbours_kept, arrival_kept}
use Rattle.tss_control.proofs.readers.Wakes.{waiting_told, neighbours_woken}
use Rattle.tss_control.proofs.readers.Ready.{told_not_waiting}
use Rattle.tss_control.proofs.readers.Links.{links-release}
use Rattle.tss_control.proofs.readers.Told.{IsTaker, taker_writes}
use Rattle.tss_control.proofs.readers.Settled.{HasFewReaders, few_readers, few_written, readers_settled}
use Rattle.tss_control.proofs.readers.Settled.{settle_tells_taker, fails}
use Rattle.tss_control.proofs.readers.Written.{SameStations, reader_by, newest_stays, readers_written}
use Rattle.tss_control.proofs.readers.Written.{arrivals_released, arrivals_beside}

-- ---- the producer releases

module _ (ts : List Task) (xs : List OpName) (S T : State) (v : OpName) (x : Version) (h : HasArrivals ts xs S v x)
    (k : SameStations S T) (told : (a : OpName) → x.produced ≡ false → oldest_of xs ≡ Some a → phase_of T a ≡ Told)
    (others : (a : OpName) → Has a xs
    → ((x.produced ≡ false) × (oldest_of xs ≡ Some a)) ⊎ (phase_of T a ≡ phase_of S a)) where
  first_waited : (a : OpName) → x.produced ≡ false → oldest_of xs ≡ Some a → phase_of S a ≡ Waiting
  first_waited a p e = (h.first a e).1 p

  -- the same is seen but of the first
  first_seen : (a : OpName) → Has a xs
      → (has_released (phase_of T a) ≡ has_released (phase_of S a))
      × (has_arrived (phase_of T a) ≡ has_arrived (phase_of S a))
  first_seen a q = elim (others a q) [
    | inl p ↦ waiting_told (phase_of S a) (phase_of T a) (first_waited a p.0 p.1) (told a p.0 p.1)
    | inr same ↦ (ap has_released same, ap has_arrived same)
  ]

  first_told : (a : OpName) → oldest_of xs ≡ Some a → (b : Bool) → x.produced ≡ b → phase_of T a ≡ Waiting → ⊥
  first_told a e false p w = told_not_waiting (phase_of T a) (told a p e) w
  first_told a e true p w = elim (others a (has_oldest a xs e)) [
    | inl q ↦ not_both x.produced p q.0
    | inr same ↦ not_both x.produced p ((h.first a e).0 (sym same ∙ w))
  ]

  newer_same : (a b : OpName) → IsNext a b xs → is_waiting (phase_of T b) ≡ is_waiting (phase_of S b)
  newer_same a b n = elim (others b (has_newer a b xs n)) [
    | inl p ↦ absurd (none_before_oldest a b xs h.once n p.1)
    | inr same ↦ ap is_waiting same
  ]

  next_produced : (a b : OpName) → IsNext a b xs → AreNeighbours T a b
  next_produced a b n =
      let old = chained_at S xs h.chained a b n in
      let same = newer_same a b n in
      elim (others a (has_older a b xs n)) [
        | inr is ↦ neighbours_kept S T a (reader_by S T k a (alike_same (phase_of S a) (phase_of T a) is)) b same old
        | inl p ↦
            let w = first_waited a p.0 p.1 in
            neighbours_woken S T a b (ap (λ ls. get ls a) k.links) (λ r e. (r, sym (k.station a) ∙ e, refl))
            (λ c q. (q.0, k.station a ∙ q.1, q.2)) w (still_waits (phase_of S b) (phase_of T b) same)
            (λ none. (old.woken none).0 w) old
      ]

  -- its readers are in order where the first is told
  arrivals_produced : HasArrivals ts xs T v (produced_now x)
  arrivals_produced = record {
    once = h.once;
    each = λ a q. arrival_kept ts S T v x (produced_now x) a refl (first_seen a q).1 (h.each a q);
    opener = h.opener;
    own = h.own;
    registered = h.registered;
    released = h.released ∙ sym (same_released S T xs (λ a q. (first_seen a q).0));
    head = refl;
    tail = h.tail ∙ sym (same_tail S T xs (λ a q. (first_seen a q).0));
    first = λ a e. ((λ w. absurd (first_told a e x.produced refl w)), (λ b. absurd (not_both true refl b)));
    chained = chained_by T xs next_produced;
    newest = newest_by T xs (λ a e. newest_stays S T k a (newest_at S xs h.newest a e));
  }

-- the head is the oldest of a version that isn't produced
head_from : (b : Bool) (xs : List OpName) (a : OpName) → head_of b xs ≡ Some a → (b ≡ false) × (oldest_of xs ≡ Some a)
head_from true xs a e = absurd (none-some a e)
head_from false xs a e = (refl, e)

input_reads : (p q : Operand) → p ≡ q → p.mode ≡ Input → writes q.mode ≡ true → ⊥
input_reads p q e reads w = not_both (writes q.mode) w (ap (λ (p : Operand). writes p.mode) (sym e) ∙ ap writes reads)

-- ---- release

module _ (m : Machine) (ts : List Task) (g : Arrivals) (S : State) (h : HasReaders ts g S) (orderly : AreOrderly S)
    (chains : HasChains ts S) (o : OpName) (c : ReleaseContents) (there : get S.mail.releases o ≡ Some c)
    (f : Releases ts g S o c) (needs : ReleasesRegistered S o) where
  abbrev After : State
  After = after_event m S (event.Release o)

  abbrev v : OpName
  v = c.version

  abbrev x : Version
  x = f.version

  abbrev Released : Bool → Named Version
  Released b = put_version S.versions v (version_released o x b)

  -- the state before the settle
  abbrev Middle : Bool → State
  Middle b = record After { versions = Released b }

  settled_by : (b : Bool) → (released_by S.versions o v x b).part ≡ (settled (Released b) v).part
  settled_by true = refl
  settled_by false = refl

  versions_now : (b : Bool) → c.producer ≡ b → After.versions ≡ (settled (Released b) v).part
  unfolding after_event
  versions_now b e =
      ap (λ y. (release_message_taken (without S (event.Release o)) o y).versions) there
      ∙ ap (λ y. (released_at S.versions o v c.producer y).part) f.there
      ∙ ap (λ b. (released_by S.versions o v x b).part) e
      ∙ settled_by b

  same_stations : (b : Bool) → SameStations S (Middle b)
  same_stations b = record {
    links = links-release m S o;
    station = λ a. ap (λ fl. operand_at fl a) (λ i. (Leaves-after_event m S (event.Release o) i).flight);
  }

  waits : (q : OpName) → WaitsIfTold S (sent_by_release S.versions o v x c.producer) q
  waits q =
      subst (λ ms. WaitsIfTold S ms q) (release_sends_here m S o c x there f.there) ((needs c there).1 q)

  now : phase_of After o ≡ Leaving
  now = phase_of-release m S o c x there f.there (orderly o).alone (waits o)

  others : (b : Bool) → c.producer ≡ b → (q : OpName) → q ≢ o
      → phase_of After q ≡ phase_told (tells (sent_by_release S.versions o v x b) q) (phase_of S q)
  others b e q apart =
      phase_of-release-other m S o c x there f.there q apart (waits q)
      ∙ ap (λ b. phase_told (tells (sent_by_release S.versions o v x b) q) (phase_of S q)) e

  stored : x.storage ≡ None → ⊥
  stored none = none-some f.storage (sym none ∙ f.stored)

  settle_tells_writer : (b : Bool) (q : OpName)
      → SettleTells (suc (len (Released b))) (Released b) v q → IsTaker ts q
  settle_tells_writer true q t =
      settle_tells_taker ts S chains v x (version_released o x true) f.there refl refl stored
      (suc (len (Released true))) q t
  settle_tells_writer false q t =
      settle_tells_taker ts S chains v x (version_released o x false) f.there refl refl stored
      (suc (len (Released false))) q t

  -- of the readers it tells the head alone, and that only where the producer releases
  tells_head : (b : Bool) (q : OpName) (y : Range) → IsOn ts y Input q
      → tells (sent_by_release S.versions o v x b) q ≡ true → (b ≡ true) × (x.head ≡ Some q)
  tells_head b q y on e = elim (release_tells S.versions o v x b q e) [
    | inl p ↦ (p.0, p.1)
    | inr t ↦ absurd (taker_writes ts q y (settle_tells_writer b q t) on)
  ]

  all_settled : (b : Bool) → c.producer ≡ b → HasReaders ts g (Middle b) → HasReaders ts g After
  all_settled b e k =
      readers_settled ts g After (Released b) v (versions_now b e) (few b) k
    where
      few : (b : Bool) → HasFewReaders (Released b)
      few true =
          few_written S.versions v x (version_released o x true) f.there refl refl refl (few_readers ts S chains)
      few false =
          few_written S.versions v x (version_released o x false) f.there refl refl refl (few_readers ts S chains)

  -- ---- by a reader

  module _ (reader : c.producer ≡ false) where
    member : Has o (g v)
    member = subst (λ b. IsOwnOrRead g o b v) (sym f.producer ∙ reader) f.own

    silent : (w : OpName) (y : Version) (a : OpName) → get S.versions w ≡ Some y → Has a (g w) → a ≢ o
        → phase_of After a ≡ phase_of S a
    silent w y a e q apart =
        others false reader a apart
        ∙ ap (λ b. phase_told b (phase_of S a)) (fails (tells (sent_by_release S.versions o v x false) a) (λ t.
        not_both false (tells_head false a y.object ((h.versions w y e).each a q).on t).0 refl))

    readers_released : HasReaders ts g After
    readers_released =
        all_settled false reader
        (readers_written ts g S (Middle false) v x (version_released o x false) h (same_stations false) f.there refl
        (arrivals_released ts (g v) S (Middle false) v x o (h.versions v x f.there) (same_stations false) member f.phase
        now (λ a apart q. silent v x a f.there q apart))
        (λ w y apart e. arrivals_beside ts (g w) S (Middle false) w y (same_stations false)
        (λ a q. silent w y a e q
        (λ is. apart (h.apart w v o y x e f.there (subst (λ a. Has a (g w)) is q) member)))
        (h.versions w y e)))

  -- ---- by the producer

  module _ (producer : c.producer ≡ true) where
    other : (w : OpName) (y : Version) (a : OpName) → get S.versions w ≡ Some y → Has a (g w) → a ≢ o
    other w y a e q is =
        let on = ((h.versions w y e).each a q).on in
        input_reads on.operand f.operand
        (same_Some on.operand f.operand (sym on.there ∙ ap (operand_among ts) is ∙ f.among)) on.is_mode
        (sym f.producer ∙ producer)

    head_or_same : (w : OpName) (y : Version) (a : OpName) → get S.versions w ≡ Some y → Has a (g w)
        → ((x.produced ≡ false) × (oldest_of (g v) ≡ Some a)) ⊎ (phase_of After a ≡ phase_of S a)
    head_or_same w y a e q = by (tells (sent_by_release S.versions o v x true) a) refl
      where
        by : (t : Bool) → tells (sent_by_release S.versions o v x true) a ≡ t
            → ((x.produced ≡ false) × (oldest_of (g v) ≡ Some a)) ⊎ (phase_of After a ≡ phase_of S a)
        by true t =
            inl (head_from x.produced (g v) a
            (sym (h.versions v x f.there).head ∙ (tells_head true a y.object ((h.versions w y e).each a q).on t).1))
        by false t =
            inr (others true producer a (other w y a e q) ∙ ap (λ b. phase_told b (phase_of S a)) t)

    head_told : (a : OpName) → x.produced ≡ false → oldest_of (g v) ≡ Some a → phase_of After a ≡ Told
    head_told a p e =
        let head = (h.versions v x f.there).head ∙ ap (λ b. head_of b (g v)) p ∙ e in
        others true producer a (other v x a f.there (has_oldest a (g v) e))
        ∙ ap (λ b. phase_told b (phase_of S a)) (release_tells_head S.versions o v x a f.storage head f.stored)

    readers_produced : HasReaders ts g After
    readers_produced =
        all_settled true producer
        (readers_written ts g S (Middle true) v x (version_released o x true) h (same_stations true) f.there refl
        (arrivals_produced ts (g v) S (Middle true) v x (h.versions v x f.there) (same_stations true) head_told
        (λ a q. head_or_same v x a f.there q))
        (λ w y apart e. arrivals_beside ts (g w) S (Middle true) w y (same_stations true)
        (λ a q. elim (head_or_same w y a e q) [
          | inr same ↦ same
          | inl p ↦ absurd (apart (h.apart w v a y x e f.there q (has_oldest a (g v) p.1)))
        ])
        (h.versions w y e)))

  by_producer : (b : Bool) → c.producer ≡ b → HasReaders ts g After
  by_producer true e = readers_produced e
  by_producer false e = readers_released e

  readers_after_release : HasReaders ts g After
  readers_after_release = by_producer c.producer refl

-- release
pub HasReaders-release : (m : Machine) (ts : List Task) (g : Arrivals) (S : State) → HasReaders ts g S → AreOrderly S
    → HasChains ts S → HasHolders ts g S → IsRounded S ts → (o : OpName) → IsEnabled m S (event.Release o)
    → ReleasesRegistered S o → HasReaders ts g (after_event m S (event.Release o))
unfolding is_enabled
HasReaders-release m ts g S h orderly chains holders round o enabled needs =
    let c = something is_some (get S.mail.releases o) refl enabled in
    readers_after_release m ts g S h orderly chains o c.0 c.1
    (releases_facts ts g S round orderly holders o c.0 c.1) needs
