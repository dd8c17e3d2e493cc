-- The bytes in the storages of versions where one version is written over and then settled: one that takes a storage
-- over finds there what the version before it left.
use Rattle.std.proofs.Common.{◌≡◌, ◌≢◌, ◌⊎◌, ◌<◌, true, false, List, Some, None, refl, sym, ap, ◌∙◌, subst, inl, inr}
use Rattle.std.proofs.Common.{true≢false}
use Rattle.std.specs.FinMap.{get}
use Rattle.std.proofs.lemmas.Option.{none-some, same_Some}
use Rattle.tss_base.specs.declared.operand.OpName.{OpName}
use Rattle.tss_base.specs.declared.operand.Mode.{Mode}
use Rattle.tss_base.specs.declared.operand.Operand.{Operand}
use Rattle.tss_base.specs.declared.operand.Task.{Task}
use Rattle.tss_base.specs.declared.machine.Machine.{Machine}
use Rattle.tss_base.specs.Image.{ImageState}
use Rattle.tss_maps.proofs.Keys.{name_order, decide_key}
use Rattle.tss_maps.proofs.Changes.{at_inserted, from_inserted}
use Rattle.tss_model.specs.InOrder.{Started}
use Rattle.tss_protocol.specs.Mail.{StorageName}
use Rattle.tss_protocol.specs.State.{State, Version}
use Rattle.tss_protocol.specs.Versions.{put_version, settled}
use Rattle.tss_phases.specs.Phase.{Releasing, phase_of}
use Rattle.tss_phases.specs.Openers.{open_opener, opener_by, version_opener}
use Rattle.tss_phases.proofs.ForwardPhases.{GoesOnFrom}
use Rattle.tss_control.specs.Members.{operand_among, NoWriterBetween, IsMember}
use Rattle.tss_control.specs.Chains.{HasChains, IsFollowed}
use Rattle.tss_control.specs.Readers.{Arrivals}
use Rattle.tss_control.specs.Control.{IsControlled}
use Rattle.tss_protocol.proofs.SettleCases.{OthersSettled}
use Rattle.tss_control.proofs.chains.Alike.{AreAlike}
use Rattle.tss_control.proofs.chains.Settled.{with_versions, HasChains-written, chains_next, done_parts}
use Rattle.tss_control.proofs.chains.Released.{others_written}
use Rattle.tss_control.proofs.holders.Late.{NoLater}
use Rattle.tss_control.proofs.holders.Settled.{HeldAlike, AlikeAt, from_alike, HasGone, HasTaken, SettlesHeld}
use Rattle.tss_control.proofs.holders.Settled.{settles_held}
use Rattle.tss_values.proofs.Values.{content, bytes_before, bytes_after, IsGood, Starts, IsKnown, HasStored}
use Rattle.tss_values.proofs.stored.Frames.{IsStored, stored_each, stored_at, stored_kept, lets_before}
use Rattle.tss_values.proofs.stored.Quiet.{LeavesBytes, content_left, keeps_alike}

-- ---- what program order says

-- an operand of a round that program order starts finds its object as a version before it left it, where no task
-- between them writes the object: that one was started, and is good
abbrev pub FindsLeft : Machine → ImageState → List Task → State → Type 0
FindsLeft m i ts S =
    (v w : OpName) (q p : Operand) (s : Started) → operand_among ts v ≡ Some q → IsMember S q.object v
    → IsKnown m i ts w p s → q.object ≡ p.object → v.task < w.task → NoWriterBetween ts p.object v w
    → (t : Started) × Starts m i v.task t × IsGood m i t q × (bytes_after m i t q ≡ bytes_before s p)

-- ---- a settle

-- what holds of T, where it is U after a settle of v: each version of U that is left has the bytes of program order,
-- and what v had left is there. One without a storage hasn't let go
pub record SettlesStored (m : Machine) (i : ImageState) (ts : List Task) (U T : State) (v : OpName) : Type 0 where
  pub chains : HasChains ts U
  pub others : OthersSettled U.versions v
  pub versions : T.versions ≡ (settled U.versions v).part
  pub each : (w : OpName) (y z : Version) → get U.versions w ≡ Some y → HeldAlike y z → get T.versions w ≡ Some z
      → IsStored m i ts T w z
  pub leaves : (y : Version) (st : StorageName) (q : Operand) (t : Started) → get U.versions v ≡ Some y
      → y.produced ≡ true → y.storage ≡ Some st → IsKnown m i ts v q t → IsGood m i t q
      → content T y.object st ≡ bytes_after m i t q
  pub keeps : (w : OpName) (y : Version) → get U.versions w ≡ Some y → y.storage ≡ None → y.produced ≡ false
      → phase_of T w ≡ Releasing → ⊥

module _ (m : Machine) (i : ImageState) (ts : List Task) (S U T : State) (v : OpName) (d : SettlesStored m i ts U T v)
    (finds : FindsLeft m i ts S) (member : (q : Operand) → operand_among ts v ≡ Some q → IsMember S q.object v) where
  held : SettlesHeld U.versions v (settled U.versions v)
  held = settles_held U.versions v d.others (λ z e. chains_next ts U d.chains v z e)

  now : (w : OpName) (z : Version) → get T.versions w ≡ Some z → get (settled U.versions v).part w ≡ Some z
  now w z e = sym (ap (λ vs. get vs w) d.versions) ∙ e

  -- ---- one that takes the storage over

  module _ (w : OpName) (t : HasTaken U.versions (settled U.versions v).part v w (settled U.versions v).sent)
      (z : Version) (e : get T.versions w ≡ Some z) where
    is_after : t.after ≡ z
    is_after = same_Some t.after z (sym t.stands ∙ now w z e)

    next : IsFollowed U v t.version t.follow
    next = (d.chains.linked v t.version t.there).followed t.follow t.next

    next_is : next.version ≡ t.before
    next_is = same_Some next.version t.before (sym next.there ∙ ap (λ q. get U.versions q) t.is ∙ t.was)

    none : t.before.storage ≡ None
    none =
        (d.chains.storages w t.before t.was).over.1
        (v, t.version, t.follow, ap (λ (u : Version). u.predecessor) (sym next_is) ∙ next.back, t.there, t.next, t.way)

    object : t.before.object ≡ t.version.object
    object = ap (λ (u : Version). u.object) (sym next_is) ∙ next.object

    same_object : z.object ≡ t.version.object
    same_object = ap (λ (u : Version). u.object) (sym is_after) ∙ t.object ∙ object

    same_storage : z.storage ≡ t.version.storage
    same_storage = ap (λ (u : Version). u.storage) (sym is_after) ∙ t.storage

    made : t.version.produced ≡ true
    made = (done_parts t.version t.follow.last t.done).0

    off : t.before.produced ≡ false
    off = ((d.chains.storages w t.before t.was).waits none).0

    -- it has the bytes that the version before it left
    taken_bytes : (st : StorageName) (p : Operand) (s : Started) → z.storage ≡ Some st → IsKnown m i ts w p s
        → content T z.object st ≡ bytes_before s p
    taken_bytes st p s at known =
        let q = d.chains.opener v t.version t.there in
        let r = d.chains.opener w t.before t.was in
        let pw : p.object ≡ t.version.object =
        ap (λ (o : Operand). o.object) (same_Some p r.0 (sym known.operand ∙ r.1)) ∙ r.2 ∙ object in
        let alone =
        subst (λ (a : OpName). NoWriterBetween ts p.object v a) t.is
        (subst (λ o. NoWriterBetween ts o v t.follow.version) (sym pw)
        ((d.chains.storages v t.version t.there).alone t.follow t.next t.way)) in
        let f =
        finds v w q.0 p s q.1 (member q.0 q.1) known (q.2 ∙ sym pw)
        (subst (λ (a : OpName). v.task < a.task) t.is next.younger) alone in
        ap (λ o. content T o st) same_object
        ∙ d.leaves t.version st q.0 f.0 t.there made (sym same_storage ∙ at)
        (record { operand = q.1; starts = f.1 }) f.2
        ∙ f.3

    taken_stored : IsStored m i ts T w z
    taken_stored = record {
      produced = λ st p s is at known good.
          absurd (true≢false (sym is ∙ ap (λ (u : Version). u.produced) (sym is_after) ∙ t.produced ∙ off));
      awaited = λ st p s at known mode waits idle. taken_bytes st p s at known;
      releasing = λ st p s at known writer lets ends. absurd (d.keeps w t.before t.was none off lets);
    }

  -- ---- all of them

  alike_stored : (w : OpName) (z : Version) → get T.versions w ≡ Some z
      → AlikeAt U.versions (settled U.versions v).part w → IsStored m i ts T w z
  alike_stored w z e alike =
      let f = from_alike U.versions (settled U.versions v).part w alike z (now w z e) in
      d.each w f.0 z f.1 f.2 e

  own_by : (z : Version) → get T.versions v ≡ Some z
      → AlikeAt U.versions (settled U.versions v).part v ⊎ HasGone U.versions (settled U.versions v).part v
      → IsStored m i ts T v z
  own_by z e (inl alike) = alike_stored v z e alike
  own_by z e (inr gone) = absurd (none-some z (sym gone.gone ∙ now v z e))

  others_by : (w : OpName) (z : Version) → get T.versions w ≡ Some z
      → AlikeAt U.versions (settled U.versions v).part w
      ⊎ HasTaken U.versions (settled U.versions v).part v w (settled U.versions v).sent
      → IsStored m i ts T w z
  others_by w z e (inr taken) = taken_stored w taken z e
  others_by w z e (inl alike) = alike_stored w z e alike

  -- the storages of all versions
  pub stored_settled : HasStored m i ts T
  stored_settled =
      stored_each m i ts T (λ w z e. elim (decide_key name_order w v) [
        | inl is ↦
            subst (λ q. IsStored m i ts T q z) (sym is)
            (own_by z (ap (λ q. get T.versions q) (sym is) ∙ e) held.itself)
        | inr apart ↦ others_by w z e (held.others w apart)
      ])

-- ---- a version that hasn't got its storage yet

not_waiting : (b : Version) (mode : Mode) → b.storage ≡ None → b.produced ≡ false
    → version_opener b mode Releasing ≡ true → ⊥
not_waiting b mode none opens e =
    true≢false (sym e ∙ ap (opener_by b mode Releasing) opens ∙ ap (λ s. open_opener s Releasing) none)

-- has an opener that doesn't let go
pub waits_still : (ts : List Task) (g : Arrivals) (S T : State) → IsControlled ts g S → (w : OpName)
    → GoesOnFrom S T w → NoLater S T w → (y : Version) → get S.versions w ≡ Some y → y.storage ≡ None
    → y.produced ≡ false → phase_of T w ≡ Releasing → ⊥
waits_still ts g S T k w on late y e none off lets =
    let p = k.chains.opener w y e in
    not_waiting y p.0.mode none off
    (ap (version_opener y p.0.mode) (sym (lets_before S T w on late lets)) ∙ k.holders.openers w y p.0 e p.1)

-- ---- one version is written over and then settled

module _ (m : Machine) (i : ImageState) (ts : List Task) (g : Arrivals) (S T : State) (k : IsControlled ts g S)
    (h : HasStored m i ts S) (finds : FindsLeft m i ts S) (left : LeavesBytes S T)
    (on : (q : OpName) → GoesOnFrom S T q) (late : (q : OpName) → NoLater S T q) (v : OpName) (x y : Version)
    (there : get S.versions v ≡ Some x) (like : AreAlike x y) (registered : y.registered ≡ x.registered)
    (versions : T.versions ≡ (settled (put_version S.versions v y) v).part)
    (leaves : y.produced ≡ true → (st : StorageName) (q : Operand) (t : Started) → x.storage ≡ Some st
    → IsKnown m i ts v q t → IsGood m i t q → content S x.object st ≡ bytes_after m i t q)
    (own : (z : Version) → HeldAlike y z → IsStored m i ts T v z)
    (stored : x.storage ≡ None → y.produced ≡ x.produced) where
  abbrev W : State
  W = with_versions S (put_version S.versions v y)

  written : (w : OpName) (z : Version) → get W.versions w ≡ Some z
      → ((w ≡ v) × (z ≡ y)) ⊎ ((w ≢ v) × (get S.versions w ≡ Some z))
  written w z e = from_inserted name_order S.versions v y w z e

  settles : SettlesStored m i ts W T v
  settles = record {
    chains =
        HasChains-written S W v x y
        (record { there = there; put = refl; like = like; registered = registered; opens = refl; uses = refl })
        ts k.chains;
    others = others_written S k.retirement v y;
    versions = versions;
    each = λ w u z e alike at. elim (written w u e) [
      | inl new ↦
          subst (λ q. IsStored m i ts T q z) (sym new.0) (own z (subst (λ b. HeldAlike b z) new.1 alike))
      | inr old ↦
          stored_kept m i ts S T w u z (keeps_alike m i ts g S T k left on late w u z old.1 alike)
          (stored_at m i ts S h w u old.1)
    ];
    leaves = λ u st q t e made at known good.
        let is = same_Some u y (sym e ∙ at_inserted name_order S.versions v y) in
        ap (λ (b : Version). content T b.object st) is
        ∙ ap (λ r. content T r st) like.object
        ∙ content_left S T left x.object st
        ∙ leaves (ap (λ (b : Version). b.produced) (sym is) ∙ made) st q t
        (sym like.storage ∙ ap (λ (b : Version). b.storage) (sym is) ∙ at) known good;
    keeps = λ w u e none off lets. elim (written w u e) [
      | inl new ↦
          let bare = sym like.storage ∙ ap (λ (b : Version). b.storage) (sym new.1) ∙ none in
          waits_still ts g S T k v (on v) (late v) x there bare
          (sym (stored bare) ∙ ap (λ (b : Version). b.produced) (sym new.1) ∙ off)
          (ap (phase_of T) (sym new.0) ∙ lets)
      | inr old ↦ waits_still ts g S T k w (on w) (late w) u old.1 none off lets
    ];
  }

  -- the storages of all versions
  pub HasStored-settled : HasStored m i ts T
  HasStored-settled =
      stored_settled m i ts S W T v settles finds
      (λ q among.
      let p = k.chains.opener v x there in
      inl (x, there, sym p.2 ∙ ap (λ (p : Operand). p.object) (same_Some p.0 q (sym p.1 ∙ among))))
