-- What a release leaves of versions for those who hold them: where its version goes, nobody else needs it.
use Rattle.std.proofs.Common.{◌≡◌, ◌≢◌, ◌⊎◌, ◌≤◌, ℕ, Bool, true, false, List, Some, None, refl, sym, ap, ◌∙◌, subst}
use Rattle.std.proofs.Common.{inl, inr, arith, true≢false}
use Rattle.std.specs.FinMap.{get}
use Rattle.std.proofs.lemmas.Option.{none-some}
use Rattle.tss_base.specs.declared.operand.OpName.{OpName}
use Rattle.tss_base.specs.declared.operand.Operand.{Operand}
use Rattle.tss_base.specs.Names.{Named}
use Rattle.tss_maps.proofs.Keys.{name_order, decide_key}
use Rattle.tss_maps.proofs.Changes.{at_inserted, beside_inserted, one_value}
use Rattle.tss_model.specs.Access.{writes}
use Rattle.tss_protocol.specs.Mail.{Source, Message}
use Rattle.tss_protocol.specs.State.{State, Version}
use Rattle.tss_protocol.specs.Versions.{Versioned, settled}
use Rattle.tss_phases.specs.Phase.{Phase, Waiting, Releasing, Leaving, Promised}
use Rattle.tss_phases.specs.Phase.{Left, phase_of, has_released}
use Rattle.tss_phases.specs.Openers.{holds_version, has_parted}
use Rattle.tss_phases.proofs.ReleaseEvent.{version_released}
use Rattle.tss_control.specs.Members.{operand_among, total}
use Rattle.tss_control.specs.Readers.{Has}
use Rattle.tss_control.specs.Holders.{IsTrue, IsOwnOrRead}
use Rattle.tss_control.proofs.rounds.ReadersLists.{has_newer}
use Rattle.tss_control.proofs.rounds.ReadersStates.{all_have_gone}
use Rattle.tss_control.proofs.readers.Settled.{registered_in_total}
use Rattle.tss_control.proofs.chains.Settled.{done_parts, chains_next}
use Rattle.tss_control.proofs.chains.Released.{others_written}
use Rattle.tss_protocol.proofs.SettleCases.{HasNext}
use Rattle.tss_control.proofs.rounds.HoldersNext.{linking_waits}
use Rattle.tss_control.proofs.holders.Fits.{Needs}
use Rattle.tss_control.proofs.holders.Needed.{writer_parted}
use Rattle.tss_control.proofs.holders.Thinned.{StaysHeld}
use Rattle.tss_control.proofs.holders.Promises.{others_released}
use Rattle.tss_control.proofs.holders.Settled.{stays_alike, HasGone, HasTaken, SettlesHeld, settles_held}
use Rattle.tss_base.specs.declared.machine.Machine.{Machine}
use Rattle.tss_control.proofs.holders.Release.{Release, released}

-- ---- phases

gone_holds : (p : Phase) → has_released p ≡ true → holds_version p ≡ true → ⊥
gone_holds Leaving r e = true≢false (sym e)
gone_holds Promised r e = true≢false (sym e)
gone_holds Left r e = true≢false (sym e)
gone_holds other r e = true≢false (sym r)

parted_released : (p : Phase) → has_parted p ≡ true → has_released p ≡ true
parted_released Leaving r = refl
parted_released Promised r = refl
parted_released Left r = refl
parted_released other r = absurd (true≢false (sym r))

module _ (m : Machine) (S : State) (release : Release m S) where
  open release use {ts, g, control as h, o, c, k}
  open released m S release use {v, x, vs}

  -- the version that is released
  abbrev z : Version
  z = version_released o x c.producer

  same_parts : (b : Bool) (x : Version)
      → ((version_released o x b).object ≡ x.object)
      × ((version_released o x b).storage ≡ x.storage)
      × ((version_released o x b).successor ≡ x.successor)
      × ((version_released o x b).predecessor ≡ x.predecessor)
  same_parts true x = (refl, refl, refl, refl)
  same_parts false x = (refl, refl, refl, refl)

  -- the version that is left has the same object, storage and neighbours
  pub z_parts : (z.object ≡ x.object) × (z.storage ≡ x.storage) × (z.successor ≡ x.successor)
      × (z.predecessor ≡ x.predecessor)
  z_parts = same_parts c.producer x

  at_v : get vs v ≡ Some z
  at_v = at_inserted name_order S.versions v z

  next_now : (y : Version) → get vs v ≡ Some y → HasNext vs v y
  next_now y e f to =
      let is = one_value vs v y z e at_v in
      let n = chains_next ts S h.chains v x k.there f
      (sym z_parts.2 ∙ ap (λ (y : Version). y.successor) (sym is) ∙ to) in (
        (n.0.0, beside_inserted name_order S.versions v z f.version n.1 ∙ n.0.1),
        n.1,
        λ p. n.2 (sym z_parts.3 ∙ ap (λ (y : Version). y.predecessor) (sym is) ∙ p),
      )

  -- what its settle does
  pub release_settles : SettlesHeld vs v (settled vs v)
  release_settles = settles_held vs v (others_written S h.retirement v z) next_now

  -- ---- where the version goes

  module _ (us : Named Version) (gone : HasGone vs us v) where
    full : x.registered ≤ z.released
    full =
        let is = one_value vs v gone.version z gone.there at_v in
        let to = sym z_parts.2 ∙ ap (λ (y : Version). y.successor) (sym is) ∙ gone.next in
        by gone.version.released z.released gone.follow.last (total S v) x.registered
        (done_parts gone.version gone.follow.last gone.done).1
        (ap (λ (y : Version). y.released) is)
        ((h.chains.linked v x k.there).followed gone.follow to).last
        (registered_in_total S v x k.there)
      where
        by : (a b l t n : ℕ) → a ≡ l → a ≡ b → l ≡ t → n ≤ t → n ≤ b
        by a b l t n e f d q = omega (arith, e, f, d, q)

    gone_produced : z.produced ≡ true
    gone_produced =
        let is = one_value vs v gone.version z gone.there at_v in
        ap (λ (y : Version). y.produced) (sym is) ∙ (done_parts gone.version gone.follow.last gone.done).0

    late : has_released (phase_of S o) ≡ false
    late = ap has_released k.phase

    -- all its other readers have released it
    readers_gone : (a : OpName) → Has a (g v) → a ≢ o → has_released (phase_of S a) ≡ true
    readers_gone a has apart = by c.producer refl
      where
        by : (b : Bool) → c.producer ≡ b → has_released (phase_of S a) ≡ true
        by true e =
            all_have_gone ts (g v) S v x (h.readers.versions v x k.there)
            (subst (λ n. x.registered ≤ n) (ap (λ b. (version_released o x b).released) e) full) a has
        by false e =
            others_released S ts (g v) v x (h.readers.versions v x k.there) o
            (subst (λ w. IsOwnOrRead g o w v) (sym k.producer ∙ e) k.own) late
            (subst (λ n. x.registered ≤ n) (ap (λ b. (version_released o x b).released) e) full) a has apart

    releasing_waits : Releasing ≡ Waiting → ⊥
    releasing_waits e = cc

    -- no reader is linked to one that waits
    pub not_linked : (a next : OpName) → Has a (g v) → get S.mail.links a ≡ Some next → ⊥
    not_linked a next has e =
        let b = linking_waits ts g S h.readers a next e in
        let same = h.readers.apart v b.version a x b.state k.there b.there has b.older in
        let comes = subst (λ w. Has next (g w)) (sym same) (has_newer a next (g b.version) b.next) in
        let apart : next ≢ o = λ f. releasing_waits (sym k.phase ∙ ap (phase_of S) (sym f) ∙ b.waits) in
        true≢false (sym (readers_gone next comes apart) ∙ ap has_released b.waits)

    -- nobody waits for it
    pub none_waits_by : (a : OpName) → Has a (g v) → phase_of S a ≡ Waiting → ⊥
    none_waits_by a has waits =
        let apart : a ≢ o = λ f. releasing_waits (sym k.phase ∙ ap (phase_of S) (sym f) ∙ waits) in
        true≢false (sym (readers_gone a has apart) ∙ ap has_released waits)

    -- its writer has parted, unless it is the one that releases
    writer_gone : (q : OpName) → q ≢ o → v ≡ q → (p : Operand) → operand_among ts q ≡ Some p → writes p.mode ≡ true
        → has_released (phase_of S q) ≡ true
    writer_gone q apart same p e w = by c.producer refl
      where
        by : (b : Bool) → c.producer ≡ b → has_released (phase_of S q) ≡ true
        by true f =
            absurd (apart (sym same ∙ subst (λ w. IsOwnOrRead g o w v) (sym k.producer ∙ f) k.own))
        by false f =
            parted_released (phase_of S q)
            (writer_parted x p.mode (phase_of S q)
            (ap (λ b. (version_released o x b).produced) (sym f) ∙ gone_produced) w
            (h.holders.openers q x p (ap (get S.versions) (sym same) ∙ k.there) e))

    -- nor does anybody else need it
    pub not_needed_by : (q : OpName) → q ≢ o → (p : Operand) (s : Source) → operand_among ts q ≡ Some p
        → Needs (phase_of S q) (get S.mail.links q) → IsTrue g S q p s → s.version ≡ v → ⊥
    not_needed_by q apart p s e needs t same =
        by (writes p.mode) refl (subst (IsOwnOrRead g q (writes p.mode)) same t.own) needs
      where
        by : (w : Bool) → writes p.mode ≡ w → IsOwnOrRead g q w v → Needs (phase_of S q) (get S.mail.links q) → ⊥
        by true w own (inl holds) = gone_holds (phase_of S q) (writer_gone q apart own p e w) holds
        by true w own (inr l) =
            let r = h.holders.records q l.0 l.1 in
            none-some l.0 (sym ((h.holders.links q p r.0 e r.1).writer w).1 ∙ l.1)
        by false w has (inl holds) = gone_holds (phase_of S q) (readers_gone q has apart) holds
        by false w has (inr l) = not_linked q l.0 has l.1

  -- ---- where versions stay

  -- one that is followed over has no storage
  over_storeless : (us : Named Version) (ms : List Message) (w : OpName) → w ≢ v → HasTaken vs us v w ms
      → (y : Version) → get S.versions w ≡ Some y → y.storage ≡ None
  over_storeless us ms w apart t y e =
      let is = one_value vs v t.version z t.there at_v in
      let to = sym z_parts.2 ∙ ap (λ (y : Version). y.successor) (sym is) ∙ t.next in
      let n = (h.chains.linked v x k.there).followed t.follow to in
      let none = (h.chains.storages t.follow.version n.version n.there).over.1
      (v, x, t.follow, n.back, k.there, to, t.way) in
      ap (λ (y : Version). y.storage)
      (one_value S.versions w y n.version e (ap (get S.versions) (sym t.is) ∙ n.there))
      ∙ none

  module _ (d : Versioned) (s : SettlesHeld vs v d) where
    -- a version stays, or it is the one that is gone
    pub stays_or_gone : (w : OpName) (y : Version) → get S.versions w ≡ Some y
        → StaysHeld d.part w y ⊎ ((w ≡ v) × HasGone vs d.part v)
    stays_or_gone w y e = elim (decide_key name_order w v) [
      | inl same ↦ elim s.itself [
        | inl alike ↦
            let n = stays_alike vs d.part v alike z at_v in
            let is = one_value S.versions v x y k.there (ap (get S.versions) (sym same) ∙ e) in
            inl (
              n.0,
              ap (get d.part) same ∙ n.1,
              n.2.object ∙ z_parts.0 ∙ ap (λ (y : Version). y.object) is,
              λ t f. n.2.storage ∙ z_parts.1 ∙ ap (λ (y : Version). y.storage) is ∙ f,
            )
        | inr gone ↦ inr (same, gone)
      ]
      | inr apart ↦
          let there = beside_inserted name_order S.versions v z w apart ∙ e in
          elim (s.others w apart) [
            | inl alike ↦
                let n = stays_alike vs d.part w alike y there in
                inl (n.0, n.1, n.2.object, λ t f. n.2.storage ∙ f)
            | inr t ↦
                let is = one_value vs w t.before y t.was there in
                inl (
                  t.after,
                  t.stands,
                  t.object ∙ ap (λ (y : Version). y.object) is,
                  λ u f. absurd (none-some u (sym (over_storeless d.part d.sent w apart t y e) ∙ f)),
                )
          ]
    ]
