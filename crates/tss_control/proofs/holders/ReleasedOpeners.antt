-- The openers of versions after a release.
use Rattle.std.proofs.Common.{◌≡◌, ◌≢◌, ◌⊎◌, suc, Bool, true, false, ◌++◌, Some, None, refl, sym, ap, ◌∙◌, subst, inl}
use Rattle.std.proofs.Common.{inr, true≢false}
use Rattle.std.specs.FinMap.{get, len}
use Rattle.std.proofs.lemmas.Option.{none-some, same_Some}
use Rattle.tss_base.specs.declared.operand.OpName.{OpName}
use Rattle.tss_base.specs.declared.operand.Mode.{Mode}
use Rattle.tss_base.specs.declared.operand.Mode.TheVariants.{Input, Output, Inout}
use Rattle.tss_base.specs.declared.operand.Operand.{Operand}
use Rattle.tss_base.specs.declared.machine.Machine.{Machine}
use Rattle.tss_maps.proofs.Keys.{name_order, decide_key}
use Rattle.tss_maps.proofs.Changes.{at_inserted, one_value}
use Rattle.tss_model.specs.Access.{writes}
use Rattle.tss_protocol.specs.Mail.{StorageName}
use Rattle.tss_protocol.specs.State.{State, Version}
use Rattle.tss_phases.specs.Phase.{Waiting, Told, Releasing, Leaving, phase_of}
use Rattle.tss_phases.specs.Told.{tells, phase_told}
use Rattle.tss_phases.specs.Openers.{produced_opener, open_opener, opener_by, version_opener}
use Rattle.tss_phases.proofs.SettlingLemmas.{settle_tells_successor}
use Rattle.tss_phases.proofs.ToldPhases.{second_tells}
use Rattle.tss_phases.proofs.ReleaseEvent.{version_released, release_tells}
use Rattle.tss_control.specs.Members.{operand_among}
use Rattle.tss_control.specs.Readers.{Has, head_of, oldest_of}
use Rattle.tss_control.specs.Holders.{IsOwnOrRead}
use Rattle.tss_control.proofs.rounds.ReadersLists.{has_oldest}
use Rattle.tss_control.proofs.holders.Sent.{told_own, waiting_opener, same_opener}
use Rattle.tss_control.proofs.holders.Ready.{reader_operand, waiting_input}
use Rattle.tss_control.proofs.holders.Settled.{from_alike}
use Rattle.tss_control.proofs.holders.Releases.{z_parts}
use Rattle.tss_control.proofs.holders.Releasing.{settles, versions, waits, not_waiting, came, now_leaving, other_phase}
use Rattle.tss_control.proofs.holders.Releasing.{same_tells}
use Rattle.tss_control.proofs.holders.Release.{Release, released}

-- one that doesn't write is an input
pub reads_input : (mode : Mode) → writes mode ≡ false → mode ≡ Input
reads_input Input e = refl
reads_input Output e = absurd (true≢false e)
reads_input Inout e = absurd (true≢false e)

module _ (m : Machine) (S : State) (release : Release m S) where
  open release use {ts, g, control as h, o, c, there, k}
  open released m S release use {T, v, x, vs, d, hs}

  -- ---- openers

  leaving_opens : (mode : Mode) → produced_opener mode Leaving ≡ true
  leaving_opens Input = refl
  leaving_opens Output = refl
  leaving_opens Inout = refl

  -- the version that is released is produced where its opener releases it
  own_produced : v ≡ o → (version_released o x c.producer).produced ≡ true
  own_produced same = by c.producer refl
    where
      waits_clash : Releasing ≡ Waiting → ⊥
      waits_clash e = cc

      by : (b : Bool) → c.producer ≡ b → (version_released o x b).produced ≡ true
      by true e = refl
      by false e =
          let has = subst (λ w. IsOwnOrRead g o w v) (sym k.producer ∙ e) k.own in
          let a = h.readers.versions v x k.there in
          let oldest = a.own (subst (λ q. Has q (g v)) (sym same) has) in
          not_open x.produced refl
          (λ f. waits_clash (sym k.phase ∙ ap (phase_of S) (sym same) ∙ (a.first v oldest).1 f))
        where
          not_open : (b : Bool) → x.produced ≡ b → (x.produced ≡ false → ⊥) → x.produced ≡ true
          not_open true f n = f
          not_open false f n = absurd (n f)

  -- an operand that releases another one's version has opened none
  no_own_version : o ≢ v → (y : Version) → get S.versions o ≡ Some y → ⊥
  no_own_version apart y e = by c.producer refl
    where
      by : (b : Bool) → c.producer ≡ b → ⊥
      by true f = apart (sym (subst (λ w. IsOwnOrRead g o w v) (sym k.producer ∙ f) k.own))
      by false f =
          let has = subst (λ w. IsOwnOrRead g o w v) (sym k.producer ∙ f) k.own in
          let p = h.chains.opener o y e in
          let is = same_Some p.0 k.operand (sym p.1 ∙ k.among) in
          let mode = ap (λ (p : Operand). p.mode) is ∙ reads_input k.operand.mode (sym k.producer ∙ f) in
          let oldest = (h.readers.versions o y e).opener
          (record { operand = p.0; there = p.1; object = p.2; is_mode = mode }) in
          apart (h.readers.apart o v o y x e k.there (has_oldest o (g o) oldest) has)

  opener_own : (y : Version) (p : Operand) → get d.part v ≡ Some y → operand_among ts v ≡ Some p
      → version_opener y p.mode (phase_of T v) ≡ true
  opener_own y p e among = elim (settles m S release).itself [
    | inr gone ↦ absurd (none-some y (sym gone.gone ∙ e))
    | inl alike ↦
        let n = from_alike vs d.part v alike y e in
        let z_is = one_value vs v n.0 _ n.1 (at_inserted name_order S.versions v _) in
        elim (decide_key name_order v o) [
          | inl same ↦
              ap (version_opener y p.mode) (ap (phase_of T) same ∙ (now_leaving m S release))
              ∙ ap (opener_by y p.mode Leaving)
              (n.2.produced ∙ ap (λ (y : Version). y.produced) z_is ∙ own_produced same)
              ∙ leaving_opens p.mode
          | inr apart ↦
              same_opener x y p.mode (phase_of T v) (record {
                object = n.2.object ∙ ap (λ (y : Version). y.object) z_is ∙ (z_parts m S release).0;
                produced = n.2.produced ∙ ap (λ (y : Version). y.produced) z_is ∙ reader_keeps apart c.producer refl;
                storage = n.2.storage ∙ ap (λ (y : Version). y.storage) z_is ∙ (z_parts m S release).1;
              })
              ∙ by apart (tells (hs ++ d.sent) v) refl
        ]
  ]
    where
      reader_keeps : v ≢ o → (b : Bool) → c.producer ≡ b → (version_released o x b).produced ≡ x.produced
      reader_keeps apart true f = absurd (apart (subst (λ w. IsOwnOrRead g o w v) (sym k.producer ∙ f) k.own))
      reader_keeps apart false f = refl

      by : v ≢ o → (b : Bool) → tells (hs ++ d.sent) v ≡ b → version_opener x p.mode (phase_of T v) ≡ true
      by apart true f = absurd
          ((not_waiting m S release) ((waits m S release) v f))
      by apart false f =
          ap (version_opener x p.mode)
          ((other_phase m S release) v apart
          ∙ ap (λ b. phase_told b (phase_of S v)) ((same_tells m S release) v ∙ f))
          ∙ h.holders.openers v x p k.there among

  opener_other : (w : OpName) → w ≢ v → (y : Version) (p : Operand) → get d.part w ≡ Some y
      → operand_among ts w ≡ Some p
      → version_opener y p.mode (phase_of T w) ≡ true
  opener_other w far y p e among =
      let b = (came m S release) w far y e in
      let apart : w ≢ o = λ f.
      no_own_version (λ g. far (f ∙ g)) b.0 (ap (get S.versions) (sym f) ∙ b.1) in
      by apart b.0 b.1 b.2 b.3 b.4 (tells (hs ++ d.sent) w) refl
    where
      storage_none : (b : Version) → b.storage ≡ None → (y.storage ≡ b.storage) → (s : StorageName)
          → y.storage ≡ Some s → ⊥
      storage_none b n f s g = none-some s (sym n ∙ sym f ∙ g)

      told_phase_now : w ≢ o → tells (hs ++ d.sent) w ≡ true → phase_of T w ≡ Told
      told_phase_now apart t =
          (other_phase m S release) w apart
          ∙ ap (λ b. phase_told b (phase_of S w)) ((same_tells m S release) w ∙ t)

      head_input : (b : Version) → get S.versions w ≡ Some b → phase_of S w ≡ Waiting → x.head ≡ Some w → ⊥
      head_input b at wt head =
          let has = has_oldest w (g v) (head_oldest x.produced refl) in
          let on_it = reader_operand ts g S h.chains h.readers h.holders v x k.there w has p among in
          waiting_input ts g S h.chains h.readers h.holders w wt b at p among on_it.1
        where
          head_oldest : (b : Bool) → x.produced ≡ b → oldest_of (g v) ≡ Some w
          head_oldest true e =
              let a = h.readers.versions v x k.there in
              absurd (none-some w (sym (ap (λ b. head_of b (g v)) e) ∙ sym a.head ∙ head))
          head_oldest false e =
              let a = h.readers.versions v x k.there in
              sym (ap (λ b. head_of b (g v)) e) ∙ sym a.head ∙ head

      by : w ≢ o → (b : Version) → get S.versions w ≡ Some b → y.object ≡ b.object → y.produced ≡ b.produced
          → ((y.storage ≡ b.storage) ⊎ ((y.storage ≡ x.storage) × (tells d.sent w ≡ true))) → (t : Bool)
          → tells (hs ++ d.sent) w ≡ t → version_opener y p.mode (phase_of T w) ≡ true
      by apart b at object produced (inl storage) false t =
          same_opener b y p.mode (phase_of T w) (record { object = object; produced = produced; storage = storage })
          ∙ ap (version_opener b p.mode)
          ((other_phase m S release) w apart
          ∙ ap (λ b. phase_told b (phase_of S w)) ((same_tells m S release) w ∙ t))
          ∙ h.holders.openers w b p at among
      by apart b at object produced (inr taken) false t =
          absurd (true≢false (sym (second_tells hs d.sent w taken.1) ∙ t))
      by apart b at object produced storage true t =
          let wt = (waits m S release) w t in
          let n = waiting_opener b p.mode (ap (version_opener b p.mode) (sym wt) ∙ h.holders.openers w b p at among) in
          elim storage [
            | inr taken ↦
                ap (version_opener y p.mode) (told_phase_now apart t)
                ∙ ap (opener_by y p.mode Told) (produced ∙ n.0)
                ∙ ap (λ s. open_opener s Told) (taken.0 ∙ k.stored)
            | inl same ↦ elim (release_tells S.versions o v x c.producer w
                ((same_tells m S release) w ∙ t)) [
                  | inl head ↦ absurd (head_input b at wt head.1)
                  | inr settled_tells ↦
                      let own = told_own d.part w d.sent (settles m S release).sent
                      (settle_tells_successor (suc (len vs)) vs v w settled_tells) in
                      let is = one_value d.part w y own.1 e own.2 in
                      absurd (storage_none b n.1 same own.0.storage (ap (λ (y : Version). y.storage) is ∙ own.3))
                ]
          ]

  -- each agrees with its version
  pub openers : (w : OpName) (y : Version) (p : Operand) → get T.versions w ≡ Some y → operand_among ts w ≡ Some p
      → version_opener y p.mode (phase_of T w) ≡ true
  openers w y p e among =
      let at = sym (ap (λ vs. get vs w) (versions m S release)) ∙ e in
      elim (decide_key name_order w v) [
        | inl same ↦
            ap (λ w. version_opener y p.mode (phase_of T w)) same
            ∙ opener_own y p (ap (get d.part) (sym same) ∙ at) (ap (operand_among ts) (sym same) ∙ among)
        | inr far ↦ opener_other w far y p at among
      ]
