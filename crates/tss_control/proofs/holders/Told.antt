-- Whom an open, a release and a nack tell: operands that wait, beside the one that opens.
use Rattle.std.proofs.Common.{◌≡◌, ◌≢◌, ℕ, zero, suc, true, List, Option, Some, None, refl, sym, ap, ◌∙◌, subst, inl}
use Rattle.std.proofs.Common.{inr, arith, true≢false}
use Rattle.std.specs.FinMap.{get, len}
use Rattle.std.proofs.lemmas.Option.{none-some, same_Some}
use Rattle.tss_base.specs.declared.operand.OpName.{OpName}
use Rattle.tss_base.specs.declared.operand.Task.{Task}
use Rattle.tss_base.specs.declared.marks.How.{How}
use Rattle.tss_base.specs.declared.marks.How.TheVariants.{Beside, Over}
use Rattle.tss_base.specs.declared.marks.Follow.{Follow}
use Rattle.tss_base.specs.Names.{Named}
use Rattle.tss_maps.proofs.Keys.{name_order}
use Rattle.tss_maps.proofs.Changes.{at_inserted, beside_inserted, decide_get, one_value}
use Rattle.tss_protocol.specs.Mail.{OpenContents}
use Rattle.tss_protocol.specs.State.{State, Version}
use Rattle.tss_protocol.specs.Versions.{put_version, may_die, version_changed, new_version, followed, after_nack}
use Rattle.tss_protocol.specs.Versions.{refused_once, unlinked}
use Rattle.tss_phases.specs.Phase.{Phase, Waiting}
use Rattle.tss_phases.specs.Phase.{phase_of}
use Rattle.tss_phases.specs.Openers.{is_waiting, opener_by}
use Rattle.tss_phases.specs.Orderly.{TellWaiting, OpensForWaiting}
use Rattle.tss_phases.specs.Settling.{GoesOn, SettleTells}
use Rattle.tss_protocol.specs.Settled.{GivesWay}
use Rattle.tss_phases.proofs.OpenEvent.{open_tells}
use Rattle.tss_phases.proofs.NackEvent.{nack_tells}
use Rattle.tss_control.specs.Chains.{HasChains}
use Rattle.tss_control.specs.Entries.{HasRetirement}
use Rattle.tss_control.specs.Readers.{Arrivals}
use Rattle.tss_control.specs.Holders.{HasHolders}
use Rattle.tss_protocol.proofs.SettleCases.{moved_up, at_changed, beside_changed, at_unlinked}

-- a phase that waits by the test
pub waiting_from_test : (p : Phase) → is_waiting p ≡ true → p ≡ Waiting
waiting_from_test Waiting e = refl
waiting_from_test other e = absurd (true≢false (sym e))

module _ (ts : List Task) (g : Arrivals) (S : State) (chains : HasChains ts S) (holders : HasHolders ts g S) where
  -- the opener of a version without a storage waits
  opener_waits : (v : OpName) (y : Version) → get S.versions v ≡ Some y → y.storage ≡ None → phase_of S v ≡ Waiting
  opener_waits v y there none =
      let p = chains.opener v y there in
      let unproduced = ((chains.storages v y there).waits none).0 in
      waiting_from_test (phase_of S v)
      (sym (λ i. opener_by (storeless i) p.0.mode (phase_of S v) (unproduced i)) ∙ holders.openers v y p.0 there p.1)
    where
      storeless : y ≡ record y { storage = None }
      storeless = λ i. record y { storage = none i }

  -- whom one that is followed over has before it waits
  over_waits : (v : OpName) (x : Version) (f : Follow) → get S.versions v ≡ Some x → x.successor ≡ Some f
      → f.how ≡ Over → phase_of S f.version ≡ Waiting
  over_waits v x f there to over =
      let n = (chains.linked v x there).followed f to in
      let none = (chains.storages f.version n.version n.there).over.1 (v, x, f, n.back, there, to, over) in
      opener_waits f.version n.version n.there none

  -- ---- a settle of a version that was changed, but not among its neighbours

  module _ (retirement : HasRetirement S) (v : OpName) (x z : Version) (there : get S.versions v ≡ Some x)
      (same : z.successor ≡ x.successor) (before : z.predecessor ≡ x.predecessor) where
    abbrev changed : Named Version
    changed = put_version S.versions v z

    at_v : (y : Version) → get changed v ≡ Some y → y ≡ z
    at_v y e = one_value changed v y z e (at_inserted name_order S.versions v z)

    goes_no_further : (n : ℕ) (q : OpName) → GoesOn (SettleTells n) changed v q → ⊥
    goes_no_further zero q h = h.on
    goes_no_further (suc n) q h = elim h.on [
      | inl t ↦ stops t.version t.follow Over t.gives
      | inr t ↦ stops t.version t.follow Beside t.gives
    ]
      where
        is : h.version ≡ z
        is = at_v h.version h.gives.there

        to : x.successor ≡ Some h.follow
        to = sym same ∙ ap (λ (y : Version). y.successor) (sym is) ∙ h.gives.next

        s : OpName
        s = h.follow.version

        stops : (y : Version) (k : Follow) (how : How) → GivesWay (unlinked changed v h.version s) s y k how → ⊥
        stops y k how gives =
            let n = (chains.linked v x there).followed h.follow to in
            let apart : s ≢ v = λ e. let a = n.younger in let b = ap (λ (o : OpName). o.task) e in omega
            (arith, a, b) in
            let other : h.version.predecessor ≡ Some s → ⊥ =
            λ e. let c = ((chains.linked v x there).after s
            (sym before ∙ ap (λ (y : Version). y.predecessor) (sym is) ∙ e)).older in
            let a = n.younger in omega (arith, a, c) in
            let at = at_unlinked changed v h.version s apart other n.version
            (beside_inserted name_order S.versions v z s apart ∙ n.there) in
            let y_is = one_value (unlinked changed v h.version s) s y (moved_up h.version n.version) gives.there at in
            let calm = (retirement.settled s n.version n.there).dies k
            (ap (λ (y : Version). y.successor) (sym y_is) ∙ gives.next) in
            true≢false (sym gives.done ∙ ap (λ y. may_die y k.last) y_is ∙ calm)

    -- whom it tells waits
    pub settle_tells_waiting : (q : OpName) → SettleTells (suc (len changed)) changed v q → phase_of S q ≡ Waiting
    settle_tells_waiting q (inl t) =
        let is = at_v t.version t.gives.there in
        let to = sym same ∙ ap (λ (y : Version). y.successor) (sym is) ∙ t.gives.next in
        ap (phase_of S) (sym t.successor) ∙ over_waits v x t.follow there to t.gives.way
    settle_tells_waiting q (inr h) = absurd (goes_no_further (len changed) q h)

  -- nack
  pub nacks_waiting : HasRetirement S → (v : OpName) → TellWaiting S (after_nack S.versions v).sent
  nacks_waiting retirement v q t =
      let h = nack_tells S.versions v q t in
      settle_tells_waiting retirement v h.0 (refused_once h.0) h.1 refl refl q h.2

-- ---- open

module _ (ts : List Task) (S : State) (chains : HasChains ts S) (o : OpName) (c : OpenContents)
    (there : get S.mail.opens o ≡ Some c) (f : Follow) (to : c.follows ≡ Some f) where
  abbrev opened : Named Version
  opened = followed S.versions o c f

  abbrev the_new : Version
  the_new = record (new_version c.operand.object c.storage) { predecessor = Some f.version }

  apart_followed : f.version ≢ o
  apart_followed e =
      let a = ((chains.opens o c there).after f to).older in let b = ap (λ (o : OpName). o.task) e in omega
      (arith, a, b)

  at_followed : (x : Version) → get S.versions f.version ≡ Some x
      → get opened f.version ≡ Some (record x { successor = Some (record f { version = o }) })
  at_followed x e =
      at_changed (λ p. record p { successor = Some (record f { version = o }) }) (put_version S.versions o the_new)
      f.version x
      (beside_inserted name_order S.versions o the_new f.version apart_followed ∙ e)

  at_opened : get opened o ≡ Some the_new
  at_opened =
      beside_changed (λ p. record p { successor = Some (record f { version = o }) }) (put_version S.versions o the_new)
      f.version o (λ e. apart_followed (sym e))
      ∙ at_inserted name_order S.versions o the_new

  follows_own : (x : Version) → get S.versions f.version ≡ Some x → (y : Version) (k : Follow)
      → get opened f.version ≡ Some y
      → y.successor ≡ Some k → k.version ≡ o
  follows_own x e y k at next =
      let is = one_value opened f.version y _ at (at_followed x e) in
      ap (λ (k : Follow). k.version)
      (same_Some k (record f { version = o }) (sym next ∙ ap (λ (y : Version). y.successor) is))

  -- the one that is opened gives way to none
  stays_last : (n : ℕ) (x y : Version) (q : OpName) → get S.versions f.version ≡ Some x → get opened f.version ≡ Some y
      → SettleTells n (unlinked opened f.version y o) o q → ⊥
  stays_last zero x y q e at h = h
  stays_last (suc n) x y q e at h = elim h [
    | inl t ↦ none t.version t.follow Over t.gives
    | inr t ↦ none t.version t.follow Beside t.gives
  ]
    where
      older : y.predecessor ≡ Some o → ⊥
      older p =
          let is = one_value opened f.version y _ at (at_followed x e) in
          let a = ((chains.linked f.version x e).after o (ap (λ (y : Version). y.predecessor) (sym is) ∙ p)).older in
          let b = ((chains.opens o c there).after f to).older in
          omega (arith, a, b)

      none : (w : Version) (k : Follow) (how : How) → GivesWay (unlinked opened f.version y o) o w k how → ⊥
      none w k how gives =
          let stands = at_unlinked opened f.version y o (λ e. apart_followed (sym e)) older the_new at_opened in
          let is = one_value (unlinked opened f.version y o) o w (moved_up y the_new) gives.there stands in
          none-some k (ap (λ (y : Version). y.successor) (sym is) ∙ gives.next)

  absent_tells : get S.versions f.version ≡ None → (n : ℕ) (q : OpName) → SettleTells n opened f.version q → ⊥
  absent_tells e zero q h = h
  absent_tells e (suc n) q h = elim h [
    | inl t ↦ missing t.version t.gives.there
    | inr t ↦ missing t.version t.gives.there
  ]
    where
      missing : (y : Version) → get opened f.version ≡ Some y → ⊥
      missing y at = none-some y (sym (gone (get (put_version S.versions o the_new) f.version) refl) ∙ at)
        where
          nothing : get (put_version S.versions o the_new) f.version ≡ None
          nothing = beside_inserted name_order S.versions o the_new f.version apart_followed ∙ e

          gone : (x : Option Version) → get (put_version S.versions o the_new) f.version ≡ x
              → get opened f.version ≡ None
          gone x at =
              ap (λ y. get (version_changed (put_version S.versions o the_new) f.version
              (λ p. record p { successor = Some (record f { version = o }) }) y) f.version) nothing
              ∙ nothing

  -- whom its settle tells is the operand itself
  pub settle_tells_own : (n : ℕ) (q : OpName) → SettleTells n opened f.version q → q ≡ o
  settle_tells_own n q h = elim (decide_get S.versions f.version) [
    | inl none ↦ absurd (absent_tells none n q h)
    | inr x ↦ by x.0 x.1 n h
  ]
    where
      by : (x : Version) → get S.versions f.version ≡ Some x → (n : ℕ) → SettleTells n opened f.version q → q ≡ o
      by x e zero h = absurd h
      by x e (suc n) (inl t) =
          sym t.successor ∙ follows_own x e t.version t.follow t.gives.there t.gives.next
      by x e (suc n) (inr t) =
          let next = follows_own x e t.version t.follow t.gives.there t.gives.next in
          absurd (stays_last n x t.version q e t.gives.there
          (subst (λ s. SettleTells n (unlinked opened f.version t.version s) s q) next t.on))

-- an open tells no other operand
pub opens_waiting : (ts : List Task) (S : State) → HasChains ts S → (o : OpName) → OpensForWaiting S o
opens_waiting ts S chains o c there q apart t = elim (open_tells S.versions o c q t) [
  | inl own ↦ absurd (apart own.0)
  | inr h ↦ absurd (apart
      (settle_tells_own ts S chains o c there h.0 h.1 (suc (len (followed S.versions o c h.0))) q h.2))
]
