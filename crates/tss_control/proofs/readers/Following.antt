-- A version is opened that follows another: what that leaves of all versions, and whom a settle of the followed one
-- tells.
use Rattle.std.proofs.Common.{◌≡◌, ◌≢◌, ◌⊎◌, inl, inr, ℕ, ◌<◌, ◌≤◌, true, List, Option, Some, None, refl, sym, ap, ◌∙◌}
use Rattle.std.proofs.Common.{subst, arith}
use Rattle.std.specs.FinMap.{get}
use Rattle.std.proofs.lemmas.Option.{none-some, same_Some}
use Rattle.tss_base.specs.declared.operand.OpName.{OpName}
use Rattle.tss_base.specs.declared.operand.Mode.TheVariants.{Output, Inout}
use Rattle.tss_base.specs.declared.operand.Task.{Task}
use Rattle.tss_base.specs.declared.marks.How.{How}
use Rattle.tss_base.specs.declared.marks.How.TheVariants.{Beside, Over}
use Rattle.tss_base.specs.declared.marks.Follow.{Follow}
use Rattle.tss_base.specs.Names.{Named}
use Rattle.tss_maps.proofs.Keys.{name_order}
use Rattle.tss_maps.proofs.Changes.{from_inserted, still_inserted}
use Rattle.tss_protocol.specs.Mail.{Buffer, OpenContents}
use Rattle.tss_protocol.specs.State.{State, Version}
use Rattle.tss_protocol.specs.Versions.{new_version, put_version, version_changed, followed}
use Rattle.tss_phases.specs.Settling.{SettleTells}
use Rattle.tss_control.specs.Members.{total}
use Rattle.tss_control.specs.Chains.{IsOpenInOrder, OpensAfter, HasChains}
use Rattle.tss_control.proofs.rounds.ReadersKept.{SameForReaders, same_version}
use Rattle.tss_control.proofs.readers.Told.{FollowsOver, StandsBeside, settle_tells_over, IsTaker, followed_by_takers}
use Rattle.tss_control.proofs.readers.Told.{with_storage_beside, produced_has_storage, from_changed}
use Rattle.tss_control.proofs.readers.Settled.{HasFewReaders, registered_in_total, few_readers}

less_than_itself : (a : ℕ) → a < a → ⊥
less_than_itself a h = omega (arith, h)

-- ---- a version that follows another

module _ (ts : List Task) (S : State) (chains : HasChains ts S) (o : OpName) (c : OpenContents) (f : Follow)
    (there : get S.mail.opens o ≡ Some c) (to : c.follows ≡ Some f) where
  abbrev new : Version
  new = record (new_version c.operand.object c.storage) { predecessor = Some f.version }

  abbrev vs : Named Version
  vs = put_version S.versions o new

  abbrev bridge : Version → Version
  bridge p = record p { successor = Some (record f { version = o }) }

  abbrev us : Named Version
  us = followed S.versions o c f

  order : IsOpenInOrder ts S o c
  order = chains.opens o c there

  after : OpensAfter ts S o c f
  after = order.after f to

  apart : f.version ≢ o
  apart e = less_than_itself o.task (subst (λ (q : OpName). q.task < o.task) e after.older)

  -- what stands there is the new version, the followed one with its successor, or stood there before
  data WasThere (q : OpName) (y : Version) : Type 0 where
    IsOpened : q ≡ o → y ≡ new → WasThere q y
    IsFollowed : (x : Version) → q ≡ f.version → get S.versions q ≡ Some x → y ≡ bridge x → WasThere q y
    IsOld : q ≢ o → get S.versions q ≡ Some y → WasThere q y

  was_there : (q : OpName) (y : Version) → get us q ≡ Some y → WasThere q y
  was_there q y e =
      let h = from_changed vs f.version bridge q y e in
      by h.0 (from_inserted name_order S.versions o new q h.0 h.1) h.2
    where
      by : (x : Version) → ((q ≡ o) × (x ≡ new)) ⊎ ((q ≢ o) × (get S.versions q ≡ Some x))
          → (y ≡ x) ⊎ ((q ≡ f.version) × (y ≡ bridge x)) → WasThere q y
      by x (inl p) (inl same) = IsOpened p.0 (same ∙ p.1)
      by x (inl p) (inr r) = absurd (apart (sym r.0 ∙ p.0))
      by x (inr p) (inl same) = IsOld p.0 (p.1 ∙ ap Some (sym same))
      by x (inr p) (inr r) = IsFollowed x r.0 p.1 r.1

  taker_by : (h : How) → h ≡ Over
      → ((c.operand.mode ≡ Inout) × (f.how ≡ Over) × (c.storage ≡ None))
      ⊎ ((c.operand.mode ≡ Output) × (f.how ≡ Beside) × (c.storage ≡ Some (Buffer o))) → h ≡ f.how → IsTaker ts o
  taker_by h over (inl p) same =
      (c.operand.object, record { operand = c.operand; there = order.operand; object = refl; is_mode = p.0 })
  taker_by h over (inr p) same = absurd (two_ways h over (same ∙ p.1))
    where
      two_ways : (h : How) → h ≡ Over → h ≡ Beside → ⊥
      two_ways h a b = cc

  follow_is : (x : Version) (y : Version) (g : Follow) → y ≡ bridge x → y.successor ≡ Some g
      → record f { version = o } ≡ g
  follow_is x y g e at =
      same_Some (record f { version = o }) g (sym (ap (λ (y : Version). y.successor) e) ∙ at)

  opened_over : FollowsOver (IsTaker ts) us
  opened_over q y g e at way = by (was_there q y e)
    where
      by : WasThere q y → IsTaker ts g.version
      by (IsOpened p is) = absurd (none-some g (sym (ap (λ (y : Version). y.successor) is) ∙ at))
      by (IsOld p is) = followed_by_takers ts S chains q y g is at way
      by (IsFollowed x p is same) =
          let k = follow_is x y g same at in
          subst (λ (g : Follow). IsTaker ts g.version) k
          (taker_by g.how way after.way (ap (λ (g : Follow). g.how) (sym k)))

  beside_by : (y : Version) (x : Version) → get S.versions f.version ≡ Some x → y.predecessor ≡ x.predecessor
      → y.produced ≡ x.produced → y.produced ≡ true → StandsBeside us y
  beside_by y x there back same produced q z g before e at way = by (was_there q z e)
    where
      was : x.predecessor ≡ Some q
      was = sym back ∙ before

      by : WasThere q z → ⊥
      by (IsOpened p is) = none-some g (sym (ap (λ (y : Version). y.successor) is) ∙ at)
      by (IsOld p is) =
          with_storage_beside ts S chains f.version x there
          (produced_has_storage ts S chains f.version x there (sym same ∙ produced)) q z g was is at way
      by (IsFollowed w p is bridged) =
          less_than_itself f.version.task
          (subst (λ (q : OpName). q.task < f.version.task) p ((chains.linked f.version x there).after q was).older)

  opened_beside : (y : Version) → get us f.version ≡ Some y → y.produced ≡ true → StandsBeside us y
  opened_beside y e produced = by (was_there f.version y e)
    where
      by : WasThere f.version y → StandsBeside us y
      by (IsOpened p is) = absurd (apart p)
      by (IsOld p is) = beside_by y y is refl refl produced
      by (IsFollowed x p is same) =
          beside_by y x is (ap (λ (y : Version). y.predecessor) same) (ap (λ (y : Version). y.produced) same) produced

  -- the settle of the followed version tells a writer
  pub opened_tells : (n : ℕ) (s : OpName) → SettleTells n us f.version s → IsTaker ts s
  opened_tells n s t = settle_tells_over (IsTaker ts) n us f.version s opened_over opened_beside t

  -- a version with a successor has no more readers than were to come
  pub few_opened : HasFewReaders us
  few_opened w y g e at = by (was_there w y e)
    where
      few : (a b t l : ℕ) → a ≡ b → b ≤ t → t ≡ l → a ≤ l
      few a b t l e h k = omega (arith, e, h, k)

      by : WasThere w y → y.registered ≤ g.last
      by (IsOpened p is) = absurd (none-some g (sym (ap (λ (y : Version). y.successor) is) ∙ at))
      by (IsOld p is) = few_readers ts S chains w y g is at
      by (IsFollowed x p is same) =
          few y.registered x.registered (total S w) g.last (ap (λ (y : Version). y.registered) same)
          (registered_in_total S w x is)
          (ap (total S) p ∙ sym after.last ∙ ap (λ (g : Follow). g.last) (follow_is x y g same at))

  -- the versions that were there are the same for their readers
  pub from_opened : (w : OpName) (y : Version) → w ≢ o → get us w ≡ Some y
      → (z : Version) × (get S.versions w ≡ Some z) × SameForReaders z y
  from_opened w y other e = by (was_there w y e)
    where
      by : WasThere w y → (z : Version) × (get S.versions w ≡ Some z) × SameForReaders z y
      by (IsOpened p is) = absurd (other p)
      by (IsOld p is) = (y, is, same_version y y refl)
      by (IsFollowed x p is same) = (
        x,
        is,
        record {
          object = ap (λ (y : Version). y.object) same;
          produced = ap (λ (y : Version). y.produced) same;
          registered = ap (λ (y : Version). y.registered) same;
          released = ap (λ (y : Version). y.released) same;
          head = ap (λ (y : Version). y.head) same;
          tail = ap (λ (y : Version). y.tail) same;
        },
      )

  -- and the new one is new
  pub own_opened : (y : Version) → get us o ≡ Some y → y ≡ new
  own_opened y e = by (was_there o y e)
    where
      by : WasThere o y → y ≡ new
      by (IsOpened p is) = is
      by (IsOld p is) = absurd (p refl)
      by (IsFollowed x p is same) = absurd (apart (sym p))

  stay_changed : (x : Option Version) (w : OpName) (y : Version) → get vs w ≡ Some y
      → (z : Version) × (get (version_changed vs f.version bridge x) w ≡ Some z)
  stay_changed None w y e = (y, e)
  stay_changed (Some x) w y e = still_inserted name_order vs f.version (bridge x) w y e

  -- all that were there stay
  pub stay_opened : (w : OpName) (y : Version) → get S.versions w ≡ Some y → (z : Version) × (get us w ≡ Some z)
  stay_opened w y e =
      let s = still_inserted name_order S.versions o new w y e in
      stay_changed (get vs f.version) w s.0 s.1
