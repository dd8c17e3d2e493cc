-- What a settle sends may be posted, where no message says yet that a version is gone, or asks for one that doesn't
-- ask, and whom it tells isn't told yet.
use Rattle.std.proofs.Common.{◌≡◌, ℕ, zero, suc, Bool, true, false, if◌then◌else◌, Option, Some, None, refl, sym, ap}
use Rattle.std.proofs.Common.{◌∙◌, inl, inr}
use Rattle.std.specs.Prelude.{option_map}
use Rattle.std.specs.FinMap.{get, insert}
use Rattle.tss_base.specs.declared.operand.OpName.{OpName}
use Rattle.tss_base.specs.declared.marks.How.{How}
use Rattle.tss_base.specs.declared.marks.How.TheVariants.{Beside, Over}
use Rattle.tss_base.specs.declared.marks.Follow.{Follow}
use Rattle.tss_base.specs.Names.{Named}
use Rattle.tss_maps.proofs.Keys.{name_order}
use Rattle.tss_maps.proofs.Changes.{beside_inserted, from_inserted, from_removed}
use Rattle.tss_protocol.specs.Mail.{StorageName, GoneContents, Ready, Idle, Gone, Mail, posted}
use Rattle.tss_protocol.specs.State.{Version}
use Rattle.tss_protocol.specs.Versions.{drop_version, version_changed, change_version, change_named, ready_with}
use Rattle.tss_protocol.specs.Versions.{buffer_of, died, may_die, may_ask, followed_by, unlinked, settle_how}
use Rattle.tss_protocol.specs.Versions.{settle_asking, unchanged, settle_by, settle_at, settle}
use Rattle.tss_protocol.specs.Settled.{GivesWay}
use Rattle.tss_phases.specs.Settling.{SettleTells}
use Rattle.tss_names.specs.Names.{EachEntry}
use Rattle.tss_control.proofs.entries.Settling.{asking_parts}
use Rattle.tss_conditions.specs.Posting.{ArePostable}

-- no message says that a version is gone, or asks where it doesn't
abbrev pub IsUnsaid : Mail → OpName → Version → Type 0
IsUnsaid m v x = (get m.gones v ≡ None) × (x.asked ≡ None → get m.idles v ≡ None)

-- ---- changes of versions

module _ (m : Mail) where
  -- a version is written that asks no less
  pub unsaid_put : (vs : Named Version) (v : OpName) (x : Version) → EachEntry (IsUnsaid m) vs → IsUnsaid m v x
      → EachEntry (IsUnsaid m) (insert vs v x)
  unsaid_put vs v x each own w y at = elim (from_inserted name_order vs v x w y at) [
    | inl here ↦ (
      ap (get m.gones) here.0 ∙ own.0,
      λ quiet. ap (get m.idles) here.0 ∙ own.1 (ap (λ (z : Version). z.asked) (sym here.1) ∙ quiet),
    )
    | inr before ↦ each w y before.1
  ]

  module _ (f : Version → Version) (asks : (x : Version) → (f x).asked ≡ x.asked) where
    unsaid_by : (vs : Named Version) (v : OpName) (x : Option Version) → get vs v ≡ x → EachEntry (IsUnsaid m) vs
        → EachEntry (IsUnsaid m) (version_changed vs v f x)
    unsaid_by vs v None e each = each
    unsaid_by vs v (Some x) e each =
        unsaid_put vs v (f x) each ((each v x e).0, λ quiet. (each v x e).1 (sym (asks x) ∙ quiet))

    -- a version is changed in other parts
    pub unsaid_changed : (vs : Named Version) (v : OpName) → EachEntry (IsUnsaid m) vs
        → EachEntry (IsUnsaid m) (change_version vs v f)
    unsaid_changed vs v each = unsaid_by vs v (get vs v) refl each

    unsaid_named : (vs : Named Version) (v : Option OpName) → EachEntry (IsUnsaid m) vs
        → EachEntry (IsUnsaid m) (change_named vs v f)
    unsaid_named vs None each = each
    unsaid_named vs (Some v) each = unsaid_changed vs v each

  -- a version has given way, and is said to be gone
  unsaid_unlinked : (vs : Named Version) (v : OpName) (x : Version) (s : OpName)
      → EachEntry (IsUnsaid m) (drop_version vs v)
      → EachEntry (IsUnsaid m) (unlinked vs v x s)
  unsaid_unlinked vs v x s each =
      unsaid_changed (λ y. record y { predecessor = x.predecessor }) (λ y. refl) _ s
      (unsaid_named (λ q. record q { successor = followed_by s q.successor }) (λ y. refl) (drop_version vs v)
      x.predecessor each)

unsaid_dropped : (m : Mail) (vs : Named Version) (v : OpName) (g : GoneContents) → EachEntry (IsUnsaid m) vs
    → EachEntry (IsUnsaid (posted m (Gone v g))) (drop_version vs v)
unsaid_dropped m vs v g each w y at =
    let before = from_removed name_order vs v w y at in
    (beside_inserted name_order m.gones v g w before.0 ∙ (each w y before.1).0, (each w y before.1).1)

-- ---- settle

-- whom a settle tells isn't told yet
abbrev pub AreUntold : Mail → ℕ → Named Version → OpName → Type 0
AreUntold m n vs v = (s : OpName) → SettleTells n vs v s → get m.readies s ≡ None

-- a settle through so many versions
abbrev SettlePostable : ℕ → Type 0
SettlePostable n =
    (m : Mail) (vs : Named Version) (v : OpName)
    → EachEntry (IsUnsaid m) vs
    → AreUntold m n vs v
    → ArePostable m (settle n vs v).sent

module _ (n : ℕ) (rest : SettlePostable n) (m : Mail) (vs : Named Version) (v : OpName)
    (each : EachEntry (IsUnsaid m) vs) (untold : AreUntold m (suc n) vs v) where
  told : (x : Version) (f : Follow) → GivesWay vs v x f Over → (t : Option StorageName) → x.storage ≡ t
      → ArePostable (posted m (died v x.object None)) (ready_with f.version f.version t)
  told x f gives None k = tt
  told x f gives (Some t) k = (
    ap (option_map (Ready f.version)) (untold f.version (inl (record {
      version = x;
      follow = f;
      gives = gives;
      successor = refl;
      storage = t;
      kept = k;
    }))),
    tt,
  )

  how : (x : Version) (f : Follow) → get vs v ≡ Some x → (h : How) → GivesWay vs v x f h
      → ArePostable m (settle_how vs v x f (settle n) h).sent
  how x f e Beside gives =
      let gone = died v x.object (buffer_of x.storage) in
      let g : GoneContents = record { object = x.object; buffer = buffer_of x.storage; retired = false } in (
        ap (option_map (Gone v)) (each v x e).0,
        rest (posted m gone) (unlinked vs v x f.version) f.version
            (unsaid_unlinked (posted m gone) vs v x f.version (unsaid_dropped m vs v g each))
            (λ s tells. untold s (inr (record { version = x; follow = f; gives = gives; on = tells }))),
      )
  how x f e Over gives = (ap (option_map (Gone v)) (each v x e).0, told x f gives x.storage refl)

  asks : (x : Version) → get vs v ≡ Some x → (b : Bool) → may_ask x ≡ b
      → ArePostable m (if b then settle_asking vs v x else unchanged vs).sent
  asks x e true may = (ap (option_map (Idle v)) ((each v x e).1 (asking_parts x may).3), tt)
  asks x e false may = tt

  dies : (x : Version) (f : Follow) → get vs v ≡ Some x → x.successor ≡ Some f → (b : Bool) → may_die x f.last ≡ b
      → ArePostable m (if b then settle_how vs v x f (settle n) f.how else unchanged vs).sent
  dies x f e to true done = how x f e f.how (record { there = e; next = to; way = refl; done = done })
  dies x f e to false done = tt

  by : (x : Version) → get vs v ≡ Some x → (f : Option Follow) → x.successor ≡ f
      → ArePostable m (settle_by vs v x (settle n) f).sent
  by x e None to = asks x e (may_ask x) refl
  by x e (Some f) to = dies x f e to (may_die x f.last) refl

  at : (x : Option Version) → get vs v ≡ x → ArePostable m (settle_at vs v (settle n) x).sent
  at None e = tt
  at (Some x) e = by x e x.successor refl

-- what it sends may be posted
pub postable_settle : (n : ℕ) → SettlePostable n
unfolding settle
postable_settle zero m vs v each untold = tt
postable_settle (suc n) m vs v each untold = at n (postable_settle n) m vs v each untold (get vs v) refl
