-- Who holds a buffer: an open under way, a version, one that is gone with its message under way, or one that is copied
-- home.
use Rattle.std.proofs.Common.{◌≡◌, ℕ, ◌⊎◌, List, ◌++◌, Option, Some, None, refl, sym, ap, ◌∙◌, subst, inl, inr}
use Rattle.std.specs.FinMap.{get}
use Rattle.tss_base.specs.declared.operand.OpName.{OpName}
use Rattle.tss_base.specs.declared.operand.Mode.{Mode}
use Rattle.tss_base.specs.declared.operand.Mode.TheVariants.{Input, Output, Inout}
use Rattle.tss_base.specs.Names.{Named, Numbered}
use Rattle.tss_protocol.specs.Mail.{StorageName, Home, Buffer, OpenContents, GoneContents, Message, Mail, posted_all}
use Rattle.tss_protocol.specs.State.{Version, CopyState}
use Rattle.tss_protocol.specs.Versions.{version_changed, change_version, ready_with, first_version, head_ready, settled}
use Rattle.tss_protocol.proofs.SentLemmas.{AllSent, settled-later, posted_all-later}
use Rattle.tss_names.proofs.JointLemmas.{posted_all-append}
use Rattle.tss_names.proofs.HeldEvents.{HoldsNothing, posted_all-nothing}
use Rattle.tss_progress.proofs.progress.Settled.{VersionHolds, GoneHolds, HoldsIn, put_holds, CanSettle, settled_holds}

-- ---- who holds a buffer

-- an open does
abbrev OpenHolds : Named OpenContents → OpName → Type 0
OpenHolds os n = (v : OpName) × (c : OpenContents) × (get os v ≡ Some c) × (c.storage ≡ Some (Buffer n))

-- a copy does
abbrev CopyHolds : Numbered CopyState → OpName → Type 0
CopyHolds cs n = (b : ℕ) × (c : CopyState) × (get cs b ≡ Some c) × (c.buffer ≡ n)

-- one of the four
abbrev pub Holder : Named OpenContents → Named Version → Named GoneContents → Numbered CopyState → OpName → Type 0
Holder os vs gs cs n = OpenHolds os n ⊎ (VersionHolds vs n ⊎ (GoneHolds gs n ⊎ CopyHolds cs n))

-- each held buffer has one
abbrev pub Held : Named ℕ → Named OpenContents → Named Version → Named GoneContents → Numbered CopyState → Type 0
Held bs os vs gs cs = (n : OpName) (bank : ℕ) → get bs n ≡ Some bank → Holder os vs gs cs n

-- a storage in a buffer is in one alone
pub same_buffer : (k n : OpName) → Some (Buffer k) ≡ Some (Buffer n) → k ≡ n
same_buffer k n e = cc

-- and not at home
pub no_home : (n : OpName) → Some Home ≡ Some (Buffer n) → ⊥
no_home n e = cc

-- ---- messages

module _ (cs : Numbered CopyState) (vs : Named Version) (n : OpName) where
  -- messages that hold nothing leave the holder
  pub sent_nothing : (m : Mail) (xs : List Message) → AllSent HoldsNothing xs → Holder m.opens vs m.gones cs n
      → Holder (posted_all m xs).opens vs (posted_all m xs).gones cs n
  sent_nothing m xs none h =
      let same = posted_all-nothing m xs none in
      subst (λ os. Holder os vs (posted_all m xs).gones cs n) (sym same.0)
      (subst (λ gs. Holder m.opens vs gs cs n) (sym same.1) h)

  -- so do those before what a settle sends
  pub settle_holder : (m : Mail) (v : OpName) → CanSettle vs v
      → ((x : Version) → get vs v ≡ Some x → get m.gones v ≡ None)
      → Holder m.opens vs m.gones cs n
      → Holder (posted_all m (settled vs v).sent).opens (settled vs v).part
      (posted_all m (settled vs v).sent).gones cs n
  settle_holder m v can fresh h =
      subst (λ os. Holder os (settled vs v).part (posted_all m (settled vs v).sent).gones cs n)
      (sym (posted_all-later m (settled vs v).sent (settled-later vs v)).opens) (by h)
    where
      lift : HoldsIn (settled vs v).part (posted_all m (settled vs v).sent).gones n
          → Holder m.opens (settled vs v).part (posted_all m (settled vs v).sent).gones cs n
      lift (inl held) = inr (inl held)
      lift (inr gone) = inr (inr (inl gone))

      by : Holder m.opens vs m.gones cs n
          → Holder m.opens (settled vs v).part (posted_all m (settled vs v).sent).gones cs n
      by (inl opening) = inl opening
      by (inr (inl held)) = lift (settled_holds vs v can m fresh n (inl held))
      by (inr (inr (inl gone))) = lift (settled_holds vs v can m fresh n (inr gone))
      by (inr (inr (inr copy))) = inr (inr (inr copy))

  -- a settle after messages that hold nothing
  pub settled_after : (m : Mail) (xs : List Message) (v : OpName) → AllSent HoldsNothing xs → CanSettle vs v
      → ((x : Version) → get vs v ≡ Some x → get m.gones v ≡ None) → Holder m.opens vs m.gones cs n
      → Holder (posted_all m (xs ++ (settled vs v).sent)).opens (settled vs v).part
      (posted_all m (xs ++ (settled vs v).sent)).gones cs n
  settled_after m xs v none can fresh h =
      let same = posted_all-nothing m xs none in
      subst (λ k. Holder k.opens (settled vs v).part k.gones cs n) (sym (posted_all-append m xs (settled vs v).sent))
      (settle_holder (posted_all m xs) v can (λ x e. ap (λ gs. get gs v) same.1 ∙ fresh x e) (sent_nothing m xs none h))

-- a ready holds nothing
pub ready_nothing : (o v : OpName) (s : Option StorageName) → AllSent HoldsNothing (ready_with o v s)
ready_nothing o v None = tt
ready_nothing o v (Some s) = (tt, tt)

-- nor does that of the head
pub head_nothing : (v : OpName) (x : Version) (h : Option OpName) → AllSent HoldsNothing (head_ready v x h)
head_nothing v x None = tt
head_nothing v x (Some o) = ready_nothing o v x.storage

-- ---- versions

-- a version that is changed, but for its storage
pub change_holds : (vs : Named Version) (k : OpName) (f : Version → Version)
    → ((y : Version) → (f y).storage ≡ y.storage)
    → (n : OpName) → VersionHolds vs n → VersionHolds (change_version vs k f) n
change_holds vs k f keeps n h = by (get vs k) refl
  where
    by : (x : Option Version) → get vs k ≡ x → VersionHolds (version_changed vs k f x) n
    by None e = h
    by (Some x) e = put_holds vs k x (f x) n e (keeps x) h

-- the first version of an object has the storage of its open
pub first_stored : (o : OpName) (c : OpenContents) (mode : Mode)
    → (first_version o c.operand.object c.storage mode).storage ≡ c.storage
first_stored o c Input = refl
first_stored o c Output = refl
first_stored o c Inout = refl
