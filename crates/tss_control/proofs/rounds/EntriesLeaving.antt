-- Versions that leave, after an event that changes no version, no copy, no retire and no gone.
use Rattle.std.proofs.Common.{◌≡◌, inl, inr, sym, ap, ◌∙◌}
use Rattle.std.specs.FinMap.{get}
use Rattle.tss_base.specs.declared.range.Range.{Range}
use Rattle.tss_base.specs.declared.operand.OpName.{OpName}
use Rattle.tss_protocol.specs.State.{State, Entry, Version}
use Rattle.tss_control.specs.Members.{IsVersionOf}
use Rattle.tss_control.specs.Entries.{IsGoingHome, IsLeaving, IsLastVersion}

-- versions, copies, retires and gones are left
pub record SameLeaving (S T : State) : Type 0 where
  pub versions : T.versions ≡ S.versions
  pub copies : T.copies ≡ S.copies
  pub retires : T.mail.retires ≡ S.mail.retires
  pub gones : T.mail.gones ≡ S.mail.gones

-- the other way round
pub leaving_turned : (S T : State) → SameLeaving S T → SameLeaving T S
leaving_turned S T s =
    record { versions = sym s.versions; copies = sym s.copies; retires = sym s.retires; gones = sym s.gones }

module _ (S T : State) (s : SameLeaving S T) where
  -- a version that is there afterwards was there before
  pub version_back : (x : Range) (v : OpName) → IsVersionOf T x v → IsVersionOf S x v
  version_back x v y = (y.0, ap (λ m. get m v) (sym s.versions) ∙ y.1, y.2)

  -- one that goes home
  pub going_back : (x : Range) (v : OpName) → IsGoingHome T x v → IsGoingHome S x v
  going_back x v (inl k) = inl (k.0, k.1, ap (λ m. get m k.0) (sym s.copies) ∙ k.2, k.3, k.4)
  going_back x v (inr g) = inr (g.0, ap (λ m. get m v) (sym s.gones) ∙ g.1, g.2, g.3)

  -- one that leaves
  pub leaving_back : (x : Range) (v : OpName) → IsLeaving T x v → IsLeaving S x v
  leaving_back x v (inl r) = inl (ap (λ m. get m v) (sym s.retires) ∙ r.0, version_back x v r.1)
  leaving_back x v (inr g) = inr (going_back x v g)

  -- the last version of an object
  pub last_version_still : (x : Range) (e : Entry) (y : Version) → IsLastVersion S x e y → IsLastVersion T x e y
  last_version_still x e y l = record {
    only = λ v k. l.only v (version_back x v k);
    asked = l.asked;
    registered = l.registered;
    released = l.released;
  }
