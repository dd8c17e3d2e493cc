-- What open, use, release and nack leave of the buffers of versions.
use Rattle.std.proofs.Common.{◌≡◌, inl, inr, Bool, true, false, Option, Some, None, refl, sym, ◌∙◌}
use Rattle.std.specs.FinMap.{get}
use Rattle.tss_base.specs.declared.operand.OpName.{OpName}
use Rattle.tss_base.specs.declared.operand.Mode.{Mode}
use Rattle.tss_base.specs.declared.operand.Mode.TheVariants.{Input, Output, Inout}
use Rattle.tss_base.specs.declared.range.Range.{Range}
use Rattle.tss_base.specs.declared.marks.How.{How}
use Rattle.tss_base.specs.declared.marks.How.TheVariants.{Beside, Over}
use Rattle.tss_base.specs.declared.marks.Follow.{Follow}
use Rattle.tss_base.specs.Names.{Named}
use Rattle.tss_protocol.specs.Mail.{StorageName, Home, Buffer, OpenContents, ReleaseContents}
use Rattle.tss_protocol.specs.State.{Version}
use Rattle.tss_protocol.specs.Versions.{put_version, new_version, first_version, followed, opened_how, opened_by}
use Rattle.tss_protocol.specs.Versions.{after_open, enlisted, used_alone, used_behind, used_at, after_use, produced_now}
use Rattle.tss_protocol.specs.Versions.{released_once, released_by, released_at, after_release, refused_once, nacked_at}
use Rattle.tss_protocol.specs.Versions.{after_nack}
use Rattle.tss_values.proofs.room.Settle.{RoomyAt, AreRoomy, roomy_put, roomy_change, roomy_settled}

module _ (Set : OpName → Type 0) (Roomy : OpName → Type 0) (vs : Named Version) (h : AreRoomy Set Roomy vs) where
  -- ---- use

  module _ (o v : OpName) (x : Version) (e : get vs v ≡ Some x) where
    roomy_used_alone : (produced : Bool) → AreRoomy Set Roomy (used_alone vs o v x produced).part
    roomy_used_alone true = roomy_put Set Roomy vs v (enlisted x o) (h v x e) h
    roomy_used_alone false = roomy_put Set Roomy vs v (record (enlisted x o) { head = Some o }) (h v x e) h

    roomy_used_behind : (last : Option OpName) → AreRoomy Set Roomy (used_behind vs o v x last).part
    roomy_used_behind None = roomy_used_alone x.produced
    roomy_used_behind (Some last) = roomy_put Set Roomy vs v (enlisted x o) (h v x e) h

    -- ---- release

    roomy_released_by : (producer : Bool) → (producer ≡ true → Set v)
        → AreRoomy Set Roomy (released_by vs o v x producer).part
    roomy_released_by true set =
        roomy_settled Set Roomy (put_version vs v (produced_now x)) v
        (roomy_put Set Roomy vs v (produced_now x) (λ b at made. h v x e b at (inl (set refl))) h)
    roomy_released_by false set =
        roomy_settled Set Roomy (put_version vs v (released_once x o)) v
        (roomy_put Set Roomy vs v (released_once x o) (h v x e) h)

  roomy_used_at : (o v : OpName) (x : Option Version) → get vs v ≡ x → AreRoomy Set Roomy (used_at vs o v x).part
  roomy_used_at o v None e = h
  roomy_used_at o v (Some x) e = roomy_used_behind o v x e x.tail

  -- a use
  pub roomy_used : (o v : OpName) → AreRoomy Set Roomy (after_use vs o v).part
  roomy_used o v = roomy_used_at o v (get vs v) refl

  roomy_released_at : (o v : OpName) (producer : Bool) → (producer ≡ true → Set v) → (x : Option Version)
      → get vs v ≡ x → AreRoomy Set Roomy (released_at vs o v producer x).part
  roomy_released_at o v producer set None e = h
  roomy_released_at o v producer set (Some x) e = roomy_released_by o v x e producer set

  -- a release, where a version that is produced by it is set
  pub roomy_released : (o : OpName) (r : ReleaseContents) → (r.producer ≡ true → Set r.version)
      → AreRoomy Set Roomy (after_release vs o r).part
  roomy_released o r set = roomy_released_at o r.version r.producer set (get vs r.version) refl

  -- ---- nack

  roomy_nacked_at : (v : OpName) (x : Option Version) → get vs v ≡ x → AreRoomy Set Roomy (nacked_at vs v x).part
  roomy_nacked_at v None e = h
  roomy_nacked_at v (Some x) e =
      roomy_settled Set Roomy (put_version vs v (refused_once x)) v
      (roomy_put Set Roomy vs v (refused_once x) (h v x e) h)

  -- a nack
  pub roomy_nacked : (v : OpName) → AreRoomy Set Roomy (after_nack vs v).part
  roomy_nacked v = roomy_nacked_at v (get vs v) refl

  -- ---- open

  module _ (o : OpName) (c : OpenContents) (fresh : (b : OpName) → c.storage ≡ Some (Buffer b) → Set o → ⊥) where
    roomy_new : (x : Version) → x.storage ≡ c.storage → x.produced ≡ false → RoomyAt Set Roomy o x
    roomy_new x storage unmade b at (inl set) = absurd (fresh b (sym storage ∙ at) set)
    roomy_new x storage unmade b at (inr made) = absurd (both (sym unmade ∙ made))
      where
        both : false ≡ true → ⊥
        both e = cc

    roomy_home : (x : Version) → x.storage ≡ Some Home → RoomyAt Set Roomy o x
    roomy_home x storage b at set = absurd (apart (sym storage ∙ at))
      where
        apart : Some Home ≡ Some (Buffer b) → ⊥
        apart e = cc

    first_storage : (object : Range) (s : Option StorageName) (mode : Mode)
        → (first_version o object s mode).storage ≡ s
    first_storage object s Input = refl
    first_storage object s Output = refl
    first_storage object s Inout = refl

    roomy_followed : (f : Follow) → AreRoomy Set Roomy (followed vs o c f)
    roomy_followed f =
        let x : Version = record (new_version c.operand.object c.storage) { predecessor = Some f.version } in
        roomy_change Set Roomy (λ p. record p { successor = Some (record f { version = o }) }) (λ p. refl) (λ p. refl)
        (put_version vs o x) f.version (roomy_put Set Roomy vs o x (roomy_new x refl refl) h)

    roomy_opened_how : (f : Follow) (how : How) → AreRoomy Set Roomy (opened_how vs o c f how).part
    roomy_opened_how f Beside = roomy_settled Set Roomy (followed vs o c f) f.version (roomy_followed f)
    roomy_opened_how f Over = roomy_settled Set Roomy (followed vs o c f) f.version (roomy_followed f)

    roomy_opened_by : (f : Option Follow) → (f ≡ None → c.storage ≡ Some Home)
        → AreRoomy Set Roomy (opened_by vs o c f).part
    roomy_opened_by None home =
        let x = first_version o c.operand.object c.storage c.operand.mode in
        roomy_put Set Roomy vs o x
        (roomy_home x (first_storage c.operand.object c.storage c.operand.mode ∙ home refl)) h
    roomy_opened_by (Some f) home = roomy_opened_how f f.how

    -- an open whose version isn't set where it is to have a buffer
    pub roomy_opened : (c.follows ≡ None → c.storage ≡ Some Home) → AreRoomy Set Roomy (after_open vs o c).part
    roomy_opened home = roomy_opened_by c.follows home
