-- The bytes in the storages of versions after an event that leaves them, by what it leaves of each version.
use Rattle.std.proofs.Common.{◌≡◌, ◌⊎◌, Bool, true, false, List, Some, refl, sym, ap, ◌∙◌, inl, inr, true≢false}
use Rattle.std.specs.FinMap.{get}
use Rattle.tss_base.specs.declared.operand.OpName.{OpName}
use Rattle.tss_base.specs.declared.operand.Mode.{Mode}
use Rattle.tss_base.specs.declared.operand.Mode.TheVariants.{Input, Output, Inout}
use Rattle.tss_base.specs.declared.operand.Operand.{Operand}
use Rattle.tss_base.specs.declared.operand.Task.{Task}
use Rattle.tss_base.specs.declared.machine.Machine.{Machine}
use Rattle.tss_base.specs.Image.{ImageState}
use Rattle.tss_model.specs.Access.{writes}
use Rattle.tss_model.specs.InOrder.{Started}
use Rattle.tss_protocol.specs.Mail.{StorageName}
use Rattle.tss_protocol.specs.State.{State, Version}
use Rattle.tss_phases.specs.Phase.{Phase, Told, Ready, Releasing, Leaving, Promised}
use Rattle.tss_phases.specs.Phase.{Left, phase_of}
use Rattle.tss_phases.specs.Openers.{holds_version, has_parted, open_opener, opener_by, version_opener}
use Rattle.tss_phases.specs.Forward.{may_follow}
use Rattle.tss_phases.proofs.ForwardPhases.{GoesOnFrom}
use Rattle.tss_control.specs.Members.{operand_among}
use Rattle.tss_names.specs.Stages.{IsOnWorker}
use Rattle.tss_control.specs.Runners.{is_late}
use Rattle.tss_control.proofs.holders.Late.{NoLater}
use Rattle.tss_values.proofs.Values.{content, bytes_before, bytes_after, RunsOut, IsGood, IsKnown, HasStored}

-- ---- one version

-- what its storage has, by what is known of its opener
pub record IsStored (m : Machine) (i : ImageState) (ts : List Task) (S : State) (v : OpName) (y : Version)
    : Type 0 where
  pub produced : (st : StorageName) (p : Operand) (s : Started) → y.produced ≡ true → y.storage ≡ Some st
      → IsKnown m i ts v p s → IsGood m i s p → content S y.object st ≡ bytes_after m i s p
  pub awaited : (st : StorageName) (p : Operand) (s : Started) → y.storage ≡ Some st → IsKnown m i ts v p s
      → p.mode ≡ Inout → (phase_of S v ≡ Told) ⊎ (phase_of S v ≡ Ready) → (IsOnWorker S v.task → ⊥)
      → content S y.object st ≡ bytes_before s p
  pub releasing : (st : StorageName) (p : Operand) (s : Started) → y.storage ≡ Some st → IsKnown m i ts v p s
      → writes p.mode ≡ true → phase_of S v ≡ Releasing → RunsOut m i s → content S y.object st ≡ bytes_after m i s p

module _ (m : Machine) (i : ImageState) (ts : List Task) (S : State) where
  -- of each version
  pub stored_each : ((v : OpName) (y : Version) → get S.versions v ≡ Some y → IsStored m i ts S v y)
      → HasStored m i ts S
  stored_each each = record {
    produced = λ v y st p s e made at known good. (each v y e).produced st p s made at known good;
    awaited = λ v y st p s e at known mode waits idle. (each v y e).awaited st p s at known mode waits idle;
    releasing = λ v y st p s e at known writer lets ends. (each v y e).releasing st p s at known writer lets ends;
  }

  -- and the other way round
  pub stored_at : HasStored m i ts S → (v : OpName) (y : Version) → get S.versions v ≡ Some y → IsStored m i ts S v y
  stored_at h v y e = record {
    produced = λ st p s made at known good. h.produced v y st p s e made at known good;
    awaited = λ st p s at known mode waits idle. h.awaited v y st p s e at known mode waits idle;
    releasing = λ st p s at known writer lets ends. h.releasing v y st p s e at known writer lets ends;
  }

-- ---- a version that is left

-- the version z is y, as far as its storage goes, and its bytes are left. Its opener holds it where it held it before
pub record KeepsStored (ts : List Task) (S T : State) (v : OpName) (y z : Version) : Type 0 where
  pub object : z.object ≡ y.object
  pub storage : z.storage ≡ y.storage
  pub produced : z.produced ≡ y.produced
  pub bytes : (st : StorageName) → y.storage ≡ Some st → content T y.object st ≡ content S y.object st
  pub waits : (st : StorageName) (p : Operand) → y.storage ≡ Some st → operand_among ts v ≡ Some p
      → writes p.mode ≡ true → (phase_of T v ≡ Told) ⊎ (phase_of T v ≡ Ready)
      → (phase_of S v ≡ Told) ⊎ (phase_of S v ≡ Ready)
  pub idle : (IsOnWorker T v.task → ⊥) → IsOnWorker S v.task → ⊥
  pub lets : phase_of T v ≡ Releasing → phase_of S v ≡ Releasing

module _ (m : Machine) (i : ImageState) (ts : List Task) (S T : State) (v : OpName) (y z : Version)
    (k : KeepsStored ts S T v y z) where
  bytes_left : (st : StorageName) → z.storage ≡ Some st → content T z.object st ≡ content S y.object st
  bytes_left st e = ap (λ r. content T r st) k.object ∙ k.bytes st (sym k.storage ∙ e)

  -- has the bytes that it had
  pub stored_kept : IsStored m i ts S v y → IsStored m i ts T v z
  stored_kept h = record {
    produced = λ st p s made at known good.
        bytes_left st at ∙ h.produced st p s (sym k.produced ∙ made) (sym k.storage ∙ at) known good;
    awaited = λ st p s at known mode waits idle.
        let there = sym k.storage ∙ at in
        bytes_left st at ∙ h.awaited st p s there known mode (k.waits st p there known.operand (ap writes mode) waits)
        (k.idle idle);
    releasing = λ st p s at known writer lets ends.
        let there = sym k.storage ∙ at in
        bytes_left st at ∙ h.releasing st p s there known writer (k.lets lets) ends;
  }

-- ---- phases

no_true : false ≡ true → ⊥
no_true e = true≢false (sym e)

neither : (false ≡ true) ⊎ (false ≡ true) → ⊥
neither (inl e) = no_true e
neither (inr e) = no_true e

-- an opener that holds its version, or has parted from it, was told it before where it was told it afterwards
told_by : (p : Phase) → (holds_version p ≡ true) ⊎ (has_parted p ≡ true)
    → (may_follow p Told ≡ true) ⊎ (may_follow p Ready ≡ true) → (p ≡ Told) ⊎ (p ≡ Ready)
told_by Told h f = inl refl
told_by Ready h f = inr refl
told_by Releasing h f = absurd (neither f)
told_by Leaving h f = absurd (neither f)
told_by Left h f = absurd (neither f)
told_by other h f = absurd (neither h)

-- and one that is late, and lets go afterwards, let go before
lets_by : (p : Phase) → is_late p ≡ true → may_follow p Releasing ≡ true → p ≡ Releasing
lets_by Releasing l f = refl
lets_by Leaving l f = absurd (no_true f)
lets_by Promised l f = absurd (no_true f)
lets_by Left l f = absurd (no_true f)
lets_by other l f = absurd (no_true l)

-- the opener of a version with a storage holds it, or has parted from it, or is an input
pub opener_holds : (y : Version) (mode : Mode) (st : StorageName) (p : Phase) → y.storage ≡ Some st
    → writes mode ≡ true → version_opener y mode p ≡ true → (holds_version p ≡ true) ⊎ (has_parted p ≡ true)
opener_holds y mode st p at writer e = by mode y.produced writer e
  where
    by : (mode : Mode) (b : Bool) → writes mode ≡ true → opener_by y mode p b ≡ true
        → (holds_version p ≡ true) ⊎ (has_parted p ≡ true)
    by Input true w e = absurd (no_true w)
    by Output true w e = inr e
    by Inout true w e = inr e
    by mode false w e = inl (ap (λ s. open_opener s p) (sym at) ∙ e)

module _ (S T : State) (v : OpName) (on : GoesOnFrom S T v) where
  -- so of phases that go on
  pub told_before : (holds_version (phase_of S v) ≡ true) ⊎ (has_parted (phase_of S v) ≡ true)
      → (phase_of T v ≡ Told) ⊎ (phase_of T v ≡ Ready) → (phase_of S v ≡ Told) ⊎ (phase_of S v ≡ Ready)
  told_before h (inl e) = told_by (phase_of S v) h (inl (ap (may_follow (phase_of S v)) (sym e) ∙ on))
  told_before h (inr e) = told_by (phase_of S v) h (inr (ap (may_follow (phase_of S v)) (sym e) ∙ on))

  -- and of one that lets go no later
  pub lets_before : NoLater S T v → phase_of T v ≡ Releasing → phase_of S v ≡ Releasing
  lets_before late e =
      lets_by (phase_of S v) (late (ap is_late e)) (ap (may_follow (phase_of S v)) (sym e) ∙ on)
