-- What a release finds.
use Rattle.std.specs.Prelude.{◌≡◌, ◌<◌, true, false, Some}
use Rattle.std.specs.FinMap.{get}
use Rattle.tss_base.specs.declared.operand.OpName.{OpName}
use Rattle.tss_base.specs.declared.machine.Machine.{Machine}
use Rattle.tss_base.specs.Image.{ImageState}
use Rattle.tss_protocol.specs.Mail.{StorageName, ReleaseContents}
use Rattle.tss_protocol.specs.State.{State, OperandState, Version}
use Rattle.tss_protocol.specs.Stations.{operand_at}
use Rattle.tss_conditions.specs.Reached.{Reached}

-- the version that a release names is registered, with a storage, and is of the object of the releasing operand, which
-- has a record. Its producer releases its own version, which is open, and where a reader releases it, fewer have
-- released it than are registered
pub record IsReleasable (S : State) (o : OpName) (c : ReleaseContents) : Type 0 where
  pub version : Version
  pub there : get S.versions c.version ≡ Some version
  pub storage : StorageName
  pub stored : version.storage ≡ Some storage
  pub operand : OperandState
  pub kept : operand_at S.flight o ≡ Some operand
  pub object : version.object ≡ operand.operand.object
  pub own : c.producer ≡ true → c.version ≡ o
  pub open_still : c.producer ≡ true → version.produced ≡ false
  pub readers : c.producer ≡ false → version.released < version.registered

-- in every reached state
abbrev pub ReleasingLaw : Type 0
ReleasingLaw =
    (m : Machine) (i : ImageState) (S : State) (o : OpName) (c : ReleaseContents)
    → Reached m i S
    → get S.mail.releases o ≡ Some c
    → IsReleasable S o c
