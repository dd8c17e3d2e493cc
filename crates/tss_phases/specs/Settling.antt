-- Whom a settle tells: the successor of a version that is followed over and gives way to it.
use Rattle.std.specs.Prelude.{◌≡◌, ℕ, zero, suc, Some, ◌⊎◌}
use Rattle.tss_base.specs.declared.operand.OpName.{OpName}
use Rattle.tss_base.specs.declared.marks.How.TheVariants.{Beside, Over}
use Rattle.tss_base.specs.declared.marks.Follow.{Follow}
use Rattle.tss_base.specs.Names.{Named}
use Rattle.tss_protocol.specs.Mail.{StorageName}
use Rattle.tss_protocol.specs.State.{Version}
use Rattle.tss_protocol.specs.Settled.{GivesWay}
use Rattle.tss_protocol.specs.Versions.{unlinked}

-- an operand takes a version over, with its storage
pub record TakesOver (vs : Named Version) (v s : OpName) : Type 0 where
  pub version : Version
  pub follow : Follow
  pub gives : GivesWay vs v version follow Over
  pub successor : follow.version ≡ s
  pub storage : StorageName
  pub kept : version.storage ≡ Some storage

-- a version gives way to one beside it, which is settled next, and so on
pub record GoesOn (P : Named Version → OpName → OpName → Type 0) (vs : Named Version) (v s : OpName) : Type 0 where
  pub version : Version
  pub follow : Follow
  pub gives : GivesWay vs v version follow Beside
  pub on : P (unlinked vs v version follow.version) follow.version s

-- a settle of a version through so many at most tells an operand: it takes that version over, or one to which the
-- settle goes on
abbrev pub SettleTells : ℕ → Named Version → OpName → OpName → Type 0
SettleTells zero vs v s = ⊥
SettleTells (suc n) vs v s = TakesOver vs v s ⊎ GoesOn (SettleTells n) vs v s
