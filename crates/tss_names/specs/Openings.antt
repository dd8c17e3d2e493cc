-- An operand between its decode and its version.
use Rattle.std.specs.Prelude.{◌≡◌, List, Some, None}
use Rattle.std.specs.FinMap.{get}
use Rattle.tss_base.specs.declared.operand.OpName.{OpName}
use Rattle.tss_base.specs.declared.operand.Mode.TheVariants.{Input}
use Rattle.tss_base.specs.declared.operand.Operand.{Operand}
use Rattle.tss_base.specs.declared.operand.Task.{Task}
use Rattle.tss_base.specs.declared.machine.Machine.{Machine}
use Rattle.tss_protocol.specs.Mail.{OpenContents}
use Rattle.tss_protocol.specs.State.{State, Version}
use Rattle.tss_names.specs.Tasks.{IsOperandOf, OverTasks}

-- an open has the operand of its name, which has no decode and no use under way, and no version yet
pub record IsOpening (ts : List Task) (S : State) (o : OpName) (c : OpenContents) : Type 0 where
  pub operand : IsOperandOf ts o c.operand
  pub no_decode : get S.mail.decodes o ≡ None
  pub no_use : get S.mail.uses o ≡ None
  pub no_version : get S.versions o ≡ None

-- a use is of an input, which has no decode and no open under way, and no version of its own
pub record IsUsing (ts : List Task) (S : State) (o : OpName) : Type 0 where
  pub operand : Operand
  pub spawned : IsOperandOf ts o operand
  pub mode : operand.mode ≡ Input
  pub no_decode : get S.mail.decodes o ≡ None
  pub no_open : get S.mail.opens o ≡ None
  pub no_version : get S.versions o ≡ None

-- a version is of the object of the operand of its name, whose decode isn't under way
pub record IsOfOpener (ts : List Task) (S : State) (o : OpName) (x : Version) : Type 0 where
  pub operand : Operand
  pub spawned : IsOperandOf ts o operand
  pub object : x.object ≡ operand.object
  pub no_decode : get S.mail.decodes o ≡ None

-- of decode, open, use and version of a name there is one at most
pub record HasOpenings (m : Machine) (ts : List Task) (S : State) : Type 0 where
  pub opens : (o : OpName) (c : OpenContents) → get S.mail.opens o ≡ Some c → IsOpening ts S o c
  pub uses : (o v : OpName) → get S.mail.uses o ≡ Some v → IsUsing ts S o
  pub versions : (v : OpName) (x : Version) → get S.versions v ≡ Some x → IsOfOpener ts S v x

-- every run leaves such a state
abbrev pub OpeningsLaw : Type 0
OpeningsLaw = OverTasks HasOpenings
