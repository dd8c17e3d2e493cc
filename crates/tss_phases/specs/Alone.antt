-- What an event finds of an operand: nothing else is under way for it, and it was told nothing yet.
use Rattle.std.specs.Prelude.{◌≡◌, ℕ, ◌+◌, ◌≤◌, Option, Some, None, is_some}
use Rattle.tss_base.specs.declared.operand.OpName.{OpName}
use Rattle.tss_base.specs.declared.marks.Farewell.TheVariants as farewell
use Rattle.tss_maps.specs.Sums.{one_if}
use Rattle.tss_protocol.specs.Mail.{Source}
use Rattle.tss_protocol.specs.State.{OperandState, State}
use Rattle.tss_phases.specs.Phase.{LookUps, look_ups}

-- how many messages are under way of the kinds that tell a phase
abbrev pub under_way : LookUps → ℕ
under_way l =
    one_if (is_some l.decoding)
    + one_if (is_some l.opening)
    + one_if (is_some l.using)
    + one_if (is_some l.telling)
    + one_if (is_some l.releasing)
    + one_if (is_some l.leaving)

-- at most one is under way for an operand
abbrev pub IsAlone : State → OpName → Type 0
IsAlone S o = under_way (look_ups S o) ≤ 1

-- none is
pub record IsSilent (l : LookUps) : Type 0 where
  pub decoding : l.decoding ≡ None
  pub opening : l.opening ≡ None
  pub using : l.using ≡ None
  pub telling : l.telling ≡ None
  pub releasing : l.releasing ≡ None
  pub leaving : l.leaving ≡ None

-- an operand has a record, in which it was told this and has not said farewell
pub record HasRecord (l : LookUps) (source : Option Source) : Type 0 where
  pub kept : OperandState
  pub there : l.station ≡ Some kept
  pub told : kept.source ≡ source
  pub stays : kept.farewell ≡ farewell.Nothing

-- an operand was told nothing yet
abbrev pub IsFresh : State → OpName → Type 0
IsFresh S o = HasRecord (look_ups S o) None
