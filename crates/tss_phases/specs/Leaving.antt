-- Farewells: when a task leaves, and the phases that a link and a bye make.
use Rattle.std.specs.Prelude.{◌≡◌, ℕ, Bool, true, false, slice_get, Some}
use Rattle.tss_base.specs.declared.marks.Farewell.TheVariants as farewell
use Rattle.tss_protocol.specs.State.{OperandState, Flying}
use Rattle.tss_protocol.specs.Stations.{has_finished}
use Rattle.tss_phases.specs.Phase.{Phase, Promised, Left}

-- the farewells of all operands of a task are done
abbrev pub HaveLeft : Flying → Type 0
HaveLeft x = (place : ℕ) (r : OperandState) → slice_get x.operands place ≡ Some r → r.farewell ≡ farewell.Left

-- a task has finished, and its operands have left
pub record IsDone (x : Flying) : Type 0 where
  pub finished : has_finished x.stage ≡ true
  pub left : HaveLeft x

-- a link ends the wait for a promised one
abbrev pub phase_linked : Phase → Phase
phase_linked Promised = Left
phase_linked p = p

-- a bye is the farewell, unless a link is still to come
abbrev pub phase_parted : Bool → Phase
phase_parted true = Promised
phase_parted false = Left
