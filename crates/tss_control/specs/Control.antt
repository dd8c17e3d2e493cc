-- The control of the unit machine: what holds of tasks, operands, versions, readers and tables in every state that a
-- run leaves, and says nothing of bytes.
use Rattle.std.specs.Prelude.{◌≡◌, ℕ, List, Some, slice_get}
use Rattle.tss_base.specs.declared.operand.OpName.{OpName}
use Rattle.tss_base.specs.declared.operand.Operand.{Operand}
use Rattle.tss_base.specs.declared.operand.Task.{Task}
use Rattle.tss_base.specs.declared.machine.Machine.{Machine}
use Rattle.tss_protocol.specs.State.{State}
use Rattle.tss_phases.specs.Orderly.{AreOrderly}
use Rattle.tss_locality.specs.Rounds.{IsRounded}
use Rattle.tss_control.specs.Members.{operand_among}
use Rattle.tss_names.specs.Tasks.{task_at, IsOperandOf, HasTaskNumbers, HasGateway, DecodesInOrder}
use Rattle.tss_names.specs.Names.{HasDecodedNames}
use Rattle.tss_names.specs.Openings.{HasOpenings}
use Rattle.tss_names.specs.Stages.{HasStages}
use Rattle.tss_names.specs.Asking.{HasAsking}
use Rattle.tss_names.specs.Held.{HasHeldPlaces}
use Rattle.tss_control.specs.Chains.{HasChains}
use Rattle.tss_control.specs.Entries.{HasEntries, HasRetirement}
use Rattle.tss_control.specs.Readers.{Arrivals, HasReaders}
use Rattle.tss_control.specs.Holders.{HasHolders}

-- the tasks of the round are among those spawned, and their operands are known by their names. Two operands of one task
-- have two objects
pub record KnowsRound (all ts : List Task) : Type 0 where
  pub spawned : (k : ℕ) (t : Task) → slice_get ts k ≡ Some t → task_at all t.number ≡ Some t
  pub operands : (o : OpName) (p : Operand) → operand_among ts o ≡ Some p → IsOperandOf all o p
  pub single : (o q : OpName) (p r : Operand) → operand_among ts o ≡ Some p → operand_among ts q ≡ Some r
      → p.object ≡ r.object → o.task ≡ q.task → o ≡ q

-- what is proved of every run by itself: the tasks that were spawned are `all`, and those since the last barrier `ts`
pub record HasGroundwork (m : Machine) (all ts : List Task) (S : State) : Type 0 where
  pub numbers : HasTaskNumbers m all S
  pub gateway : HasGateway m all S
  pub decodes : DecodesInOrder m all S
  pub names : HasDecodedNames m all S
  pub openings : HasOpenings m all S
  pub stages : HasStages m all S
  pub asking : HasAsking m all S
  pub places : HasHeldPlaces m all S
  pub round : IsRounded S ts
  pub known : KnowsRound all ts

-- the groups that keep one another
pub record IsControlled (ts : List Task) (g : Arrivals) (S : State) : Type 0 where
  pub orderly : AreOrderly S
  pub chains : HasChains ts S
  pub entries : HasEntries ts S
  pub retirement : HasRetirement S
  pub readers : HasReaders ts g S
  pub holders : HasHolders ts g S
