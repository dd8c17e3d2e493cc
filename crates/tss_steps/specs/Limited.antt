-- What a contract sees of main: the limits that it runs under, and its state.
use Rattle.std.specs.Prelude.{◌≡◌, ℕ, ◌≤◌, List, Option}
use Rattle.tss_base.specs.declared.bounds.TheConstants.{MAX_OPERANDS}
use Rattle.tss_base.specs.declared.machine.Limits.{Limits}
use Rattle.tss_base.specs.declared.operand.Task.{Task}
use Rattle.tss_model.specs.Memory.{Memory}
use Rattle.tss_model.specs.MainStep.{MainState, Flat, Call, Piece, main_call}
use Rattle.tss_steps.specs.Printing.{RiseTo}

pub record LimitedMain : Type 0 where
  pub limits : Limits
  pub main : MainState

-- with the memory that it sees
abbrev pub flat_of : LimitedMain → Memory → Flat
flat_of m memory = record { main = m.main; memory = memory }

-- what is kept of the limits: how many operands a task may have, how many objects main may name, and how many bytes it
-- may print. The pieces rise up to the number of tasks that are spawned
pub record IsLimited (limits : Limits) (most room spawned : ℕ) (pieces : List Piece) : Type 0 where
  pub few : limits.max_operands ≤ MAX_OPERANDS
  pub objects : most ≡ limits.epoch_objects
  pub bytes : room ≡ limits.output_bytes
  pub rise : RiseTo 0 pieces spawned

-- a call of main over memory, with the task that it spawns
pub record Calls (call : Call) (memory : Memory) (old new : LimitedMain) (task : Option Task) : Type 0 where
  pub exact : (new.main, task) ≡ main_call old.limits memory old.main call
  pub limits : new.limits ≡ old.limits
