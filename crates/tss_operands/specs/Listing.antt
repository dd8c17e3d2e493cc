-- Lists of operands as they are kept, and modes as a test. No public clause speaks of these.
use Rattle.std.specs.Prelude.{◌≡◌, ℕ, ◌≤◌, Bool, true, false, List, take}
use Rattle.tss_base.specs.declared.bounds.TheConstants.{MAX_OPERANDS}
use Rattle.tss_base.specs.declared.operand.Mode.{Mode}
use Rattle.tss_base.specs.declared.operand.Mode.TheVariants.{Input, Output, Inout}
use Rattle.tss_base.specs.declared.operand.Operand.{Operand}
use Rattle.tss_model.specs.Spawn.{no_operand, seven}

-- the places of a task's operands, of which the first are taken
pub record IsListing (count : ℕ) (items : List Operand) : Type 0 where
  pub few : count ≤ MAX_OPERANDS
  pub rest : items ≡ seven no_operand (take count items)

-- the modes are the same
abbrev pub is_mode : Mode → Mode → Bool
is_mode Input Input = true
is_mode Output Output = true
is_mode Inout Inout = true
is_mode m n = false
