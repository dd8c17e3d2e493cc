-- The lines of the banks, as the decodes under way make them.
use Rattle.std.specs.Prelude.{◌≡◌, ◌<◌, ℕ, suc, List, [], ◌∷◌, length, slice_get, Some}
use Rattle.tss_base.specs.declared.machine.Sizes.{Sizes}
use Rattle.tss_base.specs.declared.operand.Operand.{Operand}
use Rattle.tss_base.specs.Names.{Named}
use Rattle.tss_protocol.specs.Renaming.{line_of}
use Rattle.tss_pipeline.specs.declared.bank.Bank.{Bank}

-- a bank with this line
abbrev pub with_line : Bank → Named (Unit {0}) → Bank
with_line b line = record b { renaming = record (b.renaming) { line = line } }

-- the banks from a number on, each with the operands in its line that are to be decoded there
abbrev pub lined : Sizes → Named Operand → ℕ → List Bank → List Bank
lined sizes decodes n [] = []
lined sizes decodes n (b ∷ bs) = with_line b (line_of sizes n decodes) ∷ lined sizes decodes (suc n) bs

-- the banks of a machine, with such lines
pub record AwaitDecodes (sizes : Sizes) (decodes : Named Operand) (bs : List Bank) : Type 0 where
  pub some : 0 < sizes.banks
  pub count : length bs ≡ sizes.banks
  pub windows : (n : ℕ) (b : Bank) → slice_get bs n ≡ Some b → b.renaming.sizes.window ≡ sizes.window
  pub lines : (n : ℕ) (b : Bank) → slice_get bs n ≡ Some b → b.renaming.line ≡ line_of sizes n decodes
