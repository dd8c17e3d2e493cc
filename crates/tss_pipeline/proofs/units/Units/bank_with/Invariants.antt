-- The banks that were looked at don't have the version.
use Rattle.std.proofs.Common.{◌≡◌, ◌<◌, ℕ, Some, None}
use Rattle.std.specs.Prelude.{slice_get}
use Rattle.std.specs.FinMap.{get}
use Rattle.tss_pipeline.specs.declared.bank.Bank.{Bank}
use Rattle.tss_pipeline.proofs.units.Units.bank_with.Given as goal

abbrev pub invariant-loop-bank : goal.invariant-loop-bank
invariant-loop-bank l =
    (i : ℕ) (b : Bank) → i < l.bank → slice_get l.fn.self.banks.items i ≡ Some b → get b.versions.versions l.fn.v ≡ None
