use Rattle.std.proofs.Common.{◌≡◌, ℕ, length, Some}
use Rattle.std.specs.Prelude.{slice_get}
use Rattle.tss_pipeline.specs.declared.bank.Bank.{Bank}
use Rattle.tss_pipeline.specs.Fit.{HoldsOwn}
use Rattle.tss_pipeline.specs.Closing.{AreEnded}
use Rattle.tss_pipeline.proofs.closing.end_banks.Given as goal

abbrev pub invariant-loop-bank : goal.invariant-loop-bank
invariant-loop-bank l = record {
  numbers : (n : ℕ) (b : Bank) → slice_get l.banks.items n ≡ Some b → b.renaming.bank ≡ n;
  own : (n : ℕ) (b : Bank) → slice_get l.banks.items n ≡ Some b → HoldsOwn b;
  ended : AreEnded (length l.banks.items) l.count l.ended.items;
}

abbrev pub decreases-loop-bank : goal.decreases-loop-bank
decreases-loop-bank l = length l.banks.items
