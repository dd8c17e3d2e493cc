use Rattle.std.proofs.Common.{◌≤◌}
use Rattle.std.specs.Prelude.{vec_capacity}
use Rattle.tss_pipeline.specs.Opening.{AreEmpty}
use Rattle.tss_pipeline.proofs.opening.open_banks.Given as goal

abbrev pub invariant-loop-bank : goal.invariant-loop-bank
invariant-loop-bank l = record {
  room : l.sizes.banks ≤ vec_capacity l.banks;
  empty : AreEmpty l.bank l.sizes l.banks.items;
}
