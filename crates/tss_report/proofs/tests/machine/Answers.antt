-- Each number of the machine lies in its range.
use Rattle.std.proofs.Common.{arith}
use Rattle.tss_report.proofs.MachineLemmas.{sizes_are}
use Rattle.tss_report.proofs.tests.machine.Goals as goal

pub returns : goal.returns
returns c = record { operands = omega arith; sizes = sizes_are }
