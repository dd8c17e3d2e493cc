-- A use sends no other numbers.
use Rattle.tss_versions.proofs.tests.bench.Bench.enlisted.Goals as goal

pub returns : goal.returns
returns g c = (c.enlist.ensures.numbers 0 1 c.self.invariant.1.1).1
