-- An open sends no other numbers.
use Rattle.tss_versions.proofs.tests.bench.Bench.offered.Goals as goal

pub returns-clause-sent : goal.returns-clause-sent
returns-clause-sent g c = (c.open_version.ensures.numbers 0 1 c.self.invariant.1.1 c.requires.numbers).1
