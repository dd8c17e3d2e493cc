-- All ranges of memory lie beside the scratch.
use Rattle.std.proofs.Common.{arith}
use Rattle.tss_workers.proofs.CheckLemmas.{beside_from}
use Rattle.tss_workers.proofs.tests.checking.lies_beside.Goals as goal

pub returns-clause-beside : goal.returns-clause-beside
returns-clause-beside c _ =
    let few = c.range_at-first.ensures.ranges.few in
    beside_from c.args.space.now.ranges c.loop-i.i (omega (arith, few, c.loop-i-test.false)) c.loop-i.invariant
