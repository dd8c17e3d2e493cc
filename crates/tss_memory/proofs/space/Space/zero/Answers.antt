-- No zeros change nothing.
use Rattle.tss_memory.proofs.PartLemmas.{zeroed_none}
use Rattle.tss_memory.proofs.space.Space.zero.Goals as goal

pub returns-then-r-eq0 : goal.returns-then-r-eq0
returns-then-r-eq0 c = zeroed_none c.args.self.now c.args.r.now c.if-r-eq0.true
