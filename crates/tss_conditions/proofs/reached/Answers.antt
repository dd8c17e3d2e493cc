use Rattle.tss_conditions.proofs.Known.{reached_first, reached_after}
use Rattle.tss_conditions.proofs.reached.Goals as goal

pub returns-clause-first : goal.returns-clause-first
returns-clause-first c = reached_first

pub returns-clause-next : goal.returns-clause-next
returns-clause-next c = reached_after
